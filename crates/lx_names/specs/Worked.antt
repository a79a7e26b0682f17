-- Tables worked by hand.
use Rattle.std.specs.Prelude.{◌≡◌, ℕ, [], ◌∷◌, Some, None, codes}
use Rattle.lx_names.specs.Tables.{Table, look_up, place_of, with_name, without}

-- two names, of which the second begins as the first
abbrev pub two : Table ℕ
two = (codes "a", 1) ∷ (codes "ab", 2) ∷ []

-- What they say.
pub record AreWorked : Type 0 where
  pub first : look_up two (codes "a") ≡ Some 1
  pub second : look_up two (codes "ab") ≡ Some 2
  pub absent : look_up two (codes "b") ≡ None
  pub first_place : place_of two (codes "a") ≡ Some 0
  pub second_place : place_of two (codes "ab") ≡ Some 1
  pub no_place : place_of two [] ≡ None
  -- an old name keeps its place, a new one comes last
  pub changed : with_name two (codes "a") 3 ≡ (codes "a", 3) ∷ (codes "ab", 2) ∷ []
  pub added : with_name two (codes "b") 3 ≡ (codes "a", 1) ∷ (codes "ab", 2) ∷ (codes "b", 3) ∷ []
  pub removed : without two (codes "a") ≡ (codes "ab", 2) ∷ []
  pub not_there : without two (codes "b") ≡ two
