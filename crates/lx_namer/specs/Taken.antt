-- Names that are taken, and the first that is free.
use Rattle.std.specs.Prelude.{◌≡◌, ℕ, zero, suc, ◌+◌, ◌<◌, ◌≤◌, true, false, List, [], ◌∷◌, ◌++◌, length, codes, nat_eq, Some, is_some, if◌then◌else◌}
use Rattle.lx_vtext.specs.Tree.{Name}
use Rattle.lx_vtext.specs.Printed.{number_text}
use Rattle.lx_names.specs.Tables.{Table, look_up}
use Rattle.lx_emission.specs.Naming.{is_among}

-- `<base>` itself, then `<base>_2`, `<base>_3`, ..
unfoldable pub numbered : Name → ℕ → Name
numbered base k = if nat_eq k 1 then base else base ++ codes "_" ++ number_text k

-- the first of these from k on that is free, of so many and one more
unfoldable pub first_free : ℕ → List Name → Name → ℕ → Name
first_free zero taken base k = numbered base k
first_free (suc n) taken base k = if is_among (numbered base k) taken then first_free n taken base (k + 1) else numbered base k

-- the first that is free; names that are taken are fewer than the numbers up to one more than their count
unfoldable pub free_name : List Name → Name → Name
free_name taken base = first_free (length taken) taken base 1

-- all numbers of the base before this one are taken
pub record AreTakenBelow (taken : List Name) (base : Name) (n : ℕ) : Type 0 where
  pub some : 1 ≤ n
  pub each : (k : ℕ) → 1 ≤ k → k < n → is_among (numbered base k) taken ≡ true

-- the name of the base with this number is free, and none before it
pub record IsFirstFree (taken : List Name) (base name : Name) (n : ℕ) : Type 0 where
  pub is : name ≡ numbered base n
  pub below : AreTakenBelow taken base n
  pub free : is_among name taken ≡ false

-- one list has the names that the other has
pub record HaveTheSame (names others : List Name) : Type 0 where
  pub each : (n : Name) → is_among n names ≡ is_among n others

-- a name is taken besides
abbrev pub IsTakenToo : (old new : List Name) → Name → Type 0
IsTakenToo old new name = HaveTheSame new (old ++ name ∷ [])

-- ---- a table of the names that are taken, each with the next number to try behind it

abbrev pub IsIn : {T : Type 0} → Table T → Name → Type 0
IsIn table name = is_some (look_up table name) ≡ true

-- the numbers of a name before the one that is to be tried next are taken
pub record NextsHold (table : Table ℕ) : Type 0 where
  pub each : (name : Name) (n : ℕ) → look_up table name ≡ Some n → (k : ℕ) → 2 ≤ k → k < n → IsIn table (numbered name k)
  pub some : (name : Name) (n : ℕ) → look_up table name ≡ Some n → 2 ≤ n
