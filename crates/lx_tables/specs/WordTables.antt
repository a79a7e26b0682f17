-- Tables of words in the order of their bytes.
use Rattle.std.specs.Prelude.{ℕ, Bool, true, List, [], ◌∷◌, ◌&&◌, ◌==◌, ◌≤◌, map, IsTrue, if◌then◌else◌}
use Rattle.std.specs.Ordering.{is_lt, nat_cmp}
use Rattle.std.specs.Cmp.Lexicographic.{slice_cmp}

-- the word that an entry holds: its bytes before the first blank
abbrev pub word_of : List ℕ → List ℕ
word_of [] = []
word_of (b ∷ bytes) = if b == 32 then [] else b ∷ word_of bytes

-- the word comes before the first of the others
abbrev pub precedes : List ℕ → List (List ℕ) → Bool
precedes word [] = true
precedes word (next ∷ _) = is_lt (slice_cmp nat_cmp word next)

-- each word comes before the next
abbrev pub ascends : List (List ℕ) → Bool
ascends [] = true
ascends (word ∷ words) = precedes word words && ascends words

-- so many entries that a search by halves may be made in
pub record IsTable (count : ℕ) (entries : List (List ℕ)) : Type 0 where
  pub sorted : IsTrue (ascends (map word_of entries))
  pub few : count ≤ 65536
