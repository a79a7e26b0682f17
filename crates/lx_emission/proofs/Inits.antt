-- The initial blocks of the module: their lines, and the words that they set.
use Rattle.std.proofs.Common.{◌≡◌, ℕ, zero, suc, pos, ◌+◌, ◌^◌, ◌<◌, ◌≤◌, Bool, true, false, ◌&&◌, List, [], ◌∷◌, length, map, nat_eq, refl, sym, ap, ◌∙◌, arith, inl, inr}
use Rattle.std.specs.Prelude.{None, slice_index_or}
use Rattle.std.specs.List.{list_all, range_with_len, AllByRecursion}
use Rattle.std.specs.Str.{bytes_eq}
use Rattle.std.proofs.lemmas.Bool.{and_from, eq-eqb, ne_eqb, cases_eq}
use Rattle.std.proofs.lemmas.Nat.{pow_pos, mod_below}
use Rattle.std.proofs.lemmas.Slice.Eq.{bytes_eq-Decides}
use Rattle.lx_num.proofs.Ints.{modulo-small}
use Rattle.lx_num.proofs.Ranges.{fits_pos}
use Rattle.lx_circuit.specs.Memories.{Memory}
use Rattle.lx_circuit.specs.Circuit.{no_memory}
use Rattle.lx_circuit.specs.Circuit as circuit
use Rattle.lx_vtext.specs.Tree.{Name, Literal, VSet}
use Rattle.lx_vmeaning.specs.Meaning.{Sizes, meaning}
use Rattle.lx_vmeaning.specs.Runs as runs
use Rattle.lx_vmeaning.specs.Runs.{set_value, first_word, literal_value}
use Rattle.lx_vmeaning.specs.Blocks.{sets_in_order, begins_with, blocks_of, is_full_block, init_fits}
use Rattle.lx_emission.specs.Emission.{places_from}
use Rattle.lx_emission.specs.Memories.{memory_decl, set_line, first_words}
use Rattle.lx_emission.proofs.Lists.{name_other, each_counted, all_from_each}
use Rattle.lx_emission.proofs.Operands.{cut_exact}
use Rattle.lx_tie.proofs.Leaves.{exact_leaf}

-- ---- lines

lines : Name → Memory → ℕ → ℕ → List VSet
lines n x a c = map (set_line n x) (range_with_len a c)

-- what holds of each line
pub each_line : (P : VSet → Type 0) (n : Name) (x : Memory) → ((k : ℕ) → k < x.depth → P (set_line n x k)) → AllByRecursion P (first_words n x)
unfolding first_words
each_line P n x h = each_counted P (set_line n x) 0 x.depth (λ k low high. h k (omega arith))

pub all_lines : (P : VSet → Bool) (n : Name) (x : Memory) → ((k : ℕ) → P (set_line n x k) ≡ true) → list_all P (first_words n x) ≡ true
all_lines P n x h = all_from_each P (first_words n x) (each_line (λ s. P s ≡ true) n x (λ k lt. h k))

first_line : (m n : Name) (x : Memory) (c : ℕ) → 1 ≤ c → begins_with m (lines n x 0 c) ≡ bytes_eq n m
unfolding lines
first_line m n x zero h = absurd (omega arith)
first_line m n x (suc c) h = refl

-- a block begins with its memory
pub begins : (m n : Name) (x : Memory) → 1 ≤ x.depth → begins_with m (first_words n x) ≡ bytes_eq n m
unfolding first_words lines
begins m n x h = first_line m n x x.depth h

one_target : (n : Name) (x : Memory) (c : ℕ) → 1 ≤ c → init_fits (lines n x 0 c) ≡ true
unfolding lines
one_target n x zero h = absurd (omega arith)
one_target n x (suc c) h =
    all_from_each (λ (y : VSet). bytes_eq y.name n) (map (set_line n x) (range_with_len (0 + 1) c)) (each_counted (λ (y : VSet). bytes_eq y.name n ≡ true) (set_line n x) (0 + 1) c (λ k low high. (bytes_eq-Decides n n).1 refl))

-- all its lines have one target
pub block_of_one : (n : Name) (x : Memory) → 1 ≤ x.depth → init_fits (first_words n x) ≡ true
unfolding first_words lines
block_of_one n x h = one_target n x x.depth h

in_order : (n : Name) (x : Memory) (a c : ℕ) → sets_in_order n a (map (set_line n x) (range_with_len a c)) ≡ true
in_order n x a zero = refl
in_order n x a (suc c) =
    let rest = sets_in_order n (a + 1) (map (set_line n x) (range_with_len (a + 1) c)) in
    and_from (bytes_eq n n) (nat_eq a a && rest) ((bytes_eq-Decides n n).1 refl) (and_from (nat_eq a a) rest (eq-eqb a a refl) (in_order n x (a + 1) c))

counted : (n : Name) (x : Memory) (a c : ℕ) → length (map (set_line n x) (range_with_len a c)) ≡ c
counted n x a zero = refl
counted n x a (suc c) = ap suc (counted n x (a + 1) c)

-- it sets the words in order, each once
pub full : (n : Name) (x : Memory) → is_full_block (memory_decl n x) (first_words n x ∷ []) ≡ true
unfolding first_words
full n x =
    and_from (sets_in_order n 0 (map (set_line n x) (range_with_len 0 x.depth))) (nat_eq (length (map (set_line n x) (range_with_len 0 x.depth))) x.depth)
    (in_order n x 0 x.depth) (eq-eqb (length (map (set_line n x) (range_with_len 0 x.depth))) x.depth (counted n x 0 x.depth))

-- ---- the block of a memory among the blocks

-- names and memories by number, with distinct names and a word each
pub record AreBlocks (n : ℕ → Name) (x : ℕ → Memory) (bound : ℕ) : Type 0 where
  pub some : (i : ℕ) → i < bound → 1 ≤ (x i).depth
  pub once : (i j : ℕ) → i < bound → j < bound → n i ≡ n j → i ≡ j

blocks_gone : {T : Type 0} (n : ℕ → Name) (x : ℕ → Memory) (m : Name) (k : ℕ) (xs : List T) → ((i : ℕ) → k ≤ i → i < k + length xs → (1 ≤ (x i).depth) × (n i ≡ m → ⊥))
    → blocks_of m (map (λ i. first_words (n i) (x i)) (places_from k xs)) ≡ []
blocks_gone n x m k [] h = refl
blocks_gone n x m k (y ∷ ys) h =
    let here = h k (omega arith) (omega arith) in
    rw (begins m (n k) (x k) here.0, name_other (n k) m here.1) (blocks_gone n x m (k + 1) ys (λ i p q. h i (omega arith) (omega arith)))

blocks_here : {T : Type 0} (n : ℕ → Name) (x : ℕ → Memory) (bound j k : ℕ) (xs : List T) → AreBlocks n x bound → k + length xs ≤ bound → k ≤ j → j < k + length xs
    → blocks_of (n j) (map (λ i. first_words (n i) (x i)) (places_from k xs)) ≡ first_words (n j) (x j) ∷ []
blocks_here n x bound j k [] are most low high = absurd (omega arith)
blocks_here n x bound j k (y ∷ ys) are most low high = elim (cases_eq k j) [
  | inl same ↦
      let gone = blocks_gone n x (n j) (k + 1) ys (λ i p q. (are.some i (omega arith), λ e. let s = are.once i j (omega arith) (omega arith) e in omega (arith, s, same, p))) in
      rw (begins (n j) (n k) (x k) (are.some k (omega arith)), (bytes_eq-Decides (n k) (n j)).1 (ap n same))
      (ap (λ t. first_words (n k) (x k) ∷ t) gone ∙ ap (λ (i : ℕ). first_words (n i) (x i) ∷ []) same)
  | inr other ↦
      rw (begins (n j) (n k) (x k) (are.some k (omega arith)), name_other (n k) (n j) (λ e. other (are.once k j (omega arith) (omega arith) e)))
      (blocks_here n x bound j (k + 1) ys are (omega arith) (omega (arith, other)) (omega arith))
]

-- each memory has one full initial block
pub own_block : {T : Type 0} (n : ℕ → Name) (x : ℕ → Memory) (xs : List T) (j : ℕ) → AreBlocks n x (length xs) → j < length xs
    → is_full_block (memory_decl (n j) (x j)) (blocks_of (n j) (map (λ i. first_words (n i) (x i)) (places_from 0 xs))) ≡ true
own_block n x xs j are lt =
    ap (is_full_block (memory_decl (n j) (x j))) (blocks_here n x (length xs) j 0 xs are (omega arith) (omega arith) (omega arith)) ∙ full (n j) (x j)

-- ---- the first words

line_other : (m n : Name) (x : Memory) (bits k a c other : ℕ) → (n ≡ m → ⊥) → set_value m bits k (map (set_line n x) (range_with_len a c)) other ≡ other
line_other m n x bits k a zero other ne = refl
line_other m n x bits k a (suc c) other ne = rw (name_other n m ne) (line_other m n x bits k (a + 1) c other ne)

line_own : (n : Name) (x : Memory) (bits k a c other : ℕ) → a ≤ k → k < a + c → set_value n bits k (map (set_line n x) (range_with_len a c)) other ≡ literal_value bits (set_line n x k).value
line_own n x bits k a zero other low high = absurd (omega arith)
line_own n x bits k a (suc c) other low high = elim (cases_eq a k) [
  | inl same ↦ rw ((bytes_eq-Decides n n).1 refl, eq-eqb a k same) (ap (λ (i : ℕ). literal_value bits (set_line n x i).value) same)
  | inr ne ↦ rw ((bytes_eq-Decides n n).1 refl, ne_eqb a k ne) (line_own n x bits k (a + 1) c other (omega (arith, ne)) (omega arith))
]

block_other : (m n : Name) (x : Memory) (bits k other : ℕ) → (n ≡ m → ⊥) → set_value m bits k (first_words n x) other ≡ other
unfolding first_words
block_other m n x bits k other ne = line_other m n x bits k 0 x.depth other ne

block_own : (n : Name) (x : Memory) (bits k other : ℕ) → k < x.depth → set_value n bits k (first_words n x) other ≡ literal_value bits (set_line n x k).value
unfolding first_words
block_own n x bits k other lt = line_own n x bits k 0 x.depth other (omega arith) (omega arith)

words_here : {T : Type 0} (n : ℕ → Name) (x : ℕ → Memory) (bound j bits a k : ℕ) (xs : List T) → AreBlocks n x bound → k + length xs ≤ bound → k ≤ j → j < k + length xs → a < (x j).depth
    → first_word (n j) bits a (map (λ i. first_words (n i) (x i)) (places_from k xs)) ≡ literal_value bits (set_line (n j) (x j) a).value
words_here n x bound j bits a k [] are most low high lt = absurd (omega arith)
words_here n x bound j bits a k (y ∷ ys) are most low high lt =
    let rest = first_word (n j) bits a (map (λ i. first_words (n i) (x i)) (places_from (k + 1) ys)) in
    elim (cases_eq k j) [
      | inl same ↦ ap (λ (i : ℕ). set_value (n j) bits a (first_words (n i) (x i)) rest) same ∙ block_own (n j) (x j) bits a rest lt
      | inr other ↦
          block_other (n j) (n k) (x k) bits a rest (λ e. other (are.once k j (omega arith) (omega arith) e))
          ∙ words_here n x bound j bits a (k + 1) ys are (omega arith) (omega (arith, other)) (omega arith) lt
    ]

-- the literal of a word
literal_word : (n : Name) (x : Memory) (k : ℕ) → 1 ≤ x.width → literal_value x.width (set_line n x k).value ≡ circuit.first_word x k
literal_word n x k some =
    let v = circuit.first_word x k in
    let below : v < 2 ^ x.width = mod_below (slice_index_or x.init k 0) (2 ^ x.width) (pow_pos x.width) in
    let none : Sizes = λ name. runs.memory_declared None in
    cut_exact runs.zeros x.width false (pos v) (meaning none (Literal x.width false v)) (exact_leaf runs.zeros x.width x.width false (pos v) (λ u. v) refl some (fits_pos x.width v below) (sym (modulo-small v (2 ^ x.width) below))) x.width
    ∙ modulo-small v (2 ^ x.width) below

-- the module's words start as the circuit's
pub word_starts : {T : Type 0} (n : ℕ → Name) (x : ℕ → Memory) (xs : List T) (j a : ℕ) → AreBlocks n x (length xs) → j < length xs → 1 ≤ (x j).width → a < (x j).depth
    → first_word (n j) (x j).width a (map (λ i. first_words (n i) (x i)) (places_from 0 xs)) ≡ circuit.first_word (x j) a
word_starts n x xs j a are lt some inside =
    words_here n x (length xs) j (x j).width a 0 xs are (omega arith) (omega arith) (omega arith) inside ∙ literal_word (n j) (x j) a some
