-- Modules that are run by hand, step by step (IEEE 1364-2005, "Procedural assignments", "Arrays").
use Rattle.std.specs.Prelude.{◌≡◌, ℕ, Bool, true, false, List, [], ◌∷◌, ◌||◌, ◌&&◌, if◌then◌else◌}
use Rattle.std.specs.Str.{bytes_eq}
use Rattle.lx_vtext.specs.Tree.{Name, Net, Word}
use Rattle.lx_vmeaning.specs.Meaning.{Sizes, Valuation, meaning, own}
use Rattle.lx_vmeaning.specs.Runs.{VStep, IsVView}
use Rattle.lx_vtext.specs.Printed.{module_text}
use Rattle.lx_vmeaning.specs.Cycle.{HasCycleMeaning}
use Rattle.lx_vmeaning.specs.Samples.{c, we, adr, d, r, m, e, p, q, s, with_memory, two_clocks, with_memory_text, two_clocks_text}

abbrev pub is_name : Name → Name → Bool
is_name k n = bytes_eq n k

-- we, adr and d are driven so, and the clock is low
abbrev pub driven : ℕ → ℕ → ℕ → Name → ℕ
driven write address data_in n = if is_name we n then write else (if is_name adr n then address else (if is_name d n then data_in else 0))

-- the clock rises, or not
abbrev pub step : (Name → ℕ) → Bool → VStep
step inputs rise = record { inputs = inputs; rises = λ n. is_name c n && rise }

-- 0xa0 is written to word 1, and 5 to its lower half, at one edge; then 0xff to word 0 without an edge; then 0x77 past the end
abbrev pub three_steps : List VStep
three_steps = step (driven 1 1 160) true ∷ step (driven 1 0 255) false ∷ step (driven 1 3 119) true ∷ []

abbrev pub no_inputs : Name → ℕ
no_inputs n = 0

abbrev pub edges : Bool → Bool → VStep
edges at_c at_e = record { inputs = no_inputs; rises = λ n. (is_name c n && at_c) || (is_name e n && at_e) }

-- s has two signed bits, and a memory has four words
abbrev pub small_sizes : Sizes
small_sizes n = record { bits = 2; signed = is_name s n; depth = 4 }

-- s is 2'b11, and word k of each memory is k
abbrev pub places : Valuation
places = record { nets = λ n. 3; words = λ n k. k }

-- What the nets and words are, in every view.
pub record RunsAreWorked : Type 0 where
  pub memory_has_meaning : HasCycleMeaning with_memory
  pub clocks_have_meaning : HasCycleMeaning two_clocks
  pub memory_has_text : module_text with_memory ≡ with_memory_text
  pub clocks_have_text : module_text two_clocks ≡ two_clocks_text
  -- 4'sd15 is -1, which is 255 in eight bits; 9'd259 is cut to 3
  pub first_words : (v : Valuation) → IsVView with_memory [] (driven 0 1 0) v → (v.words m 0 ≡ 1) × (v.words m 1 ≡ 255) × (v.words m 2 ≡ 3) × (v.nets r ≡ 255)
  -- both writes of one edge take place, the later one in its bits alone; nothing is written without an edge, or past the end
  pub three_later : (v : Valuation) → IsVView with_memory three_steps (driven 0 1 0) v → (v.words m 0 ≡ 1) × (v.words m 1 ≡ 165) × (v.words m 2 ≡ 3) × (v.words m 3 ≡ 0) × (v.nets r ≡ 165)
  -- a word past the end reads 0
  pub read_past : (v : Valuation) → IsVView with_memory three_steps (driven 0 3 0) v → v.nets r ≡ 0
  -- an index is read as unsigned: 2'sb11 is word 3
  pub signed_index : own (meaning small_sizes (Word m (Net s))) places ≡ 3
  -- 1 and 10; a sum of nets
  pub first_nets : (v : Valuation) → IsVView two_clocks [] no_inputs v → (v.nets p ≡ 1) × (v.nets q ≡ 10) × (v.nets s ≡ 11)
  -- both blocks act on the values before the edge: bits 2 and 1 of p become 2'b10, and q becomes the old p
  pub both_rise : (v : Valuation) → IsVView two_clocks (edges true true ∷ []) no_inputs v → (v.nets p ≡ 5) × (v.nets q ≡ 1) × (v.nets s ≡ 6)
  -- a register moves at its own clock alone
  pub one_rises : (v : Valuation) → IsVView two_clocks (edges false true ∷ edges false false ∷ []) no_inputs v → (v.nets p ≡ 1) × (v.nets q ≡ 1) × (v.nets s ≡ 2)
