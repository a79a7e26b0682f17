-- The words of memories, and expressions that read them.
use Rattle.std.specs.Prelude.{◌≡◌, ℕ, ℤ, pos, false, List, [], ◌<◌, Some, length, slice_get, slice_index_or}
use Rattle.lx_num.specs.Ints.{Fits, unsigned}
use Rattle.lx_circuit.specs.Places.{Values, At, Word, Kept}
use Rattle.lx_fhdl.specs.Designs.{memory_at}
use Rattle.lx_fhdl.specs.Nodes.{value_at}
use Rattle.lx_fhdl.specs.declared.design.Design.{Design}
use Rattle.lx_fhdl.specs.declared.exprs.Expr.{Expr}
use Rattle.lx_fhdl.specs.declared.exprs.Expr.TheVariants.{Const, Fetch}

abbrev pub words_of : List (List ℤ) → ℕ → List ℤ
words_of words m = slice_index_or words m []

-- the word of memory m at an address; past the end it is 0
abbrev pub word_at : List (List ℤ) → ℕ → ℕ → ℤ
word_at words m k = slice_index_or (words_of words m) k (pos 0)

-- the words are those of the places
pub record AreWords (words : List (List ℤ)) (v : Values) : Type 0 where
  pub each : (m k : ℕ) → word_at words m k ≡ v (Word m k)

-- the values of signals and of words
abbrev pub placed : List ℤ → List (List ℤ) → Values
placed vals words (At x) = value_at vals x
placed vals words (Word m k) = word_at words m k
placed vals words (Kept j) = pos 0

-- each memory has as many words as it is deep, each of its width
pub record HaveWords (d : Design) (words : List (List ℤ)) : Type 0 where
  pub memories : length words ≡ length d.memories
  pub deep : (m : ℕ) → length (words_of words m) ≡ (memory_at d m).depth
  pub fit : (m k : ℕ) → k < (memory_at d m).depth → Fits (unsigned (memory_at d m).width) (word_at words m k)

-- ---- expressions

-- a node, or 0 of its shape in the place of one that reads a word
abbrev pub without_words : Expr → Expr
without_words (Fetch memory width at) = Const (pos 0) width false
without_words x = x

-- the first n expressions, with 0 in place of those that read words
pub record AreWithoutWords (xs : List Expr) (n : ℕ) (ys : List Expr) : Type 0 where
  pub long : length ys ≡ n
  pub each : (k : ℕ) (x : Expr) → k < n → slice_get xs k ≡ Some x → slice_get ys k ≡ Some (without_words x)
