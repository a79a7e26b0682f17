-- The text of a read of a memory, and what it means.
use Rattle.std.specs.Prelude.{◌≡◌, ℕ, ℤ, pos, false, ◌<◌, ◌≤◌, ◌^◌}
use Rattle.lx_num.specs.Ints.{modulo, unsigned, wrapped}
use Rattle.lx_circuit.specs.Values.{count_of}
use Rattle.lx_vtext.specs.Tree.{Name}
use Rattle.lx_vmeaning.specs.Meaning.{Declared, Valuation, Meaning, word}
use Rattle.lx_tie.specs.Stands.{Exact}

-- a memory of so many words of so many bits
abbrev pub memory : ℕ → ℕ → Declared
memory width depth = record { bits = width; signed = false; depth = depth }

-- The words of a module's memory have the patterns of these numbers, which are 0 past the end.
pub record HasWords (u : Valuation) (name : Name) (width depth : ℕ) (words : ℕ → ℤ) : Type 0 where
  pub each : (k : ℕ) → k < depth → u.words name k ≡ modulo (words k) (2 ^ width)
  pub past : (k : ℕ) → depth ≤ k → words k ≡ pos 0

-- The text of a read, `name[index]`, stands for the word at the index, whatever the index's bits.
abbrev pub IsWordLaw : Type 0
IsWordLaw =
    (u : Valuation) (name : Name) (width depth bits : ℕ) (words : ℕ → ℤ) (i : ℤ) (index : Meaning)
    → 1 ≤ width → HasWords u name width depth words → Exact u bits false i index
    → Exact u width false (wrapped (unsigned width) (words (count_of i))) (word (memory width depth) name index)
