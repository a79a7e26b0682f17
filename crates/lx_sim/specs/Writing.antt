-- First words, and what ports write.
use Rattle.std.specs.Prelude.{◌≡◌, ◌⊎◌, ℕ, ℤ, pos, true, false, List, ◌<◌, ◌/◌, ◌^◌, Option, Some, None, drop, length, nat_eq, nat_lt, if◌then◌else◌, slice_index_or}
use Rattle.lx_num.specs.Ints.{modulo}
use Rattle.lx_circuit.specs.Places.{Values}
use Rattle.lx_circuit.specs.Values.{count_of}
use Rattle.lx_circuit.specs.Memories as memory
use Rattle.lx_circuit.specs.Memories.{laid_parts, rises_in, written}
use Rattle.lx_circuit.specs.Circuit.{first_word}
use Rattle.lx_fhdl.specs.Designs.{memory_at, port_of}
use Rattle.lx_fhdl.specs.Nodes.{value_at}
use Rattle.lx_fhdl.specs.declared.design.Port.{Port}
use Rattle.lx_fhdl.specs.declared.design.Design.{Design}
use Rattle.lx_trace.specs.Traces.{rises_of}
use Rattle.lx_sim.specs.Blocks.{IsPattern}
use Rattle.lx_sim.specs.Moments.{AreValues}
use Rattle.lx_sim.specs.Words.{HaveWords, word_at, words_of}
use Rattle.lx_sim.specs.declared.words.Put.{Put}

-- one of the first n numbers
abbrev pub within : ℕ → ℕ → Option ℕ
within n k = if nat_lt k n then Some k else None

-- ---- first words

pub record AreFirstOf (m : memory.Memory) (n : ℕ) (words : List ℤ) : Type 0 where
  pub long : length words ≡ n
  pub each : (k : ℕ) → k < n → slice_index_or words k (pos 0) ≡ pos (first_word m k)

-- those of the first n memories
pub record AreFirstWords (d : Design) (n : ℕ) (words : List (List ℤ)) : Type 0 where
  pub long : length words ≡ n
  pub each : (m : ℕ) → m < n → AreFirstOf (memory_at d m) (memory_at d m).depth (words_of words m)

-- ---- one memory

-- words are patterns
pub record ArePatterns (words : List ℤ) : Type 0 where
  pub each : (k : ℕ) → k < length words → IsPattern (slice_index_or words k (pos 0))

-- the word at the address has new parts, and the others stay
pub record PutsWord (w : Put) (old new : List ℤ) : Type 0 where
  pub long : length new ≡ length old
  pub each : (k p : ℕ) → k < length old → slice_index_or old k (pos 0) ≡ pos p
      → slice_index_or new k (pos 0) ≡ pos (if nat_eq (count_of w.at) k then laid_parts w.part w.we w.from p (w.width / w.part) else p)

-- ---- one port

-- what a port writes to its memory where its domain rises
pub record IsPut (d : Design) (q : Port) (rises : ℕ) (vals : List ℤ) (put : Put) : Type 0 where
  pub up : rises_in (rises_of rises) q.domain ≡ true
  pub writer : memory.Writer
  pub writes : (port_of q).writer ≡ Some writer
  pub adr_there : q.adr.0 < length d.signals
  pub we_there : writer.we < length d.signals
  pub from_there : writer.from < length d.signals
  pub at : put.at ≡ value_at vals q.adr.0
  pub we : put.we ≡ value_at vals writer.we
  pub from : put.from ≡ value_at vals writer.from
  pub part : put.part ≡ writer.part
  pub width : put.width ≡ (memory_at d q.memory).width

-- or nothing
abbrev pub IsPutOf : Design → Port → ℕ → List ℤ → Option Put → Type 0
IsPutOf d q rises vals None = (rises_in (rises_of rises) q.domain ≡ false) ⊎ ((port_of q).writer ≡ None)
IsPutOf d q rises vals (Some put) = IsPut d q rises vals put

-- ---- all memories

abbrev pub pattern_at : Design → List (List ℤ) → ℕ → ℕ → ℕ
pattern_at d words m k = modulo (word_at words m k) (2 ^ (memory_at d m).width)

-- the words after these ports have written, in their order, where these domains rise
pub record Writes (d : Design) (qs : List memory.Port) (rises : ℕ) (vals : List ℤ) (old new : List (List ℤ)) : Type 0 where
  pub have : HaveWords d new
  pub is : (v : Values) → AreValues d vals v → (m k : ℕ) → k < (memory_at d m).depth → pattern_at d new m k ≡ written v (rises_of rises) m (memory_at d m).width k qs (pattern_at d old m k)

-- all but the first n of these ports have yet to write
pub record WritesFrom (d : Design) (qs : List memory.Port) (n : ℕ) (rises : ℕ) (vals : List ℤ) (old new : List (List ℤ)) : Type 0 where
  pub have : HaveWords d new
  pub is : (v : Values) → AreValues d vals v → (m k : ℕ) → k < (memory_at d m).depth
      → written v (rises_of rises) m (memory_at d m).width k (drop n qs) (pattern_at d new m k) ≡ written v (rises_of rises) m (memory_at d m).width k qs (pattern_at d old m k)
