-- Memories, and the ports through which they are read and written.
use Rattle.std.specs.Prelude.{ℕ, ℤ, Bool, false, List, [], ◌∷◌, Option, Some, None, ◌*◌, ◌/◌, ◌^◌, nat_eq, not, ◌&&◌, if◌then◌else◌}
use Rattle.std.proofs.Common.{zero, suc}
use Rattle.lx_num.specs.Ints.{floor_div, field_of}
use Rattle.lx_circuit.specs.Places.{Values, At, Word, Kept}
use Rattle.lx_circuit.specs.Values.{count_of, is_zero}
use Rattle.lx_circuit.specs.Statements.{laid_over}

-- what a port reads: the word at its address now; the word, as it stands now, at the address that it kept at a rise;
-- the word as it was before a rise; the same, where nothing was written at that rise
pub data Mode : Type 0 where
  Async : Mode
  WriteFirst : Mode
  ReadFirst : Mode
  NoChange : Mode

-- the bits of a word, the number of words, and the first words; those that are missing are 0
pub record Memory : Type 0 where
  pub width : ℕ
  pub depth : ℕ
  pub init : List ℕ

-- what a port writes: the signals dat_w and we, and the bits of the part that one bit of we stands for
pub record Writer : Type 0 where
  pub from : ℕ
  pub we : ℕ
  pub part : ℕ

-- a port: its memory, the signals adr and dat_r, its domain, and what it writes
pub record Port : Type 0 where
  pub memory : ℕ
  pub adr : ℕ
  pub domain : Option ℕ
  pub reader : Option ℕ
  pub writer : Option Writer
  pub mode : Mode

-- ---- what is read

abbrev pub addressed : Values → Port → ℕ
addressed v q = count_of (v (At q.adr))

-- the word at the address
abbrev pub here : Values → Port → ℤ
here v q = v (Word q.memory (addressed v q))

-- what the port of number j shows on dat_r
abbrev pub shown : Values → ℕ → Port → Mode → ℤ
shown v j q Async = here v q
shown v j q WriteFirst = v (Word q.memory (count_of (v (Kept j))))
shown v j q _ = v (Kept j)

-- ---- what is kept

-- some bit of we is set
abbrev pub writes_any : Values → Option Writer → Bool
writes_any v None = false
writes_any v (Some w) = not (is_zero (v (At w.we)))

-- what a port that kept old keeps after a rise of its domain
abbrev pub keeps : Values → ℤ → Port → Mode → ℤ
keeps v old q Async = old
keeps v old q WriteFirst = v (At q.adr)
keeps v old q ReadFirst = here v q
keeps v old q NoChange = if writes_any v q.writer then old else here v q

-- ---- what is written

-- the lowest n parts of the pattern p, each with the bits of z where its bit of we is set
abbrev pub laid_parts : ℕ → ℤ → ℤ → ℕ → ℕ → ℕ
laid_parts part we z p zero = p
laid_parts part we z p (suc i) =
    let q = laid_parts part we z p i in
    if nat_eq (field_of we i 1) 1 then laid_over q (part * i) part (floor_div z (2 ^ (part * i))) else q

-- a word of so many bits, after what a port writes
abbrev pub laid_by : Values → ℕ → ℕ → Option Writer → ℕ
laid_by v width p None = p
laid_by v width p (Some w) = laid_parts w.part (v (At w.we)) (v (At w.from)) p (width / w.part)

abbrev pub rises_in : (ℕ → Bool) → Option ℕ → Bool
rises_in rises None = false
rises_in rises (Some d) = rises d

-- the port writes to word k of memory m
abbrev pub writes_to : Values → (ℕ → Bool) → ℕ → ℕ → Port → Bool
writes_to v rises m k q = nat_eq q.memory m && (rises_in rises q.domain && nat_eq (addressed v q) k)

-- The pattern of word k of memory m after the ports have written, in their order: the later one wins.
abbrev pub written : Values → (ℕ → Bool) → ℕ → ℕ → ℕ → List Port → ℕ → ℕ
written v rises m width k [] p = p
written v rises m width k (q ∷ qs) p = written v rises m width k qs (if writes_to v rises m k q then laid_by v width p q.writer else p)
