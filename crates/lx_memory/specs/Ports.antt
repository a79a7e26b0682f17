-- Ports of memories become registers and reads of words.
use Rattle.std.specs.Prelude.{ℕ, pos, true, false, List, [], ◌∷◌, ◌++◌, ◌^◌, Option, Some, None, is_some, length, map, nat_lt, if◌then◌else◌}
use Rattle.std.proofs.Common.{zero, suc}
use Rattle.std.specs.List.{filter}
use Rattle.lx_num.specs.declared.Shape.{Shape}
use Rattle.lx_num.specs.Ints.{unsigned}
use Rattle.lx_tables.specs.declared.operators.Op.TheVariants as op
use Rattle.lx_circuit.specs.Terms.{Term, Constant, Signal, Binary, Mux, Fetch}
use Rattle.lx_circuit.specs.Statements.{Block, Done, Assign, Whole}
use Rattle.lx_circuit.specs.Memories.{Mode, Async, WriteFirst, ReadFirst, NoChange, Port, Writer}
use Rattle.lx_circuit.specs.Circuit.{Circuit, Domain, Made, memory_at, shapes}
use Rattle.lx_lowering.specs.Flat.{append, fails, one, when}

-- ---- one port of a circuit

-- a word of the port's memory
abbrev pub word_shape : Circuit → Port → Shape
word_shape c q = unsigned (memory_at c q.memory).width

-- The word at the address that signal x has. Where its bits can tell an address at or past the depth, the depth is asked
-- for, so that no word is read there: it is 0.
abbrev pub word_at : Circuit → Port → ℕ → Term
word_at c q x =
    let depth = (memory_at c q.memory).depth in
    let word = Fetch q.memory (memory_at c q.memory).width (Signal x) in
    if nat_lt depth (2 ^ (shapes c q.adr).bits)
    then Mux (Binary op.Lt (Signal x) (Constant (pos depth) (shapes c q.adr))) word (Constant (pos 0) (word_shape c q))
    else word

-- a register of generated hardware, which starts at 0 and which no reset changes
abbrev pub register : Shape → Made
register a = record { shape = a; reset = pos 0; reset_less = true; given = false }

-- the register of a port: what it kept, an address or a word
abbrev pub registers : Circuit → Port → Mode → List Made
registers c q Async = []
registers c q WriteFirst = register (shapes c q.adr) ∷ []
registers c q _ = register (word_shape c q) ∷ []

-- statements where all of we is 0
abbrev pub unwritten : Circuit → Option Writer → Block → Block
unwritten c None b = b
unwritten c (Some w) b = when (fails (shapes c) (Signal w.we)) b

-- what the register x takes at each rise
abbrev pub takes : Circuit → Port → ℕ → Mode → Block
takes c q x Async = Done
takes c q x WriteFirst = one (Assign (Whole x) (Signal q.adr))
takes c q x ReadFirst = one (Assign (Whole x) (word_at c q q.adr))
takes c q x NoChange = unwritten c q.writer (one (Assign (Whole x) (word_at c q q.adr)))

-- what dat_r is, beside the register x
abbrev pub reads : Circuit → Port → ℕ → Mode → Term
reads c q x Async = word_at c q q.adr
reads c q x WriteFirst = word_at c q x
reads c q x _ = Signal x

-- ---- all ports

-- the item of a number, changed
abbrev pub changed : {A : Type 0} → (A → A) → ℕ → List A → List A
changed f k [] = []
changed f zero (x ∷ xs) = f x ∷ xs
changed f (suc k) (x ∷ xs) = x ∷ changed f k xs

-- a domain, and one of the domains, with further statements
abbrev pub with_stmts : Block → Domain → Domain
with_stmts b d = record { name = d.name; reset = d.reset; stmts = append d.stmts b }

abbrev pub with_sync : List Domain → Option ℕ → Block → List Domain
with_sync ds None b = ds
with_sync ds (Some k) b = changed (with_stmts b) k ds

-- the register of a port is the next signal; dat_r, the signal r, is assigned in comb
abbrev pub with_reader : Circuit → Port → Option ℕ → Circuit
with_reader c q None = c
with_reader c q (Some r) = record {
  signals = c.signals ++ registers c q q.mode;
  comb = append c.comb (one (Assign (Whole r) (reads c q (length c.signals) q.mode)));
  domains = with_sync c.domains q.domain (takes c q (length c.signals) q.mode);
  memories = c.memories;
  ports = c.ports;
  ios = c.ios;
}

abbrev pub with_readers : Circuit → List Port → Circuit
with_readers c [] = c
with_readers c (q ∷ qs) = with_readers (with_reader c q q.reader) qs

-- a port that shows nothing
abbrev pub silent : Port → Port
silent q = record { memory = q.memory; adr = q.adr; domain = q.domain; reader = None; writer = q.writer; mode = q.mode }

abbrev pub writers : List Port → List Port
writers qs = map silent (filter (λ (q : Port). is_some q.writer) qs)

-- with these ports
abbrev pub with_ports : Circuit → List Port → Circuit
with_ports c qs = record { signals = c.signals; comb = c.comb; domains = c.domains; memories = c.memories; ports = qs; ios = c.ios }

-- The circuit with its ports lowered: those that write stay, and none shows anything.
unfoldable pub lowered : Circuit → Circuit
lowered c = with_ports (with_readers c c.ports) (writers c.ports)
