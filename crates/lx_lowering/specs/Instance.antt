-- A circuit that can be lowered, with statements of every kind: a counter q in a domain, u and s beside it, and a memory.
use Rattle.std.specs.Prelude.{ℤ, pos, negsuc, true, false, List, [], ◌∷◌, Some, None, codes}
use Rattle.lx_num.specs.declared.Shape.{Shape}
use Rattle.lx_num.specs.Ints.{shape, unsigned}
use Rattle.lx_tables.specs.declared.operators.Op.TheVariants as op
use Rattle.lx_circuit.specs.Terms.{Constant, Signal, Binary, Pick, Fetch, NoTerm, MoreTerms}
use Rattle.lx_circuit.specs.Statements.{Whole, Part, CatTarget, PickTarget, NoTarget, MoreTargets, Stmt, Assign, If, Case, NoBranch, Branch, NoArm, Arm, Block, Done, Then}
use Rattle.lx_circuit.specs.Memories.{Memory, Port, WriteFirst}
use Rattle.lx_circuit.specs.Circuit.{Made, Circuit}
use Rattle.lx_lowering.specs.Flat.{one}

abbrev pub signal_of : Shape → ℤ → Made
signal_of a reset = record { shape = a; reset = reset; reset_less = false; given = false }

-- s has four signed bits and is -3 at first, u has eight, the counter q has two, and its reset r has one
abbrev pub instance_signals : List Made
instance_signals = signal_of (shape 4 true) (negsuc 2) ∷ signal_of (unsigned 8) (pos 5) ∷ signal_of (unsigned 2) (pos 1) ∷ signal_of (unsigned 1) (pos 0) ∷ []

-- If(r, u.eq(1)).Elif(q, u[0:4].eq(Array([q, 5])[r])).Else(Cat(u[4:8], s).eq(q))
abbrev pub branches : Stmt
branches =
    If
    (Branch (Signal 3) (one (Assign (Whole 1) (Constant (pos 1) (unsigned 1))))
    (Branch (Signal 2) (one (Assign (Part 1 0 4) (Pick (MoreTerms (Signal 2) (MoreTerms (Constant (pos 5) (unsigned 3)) NoTerm)) (Signal 3))))
    NoBranch))
    (one (Assign (CatTarget (MoreTargets (Part 1 4 4) (MoreTargets (Whole 0) NoTarget))) (Signal 2)))

-- Case(q, {1: Array([u, s])[r].eq(q), 3: s.eq(-1)})
abbrev pub arms : Stmt
arms =
    Case (Signal 2)
    (Arm (pos 1) (one (Assign (PickTarget (MoreTargets (Whole 1) (MoreTargets (Whole 0) NoTarget)) (Signal 3)) (Signal 2)))
    (Arm (pos 3) (one (Assign (Whole 0) (Constant (negsuc 0) (shape 1 true))))
    NoArm))
    Done

-- u[4:8].eq(m[q]), where m is a memory of four words, which a port writes
abbrev pub word_read : Stmt
word_read = Assign (Part 1 4 4) (Fetch 0 8 (Signal 2))

abbrev pub words : Memory
words = record { width = 8; depth = 4; init = 17 ∷ 44 ∷ [] }

abbrev pub port : Port
port = record { memory = 0; adr = 2; domain = Some 0; reader = None; writer = Some (record { from = 1; we = 3; part = 8 }); mode = WriteFirst }

-- q.eq(q + 1)
abbrev pub counting : Block
counting = one (Assign (Whole 2) (Binary op.Add (Signal 2) (Constant (pos 1) (unsigned 1))))

unfoldable pub instance : Circuit
instance = record {
  signals = instance_signals;
  comb = Then branches (Then arms (Then word_read Done));
  domains = record { name = codes "sys"; reset = Some 3; stmts = counting } ∷ [];
  memories = words ∷ [];
  ports = port ∷ [];
  ios = 0 ∷ 1 ∷ 3 ∷ [];
}
