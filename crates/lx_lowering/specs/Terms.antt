-- Expressions without picks, and right shifts by no more than the operand's bits.
use Rattle.std.specs.Prelude.{ℕ, pos, ◌+◌, ◌^◌, nat_le, nat_lt, if◌then◌else◌}
use Rattle.lx_num.specs.Ints.{unsigned, wrapped}
use Rattle.lx_tables.specs.declared.operators.Op.{Op}
use Rattle.lx_tables.specs.declared.operators.Op.TheVariants as op
use Rattle.lx_circuit.specs.Terms.{Term, Terms, Constant, Signal, Unary, Binary, Mux, Cat, Replicate, Slice, Pick, Fetch, NoTerm, MoreTerms}
use Rattle.lx_circuit.specs.Shapes.{Shapes, shape_of}
use Rattle.lx_circuit.specs.Values.{count_of}

-- a condition that never holds
abbrev pub never : Term
never = Constant (pos 0) (unsigned 1)

-- the expression is the number k, which is never the case where k has more bits
abbrev pub is_item : Shapes → Term → ℕ → Term
is_item s i k = if nat_lt k (2 ^ (shape_of s i).bits) then Binary op.Eq i (Constant (pos k) (shape_of s i)) else never

-- the items from number k on: each where the index is its number, and the last one otherwise
abbrev pub pick_from : Shapes → ℕ → Terms → Term → Term
pick_from s k NoTerm i = never
pick_from s k (MoreTerms t NoTerm) i = t
pick_from s k (MoreTerms t (MoreTerms u us)) i = Mux (is_item s i k) t (pick_from s (k + 1) (MoreTerms u us) i)

-- an amount of n or more, for an operand of n bits, is n
abbrev pub cut_amount : ℕ → Term → Term
cut_amount n (Constant value a) = if nat_le n (count_of (wrapped a value)) then Constant (pos n) a else Constant value a
cut_amount n t = t

abbrev pub lower_binary : Shapes → Op → Term → Term → Term
lower_binary s op.Shr a b = Binary op.Shr a (cut_amount (shape_of s a).bits b)
lower_binary s o a b = Binary o a b

abbrev mutual
  pub lower_term : Shapes → Term → Term
  lower_term s (Constant value a) = Constant value a
  lower_term s (Signal x) = Signal x
  lower_term s (Unary o a) = Unary o (lower_term s a)
  lower_term s (Binary o a b) = lower_binary s o (lower_term s a) (lower_term s b)
  lower_term s (Mux c a b) = Mux (lower_term s c) (lower_term s a) (lower_term s b)
  lower_term s (Cat parts) = Cat (lower_terms s parts)
  lower_term s (Replicate a count) = Replicate (lower_term s a) count
  lower_term s (Slice a low high) = Slice (lower_term s a) low high
  lower_term s (Pick items index) = pick_from s 0 (lower_terms s items) (lower_term s index)
  lower_term s (Fetch m width at) = Fetch m width (lower_term s at)

  pub lower_terms : Shapes → Terms → Terms
  lower_terms s NoTerm = NoTerm
  lower_terms s (MoreTerms t ts) = MoreTerms (lower_term s t) (lower_terms s ts)
