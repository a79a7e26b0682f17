-- Conditions that ask something of a number: each compares it with a number of its own shape.
use Rattle.std.specs.Prelude.{ℕ, ℤ, pos, Bool, true, false, Option, Some, None, ◌^◌, nat_lt, if◌then◌else◌}
use Rattle.lx_tables.specs.declared.operators.Op.{Op}
use Rattle.lx_tables.specs.declared.operators.Op.TheVariants.{Eq, Ne, Ge}
use Rattle.lx_circuit.specs.Shapes.{Shapes}
use Rattle.lx_circuit.specs.Terms.{Term, Binary}
use Rattle.lx_lowering.specs.Flat.{fails, holds, is_last, key_of}
use Rattle.lx_lowering.specs.Terms.{is_item}
use Rattle.lx_plain.specs.declared.operands.Test.{Test}
use Rattle.lx_plain.specs.declared.operands.Test.TheVariants.{Holds, Fails, Item, Last, Key, NoKey}

abbrev pub is_test : Op → Bool
is_test Eq = true
is_test Ne = true
is_test Ge = true
is_test _ = false

-- the condition that a test asks of a number
abbrev pub asked : Shapes → Term → Test → Term
asked s t Holds = holds s t
asked s t Fails = fails s t
asked s t (Item k) = is_item s t k
asked s t (Last k) = is_last s t k
asked s t (Key key) = Binary Eq t (key_of s t key)
asked s t (NoKey key) = Binary Ne t (key_of s t key)

-- the comparison that a test is, for a number of so many bits, unless it never holds
abbrev pub compared : ℕ → Test → Option (Op × ℤ)
compared n Holds = Some (Ne, pos 0)
compared n Fails = Some (Eq, pos 0)
compared n (Item k) = if nat_lt k (2 ^ n) then Some (Eq, pos k) else None
compared n (Last k) = if nat_lt k (2 ^ n) then Some (Ge, pos k) else None
compared n (Key key) = Some (Eq, key)
compared n (NoKey key) = Some (Ne, key)
