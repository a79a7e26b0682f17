-- How many operands an operator takes.
use Rattle.std.specs.Prelude.{Bool, true, false}
use Rattle.lx_tables.specs.declared.operators.Op.{Op}
use Rattle.lx_tables.specs.declared.operators.Op.TheVariants.{Neg, Not, Mux, Cat, Replicate}

abbrev pub is_unary : Op → Bool
is_unary Neg = true
is_unary Not = true
is_unary _ = false

-- a choice has three operands, and those that join have any number
abbrev pub is_binary : Op → Bool
is_binary Neg = false
is_binary Not = false
is_binary Mux = false
is_binary Cat = false
is_binary Replicate = false
is_binary _ = true
