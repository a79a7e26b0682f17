-- A shape, or the fault that stands before it.
use Rattle.std.specs.Prelude.{ℕ, List, Option, Some, None, Result, Ok, Err, ◌<◌, slice_get}
use Rattle.lx_num.specs.declared.Shape.{Shape}
use Rattle.lx_num.specs.Ints.{unsigned}
use Rattle.lx_circuit.specs.declared.WidthFault.{WidthFault}
use Rattle.lx_fhdl.specs.declared.design.Signal.{Signal}
use Rattle.lx_fhdl.specs.declared.exprs.Expr.{Expr}
use Rattle.lx_fhdl.specs.declared.exprs.Expr.TheVariants.{Sig}
use Rattle.lx_fhdl.specs.Nodes.{node_shape, node_fault}

abbrev pub shaped : Option WidthFault → Shape → Result Shape WidthFault
shaped None a = Ok a
shaped (Some fault) a = Err fault

abbrev pub shape_of_one : Option Signal → Shape
shape_of_one (Some s) = s.shape
shape_of_one None = unsigned 1

-- the shape of a signal
abbrev pub signal_shape : List Signal → ℕ → Shape
signal_shape signals x = shape_of_one (slice_get signals x)

-- a node that names a signal names one of the first n
abbrev pub NamesBelow : ℕ → Expr → Type 0
NamesBelow n (Sig x) = x.0 < n
NamesBelow n _ = Unit {0}

-- what a node has: its shape from its children's, or its fault
abbrev pub node_result : List Signal → List Shape → Expr → Result Shape WidthFault
node_result signals shapes node = shaped (node_fault shapes node) (node_shape (signal_shape signals) shapes node)
