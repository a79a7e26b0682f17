-- Calls of values. Those of classes are handed in, so that how many may be made one within another bounds the run.
use Rattle.std.specs.Prelude.{ℕ, List, [], ◌∷◌, ◌++◌, Option, Some, None}
use Rattle.lx_text.specs.declared.faults.Kind.TheVariants as kind
use Rattle.lx_state.specs.declared.values.Value.{Value}
use Rattle.lx_state.specs.declared.values.Value.TheVariants as value
use Rattle.lx_state.specs.Step.{Step, fault}
use Rattle.lx_ops.specs.declared.places.Holder.{Holder}
use Rattle.lx_ops.specs.declared.places.Holder.TheVariants as holder
use Rattle.lx_builtins.specs.Calls.{builtin_called, method_called}
use Rattle.lx_builtins.specs.declared.arguments.Arguments.{Arguments}

-- what the call of a class gives, by its line, the place of the class and the arguments
abbrev pub Make : Type 0
Make = ℕ → ℕ → Arguments → Step Value

unfoldable pub called : Make → ℕ → Value → Arguments → Step Value
called make line (value.Class at) args = make line at args
called make line (value.Builtin b) args = builtin_called line b args
called make line (value.Method x) args = method_called line x args
called make line _ args = fault line kind.WrongKind

-- ---- arguments

abbrev pub no_arguments : Arguments
no_arguments = record { placed = []; names = []; named = []; part = None }

abbrev pub with_placed : List Value → Arguments → Arguments
with_placed values args = record args { placed = args.placed ++ values }

-- a fragment stands beside the None in its place
abbrev pub with_held : Holder → Arguments → Arguments
with_held (holder.Plain v) args = with_placed (v ∷ []) args
with_held (holder.Part p) args = record args { placed = args.placed ++ value.Nothing ∷ []; part = Some p }

abbrev pub with_named : List ℕ → Value → Arguments → Arguments
with_named name v args = record args { names = args.names ++ name ∷ []; named = args.named ++ v ∷ [] }
