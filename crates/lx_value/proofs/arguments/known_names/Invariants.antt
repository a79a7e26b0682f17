use Rattle.std.proofs.Common.{◌≡◌, ◌||◌, ℕ, List, drop}
use Rattle.lx_value.specs.Arguments.{is_known}
use Rattle.lx_value.proofs.Repeats.{among}
use Rattle.lx_value.proofs.arguments.known_names.Given as goal

abbrev pub invariant-loop-param : goal.invariant-loop-param
invariant-loop-param l = (key : List ℕ) → (among key l.known || is_known (drop l.param-index l.params) key) ≡ is_known l.params key
