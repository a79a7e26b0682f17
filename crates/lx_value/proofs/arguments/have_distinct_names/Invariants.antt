use Rattle.std.proofs.Common.{◌≡◌, drop}
use Rattle.lx_value.specs.Arguments.{are_names_distinct}
use Rattle.lx_value.specs.Seen.{are_new}
use Rattle.lx_value.proofs.Binding.{names_of}
use Rattle.lx_value.proofs.arguments.have_distinct_names.Given as goal

abbrev pub invariant-loop-param : goal.invariant-loop-param
invariant-loop-param l = are_names_distinct l.params ≡ are_new l.seen (names_of (drop l.param-index l.params))
