use Rattle.std.proofs.Common.{◌≡◌, drop, not}
use Rattle.std.specs.List.{list_any}
use Rattle.lx_value.specs.Arguments.{is_known}
use Rattle.lx_value.proofs.arguments.has_unknown.Given as goal

abbrev pub invariant-loop-key : goal.invariant-loop-key
invariant-loop-key l = list_any (λ key. not (is_known l.params key)) l.keys ≡ list_any (λ key. not (is_known l.params key)) (drop l.key-index l.keys)
