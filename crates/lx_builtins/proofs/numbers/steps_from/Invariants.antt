use Rattle.std.proofs.Common.{◌≡◌, ◌++◌, ◌-◌, map}
use Rattle.lx_state.specs.declared.values.Value.TheVariants as value
use Rattle.lx_builtins.specs.Numbers.{steps_from}
use Rattle.lx_builtins.proofs.numbers.steps_from.Given as goal

abbrev pub invariant-loop : goal.invariant-loop
invariant-loop l = (l.list ++ map value.Int (steps_from (l.most - l.counter) l.step l.number l.past)) ≡ map value.Int (steps_from l.most l.step l.start l.past)
