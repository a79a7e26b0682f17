use Rattle.std.proofs.Common.{◌≡◌, ◌++◌, drop}
use Rattle.lx_state.specs.Step.{go_on, give}
use Rattle.lx_fragments.specs.Fragments.{lay_parts}
use Rattle.lx_fragments.proofs.fragments.lay_parts.Given as goal

abbrev pub invariant-loop-item : goal.invariant-loop-item
invariant-loop-item l = go_on (lay_parts (drop l.item-index l.items) l.machine) (λ ps. give (l.parts ++ ps)) ≡ lay_parts l.items l.initial.machine
