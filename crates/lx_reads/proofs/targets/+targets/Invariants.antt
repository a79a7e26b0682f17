use Rattle.std.proofs.Common.{◌+◌, ◌*◌, drop}
use Rattle.lx_fhdl.specs.Designs.{target}
use Rattle.lx_fhdl.specs.Stmts.{targets_at}
use Rattle.lx_reads.proofs.Adding.{GoesTargets}
use Rattle.lx_reads.proofs.targets.+targets.Given as goal

abbrev pub decreases-add_target : goal.decreases-add_target
decreases-add_target l = 2 * l.id.place + 1

abbrev pub decreases-add_targets : goal.decreases-add_targets
decreases-add_targets l = 2 * l.bound

abbrev pub invariant-add_targets-loop-id : goal.invariant-add_targets-loop-id
invariant-add_targets-loop-id l = GoesTargets l.design l.net l.initial.parts l.parts (targets_at (target l.design) l.ids) (targets_at (target l.design) (drop l.id-index l.ids))
