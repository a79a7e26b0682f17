use Rattle.std.proofs.Common.{◌∙◌}
use Rattle.lx_objects.specs.Statements.{hanging}
use Rattle.lx_objects.proofs.Behind.{gathered}
use Rattle.lx_objects.proofs.statements.+gather.Goals as goal

pub gather_all-loop-value-preserved : goal.gather_all-loop-value-preserved
gather_all-loop-value-preserved t c =
    gathered (hanging c.args.line c.args.what c.args.lists.now c.args.levels) c.args.values.now c.loop-value.value-index _ _ _ c.loop-value-test.true c.in_ok-gather.ensures ∙ c.loop-value.invariant
