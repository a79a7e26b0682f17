use Rattle.std.proofs.Common.{arith}
use Rattle.std.proofs.lemmas.Grind.{common_steps}
use Rattle.lx_lower.proofs.Folding.{after_next, free_after}
use Rattle.lx_lower.proofs.fold.+after.Goals as goal

pub after_block-loop-id-preserved : goal.after_block-loop-id-preserved
after_block-loop-id-preserved t c = record {
  rest = after_next _ _ _ _ _ _ _ _ _ _ c.loop-id-test.true c.loop-id.invariant.rest c.after_stmt-pattern.ensures;
  lower = record { within = c.loop-id.invariant.lower.within; below = grind (arith, common_steps) };
  free = free_after _ _ _ _ (record { place = 0; of = record {} }) c.loop-id-test.true c.loop-id.invariant.free;
}
