use Rattle.std.proofs.Common.{refl}
use Rattle.lx_flat.proofs.Pieces.{rest_none, rest_put}
use Rattle.lx_flat.proofs.assigns.push_rest.Goals as goal

pub returns-then-last : goal.returns-then-last
returns-then-last c = rw c.if-last.true (rest_none _ _ c.args.value _ c.requires)

pub returns : goal.returns
returns c = rw c.if-last.false (rest_put _ _ _ c.args.value _ _ _ c.requires refl c.target_bits-low.ensures c.in_ok-id.ensures)
