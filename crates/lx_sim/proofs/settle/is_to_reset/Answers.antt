use Rattle.std.proofs.Common.{true, false, sym, ◌∙◌}
use Rattle.lx_sim.proofs.Rising.{to_reset}
use Rattle.lx_sim.proofs.settle.is_to_reset.Goals as goal

pub returns-then-is_reset : goal.returns-then-is_reset
returns-then-is_reset c = to_reset c.args.plan.now.design c.args.x c.args.domain c.args.vals.now c.at.result.now true c.at.ensures (sym c.if-is_reset.true ∙ c.is_reset.ensures)

pub returns-else-is_reset : goal.returns-else-is_reset
returns-else-is_reset c = c.if-is_reset.false ∙ to_reset c.args.plan.now.design c.args.x c.args.domain c.args.vals.now c.at.result.now false c.at.ensures (sym c.if-is_reset.false ∙ c.is_reset.ensures)
