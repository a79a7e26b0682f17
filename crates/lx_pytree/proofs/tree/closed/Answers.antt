use Rattle.std.proofs.Common.{None, subst, sym, ◌∙◌}
use Rattle.lx_pytree.specs.Trees.{IsSole}
use Rattle.lx_pytree.proofs.Planting.{hung_by, hung_sole}
use Rattle.lx_pytree.proofs.tree.closed.Goals as goal

pub returns-in-Some : goal.returns-in-Some
returns-in-Some c = hung_sole _ _ _ _ c.requires (sym c.as_slice.ensures ∙ c.in-Some.ensures)

pub returns-in-None : goal.returns-in-None
returns-in-None c = hung_by c.args.rule c.args.parts _ _ c.push.result c.lower.ensures c.requires c.push.ensures.ok (subst (λ ps. IsSole ps None) c.as_slice.ensures c.in-None.ensures)
