use Rattle.lx_plain.proofs.Grouping.{are_grouped}
use Rattle.lx_plain.proofs.groups.grouped.Goals as goal

pub returns-clause-ok : goal.returns-clause-ok
returns-clause-ok c = are_grouped _ _ _ _ _ _ _ _ c.new-groups.ensures.items c.in_ok-add_owns.ensures.ok c.in_ok-add_owns-2.ensures.ok
