use Rattle.lx_shaped.proofs.Making.{made_stands, old_stays}
use Rattle.lx_shaped.proofs.laws.making_law.Goals as goal

pub returns-clause-made : goal.returns-clause-made
returns-clause-made c = made_stands

pub returns-clause-stays : goal.returns-clause-stays
returns-clause-stays c = old_stays
