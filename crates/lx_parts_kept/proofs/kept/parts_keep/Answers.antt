use Rattle.lx_parts_kept.proofs.Sound.{test_tells}
use Rattle.lx_parts_kept.proofs.kept.parts_keep.Goals as goal

pub returns-clause-law : goal.returns-clause-law
returns-clause-law c = test_tells c.args.description.now _ c.requires.design c.requires.fsms c.lower.ensures c.in_ok-keep.ensures
