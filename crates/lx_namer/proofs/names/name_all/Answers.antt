use Rattle.lx_namer.specs.Names.{taken_first}
use Rattle.lx_namer.proofs.Given.{none_given}
use Rattle.lx_namer.proofs.names.name_all.Goals as goal

pub name_signals-requires-clause-start : goal.name_signals-requires-clause-start
name_signals-requires-clause-start c = none_given (taken_first c.args.design.now) (record { taken = c.args.taken; names = c.new.result }) c.new.ensures c.requires
