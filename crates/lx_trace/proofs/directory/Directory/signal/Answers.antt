use Rattle.std.proofs.Common.{◌∙◌}
use Rattle.lx_trace.proofs.Tables.{named_below}
use Rattle.lx_trace.proofs.directory.Directory.signal.Goals as goal

pub returns-clause-there : goal.returns-clause-there
returns-clause-there c = rw (← c.self.view_is) (named_below c.self.inside.design.now c.self.inside.names.now c.args.name.now c.get.result (c.get.ensures ∙ c.self.invariant.named.each c.args.name.now))
