use Rattle.lx_fhdl.proofs.Drafts.{ends}
use Rattle.lx_fhdl.proofs.draft.Draft.finish.Goals as goal

pub returns-clause-whole : goal.returns-clause-whole
returns-clause-whole c = ends c.self.inside.design c.args.comb c.args.sync c.args.domains c.args.ports c.args.ios c.self.invariant
