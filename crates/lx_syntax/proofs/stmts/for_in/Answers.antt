use Rattle.lx_syntax.proofs.Looping.{in_done, in_low, in_names, in_token}
use Rattle.lx_syntax.proofs.stmts.for_in.Goals as goal

pub for_over-requires-clause-names : goal.for_over-requires-clause-names
for_over-requires-clause-names c = in_names c.args.id.place _ c.args.names _ c.requires.low c.requires.inside

pub for_over-requires-clause-low : goal.for_over-requires-clause-low
for_over-requires-clause-low c = in_low _ _ _ _ _ _ _ c.requires.low c.in-Node.ensures c.requires.inside

pub returns-in-Done : goal.returns-in-Done
returns-in-Done c = in_done _ _ _ _ _ _ _ c.in-Done.ensures

pub returns-in-Token : goal.returns-in-Token
returns-in-Token c = in_token _ _ _ _ _ _ _ _ _ c.in-Token.ensures
