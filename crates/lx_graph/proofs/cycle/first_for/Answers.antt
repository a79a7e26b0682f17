use Rattle.std.proofs.Common.{◌<◌, length, ◌∙◌, sym, arith}
use Rattle.std.proofs.lemmas.Option.{none-some}
use Rattle.lx_graph.proofs.Waves.{level_is}
use Rattle.lx_graph.proofs.cycle.first_for.Goals as goal

pub first_of-requires-clause-level : goal.first_of-requires-clause-level
first_of-requires-clause-level c =
    let here : c.args.node < length c.args.levels.now.values.items = omega (arith, c.requires.levels.1.size) in
    level_is _ _ _ here c.index.ensures ∙ c.in-Some.is

pub returns-in-None : goal.returns-in-None
returns-in-None c d at =
    let here : c.args.node < length c.args.levels.now.values.items = omega (arith, c.requires.levels.1.size) in
    absurd (none-some d (sym (level_is _ _ _ here c.index.ensures ∙ c.in-None.is) ∙ at))
