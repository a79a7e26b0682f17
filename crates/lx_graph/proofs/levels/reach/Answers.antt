use Rattle.std.proofs.Common.{◌∙◌}
use Rattle.lx_graph.proofs.Waves.{was_reached, level_is, wave_node}
use Rattle.lx_graph.proofs.levels.reach.Goals as goal

pub returns-in-Some : goal.returns-in-Some
returns-in-Some c =
    was_reached c.args.graph.now c.args.read c.args.node _ c.args.wave.now c.requires.spreads
    (level_is _ _ _ (wave_node c.args.graph.now c.args.read c.args.node c.args.wave.now c.requires.spreads c.requires.reads) c.index.ensures ∙ c.in-Some.is)

pub set_level-requires-clause-new : goal.set_level-requires-clause-new
set_level-requires-clause-new c = level_is _ _ _ (wave_node c.args.graph.now c.args.read c.args.node c.args.wave.now c.requires.spreads c.requires.reads) c.index.ensures ∙ c.in-None.is
