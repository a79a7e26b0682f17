use Rattle.std.proofs.Common.{refl}
use Rattle.lx_graph.proofs.Waves.{is_risen}
use Rattle.lx_graph.proofs.levels.rise.Goals as goal

pub returns : goal.returns
returns c =
    is_risen c.args.graph.now c.args.wave.now _ c.requires.spreads c.requires.done c.requires.more
    refl refl c.swap.ensures.x_after c.swap.ensures.y_after refl
