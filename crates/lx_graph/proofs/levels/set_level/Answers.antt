use Rattle.std.proofs.Common.{refl, arith}
use Rattle.lx_graph.proofs.Waves.{is_reached_plain, is_reached_inner}
use Rattle.lx_graph.proofs.levels.set_level.Goals as goal

pub returns-in_ok-push : goal.returns-in_ok-push
returns-in_ok-push c =
    is_reached_plain c.args.graph.now c.args.read c.args.node c.args.wave.now _ c.requires.spreads c.requires.reads c.requires.level c.requires.new
    (omega arith) refl refl refl c.in_ok-push.ensures.ok refl

pub returns-in_ok-push-2 : goal.returns-in_ok-push-2
returns-in_ok-push-2 c =
    is_reached_inner c.args.graph.now c.args.read c.args.node c.args.wave.now _ c.requires.spreads c.requires.reads c.requires.level c.requires.new
    (omega arith) refl refl c.in_ok-push-2.ensures.ok refl refl
