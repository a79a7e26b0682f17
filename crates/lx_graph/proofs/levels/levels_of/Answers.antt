use Rattle.std.proofs.Common.{ℕ, refl, subst}
use Rattle.lx_graph.specs.Levels.{AreLevels}
use Rattle.lx_graph.proofs.Waves.{is_popped, none_popped, finished}
use Rattle.lx_graph.proofs.levels.levels_of.Goals as goal

pub spread-requires-clause-spreads : goal.spread-requires-clause-spreads
spread-requires-clause-spreads c =
    (is_popped c.args.graph.now c.in-Some.node c.loop-node.wave (record c.loop-node.wave { now = c.pop.new.self }) c.loop-node.invariant.spreads c.in-Some.ensures refl refl refl refl).spreads

pub spread-requires-clause-read : goal.spread-requires-clause-read
spread-requires-clause-read c =
    (is_popped c.args.graph.now c.in-Some.node c.loop-node.wave (record c.loop-node.wave { now = c.pop.new.self }) c.loop-node.invariant.spreads c.in-Some.ensures refl refl refl refl).node

pub spread-requires-clause-level : goal.spread-requires-clause-level
spread-requires-clause-level c =
    (is_popped c.args.graph.now c.in-Some.node c.loop-node.wave (record c.loop-node.wave { now = c.pop.new.self }) c.loop-node.invariant.spreads c.in-Some.ensures refl refl refl refl).at

pub rise-requires-clause-spreads : goal.rise-requires-clause-spreads
rise-requires-clause-spreads c =
    none_popped c.args.graph.now c.loop-node.wave (record c.loop-node.wave { now = c.pop.new.self }) c.loop-node.invariant.spreads c.in-None.ensures.0 c.in-None.ensures.1 refl refl refl refl

pub returns-then-is_empty-clause-levels : goal.returns-then-is_empty-clause-levels
returns-then-is_empty-clause-levels c =
    let wave = c.loop-node.wave in
    let are = finished c.args.graph.now wave.target wave.levels.items wave.now wave.next wave.level c.loop-node.invariant.spreads c.in-None.ensures.0 (c.is_empty.ensures.0 c.if-is_empty.true) in
    (c.requires.target, subst (λ (v : ℕ). AreLevels c.args.graph.now v wave.levels.items) c.loop-node.invariant.target are)
