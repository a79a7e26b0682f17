use Rattle.std.proofs.Common.{◌≡◌, ◌≤◌, drop}
use Rattle.lx_grammar.specs.Ahead.{ahead}
use Rattle.lx_grammar.proofs.ahead.far.Given as goal

abbrev pub invariant-loop-item : goal.invariant-loop-item
invariant-loop-item l = (l.depth ≤ l.item-index) × (ahead l.depth (drop l.item-index l.items) ≡ ahead 0 l.items)
