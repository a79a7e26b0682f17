use Rattle.std.proofs.Common.{ℕ, take}
use Rattle.std.specs.List.{Contains}
use Rattle.lx_graph.specs.Ranks.{Rises}
use Rattle.lx_graph.proofs.ranks.all_rise.Given as goal

abbrev pub invariant-loop-read : goal.invariant-loop-read
invariant-loop-read l = (c : ℕ) → Contains (take l.read-index l.reads) c → Rises l.ranks l.strictly l.node c
