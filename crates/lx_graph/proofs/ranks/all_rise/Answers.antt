use Rattle.std.proofs.Common.{◌<◌, length, arith}
use Rattle.std.specs.List.{All}
use Rattle.std.proofs.lemmas.List.{take_more}
use Rattle.lx_graph.proofs.Readers.{row_nodes}
use Rattle.lx_graph.proofs.Ranking.{rise_more, rise_all}
use Rattle.lx_graph.proofs.ranks.all_rise.Goals as goal

pub rises-requires-clause-b : goal.rises-requires-clause-b
rises-requires-clause-b c =
    let all : All (λ r. r < length c.args.ranks.now) c.row-reads.result.now = rw c.row-reads.ensures (row_nodes c.args.graph.now c.args.node _ c.holds.ensures c.requires.size) in
    all c.loop-read.read-index 0 (omega arith)

pub loop-read-preserved : goal.loop-read-preserved
loop-read-preserved c =
    rw (take_more c.row-reads.result.now c.loop-read.read-index 0 (omega arith))
    (rise_more c.args.ranks.now c.args.strictly c.args.node _ _ c.loop-read.invariant c.if-not-rises.ensures)

pub returns : goal.returns
returns c =
    rise_all c.args.graph.now c.args.ranks.now c.args.strictly c.args.node c.loop-read.read-index c.row-reads.result.now c.row-reads.ensures (omega arith) c.loop-read.invariant
