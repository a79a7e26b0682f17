use Rattle.std.proofs.Common.{◌∙◌, ap, ◌++◌, ◌∷◌, [], List, ℕ, arith}
use Rattle.std.proofs.lemmas.List.{get_or_read}
use Rattle.lx_graph.proofs.Readers.{partly_node, reader_step, readers_end}
use Rattle.lx_graph.proofs.levels.add_reader.Goals as goal

pub index_mut-requires : goal.index_mut-requires
index_mut-requires c =
    omega (
      arith,
      c.loop-read.readers.ok.0,
      partly_node c.args.graph.now c.args.node c.loop-read.read-index c.loop-read.readers.items c.row-reads.result.now c.holds.ensures c.loop-read.invariant c.row-reads.ensures (omega arith),
    )

pub loop-read-preserved : goal.loop-read-preserved
loop-read-preserved c =
    let here = partly_node c.args.graph.now c.args.node c.loop-read.read-index c.loop-read.readers.items c.row-reads.result.now c.holds.ensures c.loop-read.invariant c.row-reads.ensures (omega arith) in
    let e = get_or_read _ _ _ here c.index_mut.ensures.value [] in
    reader_step c.args.graph.now c.args.node c.loop-read.read-index c.loop-read.readers.items c.row-reads.result.now _ c.holds.ensures c.loop-read.invariant c.row-reads.ensures (omega arith)
    (c.in_ok-push.ensures.ok ∙ ap (λ (xs : List ℕ). xs ++ c.args.node ∷ []) e)

pub returns : goal.returns
returns c =
    readers_end c.args.graph.now c.args.node c.loop-read.read-index c.loop-read.readers.items c.row-reads.result.now c.row-reads.ensures (omega arith) c.loop-read.invariant
