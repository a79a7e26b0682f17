use Rattle.std.proofs.Common.{◌∙◌, arith}
use Rattle.std.proofs.lemmas.List.{drop_all}
use Rattle.lx_trace.proofs.Cuts.{piece_end, piece_more}
use Rattle.lx_trace.proofs.pieces.pieces.Goals as goal

pub loop-byte-preserved : goal.loop-byte-preserved
loop-byte-preserved c = piece_more c.args.mark _ c.loop-byte.byte-index c.args.bytes.now c.loop-byte.cutting c.put.new.cutting (omega arith) c.in_ok-put.ensures c.loop-byte.invariant

pub returns : goal.returns
returns c = c.in_ok-push.ensures.ok ∙ rw (c.from_list.ensures) (piece_end c.args.mark c.loop-byte.byte-index c.args.bytes.now c.loop-byte.cutting (drop_all c.loop-byte.byte-index c.args.bytes.now (omega arith)) c.loop-byte.invariant)
