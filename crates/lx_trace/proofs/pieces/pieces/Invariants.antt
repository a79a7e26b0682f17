use Rattle.std.proofs.Common.{◌≡◌, drop}
use Rattle.lx_trace.specs.Pieces.{pieces}
use Rattle.lx_trace.proofs.Cuts.{all_pieces}
use Rattle.lx_trace.proofs.pieces.pieces.Given as goal

abbrev pub invariant-loop-byte : goal.invariant-loop-byte
invariant-loop-byte l = all_pieces l.mark l.cutting (drop l.byte-index l.bytes) ≡ pieces l.mark l.bytes
