use Rattle.std.proofs.Common.{length}
use Rattle.lx_token.proofs.Cuts.{Reading}
use Rattle.lx_token.proofs.reader.read_pieces.Given as goal

abbrev pub invariant-pieces : goal.invariant-pieces
invariant-pieces l = Reading l.source l.initial.lines l.rest l.depth l.at l.line l.lines

abbrev pub decreases-pieces : goal.decreases-pieces
decreases-pieces l = length l.rest
