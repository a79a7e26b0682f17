use Rattle.std.proofs.Common.{arith}
use Rattle.std.proofs.lemmas.Bool.Decides.{nat_tests}
use Rattle.lx_token.proofs.Cuts.{reading_start, reading_stop_at, reading_step_at, reading_end}
use Rattle.lx_token.proofs.reader.read_pieces.Goals as goal

pub pieces-init : goal.pieces-init
pieces-init c = reading_start c.args.source.now c.args.lines.now c.requires.fresh

pub returns-in-Err : goal.returns-in-Err
returns-in-Err c =
    reading_stop_at _ _ _ _ _ _ _ _ _ _ c.in-Err.refusal c.take.new.self c.pieces.invariant c.lexeme_at-lexeme.ensures c.put_in_place-piece.ensures c.length_of-taken.ensures.value c.length_of-taken.ensures.some c.length_of-taken.ensures.bound c.in-Err.ensures

pub pieces-preserved : goal.pieces-preserved
pieces-preserved c =
    reading_step_at _ _ _ _ _ _ _ _ _ _ _ _ _ _ c.pieces.invariant c.lexeme_at-lexeme.ensures c.put_in_place-piece.ensures c.length_of-taken.ensures.value c.length_of-taken.ensures.some c.length_of-taken.ensures.bound c.in_default.ensures c.open_behind-depth.ensures.value c.open_behind-depth.ensures.bound c.line_ends.ensures.value c.behind-rest.ensures

pub returns : goal.returns
returns c = reading_end c.args.source.now c.args.lines.now c.pieces.rest.now c.pieces.depth c.pieces.at c.pieces.line c.pieces.lines c.pieces.invariant (grind (arith, nat_tests))
