use Rattle.std.proofs.Common.{◌≡◌, ◌+◌, ◌*◌, drop}
use Rattle.lx_circuit.specs.Statements.{after_pieces, taken_block}
use Rattle.lx_fhdl.specs.Designs.{block, shapes}
use Rattle.lx_lowering.specs.Constants.{zeros}
use Rattle.lx_lower.specs.Fixed.{AreForFree}
use Rattle.lx_flat.specs.Ready.{LowerStmts}
use Rattle.lx_lower.proofs.fold.+after.Given as goal

abbrev pub decreases-after_stmt : goal.decreases-after_stmt
decreases-after_stmt l = 2 * l.stmt.id.place + 1

abbrev pub decreases-after_block : goal.decreases-after_block
decreases-after_block l = 2 * l.stmts.bound

abbrev pub invariant-after_block-loop-id : goal.invariant-after_block-loop-id
invariant-after_block-loop-id l = record {
  rest : after_pieces l.stmts.signal.0 l.pattern (taken_block (shapes l.stmts.known.now) zeros (block l.stmts.known.now (drop l.id-index l.stmts.ids.now))) ≡ after_pieces l.stmts.signal.0 l.initial.pattern (taken_block (shapes l.stmts.known.now) zeros (block l.stmts.known.now l.stmts.ids.now));
  lower : LowerStmts l.stmts.known.now l.stmts.bound (drop l.id-index l.stmts.ids.now);
  free : AreForFree l.stmts.signal.0 (block l.stmts.known.now (drop l.id-index l.stmts.ids.now));
}
