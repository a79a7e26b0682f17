use Rattle.std.proofs.Common.{sym, ◌∙◌, arith}
use Rattle.lx_fsm.proofs.Grown.{same_shapes, term_kept}
use Rattle.lx_fsm.proofs.Numbering.{constant_kept, some_done, some_more, some_start}
use Rattle.lx_fsm.proofs.numbers.push_numbers.Goals as goal

pub loop-number-init : goal.loop-number-init
loop-number-init c = rw (c.new-numerals.ensures, c.new-conds.ensures) (some_start _ _ c.args.fsm.now _ c.in_ok-state.ensures)

pub push_numeral-requires : goal.push_numeral-requires
push_numeral-requires c = c.state_shape-shape.ensures ∙ sym (same_shapes c.loop-number.invariant.grows c.args.fsm.now.state.0)

pub push_cond-requires : goal.push_cond-requires
push_cond-requires c = record {
  state = term_kept c.in_ok-constant.ensures.grows c.loop-number.invariant.named;
  constant = constant_kept _ _ c.args.fsm.now _ _ c.in_ok-constant.ensures;
}

pub loop-number-preserved : goal.loop-number-preserved
loop-number-preserved c =
    rw (c.in_ok-push.ensures.ok, c.in_ok-push-2.ensures.ok)
    (some_more _ _ _ _ c.args.fsm.now _ _ _ _ _ _ c.loop-number.invariant c.in_ok-constant.ensures c.in_ok-cond.ensures)

pub returns : goal.returns
returns c = some_done _ _ c.args.fsm.now _ _ _ _ c.loop-number.invariant (omega arith)
