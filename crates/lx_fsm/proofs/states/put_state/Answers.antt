use Rattle.std.proofs.Common.{◌≡◌, true, false, subst, arith}
use Rattle.std.specs.Prelude.{IsTrue}
use Rattle.std.proofs.lemmas.Result.{on_ok_weaker}
use Rattle.lx_fsm.proofs.Grown.{there_kept}
use Rattle.lx_fsm.proofs.Lowered.{state_can, state_empty, state_put}
use Rattle.lx_fsm.proofs.states.put_state.Goals as goal

pub lower_acts-requires : goal.lower_acts-requires
lower_acts-requires c = record { ready = c.requires.ready; within = omega (arith, c.len-bound.ensures); below = rw (c.len-bound.ensures, c.as_slice-body.ensures) c.requires.below }

pub returns-then-is_empty : goal.returns-then-is_empty
returns-then-is_empty c =
    state_empty c.args.source.now c.args.part _ c.args.state.now.body c.args.out.now c.requires.out (rw c.as_slice-body.ensures at c.in_ok-body.ensures) (c.is_empty.ensures.0 (search c.if-is_empty.true))

pub put_stmt-requires : goal.put_stmt-requires
put_stmt-requires c =
    let put = rw c.as_slice-body.ensures at c.in_ok-body.ensures in
    record {
      node = rw (c.in_ok-branches.ensures, c.new-rest.ensures) (state_can c.args.source.now c.args.part c.args.cond c.args.state.now.body _ c.requires.cond put);
      out = there_kept c.args.out.now put.grows c.requires.out;
    }

pub returns : goal.returns
returns c =
    let put = rw c.as_slice-body.ensures at c.in_ok-body.ensures in
    on_ok_weaker c.put_stmt.result
    (λ p. state_put c.args.source.now c.args.part c.args.cond c.args.state.now.body c.line-line.result c.requires.cond c.requires.out put (λ e. let h : false ≡ true = subst IsTrue c.if-is_empty.false (c.is_empty.ensures.1 e) in absurd (cc)) p)
    (rw (c.in_ok-branches.ensures, c.new-rest.ensures) at c.put_stmt.ensures)
