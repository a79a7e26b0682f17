use Rattle.std.proofs.Common.{rules, ◌<◌, ◌≤◌, true, [], Option, None, length, take, drop, sym, ap, ◌∙◌, arith, FitsSigned}
use Rattle.std.specs.Int.{w128}
use Rattle.std.proofs.lemmas.Int.{to_z-of_z}
use Rattle.std.proofs.lemmas.Result.{on_ok_weaker}
use Rattle.lx_num.specs.declared.Shape.{Shape}
use Rattle.lx_circuit.specs.Terms.{Term}
use Rattle.lx_fhdl.specs.Below.{StmtId}
use Rattle.lx_fhdl.specs.Designs as designs
use Rattle.lx_fhdl.specs.Designs.{shapes, term}
use Rattle.lx_lowering.specs.Flat.{assigns, flat, flat_block, otherwise}
use Rattle.lx_flat.specs.Keys.{none_after, seen_keys}
use Rattle.lx_plain.specs.Lines.{expr_shape, has_key, inside, lines_at, lines_in}
use Rattle.lx_flat.specs.Puts.{lowered_at}
use Rattle.lx_flat.specs.Ready.{LowerBranches}
use Rattle.lx_flat.proofs.Flats.{after_first, arms_are, arms_done, arms_more, block_done, block_more, case_lower, case_stands, chain_done, chain_more, fails_bit, if_lower, if_stands, lone_put, no_items, no_none, node_lines_is, node_stmt_as, node_stmt_is, none_bit, only_item, otherwise_empty, put_both_under, put_branches, put_one_branch, put_under, put_where, several_put, some_item, some_none}
use Rattle.lx_flat.proofs.Arms.{fresh_as, fresh_is, key_is, no_key_there, some_key}
use Rattle.lx_flat.proofs.Items.{arm_body_at, bodies_after, body_at, cond_at, conds_after, stmt_below_at}
use Rattle.lx_flat.proofs.Pieces.{lowered_kept, own_shape_as, ready_for, ready_shapes}
use Rattle.lx_plain.proofs.Puts.{holds_new, owned_kept, put_after, put_is, put_lines, put_none, put_then, some_last, some_start, some_under}
use Rattle.lx_plain.proofs.Sound.{bit_kept, grows_same, grows_then, shape_kept, small_shape, term_kept}
use Rattle.lx_flat.proofs.flat.+flat.Goals as goal

pub put_block_when-put_flat_block-requires : goal.put_block_when-put_flat_block-requires
put_block_when-put_flat_block-requires t c = (omega arith, rw c.new-own.ensures (ready_for [] c.requires.ready (grows_same _) (search rules)))

pub put_block_when-put_under-requires : goal.put_block_when-put_under-requires
put_block_when-put_under-requires t c =
    let own = c.in_ok-put_flat_block.ensures in
    record {
      out = owned_kept c.args.out.now own.grows c.requires.ready.owned;
      cond = omega (arith, c.requires.cond, own.grows.stays.exprs);
      then_ = rw c.as_slice.ensures own.owned;
      else_ = search rules;
    }

pub put_block_when-returns : goal.put_block_when-returns
put_block_when-returns t c =
    let own = rw c.new-own.ensures at c.in_ok-put_flat_block.ensures in
    let cond = term_kept c.args.cond.place own.grows c.requires.cond in
    on_ok_weaker c.put_under.result (λ p. put_under c.args.stmts.source.now.design c.args.line c.args.stmts.ids.now (some_under c.args.cond.place _ own.grows c.requires.ready.owned (holds_new own) cond p)) (rw c.as_slice.ensures at c.put_under.ensures)

pub put_flat_block-loop-id-init : goal.put_flat_block-loop-id-init
put_flat_block-loop-id-init t c = some_start _ _ _ _ c.requires.owned

pub put_flat_block-put_flat-requires : goal.put_flat_block-put_flat-requires
put_flat_block-put_flat-requires t c =
    let z : StmtId = record { place = 0; of = record {} } in
    let h : c.loop-id.id-index < length c.args.stmts.ids.now = omega arith in
    let l = stmt_below_at c.args.stmts.bound c.args.stmts.ids.now c.loop-id.id-index z c.args.stmts.lower.below h in
    (omega (arith, l), ready_for _ c.requires c.loop-id.invariant.grows c.loop-id.invariant.owned)

pub put_flat-lowered-value-requires : goal.put_flat-lowered-value-requires
put_flat-lowered-value-requires t c = record { lowered = c.requires.lowered; place = let h = (node_stmt_as _ _ _ _ c.stmt.ensures.stands c.in-Assign.is).1 in omega (arith, h, c.requires.all) }

pub put_flat-put_assigns-requires : goal.put_flat-put_assigns-requires
put_flat-put_assigns-requires t c = record { ready = c.requires; value = c.lowered-value.ensures.shape }

pub put_flat-put_if-requires : goal.put_flat-put_if-requires
put_flat-put_if-requires t c = (omega arith, c.requires)

pub put_flat-put_case-requires : goal.put_flat-put_case-requires
put_flat-put_case-requires t c = (omega arith, c.requires)

pub put_if-put_lone-requires : goal.put_if-put_lone-requires
put_if-put_lone-requires t c = (omega arith, c.requires)

pub put_lone-put_flat_block-requires : goal.put_lone-put_flat_block-requires
put_lone-put_flat_block-requires t c = (omega arith, rw c.new-then_.ensures (ready_for [] c.requires (grows_same _) (search rules)))

pub put_lone-put_flat_block-requires-2 : goal.put_lone-put_flat_block-requires-2
put_lone-put_flat_block-requires-2 t c = (omega arith, rw c.new-else_.ensures (ready_for [] c.requires c.in_ok-put_flat_block.ensures.grows (search rules)))

pub put_lone-returns : goal.put_lone-returns
put_lone-returns t c =
    let own = rw (c.new-then_.ensures, c.as_slice-ids.ensures) at c.in_ok-put_flat_block.ensures in
    let other = rw c.new-else_.ensures at c.in_ok-put_flat_block-2.ensures in
    on_ok_weaker c.put_under.result
    (λ p. put_both_under c.args.node.source.now.design c.args.node.line _ c.args.node.rest.now (lone_put c.lowered-cond.result.id.place _ _ c.requires.owned c.lowered-cond.ensures.tree own other p))
    (rw (c.as_slice.ensures, c.as_slice-2.ensures) at c.put_under.ensures)

pub put_chain-lowered-cond-requires : goal.put_chain-lowered-cond-requires
put_chain-lowered-cond-requires t c =
    let l = c.args.node.lower.conds c.loop-branch.branch-index c.branch-item.result c.loop-branch-test.true in
    record { lowered = lowered_kept c.loop-branch.invariant.0.grows c.requires.ready.lowered; place = rw c.branch-item.is (omega (arith, l, c.requires.ready.all)) }

pub put_chain-put_block_when-requires : goal.put_chain-put_block_when-requires
put_chain-put_block_when-requires t c =
    let so = c.loop-branch.invariant.0 in
    let more = c.in_ok-here.ensures.grows in
    let ready = ready_for c.loop-branch.out c.requires.ready (grows_then so.grows more) (owned_kept c.loop-branch.out more so.owned) in
    (omega arith, (ready, c.in_ok-here.ensures.within))

pub put_arms-put_block_when-requires : goal.put_arms-put_block_when-requires
put_arms-put_block_when-requires t c =
    let so = c.loop-number.invariant in
    let more = c.in_ok-here.ensures.grows in
    let ready = ready_for c.loop-number.out c.requires (grows_then so.grows more) (owned_kept c.loop-number.out more so.owned) in
    (omega arith, (ready, c.in_ok-here.ensures.within))

pub put_case-lowered-on-requires : goal.put_case-lowered-on-requires
put_case-lowered-on-requires t c = record { lowered = c.requires.lowered; place = omega (arith, c.args.node.there, c.requires.all) }

pub put_otherwise-put_block_when-requires : goal.put_otherwise-put_block_when-requires
put_otherwise-put_block_when-requires t c =
    let no = c.in_ok-none.ensures in
    let ready = ready_for c.args.out.now c.requires no.grows (owned_kept c.args.out.now no.grows c.requires.owned) in
    (omega arith, (ready, (some_none c.in-Some.none no c.in-Some.is).0.there))

pub put_otherwise-put_flat_block-requires : goal.put_otherwise-put_flat_block-requires
put_otherwise-put_flat_block-requires t c =
    let no = c.in_ok-none.ensures in
    let ready = ready_for c.args.out.now c.requires no.grows (owned_kept c.args.out.now no.grows c.requires.owned) in
    (omega arith, ready)

pub put_lone-put_under-requires : goal.put_lone-put_under-requires
put_lone-put_under-requires t c =
    let own = rw c.new-then_.ensures at c.in_ok-put_flat_block.ensures in
    let other = rw c.new-else_.ensures at c.in_ok-put_flat_block-2.ensures in
    record {
      out = owned_kept c.args.out.now (grows_then own.grows other.grows) c.requires.owned;
      cond = c.lowered-cond.ensures.shape.there;
      then_ = rw c.as_slice.ensures (owned_kept _ other.grows own.owned);
      else_ = rw c.as_slice-2.ensures other.owned;
    }

pub put_case-fresh_keys-requires : goal.put_case-fresh_keys-requires
put_case-fresh_keys-requires t c = small_shape _ c.lowered-on.result c.keeps.ensures c.lowered-on.ensures.shape

pub put_case-put_otherwise-requires : goal.put_case-put_otherwise-requires
put_case-put_otherwise-requires t c =
    let own = c.in_ok-put_arms.ensures in
    (omega arith, ready_for _ c.requires own.grows own.owned)

pub put_flat_block-loop-id-preserved : goal.put_flat_block-loop-id-preserved
put_flat_block-loop-id-preserved t c = block_more _ _ (lines_at c.args.stmts.source.now.design) c.args.stmts.ids.now c.loop-id.id-index _ (omega arith) c.loop-id.invariant c.in_ok-put_flat.ensures

pub put_flat_block-returns : goal.put_flat_block-returns
put_flat_block-returns t c = block_done _ _ (lines_at c.args.stmts.source.now.design) c.args.stmts.ids.now c.loop-id.id-index (omega arith) c.loop-id.invariant

pub put_flat-returns-in-Assign : goal.put_flat-returns-in-Assign
put_flat-returns-in-Assign t c =
    let node = ap (flat (shapes c.args.stmt.source.now.design)) (node_stmt_is _ _ _ _ _ _ c.stmt.ensures.tree c.in-Assign.is) in
    let value = ap (assigns (shapes c.args.stmt.source.now.design) (designs.target c.args.stmt.source.now.design c.in-Assign.target.place)) c.lowered-value.ensures.tree in
    on_ok_weaker c.put_assigns.result (λ p. put_lines (node_lines_is _ _ _ _ c.stmt.ensures.lines c.in-Assign.is) (put_is (value ∙ sym node) p)) c.put_assigns.ensures

pub put_flat-returns-in-If : goal.put_flat-returns-in-If
put_flat-returns-in-If t c =
    let node = ap (flat (shapes c.args.stmt.source.now.design)) (node_stmt_is _ _ _ _ _ _ c.stmt.ensures.tree c.in-If.is) in
    on_ok_weaker c.put_if.result (λ p. put_lines (node_lines_is _ _ _ _ c.stmt.ensures.lines c.in-If.is) (put_is (sym node) p)) (rw (c.as_slice-branches.ensures, c.as_slice-rest.ensures) at c.put_if.ensures)

pub put_flat-returns-in-Case : goal.put_flat-returns-in-Case
put_flat-returns-in-Case t c =
    let node = ap (flat (shapes c.args.stmt.source.now.design)) (node_stmt_is _ _ _ _ _ _ c.stmt.ensures.tree c.in-Case.is) in
    on_ok_weaker c.put_case.result (λ p. put_lines (node_lines_is _ _ _ _ c.stmt.ensures.lines c.in-Case.is) (put_is (sym node) p)) (rw (c.as_slice-arms.ensures, c.as_slice-rest-in-Case.ensures) at c.put_case.ensures)

pub put_if-lowered-cond-requires : goal.put_if-lowered-cond-requires
put_if-lowered-cond-requires t c =
    let some = some_item _ c.args.node.branches.now c.is_empty.ensures c.if-is_empty.false in
    record { lowered = c.requires.lowered; place = rw c.index-branches-0.is (omega (arith, c.args.node.lower.conds 0 c.index-branches-0.result some, c.requires.all)) }

pub put_if-put_block_when-requires : goal.put_if-put_block_when-requires
put_if-put_block_when-requires t c = (omega arith, (c.requires, c.lowered-cond.ensures.shape.there))

pub put_if-push_test-requires : goal.put_if-push_test-requires
put_if-push_test-requires t c = shape_kept c.in_ok-put_block_when.ensures.grows c.lowered-cond.ensures.shape

pub put_if-put_chain-requires : goal.put_if-put_chain-requires
put_if-put_chain-requires t c =
    let own = c.in_ok-put_block_when.ensures in
    let more = c.in_ok-none.ensures.grows in
    let ready = ready_for _ c.requires (grows_then own.grows more) (owned_kept c.put_block_when.new.out more own.owned) in
    (omega arith, (ready, fails_bit _ c.in_ok-none.ensures))

pub put_if-returns : goal.put_if-returns
put_if-returns t c =
    let own = rw c.as_slice-ids.ensures at c.in_ok-put_block_when.ensures in
    let d = c.args.node.source.now.design in
    let bs = c.args.node.branches.now in
    let several : 2 ≤ length bs = omega (arith, some_item _ bs c.is_empty.ensures c.if-is_empty.false) in
    on_ok_weaker c.put_chain.result
    (λ p. put_branches d c.args.node.line bs c.args.node.rest.now (omega (arith, several)) (several_put _ _ _ (λ i. inside true c.args.node.line (lines_at d i)) bs c.index-branches-0.result _ _ c.lowered-cond.result.id.place c.in_ok-none.none.place several c.index-branches-0.is c.lowered-cond.ensures.shape.there (ready_shapes c.requires own.grows) c.lowered-cond.ensures.tree own c.in_ok-none.ensures p))
    (rw (after_first bs) at c.put_chain.ensures)

pub put_chain-loop-branch-init : goal.put_chain-loop-branch-init
put_chain-loop-branch-init t c = (some_start _ _ _ _ c.requires.ready.owned, c.requires.none)

pub put_chain-loop-branch-preserved : goal.put_chain-loop-branch-preserved
put_chain-loop-branch-preserved t c =
    let so = c.loop-branch.invariant.0 in
    let bit = c.loop-branch.invariant.1 in
    let here = c.in_ok-here.ensures in
    let next = c.in_ok-none.ensures in
    let own = rw c.as_slice-ids.ensures at c.in_ok-put_block_when.ensures in
    let step = grows_then here.grows own.grows in (
      chain_more _ _ _ (λ i. inside true c.args.node.line (lines_at c.args.node.source.now.design i)) c.args.node.branches.now c.loop-branch.branch-index c.branch-item.result _ _ c.loop-branch.none.place c.lowered-cond.result.id.place c.in_ok-here.here.place c.in_ok-none.none.place c.loop-branch-test.true c.branch-item.is
          (ready_shapes c.requires.ready so.grows) (ready_shapes c.requires.ready (grows_then so.grows step)) c.lowered-cond.ensures.tree c.lowered-cond.ensures.shape.there bit.there so here own next,
      none_bit _ (bit_kept step bit) next,
    )

pub put_chain-push_and_test-requires-in-loop-branch : goal.put_chain-push_and_test-requires-in-loop-branch
put_chain-push_and_test-requires-in-loop-branch t c =
    let step = grows_then c.in_ok-here.ensures.grows c.in_ok-put_block_when.ensures.grows in
    record { none = bit_kept step c.loop-branch.invariant.1; cond = shape_kept step c.lowered-cond.ensures.shape }

pub put_chain-returns : goal.put_chain-returns
put_chain-returns t c = on_ok_weaker c.put_block_when-2.result (λ p. some_last (chain_done _ _ _ (λ i. inside true c.args.node.line (lines_at c.args.node.source.now.design i)) c.args.node.branches.now c.loop-branch.branch-index _ _ _ (omega arith) c.loop-branch.invariant.0) p) c.put_block_when-2.ensures

pub put_arms-loop-number-init : goal.put_arms-loop-number-init
put_arms-loop-number-init t c = some_start _ _ _ _ c.requires.owned

pub put_arms-push_key-requires : goal.put_arms-push_key-requires
put_arms-push_key-requires t c = shape_kept c.loop-number.invariant.grows c.lowered-on.ensures.shape

pub put_arms-loop-number-preserved : goal.put_arms-loop-number-preserved
put_arms-loop-number-preserved t c =
    let fits : FitsSigned w128 c.index-arms-number.result.key = search rules in
    let so = c.loop-number.invariant in
    let here = rw (to_z-of_z w128 c.index-arms-number.result.key fits) at c.in_ok-here.ensures in
    let own = rw c.as_slice-ids.ensures at c.in_ok-put_block_when.ensures in
    let s = shapes c.args.node.source.now.design in
    let o = lowered_at c.args.node.source.now.design c.args.node.on.place in
    let on = term_kept c.lowered-on.result.id.place so.grows c.lowered-on.ensures.shape.there ∙ c.lowered-on.ensures.tree in
    let shape = own_shape_as c.requires c.lowered-on.ensures.shape c.lowered-on.ensures.tree c.lowered-on.ensures.same in
    let is = key_is s o _ _ _ _ shape (fresh_is _ _ _ _ _ _ c.loop-number-test.true c.index-arms-number.is c.args.node.are c.loop-number-test.true) in
    arms_more s (designs.stmt c.args.node.source.now.design) (λ i. inside true c.args.node.line (lines_at c.args.node.source.now.design i)) c.args.node.arms.now c.loop-number.number c.index-arms-number.result o c.lowered-on.result.id.place c.in_ok-here.here.place _ c.loop-number-test.true c.index-arms-number.is (ready_shapes c.requires so.grows) on is so here own

pub put_arms-returns : goal.put_arms-returns
put_arms-returns t c = arms_done _ (designs.stmt c.args.node.source.now.design) (λ i. inside true c.args.node.line (lines_at c.args.node.source.now.design i)) c.args.node.arms.now c.loop-number.number (lowered_at c.args.node.source.now.design c.args.node.on.place) (seen_keys (take c.loop-number.number c.args.node.arms.now)) (omega arith) c.loop-number.invariant

pub put_otherwise-returns-then-is_empty : goal.put_otherwise-returns-then-is_empty
put_otherwise-returns-then-is_empty t c = let empty = no_items _ _ c.is_empty.ensures c.if-is_empty.true in
    put_lines (λ k. sym (ap (lines_in (inside (has_key (expr_shape c.args.node.source.now.design c.args.node.on.place) c.args.node.arms.now) c.args.node.line (lines_at c.args.node.source.now.design k))) empty)) (put_is (otherwise_empty _ _ _ c.args.node.rest.now empty) (put_none c.args.draft.now _ c.requires.owned))

pub put_otherwise-returns-in-Some : goal.put_otherwise-returns-in-Some
put_otherwise-returns-in-Some t c =
    let no = c.in_ok-none.ensures in
    let d = c.args.node.source.now.design in
    let s = shapes d in
    let arms = c.args.node.arms.now in
    let r = flat_block s (designs.block d c.args.node.rest.now) in
    let o = lowered_at d c.args.node.on.place in
    let after = (some_none c.in-Some.none no c.in-Some.is).1 ∙ ap (λ z. none_after z (term c.args.draft.now c.lowered-on.result.id.place) [] None arms) (ready_shapes c.requires (grows_same _)) ∙ ap (λ (i : Term). none_after s i [] None arms) c.lowered-on.ensures.tree in
    let same = ap (λ (i : Option Term). otherwise i r) after in
    let shape = own_shape_as c.requires c.lowered-on.ensures.shape c.lowered-on.ensures.tree c.lowered-on.ensures.same in
    let key = sym (some_key s o arms _ after) ∙ ap (λ (a : Shape). has_key a arms) shape in
    on_ok_weaker c.put_block_when.result (λ p. put_after no.grows c.requires.owned (put_is same (put_where d c.args.node.line c.args.node.rest.now key p))) c.put_block_when.ensures

pub put_otherwise-returns-in-None : goal.put_otherwise-returns-in-None
put_otherwise-returns-in-None t c =
    let no = c.in_ok-none.ensures in
    let d = c.args.node.source.now.design in
    let s = shapes d in
    let arms = c.args.node.arms.now in
    let r = flat_block s (designs.block d c.args.node.rest.now) in
    let o = lowered_at d c.args.node.on.place in
    let after = no_none no c.in-None.is ∙ ap (λ z. none_after z (term c.args.draft.now c.lowered-on.result.id.place) [] None arms) (ready_shapes c.requires (grows_same _)) ∙ ap (λ (i : Term). none_after s i [] None arms) c.lowered-on.ensures.tree in
    let same = ap (λ (i : Option Term). otherwise i r) after in
    let shape = own_shape_as c.requires c.lowered-on.ensures.shape c.lowered-on.ensures.tree c.lowered-on.ensures.same in
    let key = sym (no_key_there s o arms after) ∙ ap (λ (a : Shape). has_key a arms) shape in
    on_ok_weaker c.put_flat_block.result (λ p. put_after no.grows c.requires.owned (put_is same (put_where d c.args.node.line c.args.node.rest.now key p))) c.put_flat_block.ensures

pub put_case-returns : goal.put_case-returns
put_case-returns t c =
    let d = c.args.node.source.now.design in
    let s = shapes d in
    let h = designs.stmt d in
    let same = arms_are s h (lowered_at d c.args.node.on.place) [] None c.args.node.arms.now (flat_block s (designs.block d c.args.node.rest.now)) in
    on_ok_weaker c.put_otherwise.result (λ p. put_is same (put_then c.in_ok-put_arms.ensures p)) c.put_otherwise.ensures

pub put_flat-invariant_of-target : goal.put_flat-invariant_of-target
put_flat-invariant_of-target t c = record { there = (node_stmt_as _ _ _ _ c.stmt.ensures.stands c.in-Assign.is).0 }

pub put_flat-invariant_of-choice : goal.put_flat-invariant_of-choice
put_flat-invariant_of-choice t c =
    let stands = if_stands _ _ _ _ _ _ c.stmt.ensures.stands c.in-If.is in
    let lower = if_lower _ _ _ _ _ c.stmt.ensures.below c.in-If.is in
    record {
      lower = rw c.as_slice-branches.ensures (record { within = omega (arith, c.args.stmt.there); conds = λ k z l. cond_at _ _ k z stands l; below = lower.0 });
      rest_lower = rw c.as_slice-rest.ensures (record { within = omega (arith, c.args.stmt.there); below = lower.1 });
    }

pub put_flat-invariant_of-case : goal.put_flat-invariant_of-case
put_flat-invariant_of-case t c =
    let lower = case_lower _ _ _ _ _ _ c.stmt.ensures.below c.in-Case.is in
    record {
      there = case_stands _ _ _ _ _ _ _ c.stmt.ensures.stands c.in-Case.is;
      lower = rw c.as_slice-arms.ensures (record { within = omega (arith, c.args.stmt.there); below = lower.0 });
      rest_lower = rw c.as_slice-rest-in-Case.ensures (record { within = omega (arith, c.args.stmt.there); below = lower.1 });
    }

pub put_flat_block-invariant_of-put_flat : goal.put_flat_block-invariant_of-put_flat
put_flat_block-invariant_of-put_flat t c =
    let l = stmt_below_at c.args.stmts.bound c.args.stmts.ids.now c.loop-id.id-index (record { place = 0; of = record {} }) c.args.stmts.lower.below c.loop-id-test.true in
    record { there = omega (arith, l, c.args.stmts.lower.within) }

pub put_if-invariant_of-body : goal.put_if-invariant_of-body
put_if-invariant_of-body t c =
    let bs = c.args.node.branches.now in
    let body = body_at _ bs 0 _ c.args.node.lower.below (some_item _ bs c.is_empty.ensures c.if-is_empty.false) in
    record { lower = record { within = c.args.node.lower.within; below = rw (c.as_slice-ids.ensures, c.index-branches-0.is) body } }

pub put_if-invariant_of-more : goal.put_if-invariant_of-more
put_if-invariant_of-more t c =
    let bs = c.args.node.branches.now in
    let more : LowerBranches c.args.node.source.now.design c.args.node.bound (drop 1 bs) = record { within = c.args.node.lower.within; conds = conds_after _ bs c.args.node.lower.conds; below = bodies_after _ bs c.args.node.lower.below } in
    record { lower = rw (after_first bs) more; rest_lower = c.args.node.rest_lower }

pub put_lone-invariant_of-body : goal.put_lone-invariant_of-body
put_lone-invariant_of-body t c = record { lower = rw c.as_slice-ids.ensures c.args.node.lower }

pub put_lone-lowered-cond-requires : goal.put_lone-lowered-cond-requires
put_lone-lowered-cond-requires t c =
    let grows = grows_then c.in_ok-put_flat_block.ensures.grows c.in_ok-put_flat_block-2.ensures.grows in
    record { lowered = lowered_kept grows c.requires.lowered; place = omega (arith, c.args.node.there, c.requires.all) }

pub put_chain-invariant_of-body : goal.put_chain-invariant_of-body
put_chain-invariant_of-body t c =
    let body = body_at _ _ c.loop-branch.branch-index _ c.args.node.lower.below c.loop-branch-test.true in
    record { lower = record { within = c.args.node.lower.within; below = rw (c.as_slice-ids.ensures, c.branch-item.is) body } }

pub put_arms-invariant_of-body : goal.put_arms-invariant_of-body
put_arms-invariant_of-body t c =
    let body = arm_body_at _ _ c.loop-number.number _ c.args.node.lower.below c.loop-number-test.true in
    record { lower = record { within = c.args.node.lower.within; below = rw (c.as_slice-ids.ensures, c.index-arms-number.is) body } }

pub put_case-put_arms-requires : goal.put_case-put_arms-requires
put_case-put_arms-requires t c = (omega arith, c.requires)

pub put_if-invariant_of-lone : goal.put_if-invariant_of-lone
put_if-invariant_of-lone t c =
    let bs = c.args.node.branches.now in
    let some = some_item _ bs c.is_empty.ensures c.if-is_empty.false in
    record {
      there = rw c.index-branches-0.is (c.args.node.lower.conds 0 c.index-branches-0.result some);
      lower = record { within = c.args.node.lower.within; below = rw c.index-branches-0.is (body_at _ bs 0 _ c.args.node.lower.below some) };
      rest_lower = c.args.node.rest_lower;
    }

pub put_if-returns-then-branches-eq1 : goal.put_if-returns-then-branches-eq1
put_if-returns-then-branches-eq1 t c =
    let only = only_item c.args.node.branches.now _ (search rules) c.index-branches-0.is in
    on_ok_weaker c.put_lone.result (λ p. put_one_branch c.args.node.source.now.design c.args.node.line _ _ c.args.node.rest.now only p) c.put_lone.ensures

pub put_arms-lowered-on-requires : goal.put_arms-lowered-on-requires
put_arms-lowered-on-requires t c = record { lowered = c.requires.lowered; place = omega (arith, c.args.node.there, c.requires.all) }

pub put_otherwise-lowered-on-requires : goal.put_otherwise-lowered-on-requires
put_otherwise-lowered-on-requires t c = record { lowered = c.requires.lowered; place = omega (arith, c.args.node.there, c.requires.all) }

pub put_otherwise-invariant_of-keyed : goal.put_otherwise-invariant_of-keyed
put_otherwise-invariant_of-keyed t c = record { are = fresh_as (sym c.lowered-on.ensures.same) c.args.node.are }

pub put_case-invariant_of-arms : goal.put_case-invariant_of-arms
put_case-invariant_of-arms t c =
    record {
      there = c.args.node.there;
      are = rw c.as_slice-fresh.ensures (fresh_as c.lowered-on.ensures.same c.in_ok-fresh.ensures);
      lower = c.args.node.lower;
      rest_lower = c.args.node.rest_lower;
    }
