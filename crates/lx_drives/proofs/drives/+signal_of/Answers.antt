use Rattle.std.proofs.Common.{◌≡◌, ℕ, true, ◌∙◌, ap, arith, rules}
use Rattle.std.specs.Prelude.{Some}
use Rattle.lx_fhdl.specs.Designs.{stmt}
use Rattle.lx_fhdl.specs.Lowered.{is_for}
use Rattle.lx_drives.specs.Drives.{first_inside}
use Rattle.lx_sheet.proofs.Inside.{plain_assign, assign_for, no_case}
use Rattle.lx_drives.proofs.Inside.{if_there, if_below, if_plain, if_first}
use Rattle.lx_drives.proofs.drives.+signal_of.Goals as goal

pub signal_of_target-requires-clause-place : goal.signal_of_target-requires-clause-place
signal_of_target-requires-clause-place t c = rw (← c.lowered.view_is) ((c.lowered.invariant.keeps.arenas.stmts c.args.id.place _ (c.get.ensures.item ∙ ap Some c.in-Assign.is)).0)

pub signal_of_target-requires-clause-plain : goal.signal_of_target-requires-clause-plain
signal_of_target-requires-clause-plain t c =
    rw (← c.lowered.view_is) (plain_assign c.lowered.inside.design.now c.args.id.place c.in-Assign.target _ _ c.lowered.invariant.keeps (c.get.ensures.item ∙ ap Some c.in-Assign.is) (rw (← c.lowered.view_is) at c.requires.plain))

pub first_inside-requires : goal.first_inside-requires
first_inside-requires t c =
    rw (c.as_slice.ensures, c.as_slice-in-If.ensures)
    (if_there c.lowered.inside.design.now c.args.id.place c.in-If.branches c.in-If.rest _ c.lowered.invariant.keeps (c.get.ensures.item ∙ ap Some c.in-If.is) (rw (← c.lowered.view_is) at c.requires.plain))

first : (t : ℕ) (c : goal.After-first_inside t) → first_inside c.in-If.branches c.in-If.rest ≡ Some c.first_inside.result
first t c = rw (c.as_slice.ensures, c.as_slice-in-If.ensures) at c.first_inside.ensures

pub signal_of-requires : goal.signal_of-requires
signal_of-requires t c =
    let below = if_below c.lowered.inside.design.now c.args.id.place c.in-If.branches c.in-If.rest _ c.first_inside.result c.lowered.invariant.keeps (c.get.ensures.item ∙ ap Some c.in-If.is) (first t c) in
    (search rules, (omega arith, rw (← c.lowered.view_is) (if_plain c.lowered.inside.design.now c.args.id.place c.in-If.branches c.in-If.rest _ c.first_inside.result c.lowered.invariant.keeps (c.get.ensures.item ∙ ap Some c.in-If.is) (first t c) (rw (← c.lowered.view_is) at c.requires.plain))))

pub unreachable-requires : goal.unreachable-requires
unreachable-requires t c = no_case c.lowered.inside.design.now c.args.id.place c.in-Case.on c.in-Case.arms c.in-Case.rest _ c.lowered.invariant.keeps (c.get.ensures.item ∙ ap Some c.in-Case.is) (rw (← c.lowered.view_is) at c.requires.plain)

assigned : (t : ℕ) (c : goal.After-signal_of_target t) → is_for c.signal_of_target.result.0 (stmt c.lowered.inside.design.now c.args.id.place) ≡ true
assigned t c =
    assign_for c.lowered.inside.design.now c.args.id.place c.signal_of_target.result.0 c.in-Assign.target _ _ c.lowered.invariant.keeps (c.get.ensures.item ∙ ap Some c.in-Assign.is) ∙ (rw (← c.lowered.view_is) at c.signal_of_target.ensures.alone)

pub returns-in-Assign-clause-alone : goal.returns-in-Assign-clause-alone
returns-in-Assign-clause-alone t c = rw (← c.lowered.view_is) (assigned t c)

followed : (t : ℕ) (c : goal.After-signal_of t) → is_for c.signal_of.result.0 (stmt c.lowered.inside.design.now c.args.id.place) ≡ true
followed t c =
    if_first c.lowered.inside.design.now c.args.id.place c.signal_of.result.0 c.in-If.branches c.in-If.rest _ c.first_inside.result c.lowered.invariant.keeps (c.get.ensures.item ∙ ap Some c.in-If.is)
    (rw (c.as_slice.ensures, c.as_slice-in-If.ensures) at c.first_inside.ensures) (rw (← c.lowered.view_is) at c.requires.plain) (rw (← c.lowered.view_is) at c.signal_of.ensures.alone)

pub returns-in-If-clause-alone : goal.returns-in-If-clause-alone
returns-in-If-clause-alone t c = rw (← c.lowered.view_is) (followed t c)
