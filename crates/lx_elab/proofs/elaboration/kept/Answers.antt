use Rattle.std.proofs.Common.{rules}
use Rattle.lx_elab.proofs.Same.{bodies_hold, design_holds, design_passes}
use Rattle.lx_elab.proofs.elaboration.kept.Goals as goal

pub returns-clause-keeps : goal.returns-clause-keeps
returns-clause-keeps c =
    let passes = c.if-not-branch.false in
    design_holds c.args.description c.in_ok-keeps.field-0 c.in_ok-keeps.ensures (search (rules, passes))

pub returns-clause-bodies : goal.returns-clause-bodies
returns-clause-bodies c =
    let passes = c.if-not-branch.false in
    bodies_hold c.args.description c.in_ok-keeps.field-0 c.in_ok-keeps.ensures (search (rules, passes))

pub returns-clause-design : goal.returns-clause-design
returns-clause-design c =
    let passes = c.if-not-branch.false in
    design_passes c.args.description c.in_ok-keeps.field-0 c.in_ok-keeps.ensures (search (rules, passes))
