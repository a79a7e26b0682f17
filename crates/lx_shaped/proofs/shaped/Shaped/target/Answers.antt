use Rattle.std.proofs.Common.{sym, ◌∙◌}
use Rattle.lx_shaped.proofs.Calls.{target_made, target_faulty, target_misplaced}
use Rattle.lx_shaped.proofs.shaped.Shaped.target.Goals as goal

pub returns-then-not-target_in-clause-ok : goal.returns-then-not-target_in-clause-ok
returns-then-not-target_in-clause-ok c = target_misplaced c.args.node c.args.self.now (sym c.target_in.ensures ∙ c.if-not-target_in.true)

pub returns-in_ok-id-in-Ok-clause-ok : goal.returns-in_ok-id-in-Ok-clause-ok
returns-in_ok-id-in-Ok-clause-ok c =
    target_made c.args.node c.args.self.now c.push_target.new.self c.in-Ok.bits c.in_ok-id-in-Ok.id (sym c.target_in.ensures ∙ c.if-not-target_in.false)
    (rw c.target_width.ensures at c.in-Ok.ensures) c.in_ok-id-in-Ok.ensures.ok

pub returns-in-Err-clause-ok : goal.returns-in-Err-clause-ok
returns-in-Err-clause-ok c =
    target_faulty c.args.node c.args.self.now c.in-Err.fault (sym c.target_in.ensures ∙ c.if-not-target_in.false) (rw c.target_width.ensures at c.in-Err.ensures)
