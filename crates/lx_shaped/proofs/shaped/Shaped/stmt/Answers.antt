use Rattle.std.proofs.Common.{sym, ◌∙◌}
use Rattle.lx_shaped.proofs.Additions.{can_add_stmt}
use Rattle.lx_shaped.proofs.Calls.{stmt_made, stmt_misplaced}
use Rattle.lx_shaped.proofs.Growing.{sizes_stmt}
use Rattle.lx_shaped.proofs.shaped.Shaped.stmt.Goals as goal

pub returns-then-not-stmt_in-clause-ok : goal.returns-then-not-stmt_in-clause-ok
returns-then-not-stmt_in-clause-ok c = stmt_misplaced c.args.node c.args.self.now (sym c.stmt_in.ensures ∙ c.if-not-stmt_in.true)

pub push_stmt-requires : goal.push_stmt-requires
push_stmt-requires c = can_add_stmt c.args.node c.self.inside.draft (rw (← c.self.view_is) at (sym c.stmt_in.ensures ∙ c.if-not-stmt_in.false))

pub invariant_of-self-2 : goal.invariant_of-self-2
invariant_of-self-2 c = sizes_stmt c.self.inside.draft c.push_stmt.new.self c.args.node c.in_ok-id.id.place c.self.inside.shapes c.self.inside.bits c.self.invariant c.in_ok-id.ensures.ok

pub returns-clause-ok : goal.returns-clause-ok
returns-clause-ok c =
    rw (← c.self.view_is) (stmt_made c.args.node c.self.inside.draft c.push_stmt.new.self c.in_ok-id.id (rw (← c.self.view_is) at (sym c.stmt_in.ensures ∙ c.if-not-stmt_in.false)) c.in_ok-id.ensures.ok)
