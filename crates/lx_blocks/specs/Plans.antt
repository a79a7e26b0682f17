-- The statements of a plan.
use Rattle.std.specs.Prelude.{ℕ, Bool, List, Option, slice_get}
use Rattle.lx_vtext.specs.Tree.{VTarget, Whole, VStmt, Assign, When, VBlock, EndBlock}
use Rattle.lx_fhdl.specs.Below.{ExprId, TargetId, StmtId}
use Rattle.lx_fhdl.specs.declared.stmts.Target.{Target}
use Rattle.lx_fhdl.specs.declared.stmts.Branch.{Branch}
use Rattle.lx_emission.specs.Signals.{domain_reset, reset_block}
use Rattle.lx_emission.specs.Texts.{block_onto, else_text, stmt_text, target_text}
use Rattle.lx_sheet.specs.Plans.{Plan, net_in, operand_in, reset_in}

abbrev pub target_in : Plan → Option Target → VTarget
target_in p t = target_text p.design p.names t

abbrev pub stmt_in : Plan → Bool → ℕ → VStmt
stmt_in p now k = stmt_text p.design p.names now k

-- ---- statements

-- an assignment
abbrev pub assign_in : Plan → Bool → TargetId → ExprId → VStmt
assign_in p now target value = Assign (target_in p (slice_get p.design.targets target.place)) now (operand_in p value.place)

-- a branch, and the rest behind an `else`
abbrev pub when_in : Plan → Bool → Branch → List StmtId → VStmt
when_in p now branch rest = When (operand_in p branch.cond.place) (block_onto (stmt_in p now) branch.body EndBlock) (else_text (stmt_in p now) rest)

-- the assignment of its reset value to a signal
abbrev pub reset_assign_in : Plan → Bool → ℕ → VStmt
reset_assign_in p now x = Assign (Whole (net_in p x)) now (reset_in p x)

-- the reset of a signal in a domain, as the end of a block
abbrev pub reset_block_in : Plan → ℕ → ℕ → VBlock
reset_block_in p x k = reset_block p.design p.names x (domain_reset (slice_get p.design.domains k))
