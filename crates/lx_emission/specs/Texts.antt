-- The text of statements.
use Rattle.std.specs.Prelude.{ℕ, Bool, List, [], ◌∷◌, Option, Some, ◌+◌, ◌-◌, ◌&&◌, nat_eq, slice_get, if◌then◌else◌}
use Rattle.lx_arena.specs.Folds.{fold_at}
use Rattle.lx_vtext.specs.Tree.{Name, VExpr, Net, VTarget, Whole, Part, VStmt, Assign, When, VElse, NoElse, Else, VBlock, EndBlock, InBlock}
use Rattle.lx_fhdl.specs.Below.{StmtId}
use Rattle.lx_fhdl.specs.Designs.{shapes}
use Rattle.lx_fhdl.specs.declared.stmts.Target.{Target}
use Rattle.lx_fhdl.specs.declared.stmts.Target.TheVariants as target
use Rattle.lx_fhdl.specs.declared.stmts.Branch.{Branch}
use Rattle.lx_fhdl.specs.declared.stmts.Stmt.{Stmt}
use Rattle.lx_fhdl.specs.declared.stmts.Stmt.TheVariants as stmt
use Rattle.lx_fhdl.specs.declared.design.Design.{Design}
use Rattle.lx_emission.specs.Naming.{net}
use Rattle.lx_emission.specs.Nodes.{operand}

-- the bits low to low + len - 1 are all of so many
abbrev pub covers : ℕ → ℕ → ℕ → Bool
covers bits low len = nat_eq low 0 && nat_eq len bits

-- a slice that covers its signal is the whole signal
abbrev pub target_text : Design → List Name → Option Target → VTarget
target_text d names (Some (target.Whole x)) = Whole (net names x.0)
target_text d names (Some (target.Part x low len)) =
    if covers (shapes d x.0).bits low len then Whole (net names x.0) else Part (net names x.0) (low + len - 1) low
target_text d names _ = Whole []

-- the statements at these places, and then those of the end
abbrev pub block_onto : (ℕ → VStmt) → List StmtId → VBlock → VBlock
block_onto g [] end = end
block_onto g (i ∷ is) end = InBlock (g i.place) (block_onto g is end)

abbrev pub else_text : (ℕ → VStmt) → List StmtId → VElse
else_text g [] = NoElse
else_text g (i ∷ is) = Else (block_onto g (i ∷ is) EndBlock)

-- what stands where there is no statement
abbrev pub no_text : VStmt
no_text = When (Net []) EndBlock NoElse

abbrev pub if_text : (ℕ → VExpr) → (ℕ → VStmt) → List Branch → List StmtId → VStmt
if_text o g [] rest = no_text
if_text o g (b ∷ bs) rest = When (o b.cond.place) (block_onto g b.body EndBlock) (else_text g rest)

-- the text of a statement, from the texts of the statements inside: with `=` where it acts at once, else with `<=`
abbrev pub node_stmt_text : Design → List Name → Bool → (ℕ → VStmt) → Stmt → VStmt
node_stmt_text d names now g (stmt.Assign target value line) =
    Assign (target_text d names (slice_get d.targets target.place)) now (operand d names value.place)
node_stmt_text d names now g (stmt.If branches rest line) = if_text (operand d names) g branches rest
node_stmt_text d names now g (stmt.Case on arms rest line) = no_text

-- the text of the statement at a place
unfoldable pub stmt_text : Design → List Name → Bool → ℕ → VStmt
stmt_text d names now k = fold_at no_text (node_stmt_text d names now) d.stmts k
