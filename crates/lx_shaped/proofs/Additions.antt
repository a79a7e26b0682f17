-- Nodes that pass the tests can be added.
use Rattle.std.proofs.Common.{◌≡◌, ℕ, ◌+◌, true, List, [], ◌∷◌, Option, Some, None, length, slice_get, nat_lt}
use Rattle.std.specs.Prelude.{IsSomeAnd}
use Rattle.std.specs.List.{list_all}
use Rattle.std.proofs.lemmas.Bool.{ltb-true, leb-true, eqb-true, and_parts, not-true}
use Rattle.lx_circuit.specs.Shapes.{Shapes}
use Rattle.lx_fhdl.specs.Below.{expr_below, target_below, stmt_below}
use Rattle.lx_fhdl.specs.Designs.{shapes}
use Rattle.lx_fhdl.specs.Drafts.{CanAddExpr, CanAddTarget, CanAddStmt}
use Rattle.lx_fhdl.specs.Keeping.{HasPlainIndex, NamesThere, TakesOperands, TargetStands, BranchesStand, StmtStands}
use Rattle.lx_fhdl.specs.Kept.{has_plain_index, has_width, names_there, takes_operands, has_parts, target_stands, stmt_stands}
use Rattle.lx_fhdl.specs.Nodes.{HasParts}
use Rattle.lx_fhdl.specs.declared.design.Design.{Design}
use Rattle.lx_fhdl.specs.declared.design.Memory.{Memory}
use Rattle.lx_fhdl.specs.declared.exprs.Expr.{Expr}
use Rattle.lx_fhdl.specs.declared.exprs.Expr.TheVariants.{Sig, Unary, Binary, Cat, Pick, Fetch}
use Rattle.lx_fhdl.specs.declared.stmts.Branch.{Branch}
use Rattle.lx_fhdl.specs.declared.stmts.Stmt.{Stmt}
use Rattle.lx_fhdl.specs.declared.stmts.Stmt.TheVariants as stmt
use Rattle.lx_fhdl.specs.declared.stmts.Target.{Target}
use Rattle.lx_fhdl.specs.declared.stmts.Target.TheVariants as target
use Rattle.lx_fhdl.proofs.Operators.{not_wide}
use Rattle.lx_width.specs.Width.{NamesBelow}
use Rattle.lx_shaped.specs.Making.{expr_fault, expr_stands, stmt_in, target_fault, target_in, target_width}

has_width-is : (width : ℕ) (o : Option Memory) → has_width width o ≡ true → IsSomeAnd o (λ m. width ≡ m.width)
has_width-is width (Some m) h = eqb-true width m.width h
has_width-is width None h = absurd (cc)

names_there-is : (n : ℕ) (ms : List Memory) (x : Expr) → names_there n ms x ≡ true → NamesThere n ms x
names_there-is n ms (Sig x) h = ltb-true x.0 n h
names_there-is n ms (Fetch memory width at) h = has_width-is width (slice_get ms memory) h
names_there-is n ms _ h = tt

takes_operands-is : (x : Expr) → takes_operands x ≡ true → TakesOperands x
takes_operands-is (Unary op of) h = h
takes_operands-is (Binary op left right) h = h
takes_operands-is _ h = tt

has_parts-is : (x : Expr) → has_parts x ≡ true → HasParts x
has_parts-is (Cat parts) h = ltb-true 0 (length parts) h
has_parts-is (Pick items index) h = ltb-true 0 (length items) h
has_parts-is _ h = tt

has_plain_index-is : (s : Shapes) (xs : List Expr) (x : Expr) → has_plain_index s xs x ≡ true → HasPlainIndex s xs x
has_plain_index-is s xs (Fetch memory width at) h = not-true _ h
has_plain_index-is s xs _ h = tt

target_stands-is : (s : Shapes) (n : ℕ) (xs : List Expr) (x : Target) → target_stands s n xs x ≡ true → TargetStands s n xs x
target_stands-is s n xs (target.Whole x) h = ltb-true x.0 n h
target_stands-is s n xs (target.Part x low len) h =
    let p = and_parts _ _ h in
    let q = and_parts _ _ p.1 in
    (ltb-true x.0 n p.0, leb-true 1 len q.0, leb-true (low + len) (s x.0).bits q.1)
target_stands-is s n xs (target.Cat parts) h = ltb-true 0 (length parts) h
target_stands-is s n xs (target.Pick items index) h =
    let p = and_parts _ _ h in
    let q = and_parts _ _ p.1 in
    (ltb-true 0 (length items) p.0, ltb-true index.place (length xs) q.0, not-true _ q.1)

branches_stand-is : (n : ℕ) (bs : List Branch) → list_all (λ (b : Branch). nat_lt b.cond.place n) bs ≡ true → BranchesStand n bs
branches_stand-is n [] h = tt
branches_stand-is n (b ∷ bs) h = let p = and_parts _ _ h in (ltb-true b.cond.place n p.0, branches_stand-is n bs p.1)

stmt_stands-is : (n m : ℕ) (x : Stmt) → stmt_stands n m x ≡ true → StmtStands n m x
stmt_stands-is n m (stmt.Assign target value line) h = let p = and_parts _ _ h in (ltb-true target.place m p.0, ltb-true value.place n p.1)
stmt_stands-is n m (stmt.If branches rest line) h = branches_stand-is n branches h
stmt_stands-is n m (stmt.Case on arms rest line) h = ltb-true on.place n h

-- ---- expressions

-- what the test says
pub record ExprStands (x : Expr) (d : Design) : Type 0 where
  pub below : expr_below x (length d.exprs) ≡ true
  pub operands : TakesOperands x
  pub parts : HasParts x
  pub named : NamesThere (length d.signals) d.memories x
  pub index : HasPlainIndex (shapes d) d.exprs x

pub expr_stands-is : (x : Expr) (d : Design) → expr_stands x d ≡ true → ExprStands x d
expr_stands-is x d h =
    let p = and_parts _ _ h in
    let q = and_parts _ _ p.1 in
    let r = and_parts _ _ q.1 in
    let last = and_parts _ _ r.1 in
    record { below = p.0; operands = takes_operands-is x q.0; parts = has_parts-is x r.0; named = names_there-is (length d.signals) d.memories x last.0; index = has_plain_index-is (shapes d) d.exprs x last.1 }

pub can_add_expr : (x : Expr) (d : Design) → expr_stands x d ≡ true → expr_fault x d ≡ None → CanAddExpr d x
can_add_expr x d h e =
    let p = expr_stands-is x d h in
    record { below = search p.below; shaped = e; operands = p.operands; parts = p.parts; named = p.named; index = p.index }

pub names_below : (n : ℕ) (ms : List Memory) (x : Expr) → NamesThere n ms x → NamesBelow n x
names_below n ms (Sig x) h = h
names_below n ms _ h = tt

-- ---- targets and statements

pub can_add_target : (x : Target) (d : Design) → target_in x d ≡ true → target_fault x d ≡ None → CanAddTarget d x
can_add_target x d h e =
    let p = and_parts (target_below x (length d.targets)) (target_stands (shapes d) (length d.signals) d.exprs x) h in
    record { below = search p.0; stands = target_stands-is (shapes d) (length d.signals) d.exprs x p.1; bits = not_wide (target_width x d) e }

pub can_add_stmt : (x : Stmt) (d : Design) → stmt_in x d ≡ true → CanAddStmt d x
can_add_stmt x d h =
    let p = and_parts (stmt_below x (length d.stmts)) (stmt_stands (length d.exprs) (length d.targets) x) h in
    record { below = search p.0; stands = stmt_stands-is (length d.exprs) (length d.targets) x p.1 }
