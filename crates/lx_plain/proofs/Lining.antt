-- The lines of statements stay while a draft grows.
use Rattle.std.proofs.Common.{◌≡◌, ℕ, ◌<◌, Bool, true, false, nat_lt, List, [], ◌∷◌, ◌++◌, length, refl, sym, ap, ◌∙◌}
use Rattle.std.specs.Prelude.{Some, slice_get}
use Rattle.std.proofs.lemmas.Bool.{and_parts, ltb-true}
use Rattle.std.proofs.lemmas.List.{map-append}
use Rattle.std.proofs.lemmas.Option.{slice_get_within}
use Rattle.lx_num.specs.declared.Shape.{Shape}
use Rattle.lx_arena.specs.Folds.{IsLocal, Same}
use Rattle.lx_arena.specs.Lower.{EachLower}
use Rattle.lx_arena.proofs.Folds.{fold_at-is}
use Rattle.lx_arena.proofs.Places.{by_places, lower_at}
use Rattle.lx_circuit.specs.Shapes.{Shapes, shape_of}
use Rattle.lx_circuit.specs.Statements as tree
use Rattle.lx_fhdl.specs.Below.{StmtId, stmt_below, all_stmts_below, all_branches_below, all_arms_below}
use Rattle.lx_fhdl.specs.Designs.{shapes, term}
use Rattle.lx_fhdl.specs.Drafts.{DraftKeeps, Stays}
use Rattle.lx_fhdl.specs.Keeping.{StmtStands}
use Rattle.lx_fhdl.specs.declared.design.Design.{Design}
use Rattle.lx_fhdl.specs.declared.stmts.Arm.{Arm}
use Rattle.lx_fhdl.specs.declared.stmts.Branch.{Branch}
use Rattle.lx_fhdl.specs.declared.stmts.Stmt.{Stmt}
use Rattle.lx_fhdl.specs.declared.stmts.Stmt.TheVariants.{Assign, If, Case}
use Rattle.lx_plain.specs.Lines.{Assigned, arm_lines, assigned_by, branch_lines, expr_shape, has_branch, has_key, inside, lines_at, lines_in, node_lines, target_lines, under, within}
use Rattle.lx_plain.proofs.Sound.{same_shapes}

-- ---- under a condition

pub under_append : (line : ℕ) (a b : List Assigned) → under line (a ++ b) ≡ under line a ++ under line b
under_append line a b = map-append (within line) a b

pub lines_under : (line : ℕ) (f : ℕ → List Assigned) (is : List StmtId) → lines_in (inside true line f) is ≡ under line (lines_in f is)
lines_under line f [] = refl
lines_under line f (i ∷ is) = ap (λ (xs : List Assigned). under line (f i.place) ++ xs) (lines_under line f is) ∙ sym (under_append line (f i.place) (lines_in f is))

-- ---- the same lines below a place

inside_same : (some : Bool) (line : ℕ) (f g : ℕ → List Assigned) (n : ℕ) → Same f g n → Same (inside some line f) (inside some line g) n
inside_same true line f g n h k l = ap (under line) (h k l)
inside_same false line f g n h k l = h k l

in_same : (f g : ℕ → List Assigned) (n : ℕ) (is : List StmtId) → Same f g n → all_stmts_below n is ≡ true → lines_in f is ≡ lines_in g is
in_same f g n [] h b = refl
in_same f g n (i ∷ is) h b =
    let p = and_parts (nat_lt i.place n) (all_stmts_below n is) b in
    ap (λ (xs : List Assigned). xs ++ lines_in f is) (h i.place (ltb-true i.place n p.0)) ∙ ap (λ (xs : List Assigned). g i.place ++ xs) (in_same f g n is h p.1)

branches_same : (f g : ℕ → List Assigned) (n : ℕ) (bs : List Branch) → Same f g n → all_branches_below n bs ≡ true → branch_lines f bs ≡ branch_lines g bs
branches_same f g n [] h b = refl
branches_same f g n (x ∷ more) h b =
    let p = and_parts (all_stmts_below n x.body) (all_branches_below n more) b in
    ap (λ (xs : List Assigned). xs ++ branch_lines f more) (in_same f g n x.body h p.0) ∙ ap (λ (xs : List Assigned). lines_in g x.body ++ xs) (branches_same f g n more h p.1)

arms_same : (f g : ℕ → List Assigned) (n : ℕ) (arms : List Arm) → Same f g n → all_arms_below n arms ≡ true → arm_lines f arms ≡ arm_lines g arms
arms_same f g n [] h b = refl
arms_same f g n (x ∷ more) h b =
    let p = and_parts (all_stmts_below n x.body) (all_arms_below n more) b in
    ap (λ (xs : List Assigned). xs ++ arm_lines f more) (in_same f g n x.body h p.0) ∙ ap (λ (xs : List Assigned). lines_in g x.body ++ xs) (arms_same f g n more h p.1)

local : (t : ℕ → ℕ → List Assigned) (s : ℕ → Shape) → IsLocal stmt_below (node_lines t s)
local t s = record { same = same }
  where
    same : (f g : ℕ → List Assigned) (n : ℕ) (x : Stmt) → Same f g n → stmt_below x n ≡ true → node_lines t s f x ≡ node_lines t s g x
    same f g n (Assign target value line) h b = refl
    same f g n (If branches rest line) h b =
        let p = and_parts (all_branches_below n branches) (all_stmts_below n rest) b in
        let c = has_branch branches in
        let each = inside_same c line f g n h in
        ap (λ (xs : List Assigned). xs ++ lines_in (inside c line f) rest) (branches_same (inside c line f) (inside c line g) n branches each p.0)
        ∙ ap (λ (xs : List Assigned). branch_lines (inside c line g) branches ++ xs) (in_same (inside c line f) (inside c line g) n rest each p.1)
    same f g n (Case on arms rest line) h b =
        let p = and_parts (all_arms_below n arms) (all_stmts_below n rest) b in
        let c = has_key (s on.place) arms in
        ap (λ (xs : List Assigned). xs ++ lines_in (inside c line f) rest) (arms_same (inside true line f) (inside true line g) n arms (inside_same true line f g n h) p.0)
        ∙ ap (λ (xs : List Assigned). arm_lines (inside true line g) arms ++ xs) (in_same (inside c line f) (inside c line g) n rest (inside_same c line f g n h) p.1)

-- of a node, where its target has the same ones and its expression the same shape
there_same : (t u : ℕ → ℕ → List Assigned) (r s : ℕ → Shape) (f : ℕ → List Assigned) (m k : ℕ) (x : Stmt) → ((j line : ℕ) → j < m → t j line ≡ u j line) → ((j : ℕ) → j < k → r j ≡ s j) → StmtStands k m x
    → node_lines t r f x ≡ node_lines u s f x
there_same t u r s f m k (Assign target value line) h i stands = h target.place line stands.0
there_same t u r s f m k (If branches rest line) h i stands = refl
there_same t u r s f m k (Case on arms rest line) h i stands = ap (λ (a : Shape). arm_lines (inside true line f) arms ++ lines_in (inside (has_key a arms) line f) rest) (i on.place stands)

-- the lines at a place are those of its node
pub lines_at-is : (d : Design) (x k : ℕ) (node : Stmt) → EachLower stmt_below d.stmts → slice_get d.stmts k ≡ Some node → lines_at d x k ≡ node_lines (assigned_by d x) (expr_shape d) (lines_at d x) node
unfolding lines_at
lines_at-is d x k node low e = fold_at-is stmt_below [] (node_lines (assigned_by d x) (expr_shape d)) (local (assigned_by d x) (expr_shape d)) d.stmts low k node e

-- those of a node that stands in a draft stay while it grows
pub node_stays : (x y : Design) (s n : ℕ) (node : Stmt) → y.signals ≡ x.signals → Stays x y → Same (lines_at y s) (lines_at x s) n → stmt_below node n ≡ true → StmtStands (length x.exprs) (length x.targets) node
    → node_lines (assigned_by y s) (expr_shape y) (lines_at y s) node ≡ node_lines (assigned_by x s) (expr_shape x) (lines_at x s) node
node_stays x y s n node same g h below stands =
    let targets = λ (j : ℕ) (line : ℕ) (l : j < length x.targets). ap (λ (t : tree.Target). target_lines t line s) (g.target_trees j l) in
    let exprs = λ (j : ℕ) (l : j < length x.exprs). ap (λ (a : Shapes). shape_of a (term y j)) (same_shapes x y same) ∙ ap (shape_of (shapes x)) (g.terms j l) in
    there_same (assigned_by y s) (assigned_by x s) (expr_shape y) (expr_shape x) (lines_at y s) (length x.targets) (length x.exprs) node targets exprs stands
    ∙ (local (assigned_by x s) (expr_shape x)).same (lines_at y s) (lines_at x s) n node h below

-- the lines at all places stay
pub lines_stay : (x y : Design) → DraftKeeps x → DraftKeeps y → y.signals ≡ x.signals → Stays x y → (s : ℕ) → (k : ℕ) → k < length x.stmts → lines_at y s k ≡ lines_at x s k
lines_stay x y h i same g s = by_places (λ k. lines_at y s k ≡ lines_at x s k) x.stmts (λ k node found below.
    let l : k < length x.stmts = slice_get_within x.stmts k node found in
    lines_at-is y s k node i.arenas.stmts_lower (g.stmt_nodes k l ∙ found)
    ∙ node_stays x y s k node same g below (lower_at stmt_below x.stmts h.arenas.stmts_lower k node found) (h.arenas.stmts k node found)
    ∙ sym (lines_at-is x s k node h.arenas.stmts_lower found))
