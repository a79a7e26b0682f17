-- Statements for one signal have lines for this signal alone, and at least one.
use Rattle.std.proofs.Common.{◌≡◌, ℕ, ◌<◌, ◌≤◌, Bool, true, false, ◌&&◌, nat_lt, nat_eq, List, [], ◌∷◌, ◌++◌, length, get_or, refl, sym, ap, ◌∙◌, arith, ne_eqb}
use Rattle.std.specs.Prelude.{Some}
use Rattle.std.proofs.lemmas.Bool.{and_parts, ltb-true}
use Rattle.lx_arena.proofs.Places.{by_places, lower_at}
use Rattle.lx_circuit.specs.Statements as tree
use Rattle.lx_fhdl.specs.Below.{StmtId, stmt_below, all_stmts_below, all_branches_below}
use Rattle.lx_fhdl.specs.Designs as design
use Rattle.lx_fhdl.specs.Drafts.{DraftKeeps}
use Rattle.lx_fhdl.specs.Lowered.{are_for, branches_are_for, is_for, is_lone}
use Rattle.lx_fhdl.specs.Stmts.{branches_at, node_stmt}
use Rattle.lx_fhdl.specs.declared.design.Design.{Design}
use Rattle.lx_fhdl.specs.declared.stmts.Branch.{Branch}
use Rattle.lx_fhdl.specs.declared.stmts.Stmt.{Stmt}
use Rattle.lx_fhdl.specs.declared.stmts.Stmt.TheVariants.{Assign, If, Case}
use Rattle.lx_fhdl.proofs.StmtTrees.{stmt_at-is}
use Rattle.lx_plain.specs.Lines.{Assigned, branch_lines, first_line, has_branch, inside, lines, lines_at, lines_in, under}
use Rattle.lx_plain.specs.Owned.{node_lines_of, tree_of}
use Rattle.lx_flat.specs.Puts.{branches_of}
use Rattle.lx_circuit.specs.Terms.{Term}
use Rattle.lx_lower.specs.Lists.{AreThere}
use Rattle.lx_plain.proofs.Lining.{lines_at-is, lines_under}
use Rattle.lx_plain.proofs.Puts.{target_others}

-- ---- no line for another signal

-- what holds of the statement at a place
abbrev NoLines : Design → ℕ → (ℕ → List Assigned) → ℕ → Type 0
NoLines d s f k = is_for s (design.stmt d k) ≡ true → f k ≡ []

-- inside a condition too
none_inside : (d : Design) (s : ℕ) (some : Bool) (line : ℕ) (f : ℕ → List Assigned) (k : ℕ) → NoLines d s f k → NoLines d s (inside some line f) k
none_inside d s true line f k h a = ap (under line) (h a)
none_inside d s false line f k h a = h a

in_others : (d : Design) (s n : ℕ) (f : ℕ → List Assigned) (ids : List StmtId) → ((j : ℕ) → j < n → NoLines d s f j) → all_stmts_below n ids ≡ true → are_for s (design.block d ids) ≡ true → lines_in f ids ≡ []
in_others d s n f [] h b a = refl
in_others d s n f (i ∷ is) h b a =
    let p = and_parts (nat_lt i.place n) (all_stmts_below n is) b in
    let q = and_parts (is_for s (design.stmt d i.place)) (are_for s (design.block d is)) a in
    ap (λ (xs : List Assigned). xs ++ lines_in f is) (h i.place (ltb-true i.place n p.0) q.0) ∙ in_others d s n f is h p.1 q.1

branches_others : (d : Design) (s n : ℕ) (f : ℕ → List Assigned) (bs : List Branch) → ((j : ℕ) → j < n → NoLines d s f j) → all_branches_below n bs ≡ true → branches_are_for s (branches_at (design.term d) (design.stmt d) bs) ≡ true → branch_lines f bs ≡ []
branches_others d s n f [] h b a = refl
branches_others d s n f (y ∷ more) h b a =
    let p = and_parts (all_stmts_below n y.body) (all_branches_below n more) b in
    let q = and_parts (are_for s (design.block d y.body)) (branches_are_for s (branches_at (design.term d) (design.stmt d) more)) a in
    ap (λ (xs : List Assigned). xs ++ branch_lines f more) (in_others d s n f y.body h p.0 q.0) ∙ branches_others d s n f more h p.1 q.1

node_others : (d : Design) (s x k : ℕ) (node : Stmt) → nat_eq s x ≡ false → ((j : ℕ) → j < k → NoLines d s (lines_at d x) j) → stmt_below node k ≡ true → is_for s (node_stmt (design.term d) (design.target d) (design.stmt d) node) ≡ true
    → node_lines_of d x node ≡ []
node_others d s x k (Assign target value line) e h b a = target_others s x line (design.target d target.place) a e
node_others d s x k (If branches rest line) e h b a =
    let bs = branches_at (design.term d) (design.stmt d) branches in
    let r = design.block d rest in
    let p = and_parts (all_branches_below k branches) (all_stmts_below k rest) b in
    let q = and_parts (branches_are_for s bs) (are_for s r) (and_parts (is_lone bs r) (branches_are_for s bs && are_for s r) a).1 in
    let f = inside (has_branch branches) line (lines_at d x) in
    let none = λ (j : ℕ) (l : j < k). none_inside d s (has_branch branches) line (lines_at d x) j (h j l) in
    ap (λ (xs : List Assigned). xs ++ lines_in f rest) (branches_others d s k f branches none p.0 q.0) ∙ in_others d s k f rest none p.1 q.1
node_others d s x k (Case on arms rest line) e h b a = absurd (cc)

stmt_others : (d : Design) (s x : ℕ) → DraftKeeps d → nat_eq s x ≡ false → (k : ℕ) → k < length d.stmts → NoLines d s (lines_at d x) k
stmt_others d s x keep e = by_places (NoLines d s (lines_at d x)) d.stmts (λ k node found below alone.
    let low = keep.arenas.stmts_lower in
    let tree = stmt_at-is (design.term d) (design.target d) d.stmts low k node found in
    lines_at-is d x k node low found ∙ node_others d s x k node e below (lower_at stmt_below d.stmts low k node found) (sym (ap (is_for s) tree) ∙ alone))

pub block_others : (d : Design) (s x : ℕ) (ids : List StmtId) → DraftKeeps d → AreThere d ids → are_for s (design.block d ids) ≡ true → (s ≡ x → ⊥) → lines d x ids ≡ []
block_others d s x ids keep there alone apart = in_others d s (length d.stmts) (lines_at d x) ids (λ j l. stmt_others d s x keep (ne_eqb s x apart) j l) (search there) alone

-- ---- the first line

first_left : (a b : List Assigned) (line : ℕ) → first_line a ≡ Some line → first_line (a ++ b) ≡ Some line
first_left [] b line h = absurd (cc)
first_left (l ∷ ls) b line h = h

-- under a condition too
first_under : (line : ℕ) (ls : List Assigned) → first_line (under line ls) ≡ first_line ls
first_under line [] = refl
first_under line (l ∷ ls) = refl

first_inside : (some : Bool) (line : ℕ) (f : ℕ → List Assigned) (ids : List StmtId) → first_line (lines_in (inside some line f) ids) ≡ first_line (lines_in f ids)
first_inside true line f ids = ap first_line (lines_under line f ids) ∙ first_under line (lines_in f ids)
first_inside false line f ids = refl

-- of the first statement
pub first_in : (f : ℕ → List Assigned) (ids : List StmtId) (i : StmtId) (line : ℕ) → 0 < length ids → first_line (f (get_or ids 0 i).place) ≡ Some line → first_line (lines_in f ids) ≡ Some line
first_in f [] i line l h = absurd (omega arith)
first_in f (j ∷ is) i line l h = first_left (f j.place) (lines_in f is) line h

-- of the first branch
first_of : (f : ℕ → List Assigned) (bs : List Branch) (b : Branch) (rest : List Assigned) (line : ℕ) → 0 < length bs → first_line (lines_in f (get_or bs 0 b).body) ≡ Some line → first_line (branch_lines f bs ++ rest) ≡ Some line
first_of f [] b rest line l h = absurd (omega arith)
first_of f (x ∷ more) b rest line l h =
    first_left (branch_lines f (x ∷ more)) rest line (first_left (lines_in f x.body) (branch_lines f more) line h)

-- of a condition: that of its branch, or of the rest where the branch has no statements
pub then_first : (d : Design) (x : ℕ) (ls : List Assigned) (node : Stmt) (bs shown : List Branch) (rest ids : List StmtId) (l line : ℕ) (b e : Branch) → ls ≡ node_lines_of d x node → node ≡ If bs rest l
    → shown ≡ bs → 1 ≤ length shown → b ≡ get_or shown 0 e → ids ≡ b.body → first_line (lines d x ids) ≡ Some line → first_line ls ≡ Some line
then_first d x ls node bs shown rest ids l line b e p q same some item body h =
    let f = inside (has_branch shown) l (lines_at d x) in
    let here : first_line (lines_in f (get_or shown 0 e).body) ≡ Some line =
    ap (λ (is : List StmtId). first_line (lines_in f is)) (sym (body ∙ ap (λ (y : Branch). y.body) item)) ∙ first_inside (has_branch shown) l (lines_at d x) ids ∙ h in
    let all : first_line (branch_lines f shown ++ lines_in f rest) ≡ Some line = first_of f shown e (lines_in f rest) line (omega (arith, some)) here in
    rw (p, q, ← same) all

-- the first branch has no statements, or there is none
abbrev pub NoFirst : List Branch → Type 0
NoFirst [] = Unit {0}
NoFirst (b ∷ bs) = b.body ≡ []

pub none_first : (bs shown : List Branch) → shown ≡ bs → length shown < 1 → NoFirst bs
none_first [] shown e l = tt
none_first (b ∷ bs) shown e l = absurd (omega (arith, ap length e, l))

none_there : (is : List StmtId) → length is ≡ 0 → is ≡ []
none_there [] e = refl
none_there (i ∷ is) e = absurd (omega arith)

pub empty_first : (bs shown : List Branch) (b d : Branch) → shown ≡ bs → b ≡ get_or shown 0 d → length b.body ≡ 0 → NoFirst bs
empty_first [] shown b d e item h = tt
empty_first (y ∷ ys) shown b d e item h =
    let own : b ≡ y = item ∙ ap (λ (bs : List Branch). get_or bs 0 d) e in
    none_there y.body (ap (λ (z : Branch). length z.body) (sym own) ∙ h)

no_lines : (f : ℕ → List Assigned) (t : ℕ → Term) (g : ℕ → tree.Stmt) (bs : List Branch) (r : tree.Block) → is_lone (branches_at t g bs) r ≡ true → NoFirst bs → branch_lines f bs ≡ []
no_lines f t g [] r a e = absurd cc
no_lines f t g (b ∷ []) r a e = ap (λ (is : List StmtId). lines_in f is ++ []) e
no_lines f t g (b ∷ c ∷ bs) r a e = absurd cc

pub else_first : (d : Design) (x : ℕ) (ls : List Assigned) (s : tree.Stmt) (node : Stmt) (bs : List Branch) (rest : List StmtId) (l line : ℕ) → ls ≡ node_lines_of d x node → s ≡ tree_of d node → is_for x s ≡ true → node ≡ If bs rest l → NoFirst bs
    → (ids : List StmtId) → ids ≡ rest → first_line (lines d x ids) ≡ Some line → first_line ls ≡ Some line
else_first d x ls s node bs rest l line e p a q none ids same h =
    let alone : is_for x (tree_of d (If bs rest l)) ≡ true = ap (λ (n : Stmt). is_for x (tree_of d n)) (sym q) ∙ ap (is_for x) (sym p) ∙ a in
    let lone = and_parts (is_lone (branches_of d bs) (design.block d rest)) _ alone in
    let gone = no_lines (inside (has_branch bs) l (lines_at d x)) (design.term d) (design.stmt d) bs (design.block d rest) lone.0 none in
    rw (e, q, gone, ← same) (first_inside (has_branch bs) l (lines_at d x) ids ∙ h)
