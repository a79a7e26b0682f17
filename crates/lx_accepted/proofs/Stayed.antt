-- Statements that stay drive what they did; and what statements drive has their driver.
use Rattle.std.proofs.Common.{◌≡◌, ℕ, ◌<◌, true, List, [], ◌∷◌, ◌++◌, length, append_assoc, refl, sym, ap, subst, ◌∙◌, nat_lt}
use Rattle.std.specs.Prelude.{map}
use Rattle.std.proofs.lemmas.Bool.{and_parts, ltb-true}
use Rattle.std.proofs.lemmas.Option.{slice_get_within}
use Rattle.lx_arena.specs.Folds.{Same}
use Rattle.lx_arena.proofs.Places.{by_places, lower_at}
use Rattle.lx_fhdl.specs.Below.{StmtId, all_arms_below, all_branches_below, all_stmts_below, stmt_below}
use Rattle.lx_fhdl.specs.Designs.{target}
use Rattle.lx_fhdl.specs.Drafts.{Stays}
use Rattle.lx_fhdl.specs.Keeping.{EachOf, Keeps, StmtStands}
use Rattle.lx_fhdl.specs.declared.design.Design.{Design}
use Rattle.lx_fhdl.specs.declared.stmts.Arm.{Arm}
use Rattle.lx_fhdl.specs.declared.stmts.Branch.{Branch}
use Rattle.lx_fhdl.specs.declared.stmts.Stmt.{Stmt}
use Rattle.lx_fhdl.specs.declared.stmts.Stmt.TheVariants as stmt
use Rattle.lx_circuit.specs.Statements as tree
use Rattle.lx_reads.specs.Drivings.{Driving, arm_drivings, assign_drivings, branch_drivings, driving, drivings_at, drivings_in, drivings_of, node_drivings, target_signals}
use Rattle.lx_reads.proofs.Drivings.{arm_same, branch_same, drivings_at-is, in_same}

-- ---- lists

pub in_both : (f : ℕ → List Driving) (is js : List StmtId) → drivings_in f (is ++ js) ≡ drivings_in f is ++ drivings_in f js
in_both f [] js = refl
in_both f (i ∷ is) js = ap (λ (l : List Driving). f i.place ++ l) (in_both f is js) ∙ sym (append_assoc (f i.place) (drivings_in f is) (drivings_in f js))

each_both : (P : Driving → Type 0) (xs ys : List Driving) → EachOf P xs → EachOf P ys → EachOf P (xs ++ ys)
each_both P [] ys g h = h
each_both P (x ∷ xs) ys g h = (g.0, each_both P xs ys g.1 h)

-- ---- statements that stay

stayed_node : (d p : Design) (driver k : ℕ) (x : Stmt) → Stays d p → StmtStands (length d.exprs) (length d.targets) x → stmt_below x k ≡ true → Same (drivings_at p driver) (drivings_at d driver) k
    → node_drivings p driver (drivings_at p driver) x ≡ node_drivings d driver (drivings_at d driver) x
stayed_node d p driver k (stmt.Assign t value line) stays h low same = ap (λ (u : tree.Target). assign_drivings driver line u) (stays.target_trees t.place h.0)
stayed_node d p driver k (stmt.If branches rest line) stays h low same =
    let both = and_parts (all_branches_below k branches) (all_stmts_below k rest) low in
    ap (λ (l : List Driving). l ++ drivings_of p driver rest) (branch_same (drivings_at p driver) (drivings_at d driver) k branches same both.0)
    ∙ ap (λ (l : List Driving). branch_drivings (drivings_at d driver) branches ++ l) (in_same (drivings_at p driver) (drivings_at d driver) k rest same both.1)
stayed_node d p driver k (stmt.Case on arms rest line) stays h low same =
    let both = and_parts (all_arms_below k arms) (all_stmts_below k rest) low in
    ap (λ (l : List Driving). l ++ drivings_of p driver rest) (arm_same (drivings_at p driver) (drivings_at d driver) k arms same both.0)
    ∙ ap (λ (l : List Driving). arm_drivings (drivings_at d driver) arms ++ l) (in_same (drivings_at p driver) (drivings_at d driver) k rest same both.1)

stayed_at : (d p : Design) (driver : ℕ) → Keeps d → Keeps p → Stays d p → (k : ℕ) → k < length d.stmts → drivings_at p driver k ≡ drivings_at d driver k
stayed_at d p driver keeps grown stays =
    by_places (λ (k : ℕ). drivings_at p driver k ≡ drivings_at d driver k) d.stmts
    (λ k x e below.
    drivings_at-is p driver k x grown.arenas.stmts_lower (stays.stmt_nodes k (slice_get_within d.stmts k x e) ∙ e)
    ∙ stayed_node d p driver k x stays (keeps.arenas.stmts k x e) (lower_at stmt_below d.stmts keeps.arenas.stmts_lower k x e) below
    ∙ sym (drivings_at-is d driver k x keeps.arenas.stmts_lower e))

pub stayed : (d p : Design) (driver : ℕ) (ids : List StmtId) → Keeps d → Keeps p → Stays d p → all_stmts_below (length d.stmts) ids ≡ true → drivings_of p driver ids ≡ drivings_of d driver ids
stayed d p driver ids keeps grown stays e = in_same (drivings_at p driver) (drivings_at d driver) (length d.stmts) ids (stayed_at d p driver keeps grown stays) e

-- ---- drivers

-- all have this driver
abbrev pub HaveDriver : ℕ → List Driving → Type 0
HaveDriver m all = EachOf (λ (a : Driving). a.driver ≡ m) all

abbrev HaveBelow : Design → ℕ → ℕ → Type 0
HaveBelow d driver n = (k : ℕ) → k < n → HaveDriver driver (drivings_at d driver k)

abbrev has_driver : ℕ → Driving → Type 0
has_driver driver a = a.driver ≡ driver

of_signals : (driver line : ℕ) (xs : List ℕ) → HaveDriver driver (map (driving driver line) xs)
of_signals driver line [] = tt
of_signals driver line (x ∷ xs) = (refl, of_signals driver line xs)

of_list : (d : Design) (driver n : ℕ) (ids : List StmtId) → HaveBelow d driver n → all_stmts_below n ids ≡ true → HaveDriver driver (drivings_of d driver ids)
of_list d driver n [] h e = tt
of_list d driver n (i ∷ is) h e =
    let both = and_parts (nat_lt i.place n) (all_stmts_below n is) e in
    each_both (has_driver driver) (drivings_at d driver i.place) (drivings_of d driver is) (h i.place (ltb-true i.place n both.0)) (of_list d driver n is h both.1)

of_branches : (d : Design) (driver n : ℕ) (bs : List Branch) → HaveBelow d driver n → all_branches_below n bs ≡ true → HaveDriver driver (branch_drivings (drivings_at d driver) bs)
of_branches d driver n [] h e = tt
of_branches d driver n (b ∷ bs) h e =
    let both = and_parts (all_stmts_below n b.body) (all_branches_below n bs) e in
    each_both (has_driver driver) (drivings_of d driver b.body) (branch_drivings (drivings_at d driver) bs) (of_list d driver n b.body h both.0) (of_branches d driver n bs h both.1)

of_arms : (d : Design) (driver n : ℕ) (arms : List Arm) → HaveBelow d driver n → all_arms_below n arms ≡ true → HaveDriver driver (arm_drivings (drivings_at d driver) arms)
of_arms d driver n [] h e = tt
of_arms d driver n (a ∷ arms) h e =
    let both = and_parts (all_stmts_below n a.body) (all_arms_below n arms) e in
    each_both (has_driver driver) (drivings_of d driver a.body) (arm_drivings (drivings_at d driver) arms) (of_list d driver n a.body h both.0) (of_arms d driver n arms h both.1)

of_node : (d : Design) (driver n : ℕ) (x : Stmt) → HaveBelow d driver n → stmt_below x n ≡ true → HaveDriver driver (node_drivings d driver (drivings_at d driver) x)
of_node d driver n (stmt.Assign t value line) h e = of_signals driver line (target_signals (target d t.place))
of_node d driver n (stmt.If branches rest line) h e =
    let both = and_parts (all_branches_below n branches) (all_stmts_below n rest) e in
    each_both (has_driver driver) (branch_drivings (drivings_at d driver) branches) (drivings_of d driver rest) (of_branches d driver n branches h both.0) (of_list d driver n rest h both.1)
of_node d driver n (stmt.Case on arms rest line) h e =
    let both = and_parts (all_arms_below n arms) (all_stmts_below n rest) e in
    each_both (has_driver driver) (arm_drivings (drivings_at d driver) arms) (drivings_of d driver rest) (of_arms d driver n arms h both.0) (of_list d driver n rest h both.1)

of_places : (d : Design) (driver : ℕ) → Keeps d → HaveBelow d driver (length d.stmts)
of_places d driver keeps =
    by_places (λ (k : ℕ). HaveDriver driver (drivings_at d driver k)) d.stmts
    (λ k x e below.
    subst (HaveDriver driver) (sym (drivings_at-is d driver k x keeps.arenas.stmts_lower e))
    (of_node d driver k x below (lower_at stmt_below d.stmts keeps.arenas.stmts_lower k x e)))

pub have_driver : (d : Design) (driver : ℕ) (ids : List StmtId) → Keeps d → all_stmts_below (length d.stmts) ids ≡ true → HaveDriver driver (drivings_of d driver ids)
have_driver d driver ids keeps e = of_list d driver (length d.stmts) ids (of_places d driver keeps) e
