-- What is put for the statements of states.
use Rattle.std.proofs.Common.{◌≡◌, ℕ, Bool, ◌+◌, ◌<◌, ◌≤◌, true, false, ◌&&◌, List, [], ◌∷◌, ◌++◌, cond, drop, get_or, length, nat_eq, refl, sym, ap, subst, ◌∙◌, arith}
use Rattle.std.specs.Prelude.{Some, map, slice_get, IsTrue}
use Rattle.lx_circuit.specs.Statements as tree
use Rattle.lx_circuit.specs.Terms.{Term}
use Rattle.std.proofs.Math.Path.{fun_ext}
use Rattle.std.proofs.lemmas.Bool.{and_from, and_parts, ne_eqb}
use Rattle.std.proofs.lemmas.List.{append-nil}
use Rattle.lx_fhdl.specs.Below.{ExprId, StmtId, all_arms_below, all_branches_below, all_stmts_below}
use Rattle.lx_fhdl.specs.Designs as design
use Rattle.lx_fhdl.specs.Designs.{block, term}
use Rattle.lx_fhdl.specs.Drafts.{CanAddStmt}
use Rattle.lx_fhdl.specs.Keeping.{BranchesStand}
use Rattle.lx_fhdl.specs.Lowered.{is_done}
use Rattle.lx_fhdl.specs.Stmts as stmts
use Rattle.lx_fhdl.specs.Stmts.{node_stmt}
use Rattle.lx_fhdl.specs.declared.design.Design.{Design}
use Rattle.lx_fhdl.specs.declared.stmts.Arm.{Arm}
use Rattle.lx_fhdl.specs.declared.stmts.Branch.{Branch}
use Rattle.lx_fhdl.specs.declared.stmts.Stmt.TheVariants as stmt
use Rattle.lx_description.specs.Below.{FsmStmtId}
use Rattle.lx_description.specs.Keeping.{FsmBranchesStand}
use Rattle.lx_description.specs.declared.fsms.FsmArm.{FsmArm}
use Rattle.lx_description.specs.declared.fsms.FsmBranch.{FsmBranch}
use Rattle.lx_description.specs.declared.fsms.FsmStmt.{FsmStmt}
use Rattle.lx_description.specs.declared.fsms.StateDecl.{StateDecl}
use Rattle.lx_lowering.specs.Flat.{append, one, some_when}
use Rattle.lx_fsm.specs.Actions.{Act, Action, Assign, NextState, NextValue}
use Rattle.lx_fsm.specs.Decls.{act, acts_at, arms_at, branches_at, names_of, node_act, state_of}
use Rattle.lx_reads.specs.Drivings.{Driving, arm_drivings, assign_drivings, branch_drivings, driving, drivings_at, drivings_in, drivings_of}
use Rattle.lx_fsm.specs.Driven.{acts_driven, arms_driven, branches_driven, later_driven, node_driven, now_driven, states_driven}
use Rattle.lx_fsm.specs.Lists.{Register, all_kept, are_empty, arms_empty, by_state, in_sync, is_in, kept, kept_arms, kept_branches, numeral, some_case, some_if}
use Rattle.lx_fsm.specs.Machine.{number_among}
use Rattle.lx_fsm.specs.Lowers.{AreThere, ArmsPut, BranchesPut, Driven, Grows, HasTerm, IsReady, Put, Read, StmtsPut, becomes, later_of, node_more, now_of, reads_driven, register}
use Rattle.lx_fsm.specs.declared.states.Part.{Part}
use Rattle.lx_fsm.specs.declared.states.Part.TheVariants as part
use Rattle.lx_fsm.proofs.Drives as driven
use Rattle.lx_fsm.proofs.Grown.{arms_kept, arms_wider, branches_kept, branches_wider, conds_wider, grows_then, there_kept}
use Rattle.lx_fsm.proofs.Numbering.{same_register}
use Rattle.lx_fsm.proofs.StatesDriven.{driven_is, driven_kept}
use Rattle.lx_fsm.proofs.Puts.{ArmsSome, BranchesSome, PutSome, arms_more, branches_more, next_item, no_more, put_after, put_drives, put_is, put_none, some_done, some_more}
use Rattle.lx_fsm.proofs.Ready.{branches_stay, cond_at, node_is, ready_acts}

-- what actions become, over a draft
abbrev pub becomes_of : Read → Part → Design → Action → tree.Block
becomes_of r p d = becomes (register d r.fsm) p

pub becomes_stay : {x y : Design} (r : Read) (p : Part) → Grows x y → becomes_of r p y ≡ becomes_of r p x
becomes_stay r p g = ap (λ (q : Register). becomes q p) (same_register r.fsm g)

-- what is kept of statements
abbrev pub acts_of : Read → Part → Design → List FsmStmtId → tree.Block
acts_of r p d ids = all_kept (becomes_of r p d) (acts_at (act d r.stmts) ids)

abbrev pub branches_of : Read → Part → Design → List FsmBranch → tree.Branches
branches_of r p d bs = kept_branches (becomes_of r p d) (branches_at (term d) (act d r.stmts) bs)

abbrev pub arms_of : Read → Part → Design → List FsmArm → tree.Arms
arms_of r p d arms = kept_arms (becomes_of r p d) (arms_at (act d r.stmts) arms)

pub acts_of_stay : {r : Read} {x y : Design} (p : Part) (ids : List FsmStmtId) → Grows x y → IsReady r x → acts_of r p y ids ≡ acts_of r p x ids
acts_of_stay {r} {x} {y} p ids g h =
    ap (λ (f : Action → tree.Block). all_kept f (acts_at (act y r.stmts) ids)) (becomes_stay r p g)
    ∙ ap (λ (a : ℕ → Act). all_kept (becomes_of r p x) (acts_at a ids)) (ready_acts g h)

pub act_of_stays : {r : Read} {x y : Design} (p : Part) (k : ℕ) → Grows x y → IsReady r x → kept (becomes_of r p y) (act y r.stmts k) ≡ kept (becomes_of r p x) (act x r.stmts k)
act_of_stays {r} {x} {y} p k g h =
    ap (λ (f : Action → tree.Block). kept f (act y r.stmts k)) (becomes_stay r p g)
    ∙ ap (λ (a : ℕ → Act). kept (becomes_of r p x) (a k)) (ready_acts g h)

pub branches_of_stay : {r : Read} {x y : Design} (p : Part) (bs : List FsmBranch) → Grows x y → IsReady r x → FsmBranchesStand (length x.exprs) bs → branches_of r p y bs ≡ branches_of r p x bs
branches_of_stay {r} {x} {y} p bs g h c =
    ap (λ (f : Action → tree.Block). kept_branches f (branches_at (term y) (act y r.stmts) bs)) (becomes_stay r p g)
    ∙ ap (kept_branches (becomes_of r p x)) (branches_stay bs g h c)

abbrev pub design_branches : Design → List Branch → tree.Branches
design_branches d list = stmts.branches_at (term d) (design.stmt d) list

-- what they drive
abbrev pub acts_drive : Read → Part → Design → List FsmStmtId → Driven
acts_drive r p d ids = λ driver. acts_driven (reads_driven r d p driver) ids

abbrev pub branches_drive : Read → Part → Design → List FsmBranch → Driven
branches_drive r p d bs = λ driver. branches_driven (reads_driven r d p driver) bs

abbrev pub arms_drive : Read → Part → Design → List FsmArm → Driven
arms_drive r p d arms = λ driver. arms_driven (reads_driven r d p driver) arms

abbrev pub states_drive : Read → Part → Design → List StateDecl → Driven
states_drive r p d ss = λ driver. states_driven (reads_driven r d p driver) ss

pub reads_stay : {r : Read} {x y : Design} (p : Part) (driver : ℕ) → Grows x y → IsReady r x → reads_driven r y p driver ≡ reads_driven r x p driver
reads_stay {r} p driver g h = fun_ext (driven_kept r.fsm.state.0 p driver r.stmts g h.lower h.stmts)

acts_drive_stay : {r : Read} {x y : Design} (p : Part) (ids : List FsmStmtId) → Grows x y → IsReady r x → (driver : ℕ) → acts_drive r p y ids driver ≡ acts_drive r p x ids driver
acts_drive_stay p ids g h driver = ap (λ (f : ℕ → List Driving). acts_driven f ids) (reads_stay p driver g h)

-- statements that are the same, and drive the same
stmts_put_is : {x y : Design} {ids : List StmtId} {a b : tree.Block} {l m : Driven} → a ≡ b → ((driver : ℕ) → l driver ≡ m driver) → StmtsPut x y ids a l → StmtsPut x y ids b m
stmts_put_is e f h = record { grows = h.grows; are = record { there = h.are.there; tree = h.are.tree ∙ e }; drives = λ driver. h.drives driver ∙ f driver }

-- ---- one more of several

pub acts_next : {r : Read} {x y z : Design} {a b c : List StmtId} {whole : tree.Block} {all : Driven} (p : Part) (ids : List FsmStmtId) (k : ℕ) (i : FsmStmtId) → k < length ids → IsReady r x
    → PutSome x y a b whole (acts_of r p x (drop k ids)) all (acts_drive r p x (drop k ids)) → Put y z b c (kept (becomes_of r p y) (act y r.stmts (get_or ids k i).place)) (λ driver. reads_driven r y p driver (get_or ids k i).place)
    → PutSome x z a c whole (acts_of r p x (drop (k + 1) ids)) all (acts_drive r p x (drop (k + 1) ids))
acts_next {r} {x} {y} {z} {a} {b} {c} p ids k i l h some put =
    let place = (get_or ids k i).place in
    let here : Put y z b c (kept (becomes_of r p x) (act x r.stmts place)) (λ driver. reads_driven r x p driver place) =
    put_drives (λ driver. ap (λ (f : ℕ → List Driving). f place) (reads_stay p driver some.grows h)) (put_is (act_of_stays p place some.grows h) put) in
    some_more some (ap (acts_of r p x) (next_item ids k i l)) here (λ driver. ap (λ (is : List FsmStmtId). acts_drive r p x is driver) (next_item ids k i l))

pub branches_next : {r : Read} {x y z : Design} {list : List Branch} {whole : tree.Branches} {body : List StmtId} {all : Driven} (p : Part) (bs : List FsmBranch) (k : ℕ) (b : FsmBranch) → k < length bs → IsReady r x → FsmBranchesStand (length x.exprs) bs
    → BranchesSome x y list whole (branches_of r p x (drop k bs)) all (branches_drive r p x (drop k bs)) → StmtsPut y z body (acts_of r p y (get_or bs k b).body) (acts_drive r p y (get_or bs k b).body)
    → BranchesSome x z (list ++ record { cond = (get_or bs k b).cond; body = body } ∷ []) whole (branches_of r p x (drop (k + 1) bs)) all (branches_drive r p x (drop (k + 1) bs))
branches_next {r} {x} {y} {z} {list} {whole} {body} {all} p bs k b l h c some put =
    let one = get_or bs k b in
    let here = cond_at (length x.exprs) bs k b c l in
    let same : StmtsPut y z body (acts_of r p x one.body) (acts_drive r p x one.body) = stmts_put_is (acts_of_stay p one.body some.grows h) (acts_drive_stay p one.body some.grows h) put in
    branches_more (record { cond = one.cond; body = body }) (term x one.cond.place) some (ap (branches_of r p x) (next_item bs k b l)) (λ driver. ap (λ (q : List FsmBranch). branches_drive r p x q driver) (next_item bs k b l))
    same (omega (arith, here, some.grows.stays.exprs)) (some.grows.stays.terms one.cond.place here)

pub arms_next : {r : Read} {x y z : Design} {list : List Arm} {whole : tree.Arms} {body : List StmtId} {all : Driven} (p : Part) (arms : List FsmArm) (k : ℕ) (a : FsmArm) → k < length arms → IsReady r x
    → ArmsSome x y list whole (arms_of r p x (drop k arms)) all (arms_drive r p x (drop k arms)) → StmtsPut y z body (acts_of r p y (get_or arms k a).body) (acts_drive r p y (get_or arms k a).body)
    → ArmsSome x z (list ++ record { key = (get_or arms k a).key; body = body } ∷ []) whole (arms_of r p x (drop (k + 1) arms)) all (arms_drive r p x (drop (k + 1) arms))
arms_next {r} {x} {y} {z} {list} {whole} {body} {all} p arms k a l h some put =
    let one = get_or arms k a in
    let same : StmtsPut y z body (acts_of r p x one.body) (acts_drive r p x one.body) = stmts_put_is (acts_of_stay p one.body some.grows h) (acts_drive_stay p one.body some.grows h) put in
    arms_more (record { key = one.key; body = body }) some (ap (arms_of r p x) (next_item arms k a l)) (λ driver. ap (λ (q : List FsmArm). arms_drive r p x q driver) (next_item arms k a l)) same

pub branches_next_at : {r : Read} {x y z : Design} {list : List Branch} {whole : tree.Branches} {body : List StmtId} {all : Driven} (p : Part) (bs : List FsmBranch) (k : ℕ) (b : FsmBranch) → k < length bs → b ≡ get_or bs k b → IsReady r x → FsmBranchesStand (length x.exprs) bs
    → BranchesSome x y list whole (branches_of r p x (drop k bs)) all (branches_drive r p x (drop k bs)) → StmtsPut y z body (acts_of r p y b.body) (acts_drive r p y b.body)
    → BranchesSome x z (list ++ record { cond = b.cond; body = body } ∷ []) whole (branches_of r p x (drop (k + 1) bs)) all (branches_drive r p x (drop (k + 1) bs))
branches_next_at {r} {x} {y} {z} {list} {whole} {body} {all} p bs k b l e h c some put =
    subst (λ (q : FsmBranch). BranchesSome x z (list ++ record { cond = q.cond; body = body } ∷ []) whole (branches_of r p x (drop (k + 1) bs)) all (branches_drive r p x (drop (k + 1) bs))) (sym e)
    (branches_next p bs k b l h c some (subst (λ (q : FsmBranch). StmtsPut y z body (acts_of r p y q.body) (acts_drive r p y q.body)) e put))

pub arms_next_at : {r : Read} {x y z : Design} {list : List Arm} {whole : tree.Arms} {body : List StmtId} {all : Driven} (p : Part) (arms : List FsmArm) (k : ℕ) (a : FsmArm) → k < length arms → a ≡ get_or arms k a → IsReady r x
    → ArmsSome x y list whole (arms_of r p x (drop k arms)) all (arms_drive r p x (drop k arms)) → StmtsPut y z body (acts_of r p y a.body) (acts_drive r p y a.body)
    → ArmsSome x z (list ++ record { key = a.key; body = body } ∷ []) whole (arms_of r p x (drop (k + 1) arms)) all (arms_drive r p x (drop (k + 1) arms))
arms_next_at {r} {x} {y} {z} {list} {whole} {body} {all} p arms k a l e h some put =
    subst (λ (q : FsmArm). ArmsSome x z (list ++ record { key = q.key; body = body } ∷ []) whole (arms_of r p x (drop (k + 1) arms)) all (arms_drive r p x (drop (k + 1) arms))) (sym e)
    (arms_next p arms k a l h some (subst (λ (q : FsmArm). StmtsPut y z body (acts_of r p y q.body) (acts_drive r p y q.body)) e put))

-- ---- where nothing stands, nothing is driven

done_none : (s : ℕ → tree.Stmt) (f : ℕ → List Driving) (ids : List StmtId) → is_done (stmts.block_at s ids) ≡ true → drivings_in f ids ≡ []
done_none s f [] h = refl
done_none s f (i ∷ is) h = absurd (cc)

empty_none : (u : ℕ → Term) (s : ℕ → tree.Stmt) (f : ℕ → List Driving) (bs : List Branch) → are_empty (stmts.branches_at u s bs) ≡ true → branch_drivings f bs ≡ []
empty_none u s f [] h = refl
empty_none u s f (b ∷ bs) h =
    let p = and_parts (is_done (stmts.block_at s b.body)) (are_empty (stmts.branches_at u s bs)) h in
    ap (λ (l : List Driving). l ++ branch_drivings f bs) (done_none s f b.body p.0) ∙ empty_none u s f bs p.1

arms_none : (s : ℕ → tree.Stmt) (f : ℕ → List Driving) (arms : List Arm) → arms_empty (stmts.arms_at s arms) ≡ true → arm_drivings f arms ≡ []
arms_none s f [] h = refl
arms_none s f (a ∷ arms) h =
    let p = and_parts (is_done (stmts.block_at s a.body)) (arms_empty (stmts.arms_at s arms)) h in
    ap (λ (l : List Driving). l ++ arm_drivings f arms) (done_none s f a.body p.0) ∙ arms_none s f arms p.1

if_none : (u : ℕ → Term) (s : ℕ → tree.Stmt) (f : ℕ → List Driving) (bs : List Branch) (ids : List StmtId) → (are_empty (stmts.branches_at u s bs) && is_done (stmts.block_at s ids)) ≡ true → branch_drivings f bs ++ drivings_in f ids ≡ []
if_none u s f bs ids h =
    let p = and_parts (are_empty (stmts.branches_at u s bs)) (is_done (stmts.block_at s ids)) h in
    ap (λ (l : List Driving). l ++ drivings_in f ids) (empty_none u s f bs p.0) ∙ done_none s f ids p.1

case_none : (s : ℕ → tree.Stmt) (f : ℕ → List Driving) (arms : List Arm) (ids : List StmtId) → (arms_empty (stmts.arms_at s arms) && is_done (stmts.block_at s ids)) ≡ true → arm_drivings f arms ++ drivings_in f ids ≡ []
case_none s f arms ids h =
    let p = and_parts (arms_empty (stmts.arms_at s arms)) (is_done (stmts.block_at s ids)) h in
    ap (λ (l : List Driving). l ++ drivings_in f ids) (arms_none s f arms p.0) ∙ done_none s f ids p.1

-- ---- an If, where something stands in it

abbrev pub if_drive : Read → Part → Design → List FsmBranch → List FsmStmtId → Driven
if_drive r p d bs rest = λ driver. branches_drive r p d bs driver ++ acts_drive r p d rest driver

abbrev pub case_drive : Read → Part → Design → List FsmArm → List FsmStmtId → Driven
case_drive r p d arms rest = λ driver. arms_drive r p d arms driver ++ acts_drive r p d rest driver

some_if_empty : (bs : tree.Branches) (rest : tree.Block) → (are_empty bs && is_done rest) ≡ true → tree.Done ≡ some_if bs rest
some_if_empty bs rest e = ap (λ (b : Bool). cond b tree.Done (one (tree.If bs rest))) (sym e)

some_if_there : (bs : tree.Branches) (rest : tree.Block) → (are_empty bs && is_done rest) ≡ false → one (tree.If bs rest) ≡ some_if bs rest
some_if_there bs rest e = ap (λ (b : Bool). cond b tree.Done (one (tree.If bs rest))) (sym e)

-- its branches and its rest, one after the other
pub record IfPut (r : Read) (p : Part) (x z : Design) (bs : List FsmBranch) (rest : List FsmStmtId) (list : List Branch) (ids : List StmtId) : Type 0 where
  pub grows : Grows x z
  pub conds : BranchesStand (length z.exprs) list
  pub branches_there : IsTrue (all_branches_below (length z.stmts) list)
  pub rest_there : AreThere z ids
  pub branches : design_branches z list ≡ branches_of r p x bs
  pub rest_is : block z ids ≡ acts_of r p x rest
  pub drives : (driver : ℕ) → branch_drivings (drivings_at z driver) list ++ drivings_of z driver ids ≡ if_drive r p x bs rest driver

pub if_parts : {r : Read} {x y z : Design} {list : List Branch} {ids : List StmtId} (p : Part) (bs : List FsmBranch) (rest : List FsmStmtId) → IsReady r x
    → BranchesPut x y list (branches_of r p x bs) (branches_drive r p x bs) → StmtsPut y z ids (acts_of r p y rest) (acts_drive r p y rest) → IfPut r p x z bs rest list ids
if_parts {r} {x} {y} {z} {list} {ids} p bs rest h b s =
    let g = s.grows in
    record {
      grows = grows_then b.grows g;
      conds = conds_wider (length y.exprs) (length z.exprs) list g.stays.exprs b.conds;
      branches_there = search (branches_wider (length y.stmts) (length z.stmts) list g.stays.stmts (search b.there));
      rest_there = s.are.there;
      branches = branches_kept list g b.conds b.there ∙ b.tree;
      rest_is = s.are.tree ∙ acts_of_stay p rest b.grows h;
      drives = λ driver.
          ap (λ (l : List Driving). l ++ drivings_of z driver ids) (driven.branches_stay y z list g.drivings (search b.there) driver ∙ b.drives driver)
          ∙ ap (λ (l : List Driving). branches_drive r p x bs driver ++ l) (s.drives driver ∙ acts_drive_stay p rest b.grows h driver);
    }

pub if_empty : {r : Read} {p : Part} {x z : Design} {bs : List FsmBranch} {rest : List FsmStmtId} {list : List Branch} {ids : List StmtId} (out : List StmtId) (t : Bool) → AreThere x out → IfPut r p x z bs rest list ids
    → ((u : ℕ → Term) (s : ℕ → tree.Stmt) → t ≡ (are_empty (stmts.branches_at u s list) && is_done (stmts.block_at s ids))) → t ≡ true → Put x z out out (some_if (branches_of r p x bs) (acts_of r p x rest)) (if_drive r p x bs rest)
if_empty {r} {p} {x} {z} {bs} {rest} {list} {ids} out t h q e f =
    put_drives (λ driver. sym (if_none (term z) (design.stmt z) (drivings_at z driver) list ids (sym (e (term z) (design.stmt z)) ∙ f)) ∙ q.drives driver) (put_is
    (some_if_empty (branches_of r p x bs) (acts_of r p x rest)
    (ap (λ (b : tree.Branches). are_empty b && is_done (acts_of r p x rest)) (sym q.branches) ∙ ap (λ (b : tree.Block). are_empty (design_branches z list) && is_done b) (sym q.rest_is) ∙ sym (e (term z) (design.stmt z)) ∙ f))
    (put_after q.grows h (put_none z out (there_kept out q.grows h))))

pub if_can : {r : Read} {p : Part} {x z : Design} {bs : List FsmBranch} {rest : List FsmStmtId} {list : List Branch} {ids : List StmtId} (line : ℕ) → IfPut r p x z bs rest list ids → CanAddStmt z (stmt.If list ids line)
if_can {r} {p} {x} {z} {bs} {rest} {list} {ids} line q = record {
  below = search (and_from (all_branches_below (length z.stmts) list) (all_stmts_below (length z.stmts) ids) (search q.branches_there) (search q.rest_there));
  stands = q.conds;
}

pub if_there : {r : Read} {p : Part} {x z w : Design} {bs : List FsmBranch} {rest : List FsmStmtId} {list : List Branch} {ids out more : List StmtId} (line : ℕ) (t : Bool) → AreThere x out → IfPut r p x z bs rest list ids
    → ((u : ℕ → Term) (s : ℕ → tree.Stmt) → t ≡ (are_empty (stmts.branches_at u s list) && is_done (stmts.block_at s ids))) → t ≡ false
    → Put z w out more (one (node_stmt (term z) (design.target z) (design.stmt z) (stmt.If list ids line))) (node_more z (stmt.If list ids line)) → Put x w out more (some_if (branches_of r p x bs) (acts_of r p x rest)) (if_drive r p x bs rest)
if_there {r} {p} {x} {z} {w} {bs} {rest} {list} {ids} {out} {more} line t h q e f put =
    put_drives q.drives (put_is
    (ap (λ (b : tree.Branches). one (tree.If b (block z ids))) q.branches
    ∙ ap (λ (b : tree.Block). one (tree.If (branches_of r p x bs) b)) q.rest_is
    ∙ some_if_there (branches_of r p x bs) (acts_of r p x rest)
    (ap (λ (b : tree.Branches). are_empty b && is_done (acts_of r p x rest)) (sym q.branches) ∙ ap (λ (b : tree.Block). are_empty (design_branches z list) && is_done b) (sym q.rest_is) ∙ sym (e (term z) (design.stmt z)) ∙ f))
    (put_after q.grows h put))

-- ---- a Case

some_case_empty : (on : Term) (arms : tree.Arms) (rest : tree.Block) → (arms_empty arms && is_done rest) ≡ true → tree.Done ≡ some_case on arms rest
some_case_empty on arms rest e = ap (λ (b : Bool). cond b tree.Done (one (tree.Case on arms rest))) (sym e)

some_case_there : (on : Term) (arms : tree.Arms) (rest : tree.Block) → (arms_empty arms && is_done rest) ≡ false → one (tree.Case on arms rest) ≡ some_case on arms rest
some_case_there on arms rest e = ap (λ (b : Bool). cond b tree.Done (one (tree.Case on arms rest))) (sym e)

pub record CasePut (r : Read) (p : Part) (x z : Design) (arms : List FsmArm) (rest : List FsmStmtId) (list : List Arm) (ids : List StmtId) : Type 0 where
  pub grows : Grows x z
  pub arms_there : IsTrue (all_arms_below (length z.stmts) list)
  pub rest_there : AreThere z ids
  pub arms_are : stmts.arms_at (design.stmt z) list ≡ arms_of r p x arms
  pub rest_is : block z ids ≡ acts_of r p x rest
  pub drives : (driver : ℕ) → arm_drivings (drivings_at z driver) list ++ drivings_of z driver ids ≡ case_drive r p x arms rest driver

pub case_parts : {r : Read} {x y z : Design} {list : List Arm} {ids : List StmtId} (p : Part) (arms : List FsmArm) (rest : List FsmStmtId) → IsReady r x
    → ArmsPut x y list (arms_of r p x arms) (arms_drive r p x arms) → StmtsPut y z ids (acts_of r p y rest) (acts_drive r p y rest) → CasePut r p x z arms rest list ids
case_parts {r} {x} {y} {z} {list} {ids} p arms rest h b s =
    let g = s.grows in
    record {
      grows = grows_then b.grows g;
      arms_there = search (arms_wider (length y.stmts) (length z.stmts) list g.stays.stmts (search b.there));
      rest_there = s.are.there;
      arms_are = arms_kept list g b.there ∙ b.tree;
      rest_is = s.are.tree ∙ acts_of_stay p rest b.grows h;
      drives = λ driver.
          ap (λ (l : List Driving). l ++ drivings_of z driver ids) (driven.arms_stay y z list g.drivings (search b.there) driver ∙ b.drives driver)
          ∙ ap (λ (l : List Driving). arms_drive r p x arms driver ++ l) (s.drives driver ∙ acts_drive_stay p rest b.grows h driver);
    }

pub case_empty : {r : Read} {p : Part} {x z : Design} {arms : List FsmArm} {rest : List FsmStmtId} {list : List Arm} {ids : List StmtId} (on : Term) (out : List StmtId) (t : Bool) → AreThere x out → CasePut r p x z arms rest list ids
    → ((s : ℕ → tree.Stmt) → t ≡ (arms_empty (stmts.arms_at s list) && is_done (stmts.block_at s ids))) → t ≡ true → Put x z out out (some_case on (arms_of r p x arms) (acts_of r p x rest)) (case_drive r p x arms rest)
case_empty {r} {p} {x} {z} {arms} {rest} {list} {ids} on out t h q e f =
    put_drives (λ driver. sym (case_none (design.stmt z) (drivings_at z driver) list ids (sym (e (design.stmt z)) ∙ f)) ∙ q.drives driver) (put_is
    (some_case_empty on (arms_of r p x arms) (acts_of r p x rest)
    (ap (λ (b : tree.Arms). arms_empty b && is_done (acts_of r p x rest)) (sym q.arms_are) ∙ ap (λ (b : tree.Block). arms_empty (stmts.arms_at (design.stmt z) list) && is_done b) (sym q.rest_is) ∙ sym (e (design.stmt z)) ∙ f))
    (put_after q.grows h (put_none z out (there_kept out q.grows h))))

pub case_can : {r : Read} {p : Part} {x z : Design} {arms : List FsmArm} {rest : List FsmStmtId} {list : List Arm} {ids : List StmtId} (on : ExprId) (line : ℕ) → on.place < length x.exprs → CasePut r p x z arms rest list ids → CanAddStmt z (stmt.Case on list ids line)
case_can {r} {p} {x} {z} {arms} {rest} {list} {ids} on line l q = record {
  below = search (and_from (all_arms_below (length z.stmts) list) (all_stmts_below (length z.stmts) ids) (search q.arms_there) (search q.rest_there));
  stands = omega (arith, l, q.grows.stays.exprs);
}

pub case_there : {r : Read} {p : Part} {x z w : Design} {arms : List FsmArm} {rest : List FsmStmtId} {list : List Arm} {ids out more : List StmtId} (on : ExprId) (line : ℕ) (t : Bool) → on.place < length x.exprs → AreThere x out → CasePut r p x z arms rest list ids
    → ((s : ℕ → tree.Stmt) → t ≡ (arms_empty (stmts.arms_at s list) && is_done (stmts.block_at s ids))) → t ≡ false
    → Put z w out more (one (node_stmt (term z) (design.target z) (design.stmt z) (stmt.Case on list ids line))) (node_more z (stmt.Case on list ids line)) → Put x w out more (some_case (term x on.place) (arms_of r p x arms) (acts_of r p x rest)) (case_drive r p x arms rest)
case_there {r} {p} {x} {z} {w} {arms} {rest} {list} {ids} {out} {more} on line t l h q e f put =
    put_drives q.drives (put_is
    (ap (λ (u : Term). one (tree.Case u (stmts.arms_at (design.stmt z) list) (block z ids))) (q.grows.stays.terms on.place l)
    ∙ ap (λ (b : tree.Arms). one (tree.Case (term x on.place) b (block z ids))) q.arms_are
    ∙ ap (λ (b : tree.Block). one (tree.Case (term x on.place) (arms_of r p x arms) b)) q.rest_is
    ∙ some_case_there (term x on.place) (arms_of r p x arms) (acts_of r p x rest)
    (ap (λ (b : tree.Arms). arms_empty b && is_done (acts_of r p x rest)) (sym q.arms_are) ∙ ap (λ (b : tree.Block). arms_empty (stmts.arms_at (design.stmt z) list) && is_done b) (sym q.rest_is) ∙ sym (e (design.stmt z)) ∙ f))
    (put_after q.grows h put))

-- ---- a node

pub node_put : {r : Read} {x y : Design} {a b : List StmtId} (p : Part) (k : ℕ) (node other : FsmStmt) → IsReady r x → slice_get r.stmts k ≡ Some node → node ≡ other
    → Put x y a b (kept (becomes_of r p x) (node_act (term x) (design.target x) (act x r.stmts) other)) (λ driver. node_driven x r.fsm.state.0 p driver (reads_driven r x p driver) other)
    → Put x y a b (kept (becomes_of r p x) (act x r.stmts k)) (λ driver. reads_driven r x p driver k)
node_put {r} {x} p k node other h e same put =
    put_drives
    (λ driver. ap (node_driven x r.fsm.state.0 p driver (reads_driven r x p driver)) (sym same) ∙ sym (driven_is x r.fsm.state.0 p driver r.stmts h.lower k node e))
    (put_is (ap (kept (becomes_of r p x)) (sym (node_is r x k node other h e same))) put)

-- the value of a NextState
pub next_put : {r : Read} {x y : Design} {a b : List StmtId} (name : List ℕ) (line j : ℕ) (i : ExprId) → IsReady r x → j ≡ number_among (names_of r.fsm.states) name → slice_get r.numerals j ≡ Some i
    → Put x y a b (one (tree.Assign (design.target x r.state.place) (term x i.place))) (λ driver. assign_drivings driver line (design.target x r.state.place))
    → Put x y a b (in_sync (register x r.fsm) (NextState name)) (λ driver. driving driver line r.fsm.state.0 ∷ [])
next_put {r} {x} name line j i h e at put =
    put_drives (λ driver. ap (assign_drivings driver line) h.state.tree) (put_is
    (ap (λ (t : tree.Target). one (tree.Assign t (term x i.place))) h.state.tree
    ∙ ap (λ (t : Term). one (tree.Assign (tree.Whole r.fsm.state.0) t)) ((h.numerals.each j i at).tree)
    ∙ ap (λ (k : ℕ). one (tree.Assign (tree.Whole r.fsm.state.0) (numeral (register x r.fsm) k))) e)
    put)

-- ---- a state under its condition

pub state_empty : {x y : Design} {ids : List StmtId} (r : Read) (p : Part) (c : Term) (body : List FsmStmtId) (out : List StmtId) → AreThere x out → StmtsPut x y ids (acts_of r p x body) (acts_drive r p x body) → ids ≡ [] → Put x y out out (some_when c (acts_of r p x body)) (acts_drive r p x body)
state_empty {x} {y} {ids} r p c body out h s e =
    put_drives (λ driver. ap (drivings_of y driver) (sym e) ∙ s.drives driver) (put_is (ap (some_when c) (sym (ap (block y) e) ∙ s.are.tree)) (put_after s.grows h (put_none y out (there_kept out s.grows h))))

when_some : (c : Term) (b : tree.Block) → is_done b ≡ false → one (tree.If (tree.Branch c b tree.NoBranch) tree.Done) ≡ some_when c b
when_some c tree.Done e = absurd (cc)
when_some c (tree.Then s ss) e = refl

some_block : (d : Design) (ids : List StmtId) → (ids ≡ [] → ⊥) → is_done (block d ids) ≡ false
some_block d [] n = absurd (n refl)
some_block d (i ∷ is) n = refl

pub state_can : {x y : Design} {ids : List StmtId} (r : Read) (p : Part) (cond : ExprId) (body : List FsmStmtId) (line : ℕ) → cond.place < length x.exprs → StmtsPut x y ids (acts_of r p x body) (acts_drive r p x body)
    → CanAddStmt y (stmt.If (record { cond = cond; body = ids } ∷ []) [] line)
state_can {x} {y} {ids} r p cond body line l s = record {
  below = search (and_from (all_branches_below (length y.stmts) (record { cond = cond; body = ids } ∷ [])) true (and_from (all_stmts_below (length y.stmts) ids) true (search s.are.there) refl) refl);
  stands = (omega (arith, l, s.grows.stays.exprs), tt);
}

pub state_put : {x y z : Design} {ids out more : List StmtId} (r : Read) (p : Part) (cond : ExprId) (body : List FsmStmtId) (line : ℕ) → cond.place < length x.exprs → AreThere x out → StmtsPut x y ids (acts_of r p x body) (acts_drive r p x body) → (ids ≡ [] → ⊥)
    → Put y z out more (one (node_stmt (term y) (design.target y) (design.stmt y) (stmt.If (record { cond = cond; body = ids } ∷ []) [] line))) (node_more y (stmt.If (record { cond = cond; body = ids } ∷ []) [] line))
    → Put x z out more (some_when (term x cond.place) (acts_of r p x body)) (acts_drive r p x body)
state_put {x} {y} {z} {ids} {out} {more} r p cond body line l h s n put =
    put_drives (λ driver. append-nil (drivings_of y driver ids ++ []) ∙ append-nil (drivings_of y driver ids) ∙ s.drives driver) (put_is
    (when_some (term y cond.place) (block y ids) (some_block y ids n)
    ∙ ap (λ (t : Term). some_when t (block y ids)) (s.grows.stays.terms cond.place l)
    ∙ ap (some_when (term x cond.place)) s.are.tree)
    (put_after s.grows h put))

-- ---- all states

abbrev pub states_of : Read → Part → Design → ℕ → List StateDecl → tree.Block
states_of r p d k ss = by_state (register d r.fsm) (becomes_of r p d) k (map (state_of d r.stmts) ss)

pub states_next : {r : Read} {x y z : Design} {a b c : List StmtId} {whole : tree.Block} {all : Driven} (p : Part) (ss : List StateDecl) (k : ℕ) (s : StateDecl) (i : ExprId) → k < length ss → s ≡ get_or ss k s → IsReady r x
    → HasTerm x i.place (is_in (register x r.fsm) k) → PutSome x y a b whole (states_of r p x k (drop k ss)) all (states_drive r p x (drop k ss)) → Put y z b c (some_when (term y i.place) (acts_of r p y s.body)) (acts_drive r p y s.body)
    → PutSome x z a c whole (states_of r p x (k + 1) (drop (k + 1) ss)) all (states_drive r p x (drop (k + 1) ss))
states_next {r} {x} {y} {z} {a} {b} {c} {whole} {all} p ss k s i l e h cond some put =
    some_more some
    (ap (states_of r p x k) (next_item ss k s l)
    ∙ ap (λ (q : StateDecl). append (some_when (is_in (register x r.fsm) k) (acts_of r p x q.body)) (states_of r p x (k + 1) (drop (k + 1) ss))) (sym e))
    (put_drives (acts_drive_stay p s.body some.grows h) (put_is
    (ap (λ (t : Term). some_when t (acts_of r p y s.body)) (some.grows.stays.terms i.place cond.there ∙ cond.tree)
    ∙ ap (some_when (is_in (register x r.fsm) k)) (acts_of_stay p s.body some.grows h))
    put))
    (λ driver. ap (λ (q : List StateDecl). states_drive r p x q driver) (next_item ss k s l) ∙ ap (λ (q : StateDecl). acts_drive r p x q.body driver ++ states_drive r p x (drop (k + 1) ss) driver) (sym e))

-- ---- tests of what stands in an If or a Case

no_stmts : (f : ℕ → tree.Stmt) (ids : List StmtId) → ids ≡ [] → is_done (stmts.block_at f ids) ≡ true
no_stmts f ids e = ap (λ (is : List StmtId). is_done (stmts.block_at f is)) e

some_stmts : (f : ℕ → tree.Stmt) (ids : List StmtId) → (ids ≡ [] → ⊥) → is_done (stmts.block_at f ids) ≡ false
some_stmts f [] n = absurd (n refl)
some_stmts f (i ∷ is) n = refl

abbrev pub if_test : (ℕ → Term) → (ℕ → tree.Stmt) → List Branch → List StmtId → Bool
if_test u f bs rest = are_empty (stmts.branches_at u f bs) && is_done (stmts.block_at f rest)

-- the test of the branches from the place k on is that of all
pub if_next : (u : ℕ → Term) (f : ℕ → tree.Stmt) (bs : List Branch) (rest : List StmtId) (k : ℕ) (b : Branch) → k < length bs → b ≡ get_or bs k b → b.body ≡ [] → if_test u f (drop k bs) rest ≡ if_test u f (drop (k + 1) bs) rest
if_next u f bs rest k b l e n =
    ap (λ (xs : List Branch). if_test u f xs rest) (next_item bs k b l)
    ∙ ap (λ (x : Branch). (is_done (stmts.block_at f x.body) && are_empty (stmts.branches_at u f (drop (k + 1) bs))) && is_done (stmts.block_at f rest)) (sym e)
    ∙ ap (λ (t : Bool). (t && are_empty (stmts.branches_at u f (drop (k + 1) bs))) && is_done (stmts.block_at f rest)) (no_stmts f b.body n)

pub if_found : (u : ℕ → Term) (f : ℕ → tree.Stmt) (bs : List Branch) (rest : List StmtId) (k : ℕ) (b : Branch) → k < length bs → b ≡ get_or bs k b → (b.body ≡ [] → ⊥) → if_test u f (drop k bs) rest ≡ false
if_found u f bs rest k b l e n =
    ap (λ (xs : List Branch). if_test u f xs rest) (next_item bs k b l)
    ∙ ap (λ (x : Branch). (is_done (stmts.block_at f x.body) && are_empty (stmts.branches_at u f (drop (k + 1) bs))) && is_done (stmts.block_at f rest)) (sym e)
    ∙ ap (λ (t : Bool). (t && are_empty (stmts.branches_at u f (drop (k + 1) bs))) && is_done (stmts.block_at f rest)) (some_stmts f b.body n)

abbrev pub case_test : (ℕ → tree.Stmt) → List Arm → List StmtId → Bool
case_test f arms rest = arms_empty (stmts.arms_at f arms) && is_done (stmts.block_at f rest)

pub case_next : (f : ℕ → tree.Stmt) (arms : List Arm) (rest : List StmtId) (k : ℕ) (a : Arm) → k < length arms → a ≡ get_or arms k a → a.body ≡ [] → case_test f (drop k arms) rest ≡ case_test f (drop (k + 1) arms) rest
case_next f arms rest k a l e n =
    ap (λ (xs : List Arm). case_test f xs rest) (next_item arms k a l)
    ∙ ap (λ (x : Arm). (is_done (stmts.block_at f x.body) && arms_empty (stmts.arms_at f (drop (k + 1) arms))) && is_done (stmts.block_at f rest)) (sym e)
    ∙ ap (λ (t : Bool). (t && arms_empty (stmts.arms_at f (drop (k + 1) arms))) && is_done (stmts.block_at f rest)) (no_stmts f a.body n)

pub case_found : (f : ℕ → tree.Stmt) (arms : List Arm) (rest : List StmtId) (k : ℕ) (a : Arm) → k < length arms → a ≡ get_or arms k a → (a.body ≡ [] → ⊥) → case_test f (drop k arms) rest ≡ false
case_found f arms rest k a l e n =
    ap (λ (xs : List Arm). case_test f xs rest) (next_item arms k a l)
    ∙ ap (λ (x : Arm). (is_done (stmts.block_at f x.body) && arms_empty (stmts.arms_at f (drop (k + 1) arms))) && is_done (stmts.block_at f rest)) (sym e)
    ∙ ap (λ (t : Bool). (t && arms_empty (stmts.arms_at f (drop (k + 1) arms))) && is_done (stmts.block_at f rest)) (some_stmts f a.body n)

-- at the end the rest is tested
pub rest_is : (f : ℕ → tree.Stmt) (ids : List StmtId) → nat_eq (length ids) 0 ≡ is_done (stmts.block_at f ids)
rest_is f [] = refl
rest_is f (i ∷ is) = ne_eqb (length (i ∷ is)) 0 (λ e. absurd (omega arith))

-- ---- actions

pub now_here : {x y : Design} {a b : List StmtId} {t : tree.Target} {e : Term} {l : Driven} (p : Part) → p ≡ part.Comb → Put x y a b (one (tree.Assign t e)) l → Put x y a b (now_of p t e) (λ driver. now_driven p (l driver))
now_here {x} {y} {a} {b} {t} {e} {l} p same put = put_drives (λ driver. ap (λ (q : Part). now_driven q (l driver)) (sym same)) (put_is (ap (λ (q : Part). now_of q t e) (sym same)) put)

pub now_none : {x : Design} (l : Driven) (t : tree.Target) (e : Term) (a : List StmtId) (p : Part) → p ≡ part.Sync → AreThere x a → Put x x a a (now_of p t e) (λ driver. now_driven p (l driver))
now_none {x} l t e a p same h = put_drives (λ driver. ap (λ (q : Part). now_driven q (l driver)) (sym same)) (put_is (ap (λ (q : Part). now_of q t e) (sym same)) (put_none x a h))

pub later_here : {x y : Design} {a b : List StmtId} {t : tree.Target} {e : Term} {l : Driven} (p : Part) → p ≡ part.Sync → Put x y a b (one (tree.Assign t e)) l → Put x y a b (later_of p t e) (λ driver. later_driven p (l driver))
later_here {x} {y} {a} {b} {t} {e} {l} p same put = put_drives (λ driver. ap (λ (q : Part). later_driven q (l driver)) (sym same)) (put_is (ap (λ (q : Part). later_of q t e) (sym same)) put)

pub later_none : {x : Design} (l : Driven) (t : tree.Target) (e : Term) (a : List StmtId) (p : Part) → p ≡ part.Comb → AreThere x a → Put x x a a (later_of p t e) (λ driver. later_driven p (l driver))
later_none {x} l t e a p same h = put_drives (λ driver. ap (λ (q : Part). later_driven q (l driver)) (sym same)) (put_is (ap (λ (q : Part). later_of q t e) (sym same)) (put_none x a h))

pub next_here : {r : Read} {x y : Design} {a b : List StmtId} (p : Part) (name : List ℕ) (line j : ℕ) (i : ExprId) → p ≡ part.Sync → IsReady r x → j ≡ number_among (names_of r.fsm.states) name → slice_get r.numerals j ≡ Some i
    → Put x y a b (one (tree.Assign (design.target x r.state.place) (term x i.place))) (λ driver. assign_drivings driver line (design.target x r.state.place))
    → Put x y a b (becomes_of r p x (NextState name)) (λ driver. later_driven p (driving driver line r.fsm.state.0 ∷ []))
next_here {r} {x} p name line j i same h e at put =
    put_drives (λ driver. ap (λ (q : Part). later_driven q (driving driver line r.fsm.state.0 ∷ [])) (sym same)) (put_is (ap (λ (q : Part). becomes_of r q x (NextState name)) (sym same)) (next_put name line j i h e at put))

pub next_none : {x : Design} (r : Read) (a : List StmtId) (p : Part) (name : List ℕ) (line : ℕ) → p ≡ part.Comb → AreThere x a → Put x x a a (becomes_of r p x (NextState name)) (λ driver. later_driven p (driving driver line r.fsm.state.0 ∷ []))
next_none {x} r a p name line same h =
    put_drives (λ driver. ap (λ (q : Part). later_driven q (driving driver line r.fsm.state.0 ∷ [])) (sym same)) (put_is (ap (λ (q : Part). becomes_of r q x (NextState name)) (sym same)) (put_none x a h))

-- what an action becomes is what is put for it
pub becomes_now : (r : Register) (p : Part) (t : tree.Target) (e : Term) → now_of p t e ≡ becomes r p (Assign t e)
becomes_now r part.Comb t e = refl
becomes_now r part.Sync t e = refl

pub becomes_later : (r : Register) (p : Part) (t : tree.Target) (e : Term) → later_of p t e ≡ becomes r p (NextValue t e)
becomes_later r part.Comb t e = refl
becomes_later r part.Sync t e = refl

pub if_end : (u : ℕ → Term) (f : ℕ → tree.Stmt) (bs : List Branch) (rest : List StmtId) (k : ℕ) → length bs ≤ k → nat_eq (length rest) 0 ≡ if_test u f (drop k bs) rest
if_end u f bs rest k l = rest_is f rest ∙ ap (λ (xs : List Branch). if_test u f xs rest) (sym (no_more bs k l))

pub case_end : (f : ℕ → tree.Stmt) (arms : List Arm) (rest : List StmtId) (k : ℕ) → length arms ≤ k → nat_eq (length rest) 0 ≡ case_test f (drop k arms) rest
case_end f arms rest k l = rest_is f rest ∙ ap (λ (xs : List Arm). case_test f xs rest) (sym (no_more arms k l))

-- at the end of the states
pub states_end : {x y : Design} {a b : List StmtId} {whole : tree.Block} {all : Driven} (r : Read) (p : Part) (ss : List StateDecl) (k : ℕ) → length ss ≤ k → PutSome x y a b whole (states_of r p x k (drop k ss)) all (states_drive r p x (drop k ss)) → Put x y a b whole all
states_end {x} r p ss k l some = some_done some (ap (states_of r p x k) (no_more ss k l)) (λ driver. ap (λ (q : List StateDecl). states_drive r p x q driver) (no_more ss k l))

pub whole_states : {x y : Design} {a b : List StmtId} {ss : List StateDecl} (r : Read) (p : Part) → ss ≡ r.fsm.states → Put x y a b (states_of r p x 0 ss) (states_drive r p x ss) → Put x y a b (states_of r p x 0 r.fsm.states) (states_drive r p x r.fsm.states)
whole_states {x} {y} {a} {b} r p e put = subst (λ (q : List StateDecl). Put x y a b (states_of r p x 0 q) (states_drive r p x q)) e put
