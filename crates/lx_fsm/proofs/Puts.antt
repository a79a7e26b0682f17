-- Statements that are put, one after another.
use Rattle.std.proofs.Common.{◌≡◌, ℕ, zero, suc, ◌+◌, ◌<◌, ◌≤◌, true, List, [], ◌∷◌, ◌++◌, drop, get_or, length, length-append, refl, sym, ap, subst, ◌∙◌, append_assoc, add-one, arith, nat_lt, drop-cons}
use Rattle.std.specs.Prelude.{IsTrue, Some, slice_get}
use Rattle.std.proofs.lemmas.List.{append-nil}
use Rattle.std.proofs.lemmas.Bool.{and_from, and_parts, lt-ltb}
use Rattle.std.proofs.Math.Seq.{drop-nil}
use Rattle.lx_arena.proofs.Places.{get_last}
use Rattle.lx_circuit.specs.Statements as tree
use Rattle.lx_circuit.specs.Terms.{Term}
use Rattle.lx_fhdl.specs.Below.{StmtId, all_arms_below, all_branches_below, all_stmts_below, stmt_below}
use Rattle.lx_fhdl.specs.Designs as design
use Rattle.lx_fhdl.specs.Designs.{block, term}
use Rattle.lx_fhdl.specs.Drafts.{DraftKeeps, StmtPut}
use Rattle.lx_fhdl.specs.Keeping.{BranchesStand, StmtStands}
use Rattle.lx_fhdl.specs.Stmts.{arms_at, block_at, branches_at, node_stmt}
use Rattle.lx_fhdl.specs.declared.design.Design.{Design}
use Rattle.lx_fhdl.specs.declared.stmts.Arm.{Arm}
use Rattle.lx_fhdl.specs.declared.stmts.Branch.{Branch}
use Rattle.lx_fhdl.specs.declared.stmts.Stmt.{Stmt}
use Rattle.lx_lowering.specs.Flat.{append, one}
use Rattle.lx_lowering.proofs.Appends.{append_all, append_done}
use Rattle.lx_fsm.specs.Lowers.{AreThere, ArmsPut, BranchesPut, Driven, Grows, Put, StmtsPut, node_more}
use Rattle.lx_reads.specs.Drivings.{Driving, arm_drivings, branch_drivings, drivings_at, drivings_of}
use Rattle.lx_fsm.proofs.Drives.{arms_both, arms_stay, branches_both, branches_stay, drivings_stay, last_drives, list_stays}
use Rattle.lx_fsm.proofs.Grown.{arms_kept, arms_wider, block_kept, branches_kept, branches_wider, by_stmts, conds_wider, grows_same, grows_then, stmts_wider}

-- the item at a place, and those after it
pub next_item : {X : Type 0} (xs : List X) (k : ℕ) (d : X) → k < length xs → drop k xs ≡ get_or xs k d ∷ drop (k + 1) xs
next_item xs k d l = drop-cons xs k d l ∙ ap (λ (j : ℕ). get_or xs k d ∷ drop j xs) (sym (add-one k))

pub no_more : {X : Type 0} (xs : List X) (k : ℕ) → length xs ≤ k → drop k xs ≡ []
no_more [] k l = drop-nil k
no_more (x ∷ xs) zero l = absurd (omega arith)
no_more (x ∷ xs) (suc k) l = no_more xs k (omega arith)

-- ---- a statement more

stmts_last : (n : ℕ) (ids : List StmtId) (id : StmtId) → all_stmts_below n ids ≡ true → id.place < n → all_stmts_below n (ids ++ id ∷ []) ≡ true
stmts_last n [] id h l = and_from (nat_lt id.place n) true (lt-ltb id.place n l) refl
stmts_last n (i ∷ is) id h l =
    let p = and_parts (nat_lt i.place n) (all_stmts_below n is) h in
    and_from (nat_lt i.place n) (all_stmts_below n (is ++ id ∷ [])) p.0 (stmts_last n is id p.1 l)

block_last : (f : ℕ → tree.Stmt) (ids : List StmtId) (id : StmtId) → block_at f (ids ++ id ∷ []) ≡ append (block_at f ids) (one (f id.place))
block_last f [] id = refl
block_last f (i ∷ is) id = ap (tree.Then (f i.place)) (block_last f is id)

stmt_grows : (x y : Design) (node : Stmt) (id : ℕ) → DraftKeeps x → DraftKeeps y → StmtPut x y node id → Grows x y
stmt_grows x y node id a b p = record { only = by_stmts x y (x.stmts ++ node ∷ []) p.is; signals = ap (λ (d : Design). d.signals) p.is; memories = ap (λ (d : Design). d.memories) p.is; stays = p.stays; drivings = drivings_stay x y a b p.stays }

pub put_last : (x y : Design) (node : Stmt) (id : StmtId) (before after : List StmtId) (n : ℕ) → DraftKeeps x → DraftKeeps y → StmtStands n (length x.targets) node → stmt_below node (length x.stmts) ≡ true
    → AreThere x before → StmtPut x y node id.place → after ≡ before ++ id ∷ [] → Put x y before after (one (node_stmt (term x) (design.target x) (design.stmt x) node)) (node_more x node)
put_last x y node id before after n a b stands below h p e =
    let at : slice_get y.stmts id.place ≡ Some node = ap (λ (d : Design). slice_get d.stmts id.place) p.is ∙ ap (slice_get (x.stmts ++ node ∷ [])) p.place ∙ get_last x.stmts node in
    let g = stmt_grows x y node id.place a b p in
    let more : length y.stmts ≡ length x.stmts + 1 = ap (λ (d : Design). length d.stmts) p.is ∙ length-append x.stmts (node ∷ []) in
    let there : all_stmts_below (length y.stmts) (before ++ id ∷ []) ≡ true = stmts_last (length y.stmts) before id (stmts_wider (length x.stmts) (length y.stmts) before g.stays.stmts (search h)) (omega (arith, p.place)) in
    record {
      grows = g;
      there = subst (λ (ids : List StmtId). AreThere y ids) (sym e) (search there);
      tree =
          ap (block y) e
          ∙ block_last (design.stmt y) before id
          ∙ ap (λ (b : tree.Block). append b (one (design.stmt y id.place))) (block_kept before g h)
          ∙ ap (λ (s : tree.Stmt). append (block x before) (one s)) p.tree;
      drives = last_drives x y node id before after n a b p at stands below h e;
    }

-- ---- one after another

pub put_none : (x : Design) (ids : List StmtId) → AreThere x ids → Put x x ids ids tree.Done (λ driver. [])
put_none x ids h = record { grows = grows_same x; there = h; tree = sym (append_done (block x ids)); drives = λ driver. sym (append-nil (drivings_of x driver ids)) }

pub put_is : {x y : Design} {a b : List StmtId} {p q : tree.Block} {l : Driven} → p ≡ q → Put x y a b p l → Put x y a b q l
put_is {x} {y} {a} {b} {p} {q} {l} e h = record { grows = h.grows; there = h.there; tree = h.tree ∙ ap (append (block x a)) e; drives = h.drives }

pub put_drives : {x y : Design} {a b : List StmtId} {p : tree.Block} {l m : Driven} → ((driver : ℕ) → l driver ≡ m driver) → Put x y a b p l → Put x y a b p m
put_drives {x} {y} {a} {b} {p} {l} {m} e h = record { grows = h.grows; there = h.there; tree = h.tree; drives = λ driver. h.drives driver ∙ ap (λ (u : List Driving). drivings_of x driver a ++ u) (e driver) }

-- after a draft has grown
pub put_after : {x y z : Design} {a b : List StmtId} {p : tree.Block} {l : Driven} → Grows x y → AreThere x a → Put y z a b p l → Put x z a b p l
put_after {x} {y} {z} {a} {b} {p} {l} g h q = record { grows = grows_then g q.grows; there = q.there; tree = q.tree ∙ ap (λ (c : tree.Block). append c p) (block_kept a g h); drives = λ driver. q.drives driver ∙ ap (λ (u : List Driving). u ++ l driver) (list_stays x y a g.drivings h driver) }

pub put_then : {x y z : Design} {a b c : List StmtId} {p q : tree.Block} {l m : Driven} → Put x y a b p l → Put y z b c q m → Put x z a c (append p q) (λ driver. l driver ++ m driver)
put_then {x} {y} {z} {a} {b} {c} {p} {q} {l} {m} h g = record {
  grows = grows_then h.grows g.grows;
  there = g.there;
  tree = g.tree ∙ ap (λ (e : tree.Block). append e q) h.tree ∙ append_all (block x a) p q;
  drives = λ driver. g.drives driver ∙ ap (λ (u : List Driving). u ++ m driver) (h.drives driver) ∙ append_assoc (drivings_of x driver a) (l driver) (m driver);
}

-- a list that starts empty
pub put_all : {x y : Design} {a b : List StmtId} {p : tree.Block} {l : Driven} → a ≡ [] → Put x y a b p l → StmtsPut x y b p l
put_all {x} {y} {a} {b} {p} {l} e h = record { grows = h.grows; are = record { there = h.there; tree = h.tree ∙ ap (λ (ids : List StmtId). append (block x ids) p) e }; drives = λ driver. h.drives driver ∙ ap (λ (ids : List StmtId). drivings_of x driver ids ++ l driver) e }

-- ---- a part of a block

-- of the whole the rest is still to be put
pub record PutSome (x y : Design) (a b : List StmtId) (whole rest : tree.Block) (l m : Driven) : Type 0 where
  pub grows : Grows x y
  pub there : AreThere y b
  pub tree : append (block y b) rest ≡ append (block x a) whole
  pub drives : (driver : ℕ) → drivings_of y driver b ++ m driver ≡ drivings_of x driver a ++ l driver

pub some_start : (x : Design) (a : List StmtId) (whole : tree.Block) (l : Driven) → AreThere x a → PutSome x x a a whole whole l l
some_start x a whole l h = record { grows = grows_same x; there = h; tree = refl; drives = λ driver. refl }

pub some_more : {x y z : Design} {a b c : List StmtId} {whole rest more p : tree.Block} {l m n k : Driven} → PutSome x y a b whole rest l m → rest ≡ append p more → Put y z b c p k → ((driver : ℕ) → m driver ≡ k driver ++ n driver) → PutSome x z a c whole more l n
some_more {x} {y} {z} {a} {b} {c} {whole} {rest} {more} {p} {l} {m} {n} {k} h e q f = record {
  grows = grows_then h.grows q.grows;
  there = q.there;
  tree = ap (λ (l : tree.Block). append l more) q.tree ∙ append_all (block y b) p more ∙ ap (append (block y b)) (sym e) ∙ h.tree;
  drives = λ driver.
      ap (λ (u : List Driving). u ++ n driver) (q.drives driver) ∙ append_assoc (drivings_of y driver b) (k driver) (n driver)
      ∙ ap (λ (u : List Driving). drivings_of y driver b ++ u) (sym (f driver)) ∙ h.drives driver;
}

pub some_done : {x y : Design} {a b : List StmtId} {whole rest : tree.Block} {l m : Driven} → PutSome x y a b whole rest l m → rest ≡ tree.Done → ((driver : ℕ) → m driver ≡ []) → Put x y a b whole l
some_done {x} {y} {a} {b} {whole} {rest} {l} {m} h e f = record { grows = h.grows; there = h.there; tree = sym (append_done (block y b)) ∙ ap (append (block y b)) (sym e) ∙ h.tree; drives = λ driver. sym (append-nil (drivings_of y driver b)) ∙ ap (λ (u : List Driving). drivings_of y driver b ++ u) (sym (f driver)) ∙ h.drives driver }

-- ---- branches

abbrev pub join : tree.Branches → tree.Branches → tree.Branches
join tree.NoBranch rest = rest
join (tree.Branch c b more) rest = tree.Branch c b (join more rest)

pub join_none : (bs : tree.Branches) → join bs tree.NoBranch ≡ bs
join_none tree.NoBranch = refl
join_none (tree.Branch c b more) = ap (tree.Branch c b) (join_none more)

join_last : (t : ℕ → Term) (f : ℕ → tree.Stmt) (bs : List Branch) (b : Branch) (rest : tree.Branches) → join (branches_at t f (bs ++ b ∷ [])) rest ≡ join (branches_at t f bs) (tree.Branch (t b.cond.place) (block_at f b.body) rest)
join_last t f [] b rest = refl
join_last t f (x ∷ xs) b rest = ap (tree.Branch (t x.cond.place) (block_at f x.body)) (join_last t f xs b rest)

conds_last : (n : ℕ) (bs : List Branch) (b : Branch) → BranchesStand n bs → b.cond.place < n → BranchesStand n (bs ++ b ∷ [])
conds_last n [] b h l = (l, tt)
conds_last n (x ∷ xs) b h l = (h.0, conds_last n xs b h.1 l)

branches_last : (n : ℕ) (bs : List Branch) (b : Branch) → all_branches_below n bs ≡ true → all_stmts_below n b.body ≡ true → all_branches_below n (bs ++ b ∷ []) ≡ true
branches_last n [] b h l = and_from (all_stmts_below n b.body) true l refl
branches_last n (x ∷ xs) b h l =
    let p = and_parts (all_stmts_below n x.body) (all_branches_below n xs) h in
    and_from (all_stmts_below n x.body) (all_branches_below n (xs ++ b ∷ [])) p.0 (branches_last n xs b p.1 l)

pub record BranchesSome (x y : Design) (list : List Branch) (whole rest : tree.Branches) (l m : Driven) : Type 0 where
  pub grows : Grows x y
  pub conds : BranchesStand (length y.exprs) list
  pub there : IsTrue (all_branches_below (length y.stmts) list)
  pub tree : join (branches_at (term y) (design.stmt y) list) rest ≡ whole
  pub drives : (driver : ℕ) → branch_drivings (drivings_at y driver) list ++ m driver ≡ l driver

pub branches_start : (x : Design) (whole : tree.Branches) (l : Driven) → BranchesSome x x [] whole whole l l
branches_start x whole l = record { grows = grows_same x; conds = tt; there = refl; tree = refl; drives = λ driver. refl }

pub branches_more : {x y z : Design} {list : List Branch} {whole rest more : tree.Branches} {p : tree.Block} {i m n k : Driven} (b : Branch) (c : Term) → BranchesSome x y list whole rest i m → rest ≡ tree.Branch c p more → ((driver : ℕ) → m driver ≡ k driver ++ n driver)
    → StmtsPut y z b.body p k → b.cond.place < length y.exprs → term y b.cond.place ≡ c → BranchesSome x z (list ++ b ∷ []) whole more i n
branches_more {x} {y} {z} {list} {whole} {rest} {more} {p} {i} {m} {n} {k} b c h e f q l t =
    let g = q.grows in
    record {
      grows = grows_then h.grows g;
      conds = conds_last (length z.exprs) list b (conds_wider (length y.exprs) (length z.exprs) list g.stays.exprs h.conds) (omega (arith, l, g.stays.exprs));
      there = search (branches_last (length z.stmts) list b (branches_wider (length y.stmts) (length z.stmts) list g.stays.stmts (search h.there)) (search q.are.there));
      tree =
          join_last (term z) (design.stmt z) list b more
          ∙ ap (λ (u : Term). join (branches_at (term z) (design.stmt z) list) (tree.Branch u (block z b.body) more)) (g.stays.terms b.cond.place l ∙ t)
          ∙ ap (λ (u : tree.Block). join (branches_at (term z) (design.stmt z) list) (tree.Branch c u more)) q.are.tree
          ∙ ap (join (branches_at (term z) (design.stmt z) list)) (sym e)
          ∙ ap (λ (u : tree.Branches). join u rest) (branches_kept list g h.conds h.there)
          ∙ h.tree;
      drives = λ driver.
          ap (λ (u : List Driving). u ++ n driver) (branches_both (drivings_at z driver) list b ∙ ap (λ (u : List Driving). branch_drivings (drivings_at z driver) list ++ u) (q.drives driver))
          ∙ append_assoc (branch_drivings (drivings_at z driver) list) (k driver) (n driver)
          ∙ ap (λ (u : List Driving). u ++ (k driver ++ n driver)) (branches_stay y z list g.drivings (search h.there) driver)
          ∙ ap (λ (u : List Driving). branch_drivings (drivings_at y driver) list ++ u) (sym (f driver)) ∙ h.drives driver;
    }

pub branches_done : {x y : Design} {list : List Branch} {whole rest : tree.Branches} {l m : Driven} → BranchesSome x y list whole rest l m → rest ≡ tree.NoBranch → ((driver : ℕ) → m driver ≡ []) → BranchesPut x y list whole l
branches_done {x} {y} {list} {whole} {rest} {l} {m} h e f = record {
  drives = λ driver. sym (append-nil (branch_drivings (drivings_at y driver) list)) ∙ ap (λ (u : List Driving). branch_drivings (drivings_at y driver) list ++ u) (sym (f driver)) ∙ h.drives driver;
  grows = h.grows;
  conds = h.conds;
  there = h.there;
  tree = sym (join_none (branches_at (term y) (design.stmt y) list)) ∙ ap (join (branches_at (term y) (design.stmt y) list)) (sym e) ∙ h.tree;
}

-- ---- arms

abbrev pub join_arms : tree.Arms → tree.Arms → tree.Arms
join_arms tree.NoArm rest = rest
join_arms (tree.Arm key b more) rest = tree.Arm key b (join_arms more rest)

pub join_no_arms : (arms : tree.Arms) → join_arms arms tree.NoArm ≡ arms
join_no_arms tree.NoArm = refl
join_no_arms (tree.Arm key b more) = ap (tree.Arm key b) (join_no_arms more)

join_last_arm : (f : ℕ → tree.Stmt) (arms : List Arm) (a : Arm) (rest : tree.Arms) → join_arms (arms_at f (arms ++ a ∷ [])) rest ≡ join_arms (arms_at f arms) (tree.Arm a.key (block_at f a.body) rest)
join_last_arm f [] a rest = refl
join_last_arm f (x ∷ xs) a rest = ap (tree.Arm x.key (block_at f x.body)) (join_last_arm f xs a rest)

arms_last : (n : ℕ) (arms : List Arm) (a : Arm) → all_arms_below n arms ≡ true → all_stmts_below n a.body ≡ true → all_arms_below n (arms ++ a ∷ []) ≡ true
arms_last n [] a h l = and_from (all_stmts_below n a.body) true l refl
arms_last n (x ∷ xs) a h l =
    let p = and_parts (all_stmts_below n x.body) (all_arms_below n xs) h in
    and_from (all_stmts_below n x.body) (all_arms_below n (xs ++ a ∷ [])) p.0 (arms_last n xs a p.1 l)

pub record ArmsSome (x y : Design) (list : List Arm) (whole rest : tree.Arms) (l m : Driven) : Type 0 where
  pub grows : Grows x y
  pub there : IsTrue (all_arms_below (length y.stmts) list)
  pub tree : join_arms (arms_at (design.stmt y) list) rest ≡ whole
  pub drives : (driver : ℕ) → arm_drivings (drivings_at y driver) list ++ m driver ≡ l driver

pub arms_start : (x : Design) (whole : tree.Arms) (l : Driven) → ArmsSome x x [] whole whole l l
arms_start x whole l = record { grows = grows_same x; there = refl; tree = refl; drives = λ driver. refl }

pub arms_more : {x y z : Design} {list : List Arm} {whole rest more : tree.Arms} {p : tree.Block} {i m n k : Driven} (a : Arm) → ArmsSome x y list whole rest i m → rest ≡ tree.Arm a.key p more → ((driver : ℕ) → m driver ≡ k driver ++ n driver) → StmtsPut y z a.body p k → ArmsSome x z (list ++ a ∷ []) whole more i n
arms_more {x} {y} {z} {list} {whole} {rest} {more} {p} {i} {m} {n} {k} a h e f q =
    let g = q.grows in
    record {
      grows = grows_then h.grows g;
      there = search (arms_last (length z.stmts) list a (arms_wider (length y.stmts) (length z.stmts) list g.stays.stmts (search h.there)) (search q.are.there));
      tree =
          join_last_arm (design.stmt z) list a more
          ∙ ap (λ (u : tree.Block). join_arms (arms_at (design.stmt z) list) (tree.Arm a.key u more)) q.are.tree
          ∙ ap (join_arms (arms_at (design.stmt z) list)) (sym e)
          ∙ ap (λ (u : tree.Arms). join_arms u rest) (arms_kept list g h.there)
          ∙ h.tree;
      drives = λ driver.
          ap (λ (u : List Driving). u ++ n driver) (arms_both (drivings_at z driver) list a ∙ ap (λ (u : List Driving). arm_drivings (drivings_at z driver) list ++ u) (q.drives driver))
          ∙ append_assoc (arm_drivings (drivings_at z driver) list) (k driver) (n driver)
          ∙ ap (λ (u : List Driving). u ++ (k driver ++ n driver)) (arms_stay y z list g.drivings (search h.there) driver)
          ∙ ap (λ (u : List Driving). arm_drivings (drivings_at y driver) list ++ u) (sym (f driver)) ∙ h.drives driver;
    }

pub arms_done : {x y : Design} {list : List Arm} {whole rest : tree.Arms} {l m : Driven} → ArmsSome x y list whole rest l m → rest ≡ tree.NoArm → ((driver : ℕ) → m driver ≡ []) → ArmsPut x y list whole l
arms_done {x} {y} {list} {whole} {rest} {l} {m} h e f = record {
  drives = λ driver. sym (append-nil (arm_drivings (drivings_at y driver) list)) ∙ ap (λ (u : List Driving). arm_drivings (drivings_at y driver) list ++ u) (sym (f driver)) ∙ h.drives driver;
  grows = h.grows;
  there = h.there;
  tree = sym (join_no_arms (arms_at (design.stmt y) list)) ∙ ap (join_arms (arms_at (design.stmt y) list)) (sym e) ∙ h.tree;
}
