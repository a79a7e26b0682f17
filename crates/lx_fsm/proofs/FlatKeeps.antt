-- The design in which all FSMs stand keeps what designs keep.
use Rattle.std.proofs.Common.{◌≡◌, ℕ, ℤ, zero, suc, pos, ◌+◌, ◌<◌, ◌≤◌, Bool, true, false, ◌||◌, List, [], ◌∷◌, ◌++◌, Option, Some, None, cond, get_or, length, map, refl, sym, ap, ◌∙◌, arith, nat_eq, flat_map, eq-eqb, inl, inr}
use Rattle.std.specs.Prelude.{IfSome, option_map, slice_get, slice_index_or}
use Rattle.std.specs.List.{list_any}
use Rattle.std.proofs.lemmas.Bool.{eqb-true, or_cases, or_from, or_left, or_parts, or_right}
use Rattle.lx_circuit.specs.Circuit as circuit
use Rattle.lx_circuit.specs.Circuit.{Role, Sync, is_among, is_some_reset, read_role, role, sync_role}
use Rattle.lx_circuit.specs.Statements as tree
use Rattle.lx_circuit.specs.Statements.{drives_block}
use Rattle.lx_fhdl.specs.Below.{StmtId}
use Rattle.lx_fhdl.specs.Designs as design
use Rattle.lx_fhdl.specs.Designs.{block, circuit_of, domains_from, made_of, shapes, stmts_of}
use Rattle.lx_fhdl.specs.Keeping.{EachOf, HasResetPath, IsDomain, IsReset, PartStands, block_depth}
use Rattle.lx_fhdl.specs.declared.design.Design.{Design}
use Rattle.lx_fhdl.specs.declared.design.Domain.{Domain}
use Rattle.lx_fhdl.specs.declared.design.Signal.{Signal}
use Rattle.lx_fhdl.specs.declared.design.SyncPart.{SyncPart}
use Rattle.lx_fhdl.specs.declared.exprs.Expr.{Expr}
use Rattle.lx_fhdl.specs.declared.exprs.SigId.{SigId}
use Rattle.lx_fhdl.specs.declared.stmts.Stmt.{Stmt}
use Rattle.lx_fhdl.specs.declared.stmts.Target.{Target}
use Rattle.lx_description.specs.Fsms.{assigned}
use Rattle.lx_description.specs.Keeping.{IsBody, IsFsm, is_sys}
use Rattle.lx_description.specs.Wires.{fsm_signals, resets, some_number}
use Rattle.lx_description.specs.declared.description.Description.{Description}
use Rattle.lx_description.specs.declared.fsms.Asked.{Asked}
use Rattle.lx_description.specs.declared.fsms.FsmDecl.{FsmDecl}
use Rattle.lx_description.specs.declared.fsms.StateDecl.{StateDecl}
use Rattle.lx_lowering.specs.Flat.{append, one}
use Rattle.lx_lowering.proofs.Appends.{depth_append, drives_append}
use Rattle.lx_fsm.specs.Decls.{fsm_of, ongoing_of, state_of}
use Rattle.lx_fsm.specs.Flattened.{CanFlatten, comb_at, comb_of, comb_place, flat_comb, flat_sync, given_at, is_at, part_of, start_of, sync_at, sync_of, sync_place, sys_number, with_reset, with_starts, woven}
use Rattle.lx_fsm.specs.Laid.{some_part, woven_parts}
use Rattle.lx_fsm.specs.Lists.{by_state, in_comb, in_sync, ongoing_list, register_of}
use Rattle.lx_fsm.specs.Lowers.{StmtsAre}
use Rattle.lx_fsm.specs.Machine.{Ongoing, State}
use Rattle.lx_fsm.proofs.Laying.{block_join}
use Rattle.lx_fsm.proofs.Reopened.{reset_long}
use Rattle.lx_fsm.proofs.Plain.{all_plain, body_plain, both_drive, comb_quiet, comb_shallow, ongoing_depth, ongoing_drives, states_depth, states_drive, sync_quiet, sync_shallow}

-- ---- depth

cond_low : (t : Bool) (b : tree.Block) (n : ℕ) → block_depth b ≤ n → block_depth (cond t b tree.Done) ≤ n
cond_low true b n h = h
cond_low false b n h = omega arith

given_depth : (place : FsmDecl → Option ℕ) (list : FsmDecl → tree.Block) (n k : ℕ) (fs : List FsmDecl) → EachOf (λ (f : FsmDecl). block_depth (list f) ≤ n) fs → block_depth (given_at place list k fs) ≤ n
given_depth place list n k [] h = omega arith
given_depth place list n k (f ∷ fs) h = by_test (is_at k (place f)) (list f) (given_at place list k fs) h.0 (given_depth place list n k fs h.1)
  where
    by_test : (t : Bool) (a b : tree.Block) → block_depth a ≤ n → block_depth b ≤ n → block_depth (cond t (append a b) b) ≤ n
    by_test true a b p q = omega (arith, depth_append a b, p, q)
    by_test false a b p q = q

woven_depth : (at : ℕ → tree.Block) (n k : ℕ) (bs : List tree.Block) → ((j : ℕ) → block_depth (at j) ≤ n) → EachOf (λ (b : tree.Block). block_depth b ≤ n) bs → block_depth (woven at k bs) ≤ n
woven_depth at n k [] h e = h k
woven_depth at n k (b ∷ bs) h e = omega (arith, depth_append (at k) (append b (woven at (k + 1) bs)), depth_append b (woven at (k + 1) bs), h k, e.0, woven_depth at n (k + 1) bs h e.1)

bodies_depth : (d : Description) (ss : List StateDecl) → EachOf (IsBody d) ss → EachOf (λ (s : State). block_depth (all_plain s.acts) ≤ 64) (map (state_of d.design d.fsm_stmts) ss)
bodies_depth d [] h = tt
bodies_depth d (s ∷ ss) h = (omega (arith, ap block_depth (body_plain d.design d.fsm_stmts s.body), h.0.depth), bodies_depth d ss h.1)

comb_depth : (d : Description) (f : FsmDecl) → EachOf (IsBody d) f.states → block_depth (comb_of d.design d.fsm_stmts f) ≤ 128
comb_depth d f h =
    let r = register_of (shapes d.design) (fsm_of d.design d.fsm_stmts f) in
    let ss = map (state_of d.design d.fsm_stmts) f.states in
    let os = map ongoing_of f.asked in
    omega (arith, depth_append (by_state r in_comb 0 ss) (ongoing_list r os), states_depth r in_comb comb_shallow 64 0 ss (bodies_depth d f.states h), ongoing_depth r os)

sync_depth : (d : Description) (f : FsmDecl) → EachOf (IsBody d) f.states → block_depth (sync_of d.design d.fsm_stmts f) ≤ 128
sync_depth d f h =
    let r = register_of (shapes d.design) (fsm_of d.design d.fsm_stmts f) in
    let ss = map (state_of d.design d.fsm_stmts) f.states in
    omega (arith, states_depth r (in_sync r) (sync_shallow r) 64 0 ss (bodies_depth d f.states h))

combs_depth : (d : Description) (fs : List FsmDecl) → EachOf (IsFsm d) fs → EachOf (λ (f : FsmDecl). block_depth (comb_of d.design d.fsm_stmts f) ≤ 128) fs
combs_depth d [] h = tt
combs_depth d (f ∷ fs) h = (comb_depth d f h.0.bodies, combs_depth d fs h.1)

syncs_depth : (d : Description) (fs : List FsmDecl) → EachOf (IsFsm d) fs → EachOf (λ (f : FsmDecl). block_depth (sync_of d.design d.fsm_stmts f) ≤ 128) fs
syncs_depth d [] h = tt
syncs_depth d (f ∷ fs) h = (sync_depth d f h.0.bodies, syncs_depth d fs h.1)

ones_depth : (x : Design) (n : ℕ) (is : List StmtId) → block_depth (block x is) ≤ n → EachOf (λ (b : tree.Block). block_depth b ≤ n) (map (λ (i : StmtId). one (design.stmt x i.place)) is)
ones_depth x n [] h = tt
ones_depth x n (i ∷ is) h = (omega (arith, h), ones_depth x n is (omega (arith, h)))

pub flat_comb_depth : (d : Description) → CanFlatten d → block_depth (flat_comb d) ≤ 128
flat_comb_depth d can =
    woven_depth (comb_at d) 128 0 (map (λ (i : StmtId). one (design.stmt d.design i.place)) d.design.comb)
    (λ k. given_depth comb_place (comb_of d.design d.fsm_stmts) 128 k d.fsms (combs_depth d d.fsms can.fsms.fsms))
    (ones_depth d.design 128 d.design.comb can.design.comb.depth)

-- ---- parts of domains

pub some_stands : (e g : Design) (s : ℕ) (ids : List StmtId) (b : tree.Block) → g.stmts ≡ e.stmts → StmtsAre e ids b → block_depth b ≤ 128 → ((ids ≡ [] → ⊥) → s < length e.domains) → EachOf (PartStands e) (some_part s ids)
some_stands e g s [] b same h l w = tt
some_stands e g s (i ∷ is) b same h l w =
    (record { domain = w (λ q. absurd (cc)); stmts = record { there = h.there; depth = omega (arith, ap block_depth h.tree, l) } }, tt)

each_join : {T : Type 0} (P : T → Type 0) (xs ys : List T) → EachOf P xs → EachOf P ys → EachOf P (xs ++ ys)
each_join P [] ys h g = g
each_join P (x ∷ xs) ys h g = (h.0, each_join P xs ys h.1 g)

pub parts_stand : (e : Design) (s : ℕ) (sl : List (List StmtId)) (ps : List SyncPart) → ((k : ℕ) → k < length sl → EachOf (PartStands e) (some_part s (get_or sl k []))) → EachOf (PartStands e) ps → EachOf (PartStands e) (woven_parts s sl ps)
parts_stand e s [] ps h g = g
parts_stand e s (a ∷ as_) [] h g = h 0 (omega arith)
parts_stand e s (a ∷ as_) (p ∷ ps) h g = each_join (PartStands e) (some_part s a) (p ∷ woven_parts s as_ ps) (h 0 (omega arith)) (g.0, parts_stand e s as_ ps (λ k l. h (suc k) (omega (arith, l))) g.1)

sys_by : (t : Bool) (n m : ℕ) (u : Bool) → (t || u) ≡ true → (u ≡ true → n < m) → cond t 0 (n + 1) < suc m
sys_by true n m u e h = omega arith
sys_by false n m u e h = omega (arith, h e)

pub sys_below : (ds : List Domain) → list_any is_sys ds ≡ true → sys_number ds < length ds
sys_below [] h = absurd (cc)
sys_below (y ∷ ys) h = sys_by (is_sys y) (sys_number ys) (length ys) (list_any is_sys ys) h (λ e. sys_below ys e)

-- where there is an FSM, there is the domain that it runs in
pub clock_some : (n : ℕ) (b : Bool) → (nat_eq n 0 || b) ≡ true → 0 < n → b ≡ true
clock_some n b e l =
    elim (or_cases (nat_eq n 0) b e) [
      | inl p ↦ let q : n ≡ 0 = eqb-true n 0 p in absurd (omega arith)
      | inr p ↦ p
    ]

-- ---- what drives a signal that no FSM does

abbrev joined : List tree.Block → tree.Block
joined [] = tree.Done
joined (b ∷ bs) = append b (joined bs)

woven_drives : (x : ℕ) (at : ℕ → tree.Block) (k : ℕ) (bs : List tree.Block) → ((j : ℕ) → drives_block x (at j) ≡ false) → drives_block x (woven at k bs) ≡ drives_block x (joined bs)
woven_drives x at k [] h = h k
woven_drives x at k (b ∷ bs) h =
    drives_append x (at k) (append b (woven at (k + 1) bs))
    ∙ ap (λ (t : Bool). t || drives_block x (append b (woven at (k + 1) bs))) (h k)
    ∙ drives_append x b (woven at (k + 1) bs)
    ∙ ap (λ (t : Bool). drives_block x b || t) (woven_drives x at (k + 1) bs h)
    ∙ sym (drives_append x b (joined bs))

joined_ones : (x : Design) (is : List StmtId) → joined (map (λ (i : StmtId). one (design.stmt x i.place)) is) ≡ block x is
joined_ones x [] = refl
joined_ones x (i ∷ is) = ap (tree.Then (design.stmt x i.place)) (joined_ones x is)

joined_parts : (x : Design) (m : ℕ) (ps : List SyncPart) → joined (map (part_of x m) ps) ≡ block x (stmts_of m ps)
joined_parts x m [] = refl
joined_parts x m (p ∷ ps) = by_test (nat_eq p.domain m) (joined_parts x m ps)
  where
    by_test : (t : Bool) → joined (map (part_of x m) ps) ≡ block x (stmts_of m ps) → append (cond t (block x p.stmts) tree.Done) (joined (map (part_of x m) ps)) ≡ block x (cond t (p.stmts ++ stmts_of m ps) (stmts_of m ps))
    by_test true e = ap (append (block x p.stmts)) e ∙ sym (block_join (design.stmt x) p.stmts (stmts_of m ps))
    by_test false e = e

given_drives : (x : ℕ) (place : FsmDecl → Option ℕ) (list : FsmDecl → tree.Block) (k : ℕ) (fs : List FsmDecl) → EachOf (λ (f : FsmDecl). drives_block x (list f) ≡ false) fs → drives_block x (given_at place list k fs) ≡ false
given_drives x place list k [] h = refl
given_drives x place list k (f ∷ fs) h = by_test (is_at k (place f)) (given_drives x place list k fs h.1)
  where
    by_test : (t : Bool) → drives_block x (given_at place list k fs) ≡ false → drives_block x (cond t (append (list f) (given_at place list k fs)) (given_at place list k fs)) ≡ false
    by_test true e = both_drive x (list f) (given_at place list k fs) h.0 e
    by_test false e = e

none_each : {T : Type 0} (p : T → Bool) (xs : List T) → list_any p xs ≡ false → EachOf (λ (x : T). p x ≡ false) xs
none_each p [] h = tt
none_each p (x ∷ xs) h = let q = or_parts (p x) (list_any p xs) h in (q.0, none_each p xs q.1)

bodies_drive : (d : Description) (x : ℕ) (ss : List StateDecl) → EachOf (λ (s : StateDecl). drives_block x (assigned d s.body) ≡ false) ss → EachOf (λ (s : State). drives_block x (all_plain s.acts) ≡ false) (map (state_of d.design d.fsm_stmts) ss)
bodies_drive d x [] h = tt
bodies_drive d x (s ∷ ss) h = (ap (drives_block x) (sym (body_plain d.design d.fsm_stmts s.body)) ∙ h.0, bodies_drive d x ss h.1)

asked_other : (x : ℕ) (as_ : List Asked) → is_among x (map (λ (a : Asked). a.signal.0) as_) ≡ false → EachOf (λ (o : Ongoing). nat_eq o.signal x ≡ false) (map ongoing_of as_)
asked_other x [] h = tt
asked_other x (a ∷ as_) h = let q = or_parts (nat_eq a.signal.0 x) (is_among x (map (λ (b : Asked). b.signal.0) as_)) h in (q.0, asked_other x as_ q.1)

among_parts : (x : ℕ) (ys zs : List ℕ) → is_among x (ys ++ zs) ≡ false → (is_among x ys ≡ false) × (is_among x zs ≡ false)
among_parts x [] zs h = (refl, h)
among_parts x (y ∷ ys) zs h =
    let q = or_parts (nat_eq y x) (is_among x (ys ++ zs)) h in
    let r = among_parts x ys zs q.1 in
    (or_from (nat_eq y x) (is_among x ys) q.0 r.0, r.1)

-- an FSM leaves a signal alone
pub record Spares (d : Description) (x : ℕ) (f : FsmDecl) : Type 0 where
  pub comb : drives_block x (comb_of d.design d.fsm_stmts f) ≡ false
  pub sync : drives_block x (sync_of d.design d.fsm_stmts f) ≡ false

spares : (d : Description) (x : ℕ) (f : FsmDecl) → list_any (λ (s : StateDecl). drives_block x (assigned d s.body)) f.states ≡ false → is_among x (fsm_signals f) ≡ false → Spares d x f
spares d x f h g =
    let r = register_of (shapes d.design) (fsm_of d.design d.fsm_stmts f) in
    let ss = map (state_of d.design d.fsm_stmts) f.states in
    let os = map ongoing_of f.asked in
    let q = or_parts (nat_eq f.state.0 x) (is_among x (map (λ (a : Asked). a.signal.0) f.asked)) g in
    let each = bodies_drive d x f.states (none_each (λ (s : StateDecl). drives_block x (assigned d s.body)) f.states h) in
    record {
      comb = both_drive x (by_state r in_comb 0 ss) (ongoing_list r os) (states_drive x r in_comb (comb_quiet x) 0 ss each) (ongoing_drives x r os (asked_other x f.asked q.1));
      sync = states_drive x r (in_sync r) (sync_quiet x r q.0) 0 ss each;
    }

pub all_spare : (d : Description) (x : ℕ) (fs : List FsmDecl) → list_any (λ (f : FsmDecl). list_any (λ (s : StateDecl). drives_block x (assigned d s.body)) f.states) fs ≡ false → is_among x (flat_map fsm_signals fs) ≡ false → EachOf (Spares d x) fs
all_spare d x [] h g = tt
all_spare d x (f ∷ fs) h g =
    let p = or_parts (list_any (λ (s : StateDecl). drives_block x (assigned d s.body)) f.states) (list_any (λ (y : FsmDecl). list_any (λ (s : StateDecl). drives_block x (assigned d s.body)) y.states) fs) h in
    let q = among_parts x (fsm_signals f) (flat_map fsm_signals fs) g in
    (spares d x f p.0 q.0, all_spare d x fs p.1 q.1)

combs_spare : (d : Description) (x : ℕ) (fs : List FsmDecl) → EachOf (Spares d x) fs → EachOf (λ (f : FsmDecl). drives_block x (comb_of d.design d.fsm_stmts f) ≡ false) fs
combs_spare d x [] h = tt
combs_spare d x (f ∷ fs) h = (h.0.comb, combs_spare d x fs h.1)

syncs_spare : (d : Description) (x : ℕ) (fs : List FsmDecl) → EachOf (Spares d x) fs → EachOf (λ (f : FsmDecl). drives_block x (sync_of d.design d.fsm_stmts f) ≡ false) fs
syncs_spare d x [] h = tt
syncs_spare d x (f ∷ fs) h = (h.0.sync, syncs_spare d x fs h.1)

pub comb_drives : (d : Description) (x : ℕ) → EachOf (Spares d x) d.fsms → drives_block x (flat_comb d) ≡ drives_block x (block d.design d.design.comb)
comb_drives d x h =
    woven_drives x (comb_at d) 0 (map (λ (i : StmtId). one (design.stmt d.design i.place)) d.design.comb) (λ k. given_drives x comb_place (comb_of d.design d.fsm_stmts) k d.fsms (combs_spare d x d.fsms h))
    ∙ ap (drives_block x) (joined_ones d.design d.design.comb)

sync_at_drives : (d : Description) (x m k : ℕ) → EachOf (Spares d x) d.fsms → drives_block x (sync_at d m k) ≡ false
sync_at_drives d x m k h = by_test (nat_eq (sys_number d.design.domains) m) (given_drives x sync_place (sync_of d.design d.fsm_stmts) k d.fsms (syncs_spare d x d.fsms h))
  where
    by_test : (t : Bool) → drives_block x (given_at sync_place (sync_of d.design d.fsm_stmts) k d.fsms) ≡ false → drives_block x (cond t (given_at sync_place (sync_of d.design d.fsm_stmts) k d.fsms) tree.Done) ≡ false
    by_test true e = e
    by_test false e = refl

pub sync_drives : (d : Description) (x m : ℕ) → EachOf (Spares d x) d.fsms → drives_block x (flat_sync d m) ≡ drives_block x (block d.design (stmts_of m d.design.sync))
sync_drives d x m h =
    woven_drives x (sync_at d m) 0 (map (part_of d.design m) d.design.sync) (λ k. sync_at_drives d x m k h)
    ∙ ap (drives_block x) (joined_parts d.design m d.design.sync)

-- ---- resets of domains stay inputs

-- a design with other arenas, statements and reset values
abbrev pub other : Design → List Expr → List Target → List Stmt → List FsmDecl → List StmtId → List SyncPart → Design
other x es ts ss fs comb sync = record x { exprs = es; targets = ts; stmts = ss; signals = with_starts fs x.signals; comb = comb; sync = sync }

path_once : (y : Domain) (z : ℤ) (k : ℕ) (ss : List Signal) (j : ℕ) → HasResetPath y (slice_get ss j) → HasResetPath y (slice_get (with_reset z k ss) j)
path_once y z k [] j h = h
path_once y z zero (s ∷ ss) zero h = h
path_once y z zero (s ∷ ss) (suc j) h = h
path_once y z (suc k) (s ∷ ss) zero h = h
path_once y z (suc k) (s ∷ ss) (suc j) h = path_once y z k ss j h

pub path_kept : (y : Domain) (fs : List FsmDecl) (ss : List Signal) (j : ℕ) → HasResetPath y (slice_get ss j) → HasResetPath y (slice_get (with_starts fs ss) j)
path_kept y [] ss j h = h
path_kept y (f ∷ fs) ss j h = path_kept y fs (with_reset (pos (start_of f)) f.state.0 ss) j (path_once y (pos (start_of f)) f.state.0 ss j h)

given_once : (z : ℤ) (k : ℕ) (ss : List Signal) (j : ℕ) → (slice_index_or (map made_of (with_reset z k ss)) j circuit.nothing).given ≡ (slice_index_or (map made_of ss) j circuit.nothing).given
given_once z k [] j = refl
given_once z zero (s ∷ ss) zero = refl
given_once z zero (s ∷ ss) (suc j) = refl
given_once z (suc k) (s ∷ ss) zero = refl
given_once z (suc k) (s ∷ ss) (suc j) = given_once z k ss j

given_kept : (fs : List FsmDecl) (ss : List Signal) (j : ℕ) → (slice_index_or (map made_of (with_starts fs ss)) j circuit.nothing).given ≡ (slice_index_or (map made_of ss) j circuit.nothing).given
given_kept [] ss j = refl
given_kept (f ∷ fs) ss j = given_kept fs (with_reset (pos (start_of f)) f.state.0 ss) j ∙ given_once (pos (start_of f)) f.state.0 ss j

pub signals_long : (fs : List FsmDecl) (ss : List Signal) → length (with_starts fs ss) ≡ length ss
signals_long [] ss = refl
signals_long (f ∷ fs) ss = signals_long fs (with_reset (pos (start_of f)) f.state.0 ss) ∙ reset_long (pos (start_of f)) f.state.0 ss

sync_same : (e x : Design) (r k : ℕ) (ds : List Domain) (q : Role) → ((m : ℕ) → drives_block r (block e (stmts_of m e.sync)) ≡ drives_block r (block x (stmts_of m x.sync)))
    → sync_role r k (domains_from e k ds) q ≡ sync_role r k (domains_from x k ds) q
sync_same e x r k [] q h = refl
sync_same e x r k (y ∷ ys) q h =
    ap (λ (t : Bool). cond t (Sync k) (sync_role r (k + 1) (domains_from e (k + 1) ys) q)) (h k)
    ∙ ap (cond (drives_block r (block x (stmts_of k x.sync))) (Sync k)) (sync_same e x r (k + 1) ys q h)

resets_same : (e x : Design) (r k : ℕ) (ds : List Domain) → is_some_reset r (domains_from e k ds) ≡ is_some_reset r (domains_from x k ds)
resets_same e x r k [] = refl
resets_same e x r k (y ∷ ys) = ap (λ (t : Bool). circuit.is_named r (option_map design.signal_number y.reset) || t) (resets_same e x r (k + 1) ys)

pub role_same : (x : Design) (es : List Expr) (ts : List Target) (ss : List Stmt) (fs : List FsmDecl) (comb : List StmtId) (sync : List SyncPart) (r : ℕ)
    → drives_block r (block (other x es ts ss fs comb sync) comb) ≡ drives_block r (block x x.comb)
    → ((m : ℕ) → drives_block r (block (other x es ts ss fs comb sync) (stmts_of m sync)) ≡ drives_block r (block x (stmts_of m x.sync)))
    → role (circuit_of (other x es ts ss fs comb sync)) r ≡ role (circuit_of x) r
unfolding circuit_of
role_same x es ts ss fs comb sync r h g =
    let e = other x es ts ss fs comb sync in
    let ports = map design.port_of x.ports in
    let idle : (t u : Bool) → t ≡ u → (a b : Bool) → a ≡ b → cond t circuit.Undriven (cond a circuit.Input circuit.Undriven) ≡ cond u circuit.Undriven (cond b circuit.Input circuit.Undriven)
    = λ t u p a b q. ap (λ (v : Bool). cond v circuit.Undriven (cond a circuit.Input circuit.Undriven)) p ∙ ap (λ (v : Bool). cond u circuit.Undriven (cond v circuit.Input circuit.Undriven)) q in
    let last = idle _ _ (given_kept fs x.signals r) _ _ (ap (λ (t : Bool). is_among r (map design.signal_number x.ios) || t) (resets_same e x r 0 x.domains)) in
    ap (λ (t : Bool). cond t circuit.Comb (sync_role r 0 (domains_from e 0 x.domains) (read_role r 0 ports (circuit.idle_role (circuit_of e) r)))) h
    ∙ ap (cond (drives_block r (block x x.comb)) circuit.Comb)
    (sync_same e x r 0 x.domains (read_role r 0 ports (circuit.idle_role (circuit_of e) r)) g
    ∙ ap (λ (q : Role). sync_role r 0 (domains_from x 0 x.domains) (read_role r 0 ports q)) last)

among_left : (x : ℕ) (o : Option SigId) (zs : List ℕ) → is_among x zs ≡ true → is_among x (some_number o ++ zs) ≡ true
among_left x None zs h = h
among_left x (Some s) zs h = or_right (nat_eq s.0 x) (is_among x zs) h

reset_stands : (x e : Design) (y : Domain) (o : Option SigId) → ((r : SigId) → o ≡ Some r → role (circuit_of e) r.0 ≡ role (circuit_of x) r.0) → ((r : SigId) → HasResetPath y (slice_get x.signals r.0) → HasResetPath y (slice_get e.signals r.0))
    → IfSome o (IsReset x y) → IfSome o (IsReset e y)
reset_stands x e y None h g p = tt
reset_stands x e y (Some r) h g p = record { path = g r p.path; input = h r refl ∙ p.input }

own_among : (s : SigId) (o : Option SigId) (zs : List ℕ) → o ≡ Some s → is_among s.0 (some_number o ++ zs) ≡ true
own_among s None zs e = absurd (cc)
own_among s (Some r) zs e = let same : r ≡ s = cc in or_left (nat_eq r.0 s.0) (is_among s.0 zs) (ap (λ (q : SigId). nat_eq q.0 s.0) same ∙ eq-eqb s.0 s.0 refl)

pub domains_stand : (x e : Design) (ds : List Domain) → ((r : ℕ) → is_among r (resets ds) ≡ true → role (circuit_of e) r ≡ role (circuit_of x) r)
    → ((y : Domain) (r : SigId) → HasResetPath y (slice_get x.signals r.0) → HasResetPath y (slice_get e.signals r.0)) → EachOf (IsDomain x) ds → EachOf (IsDomain e) ds
domains_stand x e [] h g p = tt
domains_stand x e (y ∷ ys) h g p = (
  record { name = p.0.name; reset = reset_stands x e y y.reset (λ r q. h r.0 (own_among r y.reset (resets ys) q)) (g y) p.0.reset },
  domains_stand x e ys (λ r q. h r (among_left r y.reset (resets ys) q)) g p.1,
)

pub syncs_low : (d : Description) → CanFlatten d → (k : ℕ) → block_depth (given_at sync_place (sync_of d.design d.fsm_stmts) k d.fsms) ≤ 128
syncs_low d can k = given_depth sync_place (sync_of d.design d.fsm_stmts) 128 k d.fsms (syncs_depth d d.fsms can.fsms.fsms)
