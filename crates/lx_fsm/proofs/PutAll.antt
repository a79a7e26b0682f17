-- The lists of all FSMs are put where they stand.
use Rattle.std.proofs.Common.{◌≡◌, ℕ, pos, ◌+◌, ◌-◌, ◌<◌, ◌≤◌, List, [], ◌∷◌, ◌++◌, get_or, length, take, refl, sym, ap, subst, ◌∙◌, arith, flat_map}
use Rattle.std.specs.Prelude.{map}
use Rattle.std.proofs.Math.Path.{fun_ext}
use Rattle.std.proofs.lemmas.List.{take_all, take_more}
use Rattle.lx_text.specs.declared.faults.Fault.{Fault}
use Rattle.lx_text.specs.declared.faults.Refusal.{Refusal}
use Rattle.lx_text.specs.declared.faults.Refusal.TheVariants as refusal
use Rattle.lx_alloc.specs.Judged.{Refused}
use Rattle.lx_alloc.proofs.Judging.{flat_exit_at, flat_more_at}
use Rattle.lx_num.specs.declared.Shape.{Shape}
use Rattle.lx_num.specs.Fewest.{IsFewestBits}
use Rattle.lx_arena.specs.Lower.{EachLower}
use Rattle.lx_circuit.specs.Shapes.{Shapes}
use Rattle.lx_fhdl.specs.Below.{StmtId}
use Rattle.lx_fhdl.specs.Designs.{shapes}
use Rattle.lx_fhdl.specs.Keeping.{EachOf, IsAddress, IsUnsigned}
use Rattle.lx_fhdl.specs.declared.design.Design.{Design}
use Rattle.lx_fhdl.specs.declared.exprs.SigId.{SigId}
use Rattle.lx_description.specs.Below.{fsm_below}
use Rattle.lx_description.specs.Keeping.{FsmStmtStands}
use Rattle.lx_description.specs.declared.fsms.Asked.{Asked}
use Rattle.lx_description.specs.declared.fsms.FsmDecl.{FsmDecl}
use Rattle.lx_description.specs.declared.fsms.FsmStmt.{FsmStmt}
use Rattle.lx_fsm.specs.Decls.{fsm_of, ongoing_of}
use Rattle.lx_fsm.specs.Flattened.{comb_of, comb_place, faults_of, given_at, given_driven, sync_of, sync_place}
use Rattle.lx_fsm.specs.Laid.{AreDriven, AreNone, ArePut, CanPut, IsWithin, put_where}
use Rattle.lx_fsm.specs.Lists.{comb_list, sync_list}
use Rattle.lx_fsm.specs.Lowers.{CanLower, Grows, IsListed, Refuses}
use Rattle.lx_fsm.specs.Machine.{Fsm, State, faults}
use Rattle.lx_fsm.specs.declared.lowering.FsmLists.{FsmLists}
use Rattle.lx_fsm.proofs.Grown.{grows_same, grows_then, same_shapes}
use Rattle.lx_fsm.specs.Driven.{comb_driven, sync_driven}
use Rattle.lx_fsm.proofs.Drives.{list_stays}
use Rattle.lx_fsm.proofs.LayingDriven.{driven_last, driven_none, driven_put}
use Rattle.lx_fsm.proofs.Laying.{are_is, given_kept, given_last, given_none, given_put, put_long}
use Rattle.lx_fsm.proofs.Ready.{all_wider, each_at}
use Rattle.lx_fsm.proofs.Whole.{comb_driven_stays, states_stay, sync_driven_stays}

-- ---- over a design that grew

abbrev Stand : Design → List FsmStmt → Type 0
Stand d xs = EachOf (FsmStmtStands (length d.exprs) (length d.targets)) xs

abbrev fsm_with : FsmDecl → List State → Fsm
fsm_with f ss = record { state = f.state.0; start = f.start; states = ss; ongoing = map ongoing_of f.asked }

pub fsm_stays : {x y : Design} (xs : List FsmStmt) (f : FsmDecl) → Grows x y → EachLower fsm_below xs → Stand x xs → fsm_of y xs f ≡ fsm_of x xs f
fsm_stays xs f g low h = ap (fsm_with f) (states_stay xs f.states g low h)

pub shapes_stay : {x y : Design} → Grows x y → shapes y ≡ shapes x
shapes_stay g = fun_ext (same_shapes g)

comb_stays : {x y : Design} (xs : List FsmStmt) (f : FsmDecl) → Grows x y → EachLower fsm_below xs → Stand x xs → comb_of y xs f ≡ comb_of x xs f
comb_stays {x} {y} xs f g low h = ap (λ (s : Shapes). comb_list s (fsm_of y xs f)) (shapes_stay g) ∙ ap (comb_list (shapes x)) (fsm_stays xs f g low h)

sync_stays : {x y : Design} (xs : List FsmStmt) (f : FsmDecl) → Grows x y → EachLower fsm_below xs → Stand x xs → sync_of y xs f ≡ sync_of x xs f
sync_stays {x} {y} xs f g low h = ap (λ (s : Shapes). sync_list s (fsm_of y xs f)) (shapes_stay g) ∙ ap (sync_list (shapes x)) (fsm_stays xs f g low h)

pub faults_stay : {x y : Design} (xs : List FsmStmt) (f : FsmDecl) → Grows x y → EachLower fsm_below xs → Stand x xs → faults_of y xs f ≡ faults_of x xs f
faults_stay {x} {y} xs f g low h = ap (λ (m : Fsm). faults m f.line) (fsm_stays xs f g low h)

address_stays : {x y : Design} (n : ℕ) (s : SigId) → Grows x y → IsAddress x n s → IsAddress y n s
address_stays {x} {y} n s g h =
    let e : length y.signals ≡ length x.signals = ap length g.signals in
    record {
      there = omega (arith, h.there, e);
      plain = ap (λ (a : Shape). a.signed) (same_shapes g s.0) ∙ h.plain;
      fewest = subst (λ (a : Shape). IsFewestBits (pos (n - 1)) a.bits) (sym (same_shapes g s.0)) h.fewest;
    }

asked_stay : {x y : Design} (as_ : List Asked) → Grows x y → EachOf (λ (a : Asked). IsUnsigned x 1 a.signal) as_ → EachOf (λ (a : Asked). IsUnsigned y 1 a.signal) as_
asked_stay [] g h = tt
asked_stay {x} {y} (a ∷ as_) g h =
    let e : length y.signals ≡ length x.signals = ap length g.signals in
    (record { there = omega (arith, h.0.there, e); shape = same_shapes g a.signal.0 ∙ h.0.shape }, asked_stay as_ g h.1)

pub can_stays : {x y : Design} {xs : List FsmStmt} {f : FsmDecl} → Grows x y → CanLower x xs f → CanLower y xs f
can_stays {x} {y} {xs} {f} g h = record {
  stmts = all_wider (length x.exprs) (length x.targets) (length y.exprs) (length y.targets) xs g.stays.exprs g.stays.targets h.stmts;
  bodies = h.bodies;
  state = λ l. address_stays (length f.states) f.state g (h.state l);
  asked = asked_stay f.asked g h.asked;
}

-- ---- one FSM after another

pub put_start : (x : Design) (xs : List FsmStmt) (comb sync : List (List StmtId)) → AreNone comb → AreNone sync → ArePut x x xs [] (length comb) (length sync) comb sync
put_start x xs comb sync h g = record { sound = refl; grows = grows_same x; comb_long = refl; sync_long = refl; comb = given_none x comb h; sync = given_none x sync g; comb_drives = λ driver. driven_none x driver comb h; sync_drives = λ driver. driven_none x driver sync g }

pub put_more : {x y z : Design} {xs : List FsmStmt} {fs : List FsmDecl} {n m : ℕ} {comb sync : List (List StmtId)} (f : FsmDecl) (lists : FsmLists) → EachLower fsm_below xs → CanPut x xs n m f → ArePut x y xs fs n m comb sync
    → IsListed y z xs f lists → flat_map (faults_of x xs) (fs ++ f ∷ []) ≡ []
    → ArePut x z xs (fs ++ f ∷ []) n m (put_where (comb_place f) lists.comb comb) (put_where (sync_place f) lists.sync sync)
put_more {x} {y} {z} {xs} {fs} {n} {m} {comb} {sync} f lists low can h l e = record {
  sound = e;
  grows = grows_then h.grows l.grows;
  comb_long = put_long (comb_place f) lists.comb comb ∙ h.comb_long;
  sync_long = put_long (sync_place f) lists.sync sync ∙ h.sync_long;
  comb =
      let put = given_put z (λ k. given_at comb_place (comb_of x xs) k fs) comb lists.comb (comb_of x xs f) (comb_place f) (given_kept comb l.grows h.comb) (are_is (comb_stays xs f h.grows low can.lower.stmts) l.comb)
      (subst (λ (j : ℕ). IsWithin j (comb_place f)) (sym h.comb_long) can.comb) in
      λ k w. are_is (sym (given_last comb_place (comb_of x xs) k fs f)) (put k w);
  sync =
      let put = given_put z (λ k. given_at sync_place (sync_of x xs) k fs) sync lists.sync (sync_of x xs f) (sync_place f) (given_kept sync l.grows h.sync) (are_is (sync_stays xs f h.grows low can.lower.stmts) l.sync)
      (subst (λ (j : ℕ). IsWithin j (sync_place f)) (sym h.sync_long) can.sync) in
      λ k w. are_is (sym (given_last sync_place (sync_of x xs) k fs f)) (put k w);
  comb_drives = λ driver.
      let old : AreDriven z driver (λ k. given_driven comb_place (λ g. comb_driven x xs g driver) k fs) comb = λ k w. list_stays y z (get_or comb k []) l.grows.drivings (h.comb k w).there driver ∙ h.comb_drives driver k w in
      let put = driven_put z driver (λ k. given_driven comb_place (λ g. comb_driven x xs g driver) k fs) comb lists.comb (comb_driven x xs f driver) (comb_place f) old (l.comb_drivings driver ∙ comb_driven_stays xs f h.grows low can.lower.stmts driver)
      (subst (λ (j : ℕ). IsWithin j (comb_place f)) (sym h.comb_long) can.comb) in
      λ k w. put k w ∙ sym (driven_last comb_place (λ g. comb_driven x xs g driver) k fs f);
  sync_drives = λ driver.
      let old : AreDriven z driver (λ k. given_driven sync_place (λ g. sync_driven x xs g driver) k fs) sync = λ k w. list_stays y z (get_or sync k []) l.grows.drivings (h.sync k w).there driver ∙ h.sync_drives driver k w in
      let put = driven_put z driver (λ k. given_driven sync_place (λ g. sync_driven x xs g driver) k fs) sync lists.sync (sync_driven x xs f driver) (sync_place f) old (l.sync_drivings driver ∙ sync_driven_stays xs f h.grows low can.lower.stmts driver)
      (subst (λ (j : ℕ). IsWithin j (sync_place f)) (sym h.sync_long) can.sync) in
      λ k w. put k w ∙ sym (driven_last sync_place (λ g. sync_driven x xs g driver) k fs f);
}

pub put_next : {x y z : Design} {xs : List FsmStmt} {n m : ℕ} {comb sync : List (List StmtId)} (fs : List FsmDecl) (k : ℕ) (f : FsmDecl) (lists : FsmLists) → k < length fs → f ≡ get_or fs k f → EachLower fsm_below xs → CanPut x xs n m f
    → ArePut x y xs (take k fs) n m comb sync → (faults_of y xs f ≡ []) × IsListed y z xs f lists
    → ArePut x z xs (take (k + 1) fs) n m (put_where (comb_place f) lists.comb comb) (put_where (sync_place f) lists.sync sync)
put_next {x} {y} {z} {xs} {n} {m} {comb} {sync} fs k f lists l is low can h g =
    let e : take (k + 1) fs ≡ take k fs ++ f ∷ [] = take_more fs k f l ∙ ap (λ (q : FsmDecl). take k fs ++ q ∷ []) (sym is) in
    let none = flat_more_at (faults_of x xs) fs k f l is h.sound (sym (faults_stay xs f h.grows low can.lower.stmts) ∙ g.0) in
    subst (λ (gs : List FsmDecl). ArePut x z xs gs n m (put_where (comb_place f) lists.comb comb) (put_where (sync_place f) lists.sync sync)) (sym e)
    (put_more f lists low can h g.1 (ap (flat_map (faults_of x xs)) (sym e) ∙ none))

pub put_done : {x y : Design} {xs : List FsmStmt} {n m : ℕ} {comb sync : List (List StmtId)} (fs : List FsmDecl) (k : ℕ) → length fs ≤ k → ArePut x y xs (take k fs) n m comb sync → ArePut x y xs fs n m comb sync
put_done {x} {y} {xs} {n} {m} {comb} {sync} fs k l h = subst (λ (gs : List FsmDecl). ArePut x y xs gs n m comb sync) (take_all k fs l) h

pub put_exit : {x y : Design} {xs : List FsmStmt} {n m : ℕ} {comb sync : List (List StmtId)} (fs : List FsmDecl) (k : ℕ) (f : FsmDecl) (e : Refusal) → k < length fs → f ≡ get_or fs k f → EachLower fsm_below xs → CanPut x xs n m f
    → ArePut x y xs (take k fs) n m comb sync → Refused (faults_of y xs f) e → Refused (flat_map (faults_of x xs) fs) e
put_exit {x} {y} {xs} fs k f e l is low can h g =
    flat_exit_at (faults_of x xs) fs k f e l is h.sound (subst (λ (q : List Fault). Refused q e) (faults_stay xs f h.grows low can.lower.stmts) g)

pub refused_of : (x y : Design) (xs : List FsmStmt) (f : FsmDecl) (e : Refusal) → Refuses x y xs f e → Refused (faults_of x xs f) e
refused_of x y xs f (refusal.Fault q) h = h.1
refused_of x y xs f refusal.NoMemory h = tt

pub at_item : {T : Type 0} (P : T → Type 0) (xs : List T) (k : ℕ) (x : T) → EachOf P xs → k < length xs → x ≡ get_or xs k x → P x
at_item P xs k x h l e = subst P (sym e) (each_at P xs k x h l)
