-- A description without its FSMs.
use Rattle.std.proofs.Common.{◌≡◌, ℕ, pos, ◌+◌, ◌-◌, ◌^◌, ◌<◌, ◌≤◌, Bool, true, false, ◌||◌, List, [], ◌∷◌, Option, Some, None, get_or, length, refl, sym, ap, subst, ◌∙◌, arith, nat_eq, flat_map}
use Rattle.std.specs.Prelude.{IfSome, IsTrue, option_map}
use Rattle.std.specs.List.{list_any}
use Rattle.std.proofs.lemmas.List.{length-map}
use Rattle.lx_num.specs.declared.Shape.{Shape}
use Rattle.lx_num.specs.Ints.{Fits, FitsBits}
use Rattle.lx_num.proofs.Ranges.{fits_pos, pos_fits}
use Rattle.lx_circuit.specs.Statements as tree
use Rattle.lx_circuit.specs.Statements.{drives_block}
use Rattle.lx_alloc.proofs.Judging.{no_parts}
use Rattle.lx_fhdl.specs.Below.{StmtId, all_stmts_below}
use Rattle.lx_fhdl.specs.Designs.{block, shapes}
use Rattle.lx_fhdl.specs.Drafts.{HaveDomains, ListsStand}
use Rattle.lx_fhdl.specs.Keeping.{EachOf, Keeps, PartStands, block_depth}
use Rattle.lx_fhdl.specs.declared.design.Design.{Design}
use Rattle.lx_fhdl.specs.declared.design.Domain.{Domain}
use Rattle.lx_fhdl.specs.declared.design.Port.{Port}
use Rattle.lx_fhdl.specs.declared.design.SyncPart.{SyncPart}
use Rattle.lx_fhdl.specs.declared.exprs.SigId.{SigId}
use Rattle.lx_description.specs.Keeping.{IsBody, IsFsm, IsPlace, is_sys}
use Rattle.lx_description.specs.declared.description.Description.{Description}
use Rattle.lx_description.specs.declared.fsms.FsmDecl.{FsmDecl}
use Rattle.lx_description.specs.declared.fsms.FsmPlace.{FsmPlace}
use Rattle.lx_description.specs.declared.fsms.FsmStmt.{FsmStmt}
use Rattle.lx_description.specs.declared.fsms.StateDecl.{StateDecl}
use Rattle.lx_fsm.specs.Decls.{fsm_of, state_of}
use Rattle.lx_fsm.specs.Flattened.{CanFlatten, IsFlat, IsWithout, faults_of, given_at, start_of, sync_of, sync_place, sys_number, with_starts}
use Rattle.lx_fsm.specs.Laid.{ArePut, CanPut, HasStart, IsWithin, woven_ids, woven_parts}
use Rattle.lx_fsm.specs.Lowers.{Grows, HasBodies}
use Rattle.lx_fsm.specs.Machine.{start_among}
use Rattle.lx_fsm.proofs.FlatKeeps.{all_spare, clock_some, comb_drives, domains_stand, flat_comb_depth, other, parts_stand, path_kept, signals_long, some_stands, sync_drives, sys_below, syncs_low}
use Rattle.lx_fsm.proofs.FlatTrees.{comb_is, flat, laid, same_domains, sync_is}
use Rattle.lx_fsm.proofs.FlatKeeps.{role_same}
use Rattle.lx_fsm.proofs.Grown.{block_kept, same_shapes, there_kept}
use Rattle.lx_fsm.proofs.Known.{start_below}
use Rattle.lx_fsm.proofs.Naming.{same_names, states_there}
use Rattle.lx_fsm.proofs.Reopened.{have_domains}

-- ---- what lowering needs

bodies_there : (d : Description) (ss : List StateDecl) → EachOf (IsBody d) ss → HasBodies (length d.fsm_stmts) ss
bodies_there d [] h = tt
bodies_there d (s ∷ ss) h = (h.0.there, bodies_there d ss h.1)

comb_within : (x : Design) (o : Option FsmPlace) → IfSome o (IsPlace x) → IsWithin (length x.comb + 1) (option_map (λ (p : FsmPlace). p.comb) o)
comb_within x None h = tt
comb_within x (Some p) h = omega (arith, h.comb)

sync_within : (x : Design) (o : Option FsmPlace) → IfSome o (IsPlace x) → IsWithin (length x.sync + 1) (option_map (λ (p : FsmPlace). p.sync) o)
sync_within x None h = tt
sync_within x (Some p) h = omega (arith, h.sync)

can_put : (d : Description) (f : FsmDecl) → CanFlatten d → IsFsm d f → CanPut d.design d.fsm_stmts (length d.design.comb + 1) (length d.design.sync + 1) f
can_put d f can h = record {
  lower = record { stmts = can.fsms.stmts; bodies = bodies_there d f.states h.bodies; state = h.state; asked = h.asked };
  comb = comb_within d.design f.place h.place;
  sync = sync_within d.design f.place h.place;
}

each_put : (d : Description) (fs : List FsmDecl) → CanFlatten d → EachOf (IsFsm d) fs → EachOf (CanPut d.design d.fsm_stmts (length d.design.comb + 1) (length d.design.sync + 1)) fs
each_put d [] can h = tt
each_put d (f ∷ fs) can h = (can_put d f can h.0, each_put d fs can h.1)

pub can_put_all : (d : Description) → CanFlatten d → EachOf (CanPut d.design d.fsm_stmts (length d.design.comb + 1) (length d.design.sync + 1)) d.fsms
can_put_all d can = each_put d d.fsms can can.fsms.fsms

-- ---- reset states

start_less : (d : Design) (xs : List FsmStmt) (f : FsmDecl) → faults_of d xs f ≡ [] → start_of f < length f.states
start_less d xs f e =
    let h = start_below (fsm_of d xs f) f.line e in
    omega (arith, h, ap (λ (ns : List (List ℕ)). start_among ns f.start) (same_names d xs f.states), length-map f.states (state_of d xs))

unsigned_fits : (a : Shape) (k : ℕ) → a.signed ≡ false → k < 2 ^ a.bits → Fits a (pos k)
unsigned_fits a k e l = subst (λ (t : Bool). FitsBits a.bits t (pos k)) (sym e) (fits_pos a.bits k l)

start_fits : (d : Description) (g : Design) (f : FsmDecl) → Grows d.design g → IsFsm d f → faults_of d.design d.fsm_stmts f ≡ [] → HasStart g f
start_fits d g f grows h e =
    let state = h.state (states_there d.design f d.fsm_stmts e) in
    let less = start_less d.design d.fsm_stmts f e in
    let most = pos_fits (shapes d.design f.state.0).bits (length f.states - 1) state.fewest.enough in
    let signals : length g.signals ≡ length d.design.signals = ap length grows.signals in
    record {
      there = omega (arith, state.there, signals);
      fits = subst (λ (a : Shape). Fits a (pos (start_of f))) (sym (same_shapes grows f.state.0)) (unsigned_fits (shapes d.design f.state.0) (start_of f) state.plain (omega (arith, less, most)));
    }

each_start : (d : Description) (g : Design) (fs : List FsmDecl) → Grows d.design g → EachOf (IsFsm d) fs → flat_map (faults_of d.design d.fsm_stmts) fs ≡ [] → EachOf (HasStart g) fs
each_start d g [] grows h e = tt
each_start d g (f ∷ fs) grows h e =
    let p = no_parts (faults_of d.design d.fsm_stmts f) (flat_map (faults_of d.design d.fsm_stmts) fs) e in
    (start_fits d g f grows h.0 p.0, each_start d g fs grows h.1 p.1)

abbrev pub PutWhole : Description → Design → List (List StmtId) → List (List StmtId) → Type 0
PutWhole d g cl sl = ArePut d.design g d.fsm_stmts d.fsms (length d.design.comb + 1) (length d.design.sync + 1) cl sl

pub all_start : (d : Description) (g : Design) (cl sl : List (List StmtId)) → CanFlatten d → PutWhole d g cl sl → EachOf (HasStart g) d.fsms
all_start d g cl sl can h = each_start d g d.fsms h.grows can.fsms.fsms h.sound

-- ---- the whole

-- a list that isn't empty is one of some FSM, so `sys` is there
clock_there : (d : Description) (g : Design) (cl sl : List (List StmtId)) (k : ℕ) (fs : List FsmDecl) → d.fsms ≡ fs → CanFlatten d → PutWhole d g cl sl → k < length sl → (get_or sl k [] ≡ [] → ⊥) → sys_number d.design.domains < length d.design.domains
clock_there d g cl sl k [] e can h l some =
    let are = h.sync k l in
    let none : block g (get_or sl k []) ≡ tree.Done = are.tree ∙ ap (given_at sync_place (sync_of d.design d.fsm_stmts) k) e in
    absurd (some (no_stmts (get_or sl k []) none))
  where
    no_stmts : (ids : List StmtId) → block g ids ≡ tree.Done → ids ≡ []
    no_stmts [] q = refl
    no_stmts (i ∷ is) q = absurd (cc)
clock_there d g cl sl k (f ∷ fs) e can h l some =
    let clock : (nat_eq (length d.fsms) 0 || list_any is_sys d.design.domains) ≡ true = search can.fsms.clock in
    sys_below d.design.domains (clock_some (length d.fsms) (list_any is_sys d.design.domains) clock (omega (arith, ap length e)))

old_part : (x e : Design) (p : SyncPart) → length x.stmts ≤ length e.stmts → length e.domains ≡ length x.domains → ((ids : List StmtId) → IsTrue (all_stmts_below (length x.stmts) ids) → IsTrue (all_stmts_below (length e.stmts) ids) × (block e ids ≡ block x ids)) → PartStands x p → PartStands e p
old_part x e p l m stay h =
    let q = stay p.stmts h.stmts.there in
    record { domain = omega (arith, h.domain, m); stmts = record { there = q.0; depth = omega (arith, h.stmts.depth, ap block_depth q.1) } }

old_parts : (x e : Design) (ps : List SyncPart) → length x.stmts ≤ length e.stmts → length e.domains ≡ length x.domains → ((ids : List StmtId) → IsTrue (all_stmts_below (length x.stmts) ids) → IsTrue (all_stmts_below (length e.stmts) ids) × (block e ids ≡ block x ids)) → EachOf (PartStands x) ps → EachOf (PartStands e) ps
old_parts x e [] l m stay h = tt
old_parts x e (p ∷ ps) l m stay h = (old_part x e p l m stay h.0, old_parts x e ps l m stay h.1)

abbrev made : Description → Design → List (List StmtId) → List (List StmtId) → Design
made d g cl sl = other d.design g.exprs g.targets g.stmts d.fsms (woven_ids cl d.design.comb) (woven_parts (sys_number d.design.domains) sl d.design.sync)

lists_stand : (d : Description) (g : Design) (cl sl : List (List StmtId)) → CanFlatten d → PutWhole d g cl sl → ListsStand (made d g cl sl)
lists_stand d g cl sl can h =
    let e = made d g cl sl in
    let comb = comb_is d g cl sl can h in
    record {
      comb = record { there = comb.there; depth = omega (arith, ap block_depth comb.tree, flat_comb_depth d can) };
      sync =
          parts_stand e (sys_number d.design.domains) sl d.design.sync
          (λ k l.
          let are = h.sync k l in
          some_stands e g (sys_number d.design.domains) (get_or sl k []) (given_at sync_place (sync_of d.design d.fsm_stmts) k d.fsms) refl (record { there = are.there; tree = are.tree }) (syncs_low d can k)
          (clock_there d g cl sl k d.fsms refl can h l))
          (old_parts d.design e d.design.sync h.grows.stays.stmts refl (λ ids t. (there_kept ids h.grows t, block_kept ids h.grows t)) can.design.sync);
      domains =
          domains_stand d.design e d.design.domains
          (λ r q.
          let spared = all_spare d r d.fsms (can.driven r q) (can.apart r q) in
          role_same d.design g.exprs g.targets g.stmts d.fsms (woven_ids cl d.design.comb) (woven_parts (sys_number d.design.domains) sl d.design.sync) r
          (ap (drives_block r) comb.tree ∙ comb_drives d r spared)
          (λ m. ap (drives_block r) (sync_is d g cl sl m can h).tree ∙ sync_drives d r m spared))
          (λ y r p. path_kept y d.fsms d.design.signals r.0 p) can.design.domains;
      domains_most = can.design.domains_most;
      domains_distinct = can.design.domains_distinct;
      ios = subst (λ (n : ℕ). EachOf (λ (y : SigId). y.0 < n) d.design.ios) (sym (signals_long d.fsms d.design.signals)) can.design.ios;
    }

laid_is : (d : Description) (g : Design) (cl sl : List (List StmtId)) → PutWhole d g cl sl → laid g d.fsms cl sl ≡ made d g cl sl
laid_is d g cl sl h = ap (λ (q : Design). laid q d.fsms cl sl) h.grows.only

abbrev pub started : Design → List FsmDecl → Design
started g fs = record g { signals = with_starts fs g.signals }

abbrev pub finished : Design → List (List StmtId) → List (List StmtId) → Design
finished h cl sl = record h { comb = woven_ids cl h.comb; sync = woven_parts (sys_number h.domains) sl h.sync }

pub without : (d : Description) (g h e : Design) (cl sl : List (List StmtId)) → CanFlatten d → PutWhole d g cl sl → h ≡ started g d.fsms → e ≡ finished h cl sl → (HaveDomains (length h.domains) h.ports → ListsStand e → Keeps e) → IsFlat d e × Keeps e
without d g h e cl sl can put p q keep =
    let is : e ≡ laid g d.fsms cl sl = q ∙ ap (λ (y : Design). finished y cl sl) p in
    let ports : h.ports ≡ d.design.ports = ap (λ (y : Design). y.ports) p ∙ ap (λ (y : Design). y.ports) put.grows.only in
    let domains : h.domains ≡ d.design.domains = ap (λ (y : Design). y.domains) p ∙ same_domains put.grows in
    let have : HaveDomains (length h.domains) h.ports =
    subst (λ (qs : List Port). HaveDomains (length h.domains) qs) (sym ports)
    (subst (λ (ds : List Domain). HaveDomains (length ds) d.design.ports) (sym domains) (have_domains (length d.design.domains) d.design d.design.ports can.design.ports)) in
    (subst (IsFlat d) (sym is) (flat d g cl sl can put), keep have (subst ListsStand (sym (is ∙ laid_is d g cl sl put)) (lists_stand d g cl sl can put)))

pub is_without : (d : Description) (e : Design) (xs : List FsmStmt) (fs : List FsmDecl) → flat_map (faults_of d.design d.fsm_stmts) d.fsms ≡ [] → IsFlat d e × Keeps e → xs ≡ [] → fs ≡ [] → IsWithout d (record d { design = e; fsm_stmts = xs; fsms = fs })
is_without d e xs fs none both p q = record {
  none = none;
  flat = both.0;
  keeps = both.1;
  rest = ap (λ (ys : List FsmStmt). record d { design = e; fsm_stmts = ys; fsms = fs }) p ∙ ap (λ (gs : List FsmDecl). record d { design = e; fsm_stmts = []; fsms = gs }) q;
}
