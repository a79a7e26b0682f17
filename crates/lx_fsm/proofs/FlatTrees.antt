-- The design in which all FSMs stand: its statements are those of the definition.
use Rattle.std.proofs.Common.{◌≡◌, ℕ, ◌+◌, ◌<◌, true, List, [], ◌∷◌, ◌++◌, cond, get_or, length, map, refl, ap, subst, ◌∙◌, arith, nat_eq, nat_lt}
use Rattle.std.proofs.lemmas.Bool.{and_parts, ltb-true}
use Rattle.std.proofs.Math.Path.{fun_ext}
use Rattle.lx_arena.specs.Folds.{fold_at}
use Rattle.lx_fhdl.specs.declared.stmts.Stmt.{Stmt}
use Rattle.lx_fhdl.specs.declared.stmts.Stmt.TheVariants as stmt
use Rattle.lx_reads.specs.Drivings.{Driving, assign_drivings, domains_drivings, drivings, drivings_at, drivings_in, drivings_of, node_drivings}
use Rattle.lx_fsm.specs.Driven.{comb_driven, sync_driven}
use Rattle.lx_fsm.proofs.Drives.{list_stays}
use Rattle.lx_fsm.proofs.LayingDriven.{parts_drive, woven_drive}
use Rattle.lx_circuit.specs.Statements as tree
use Rattle.lx_fhdl.specs.Below.{StmtId, all_stmts_below}
use Rattle.lx_fhdl.specs.Designs as design
use Rattle.lx_fhdl.specs.Designs.{block, stmts_of}
use Rattle.lx_fhdl.specs.Keeping.{EachOf, PartStands}
use Rattle.lx_fhdl.specs.declared.design.Design.{Design}
use Rattle.lx_fhdl.specs.declared.design.Domain.{Domain}
use Rattle.lx_fhdl.specs.declared.design.SyncPart.{SyncPart}
use Rattle.lx_description.specs.declared.description.Description.{Description}
use Rattle.lx_description.specs.declared.fsms.FsmDecl.{FsmDecl}
use Rattle.lx_lowering.specs.Flat.{one}
use Rattle.lx_fsm.specs.Flattened.{CanFlatten, IsFlat, comb_at, comb_place, flat_comb, flat_comb_driven, flat_domains_driven, flat_drivings, flat_sync, flat_sync_driven, given_at, given_driven, part_driven, part_of, sync_at, sync_at_driven, sync_of, sync_place, sys_number, with_starts, woven, woven_driven}
use Rattle.lx_fsm.specs.Laid.{AreDriven, AreGiven, ArePut, woven_ids, woven_parts}
use Rattle.lx_fsm.specs.Lowers.{AreThere, Grows, StmtsAre}
use Rattle.lx_fsm.proofs.Grown.{block_kept, there_kept}
use Rattle.lx_fsm.proofs.Laying.{are_is, parts_are, woven_are}

-- the design that is made of a grown one
abbrev pub laid : Design → List FsmDecl → List (List StmtId) → List (List StmtId) → Design
laid g fs cl sl = record g { signals = with_starts fs g.signals; comb = woven_ids cl g.comb; sync = woven_parts (sys_number g.domains) sl g.sync }

from_zero : {d : Design} {at : ℕ → tree.Block} (lists : List (List StmtId)) → AreGiven d at lists → (k : ℕ) → k < length lists → StmtsAre d (get_or lists k []) (at (0 + k))
from_zero {d} {at} lists h k l =
    let e : k ≡ 0 + k = omega arith in
    subst (λ (j : ℕ). StmtsAre d (get_or lists k []) (at j)) e (h k l)

-- the trees of old statements
old_ones : {x y : Design} (is : List StmtId) → Grows x y → all_stmts_below (length x.stmts) is ≡ true → map (λ (i : StmtId). one (design.stmt y i.place)) is ≡ map (λ (i : StmtId). one (design.stmt x i.place)) is
old_ones [] g t = refl
old_ones {x} {y} (i ∷ is) g t =
    let p = and_parts (nat_lt i.place (length x.stmts)) (all_stmts_below (length x.stmts) is) t in
    ap (λ (s : tree.Stmt). one s ∷ map (λ (j : StmtId). one (design.stmt y j.place)) is) (g.stays.stmt_trees i.place (ltb-true i.place (length x.stmts) p.0))
    ∙ ap (λ (l : List tree.Block). one (design.stmt x i.place) ∷ l) (old_ones is g p.1)

old_parts : {x y : Design} (m : ℕ) (ps : List SyncPart) → Grows x y → EachOf (λ (p : SyncPart). AreThere x p.stmts) ps → map (part_of y m) ps ≡ map (part_of x m) ps
old_parts m [] g t = refl
old_parts {x} {y} m (p ∷ ps) g t =
    ap (λ (b : tree.Block). cond (nat_eq p.domain m) b tree.Done ∷ map (part_of y m) ps) (block_kept p.stmts g t.0)
    ∙ ap (λ (l : List tree.Block). part_of x m p ∷ l) (old_parts m ps g t.1)

pub parts_there : (x : Design) (ps : List SyncPart) → EachOf (PartStands x) ps → EachOf (λ (p : SyncPart). AreThere x p.stmts) ps
parts_there x [] h = tt
parts_there x (p ∷ ps) h = (h.0.stmts.there, parts_there x ps h.1)

pub parts_kept : {x y : Design} (ps : List SyncPart) → Grows x y → EachOf (λ (p : SyncPart). AreThere x p.stmts) ps → EachOf (λ (p : SyncPart). AreThere y p.stmts) ps
parts_kept [] g h = tt
parts_kept (p ∷ ps) g h = (there_kept p.stmts g h.0, parts_kept ps g h.1)

-- ---- the two kinds of lists

pub comb_is : (d : Description) (g : Design) (cl sl : List (List StmtId)) → CanFlatten d → ArePut d.design g d.fsm_stmts d.fsms (length d.design.comb + 1) (length d.design.sync + 1) cl sl
    → StmtsAre g (woven_ids cl d.design.comb) (flat_comb d)
comb_is d g cl sl can h =
    let t = can.design.comb.there in
    are_is (ap (woven (comb_at d) 0) (old_ones d.design.comb h.grows (search t)))
    (woven_are g (comb_at d) 0 cl d.design.comb h.comb_long (from_zero cl h.comb) (there_kept d.design.comb h.grows t))

pub sync_is : (d : Description) (g : Design) (cl sl : List (List StmtId)) (m : ℕ) → CanFlatten d → ArePut d.design g d.fsm_stmts d.fsms (length d.design.comb + 1) (length d.design.sync + 1) cl sl
    → StmtsAre g (stmts_of m (woven_parts (sys_number d.design.domains) sl d.design.sync)) (flat_sync d m)
sync_is d g cl sl m can h =
    let t = parts_there d.design d.design.sync can.design.sync in
    are_is (ap (woven (sync_at d m) 0) (old_parts m d.design.sync h.grows t))
    (parts_are g (λ k. given_at sync_place (sync_of d.design d.fsm_stmts) k d.fsms) (sys_number d.design.domains) m 0 sl d.design.sync h.sync_long (from_zero sl h.sync) (parts_kept d.design.sync h.grows t))

abbrev PutAt : Description → Design → List (List StmtId) → List (List StmtId) → Type 0
PutAt d g cl sl = ArePut d.design g d.fsm_stmts d.fsms (length d.design.comb + 1) (length d.design.sync + 1) cl sl

-- ---- what it drives

from_zero_driven : (d : Design) (driver : ℕ) (at : ℕ → List Driving) (lists : List (List StmtId)) → AreDriven d driver at lists → (k : ℕ) → k < length lists → drivings_of d driver (get_or lists k []) ≡ at (0 + k)
from_zero_driven d driver at lists h k l = let e : k ≡ 0 + k = omega arith in h k l ∙ ap at e

old_driven : (x y : Design) (driver : ℕ) (is : List StmtId) → ((driver k : ℕ) → k < length x.stmts → drivings_at y driver k ≡ drivings_at x driver k) → all_stmts_below (length x.stmts) is ≡ true
    → map (λ (i : StmtId). drivings_at y driver i.place) is ≡ map (λ (i : StmtId). drivings_at x driver i.place) is
old_driven x y driver [] stay t = refl
old_driven x y driver (i ∷ is) stay t =
    let p = and_parts (nat_lt i.place (length x.stmts)) (all_stmts_below (length x.stmts) is) t in
    ap (λ (l : List Driving). l ∷ map (λ (j : StmtId). drivings_at y driver j.place) is) (stay driver i.place (ltb-true i.place (length x.stmts) p.0))
    ∙ ap (λ (l : List (List Driving)). drivings_at x driver i.place ∷ l) (old_driven x y driver is stay p.1)

old_parts_driven : (x y : Design) (m : ℕ) (ps : List SyncPart) → ((driver k : ℕ) → k < length x.stmts → drivings_at y driver k ≡ drivings_at x driver k) → EachOf (λ (p : SyncPart). AreThere x p.stmts) ps
    → map (λ (p : SyncPart). cond (nat_eq p.domain m) (drivings_in (drivings_at y (m + 1)) p.stmts) []) ps ≡ map (part_driven x m) ps
old_parts_driven x y m [] stay t = refl
old_parts_driven x y m (p ∷ ps) stay t =
    ap (λ (b : List Driving). cond (nat_eq p.domain m) b [] ∷ map (λ (q : SyncPart). cond (nat_eq q.domain m) (drivings_in (drivings_at y (m + 1)) q.stmts) []) ps) (list_stays x y p.stmts stay t.0 (m + 1))
    ∙ ap (λ (l : List (List Driving)). part_driven x m p ∷ l) (old_parts_driven x y m ps stay t.1)

comb_driven_is : (d : Description) (g : Design) (cl sl : List (List StmtId)) → CanFlatten d → PutAt d g cl sl → drivings_of g 0 (woven_ids cl d.design.comb) ≡ flat_comb_driven d
comb_driven_is d g cl sl can h =
    let at : ℕ → List Driving = λ k. given_driven comb_place (λ f. comb_driven d.design d.fsm_stmts f 0) k d.fsms in
    woven_drive (drivings_at g 0) at 0 cl d.design.comb h.comb_long (from_zero_driven g 0 at cl (h.comb_drives 0))
    ∙ ap (woven_driven at 0) (old_driven d.design g 0 d.design.comb h.grows.drivings (search can.design.comb.there))

sync_driven_is : (d : Description) (g : Design) (cl sl : List (List StmtId)) (m : ℕ) → CanFlatten d → PutAt d g cl sl
    → drivings_of g (m + 1) (stmts_of m (woven_parts (sys_number d.design.domains) sl d.design.sync)) ≡ flat_sync_driven d m
sync_driven_is d g cl sl m can h =
    let at : ℕ → List Driving = λ k. given_driven sync_place (λ f. sync_driven d.design d.fsm_stmts f (m + 1)) k d.fsms in
    parts_drive (drivings_at g (m + 1)) at (sys_number d.design.domains) m 0 sl d.design.sync h.sync_long (from_zero_driven g (m + 1) at sl (h.sync_drives (m + 1)))
    ∙ ap (woven_driven (sync_at_driven d m) 0) (old_parts_driven d.design g m d.design.sync h.grows.drivings (parts_there d.design d.design.sync can.design.sync))

-- designs with the same nodes drive the same
node_alike : (x y : Design) (driver : ℕ) → ((k : ℕ) → design.target x k ≡ design.target y k) → (f : ℕ → List Driving) (s : Stmt) → node_drivings x driver f s ≡ node_drivings y driver f s
node_alike x y driver h f (stmt.Assign t value line) = ap (assign_drivings driver line) (h t.place)
node_alike x y driver h f (stmt.If branches rest line) = refl
node_alike x y driver h f (stmt.Case on arms rest line) = refl

at_alike : (x y : Design) (driver : ℕ) → ((k : ℕ) → design.target x k ≡ design.target y k) → x.stmts ≡ y.stmts → (k : ℕ) → drivings_at x driver k ≡ drivings_at y driver k
unfolding drivings_at
at_alike x y driver h e k =
    ap (λ (n : (ℕ → List Driving) → Stmt → List Driving). fold_at [] n x.stmts k) (fun_ext (λ f. fun_ext (node_alike x y driver h f)))
    ∙ ap (λ (ss : List Stmt). fold_at [] (node_drivings y driver) ss k) e

list_alike : (x y : Design) (driver : ℕ) (ids : List StmtId) → ((k : ℕ) → design.target x k ≡ design.target y k) → x.stmts ≡ y.stmts → drivings_of x driver ids ≡ drivings_of y driver ids
list_alike x y driver ids h e = ap (λ (f : ℕ → List Driving). drivings_in f ids) (fun_ext (at_alike x y driver h e))

domains_driven : (d : Description) (e : Design) → ((m : ℕ) → drivings_of e (m + 1) (stmts_of m e.sync) ≡ flat_sync_driven d m) → (k : ℕ) (ds : List Domain) → domains_drivings e k ds ≡ flat_domains_driven d k ds
domains_driven d e h k [] = refl
domains_driven d e h k (x ∷ xs) = ap (λ (l : List Driving). l ++ domains_drivings e (k + 1) xs) (h k) ∙ ap (λ (l : List Driving). flat_sync_driven d k ++ l) (domains_driven d e h (k + 1) xs)

-- ---- the design

pub same_comb : {x y : Design} → Grows x y → y.comb ≡ x.comb
same_comb g = ap (λ (d : Design). d.comb) g.only

pub same_sync : {x y : Design} → Grows x y → y.sync ≡ x.sync
same_sync g = ap (λ (d : Design). d.sync) g.only

pub same_domains : {x y : Design} → Grows x y → y.domains ≡ x.domains
same_domains g = ap (λ (d : Design). d.domains) g.only

laid_comb : (d : Description) (g : Design) (cl sl : List (List StmtId)) → CanFlatten d → PutAt d g cl sl → drivings_of (laid g d.fsms cl sl) 0 (woven_ids cl g.comb) ≡ flat_comb_driven d
laid_comb d g cl sl can h =
    list_alike (laid g d.fsms cl sl) g 0 (woven_ids cl g.comb) (λ k. refl) refl
    ∙ ap (λ (is : List StmtId). drivings_of g 0 (woven_ids cl is)) (same_comb h.grows)
    ∙ comb_driven_is d g cl sl can h

laid_sync : (d : Description) (g : Design) (cl sl : List (List StmtId)) → CanFlatten d → PutAt d g cl sl → (m : ℕ) → drivings_of (laid g d.fsms cl sl) (m + 1) (stmts_of m (woven_parts (sys_number g.domains) sl g.sync)) ≡ flat_sync_driven d m
laid_sync d g cl sl can h m =
    list_alike (laid g d.fsms cl sl) g (m + 1) (stmts_of m (woven_parts (sys_number g.domains) sl g.sync)) (λ k. refl) refl
    ∙ ap (λ (ps : List SyncPart). drivings_of g (m + 1) (stmts_of m (woven_parts (sys_number g.domains) sl ps))) (same_sync h.grows)
    ∙ ap (λ (ds : List Domain). drivings_of g (m + 1) (stmts_of m (woven_parts (sys_number ds) sl d.design.sync))) (same_domains h.grows)
    ∙ sync_driven_is d g cl sl m can h

laid_drivings : (d : Description) (g : Design) (cl sl : List (List StmtId)) → CanFlatten d → PutAt d g cl sl → drivings (laid g d.fsms cl sl) ≡ flat_drivings d
unfolding drivings
laid_drivings d g cl sl can h =
    let e = laid g d.fsms cl sl in
    ap (λ (l : List Driving). l ++ domains_drivings e 0 g.domains) (laid_comb d g cl sl can h)
    ∙ ap (λ (ds : List Domain). flat_comb_driven d ++ domains_drivings e 0 ds) (same_domains h.grows)
    ∙ ap (λ (l : List Driving). flat_comb_driven d ++ l) (domains_driven d e (laid_sync d g cl sl can h) 0 d.design.domains)

pub flat : (d : Description) (g : Design) (cl sl : List (List StmtId)) → CanFlatten d → PutAt d g cl sl → IsFlat d (laid g d.fsms cl sl)
flat d g cl sl can h = record {
  signals = ap (with_starts d.fsms) h.grows.signals;
  comb = ap (λ (is : List StmtId). block g (woven_ids cl is)) (same_comb h.grows) ∙ (comb_is d g cl sl can h).tree;
  sync = λ m.
      ap (λ (ps : List SyncPart). block g (stmts_of m (woven_parts (sys_number g.domains) sl ps))) (same_sync h.grows)
      ∙ ap (λ (ds : List Domain). block g (stmts_of m (woven_parts (sys_number ds) sl d.design.sync))) (same_domains h.grows)
      ∙ (sync_is d g cl sl m can h).tree;
  drivings = laid_drivings d g cl sl can h;
  domains = same_domains h.grows;
  memories = h.grows.memories;
  ports = ap (λ (x : Design). x.ports) h.grows.only;
  ios = ap (λ (x : Design). x.ios) h.grows.only;
}
