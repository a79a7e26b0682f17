-- The two lists of an FSM stand in the circuit.
use Rattle.std.proofs.Common.{◌≡◌, ℕ, ℤ, zero, suc, pos, ◌+◌, ◌<◌, ◌≤◌, Bool, true, false, ◌||◌, List, [], ◌∷◌, ◌++◌, Option, Some, None, cond, length, map, refl, sym, ap, subst, ◌∙◌, arith, nat_eq, flat_map}
use Rattle.std.specs.Prelude.{IfSome, option_map, slice_get, slice_index_or}
use Rattle.std.proofs.Math.Path.{fun_ext}
use Rattle.std.proofs.lemmas.Bool.{eq-eqb}
use Rattle.std.proofs.lemmas.Option.{slice_get_within}
use Rattle.std.proofs.lemmas.List.{length-map}
use Rattle.lx_text.specs.declared.faults.Fault.{Fault}
use Rattle.lx_alloc.proofs.Judging.{no_parts, none_both}
use Rattle.std.specs.List.{list_any}
use Rattle.lx_circuit.specs.Circuit as circuit
use Rattle.lx_circuit.specs.Circuit.{domain_at}
use Rattle.lx_circuit.specs.Shapes.{Shapes}
use Rattle.lx_circuit.specs.Statements as tree
use Rattle.lx_fhdl.specs.Below.{StmtId}
use Rattle.lx_fhdl.specs.Designs as design
use Rattle.lx_fhdl.specs.Designs.{block, circuit_of, domains_from, made_of, shapes, stmts_of}
use Rattle.lx_fhdl.specs.declared.design.Design.{Design}
use Rattle.lx_fhdl.specs.declared.design.Domain.{Domain}
use Rattle.lx_fhdl.specs.declared.design.Signal.{Signal}
use Rattle.lx_fhdl.proofs.Resets.{each_of_at}
use Rattle.lx_description.specs.Keeping.{IsFsm, IsPlace, is_sys}
use Rattle.lx_description.specs.declared.description.Description.{Description}
use Rattle.lx_description.specs.declared.fsms.FsmDecl.{FsmDecl}
use Rattle.lx_description.specs.declared.fsms.FsmPlace.{FsmPlace}
use Rattle.lx_lowering.specs.Flat.{append, one}
use Rattle.lx_lowering.proofs.Appends.{append_all, append_done}
use Rattle.lx_fsm.specs.Flattened.{CanFlatten, IsFlat, IsWithout, comb_at, comb_of, comb_place, faults_of, flat_comb, flat_sync, given_at, is_at, part_of, start_of, sync_at, sync_of, sync_place, with_reset, with_starts, woven}
use Rattle.lx_fsm.specs.Lists.{comb_list, sync_list}
use Rattle.lx_fsm.specs.Actions.{all_named}
use Rattle.lx_fsm.specs.Machine.{Fsm, Ongoing, State, faults, faults_with, number_from, state_names, stated, told, unknown, unknown_of}
use Rattle.lx_fsm.specs.Runs.{StandsIn}
use Rattle.lx_fsm.proofs.FlatKeeps.{clock_some, sys_below}
use Rattle.lx_fsm.specs.Standing.{Stands, StandLaw, clock, machine}

-- ---- lists among lists

stands_self : (b : tree.Block) → StandsIn b b
stands_self b = record { before = tree.Done; after = tree.Done; is = sym (append_done b) }

stands_left : {own a : tree.Block} (b : tree.Block) → StandsIn own a → StandsIn own (append a b)
stands_left {own} {a} b h = record {
  before = h.before;
  after = append h.after b;
  is = ap (λ (c : tree.Block). append c b) h.is ∙ append_all h.before (append own h.after) b ∙ ap (append h.before) (append_all own h.after b);
}

stands_right : {own b : tree.Block} (a : tree.Block) → StandsIn own b → StandsIn own (append a b)
stands_right {own} {b} a h = record { before = append a h.before; after = h.after; is = ap (append a) h.is ∙ sym (append_all a h.before (append own h.after)) }

stands_where : {own b : tree.Block} (t : Bool) (a : tree.Block) → StandsIn own b → StandsIn own (cond t (append a b) b)
stands_where true a h = stands_right a h
stands_where false a h = h

given_stands : (place : FsmDecl → Option ℕ) (list : FsmDecl → tree.Block) (k : ℕ) (fs : List FsmDecl) (j : ℕ) (f : FsmDecl) → slice_get fs j ≡ Some f → place f ≡ Some k → StandsIn (list f) (given_at place list k fs)
given_stands place list k [] j f e p = absurd (cc)
given_stands place list k (g ∷ gs) zero f e p =
    let same : g ≡ f = cc in
    let here : is_at k (place g) ≡ true = ap (λ (q : FsmDecl). is_at k (place q)) same ∙ ap (is_at k) p ∙ eq-eqb k k refl in
    let first : StandsIn (list f) (append (list g) (given_at place list k gs)) = subst (λ (q : FsmDecl). StandsIn (list f) (append (list q) (given_at place list k gs))) (sym same) (stands_left (given_at place list k gs) (stands_self (list f))) in
    subst (λ (t : Bool). StandsIn (list f) (cond t (append (list g) (given_at place list k gs)) (given_at place list k gs))) (sym here) first
given_stands place list k (g ∷ gs) (suc j) f e p = stands_where (is_at k (place g)) (list g) (given_stands place list k gs j f e p)

woven_stands : (own : tree.Block) (at : ℕ → tree.Block) (n i : ℕ) (bs : List tree.Block) → i ≤ length bs → StandsIn own (at (n + i)) → StandsIn own (woven at n bs)
woven_stands own at n zero [] l h = let e : n + 0 ≡ n = omega arith in subst (λ (k : ℕ). StandsIn own (at k)) e h
woven_stands own at n (suc i) [] l h = absurd (omega (arith, l))
woven_stands own at n zero (b ∷ bs) l h = let e : n + 0 ≡ n = omega arith in stands_left (append b (woven at (n + 1) bs)) (subst (λ (k : ℕ). StandsIn own (at k)) e h)
woven_stands own at n (suc i) (b ∷ bs) l h =
    let e : n + suc i ≡ n + 1 + i = omega arith in
    stands_right (at n) (stands_right b (woven_stands own at (n + 1) i bs (omega (arith, l)) (subst (λ (k : ℕ). StandsIn own (at k)) e h)))

-- ---- shapes and domains of the circuit

shape_once : (z : ℤ) (k : ℕ) (ss : List Signal) (x : ℕ) → (slice_index_or (map made_of (with_reset z k ss)) x circuit.nothing).shape ≡ (slice_index_or (map made_of ss) x circuit.nothing).shape
shape_once z k [] x = refl
shape_once z zero (s ∷ ss) zero = refl
shape_once z zero (s ∷ ss) (suc x) = refl
shape_once z (suc k) (s ∷ ss) zero = refl
shape_once z (suc k) (s ∷ ss) (suc x) = shape_once z k ss x

shape_kept : (fs : List FsmDecl) (ss : List Signal) (x : ℕ) → (slice_index_or (map made_of (with_starts fs ss)) x circuit.nothing).shape ≡ (slice_index_or (map made_of ss) x circuit.nothing).shape
shape_kept [] ss x = refl
shape_kept (f ∷ fs) ss x = shape_kept fs (with_reset (pos (start_of f)) f.state.0 ss) x ∙ shape_once (pos (start_of f)) f.state.0 ss x

flat_shapes : (d : Description) (e : Design) → IsFlat d e → shapes e ≡ shapes d.design
unfolding circuit_of
flat_shapes d e h = fun_ext (λ x. ap (λ (ss : List Signal). (slice_index_or (map made_of ss) x circuit.nothing).shape) h.signals ∙ shape_kept d.fsms d.design.signals x)

comb_whole : (e : Design) → (circuit_of e).comb ≡ block e e.comb
unfolding circuit_of
comb_whole e = refl

domain_stmts : (e : Design) (n s : ℕ) (ds : List Domain) → s < length ds → (slice_index_or (domains_from e n ds) s circuit.no_domain).stmts ≡ block e (stmts_of (n + s) e.sync)
domain_stmts e n s [] l = absurd (omega (arith, l))
domain_stmts e n zero (y ∷ ys) l = let q : n ≡ n + 0 = omega arith in ap (λ (m : ℕ). block e (stmts_of m e.sync)) q
domain_stmts e n (suc s) (y ∷ ys) l = let q : n + 1 + s ≡ n + suc s = omega arith in domain_stmts e (n + 1) s ys (omega (arith, l)) ∙ ap (λ (m : ℕ). block e (stmts_of m e.sync)) q

domain_whole : (e : Design) (s : ℕ) → s < length e.domains → (domain_at (circuit_of e) s).stmts ≡ block e (stmts_of s e.sync)
unfolding circuit_of
domain_whole e s l = let q : 0 + s ≡ s = omega arith in domain_stmts e 0 s e.domains l ∙ ap (λ (m : ℕ). block e (stmts_of m e.sync)) q

-- ---- the two lists

sound_at : {X : Type 0} (g : X → List Fault) (xs : List X) (j : ℕ) (x : X) → flat_map g xs ≡ [] → slice_get xs j ≡ Some x → g x ≡ []
sound_at g [] j x h e = absurd (cc)
sound_at g (y ∷ ys) zero x h e = let same : y ≡ x = cc in ap g (sym same) ∙ (no_parts (g y) (flat_map g ys) h).0
sound_at g (y ∷ ys) (suc j) x h e = sound_at g ys j x (no_parts (g y) (flat_map g ys) h).1 e

-- ---- a machine without a fault has none on any line

told_free : (o : Option ℕ) (line other : ℕ) (name : List ℕ) → told o line name ≡ [] → told o other name ≡ []
told_free (Some k) line other name e = refl
told_free None line other name e = absurd (cc)

names_free : (m : Fsm) (line other : ℕ) (names : List (List ℕ)) → unknown_of m line names ≡ [] → unknown_of m other names ≡ []
names_free m line other [] e = refl
names_free m line other (n ∷ ns) e =
    let p = no_parts (unknown (state_names m) line n) (unknown_of m line ns) e in
    none_both (unknown (state_names m) other n) (unknown_of m other ns) (told_free (number_from 0 (state_names m) n) line other n p.0) (names_free m line other ns p.1)

states_free : (m : Fsm) (line other : ℕ) (ss : List State) → flat_map (λ (x : State). unknown_of m line (all_named x.acts)) ss ≡ [] → flat_map (λ (x : State). unknown_of m other (all_named x.acts)) ss ≡ []
states_free m line other [] e = refl
states_free m line other (s ∷ ss) e =
    let p = no_parts (unknown_of m line (all_named s.acts)) (flat_map (λ (x : State). unknown_of m line (all_named x.acts)) ss) e in
    none_both (unknown_of m other (all_named s.acts)) (flat_map (λ (x : State). unknown_of m other (all_named x.acts)) ss) (names_free m line other (all_named s.acts) p.0) (states_free m line other ss p.1)

with_free : (m : Fsm) (line other : ℕ) (ss : List State) → faults_with m line ss ≡ [] → faults_with m other ss ≡ []
with_free m line other [] e = absurd (cc)
with_free m line other (s ∷ ss) e =
    let states = flat_map (λ (x : State). unknown_of m line (all_named x.acts)) m.states in
    let asked = unknown_of m line (map (λ (o : Ongoing). o.name) m.ongoing) in
    let p = no_parts (unknown_of m line (stated m.start)) (states ++ asked) e in
    let q = no_parts states asked p.1 in
    none_both (unknown_of m other (stated m.start)) (flat_map (λ (x : State). unknown_of m other (all_named x.acts)) m.states ++ unknown_of m other (map (λ (o : Ongoing). o.name) m.ongoing)) (names_free m line other (stated m.start) p.0)
    (none_both (flat_map (λ (x : State). unknown_of m other (all_named x.acts)) m.states) (unknown_of m other (map (λ (o : Ongoing). o.name) m.ongoing)) (states_free m line other m.states q.0) (names_free m line other (map (λ (o : Ongoing). o.name) m.ongoing) q.1))

line_free : (m : Fsm) (line : ℕ) → faults m line ≡ [] → faults m 0 ≡ []
line_free m line e = with_free m line 0 m.states e

-- ---- in the circuit

plus_none : (n : ℕ) → n ≡ 0 + n
plus_none n = omega arith

comb_stands : (d : Description) (j : ℕ) (f : FsmDecl) (p : FsmPlace) → slice_get d.fsms j ≡ Some f → f.place ≡ Some p → IsPlace d.design p → StandsIn (comb_of d.design d.fsm_stmts f) (flat_comb d)
comb_stands d j f p at q place =
    let ones = map (λ (i : StmtId). one (design.stmt d.design i.place)) d.design.comb in
    let long : length ones ≡ length d.design.comb = length-map d.design.comb (λ (i : StmtId). one (design.stmt d.design i.place)) in
    woven_stands (comb_of d.design d.fsm_stmts f) (comb_at d) 0 p.comb ones (omega (arith, long, place.comb))
    (given_stands comb_place (comb_of d.design d.fsm_stmts) (0 + p.comb) d.fsms j f at (ap (option_map (λ (r : FsmPlace). r.comb)) q ∙ ap Some (plus_none p.comb)))

own_clock : (d : Description) (k : ℕ) (b : tree.Block) → StandsIn b (given_at sync_place (sync_of d.design d.fsm_stmts) k d.fsms) → StandsIn b (sync_at d (clock d) k)
own_clock d k b h = subst (λ (t : Bool). StandsIn b (cond t (given_at sync_place (sync_of d.design d.fsm_stmts) k d.fsms) tree.Done)) (sym (eq-eqb (clock d) (clock d) refl)) h

sync_stands : (d : Description) (j : ℕ) (f : FsmDecl) (p : FsmPlace) → slice_get d.fsms j ≡ Some f → f.place ≡ Some p → IsPlace d.design p → StandsIn (sync_of d.design d.fsm_stmts f) (flat_sync d (clock d))
sync_stands d j f p at q place =
    let parts = map (part_of d.design (clock d)) d.design.sync in
    let long : length parts ≡ length d.design.sync = length-map d.design.sync (part_of d.design (clock d)) in
    woven_stands (sync_of d.design d.fsm_stmts f) (sync_at d (clock d)) 0 p.sync parts (omega (arith, long, place.sync))
    (own_clock d (0 + p.sync) (sync_of d.design d.fsm_stmts f)
    (given_stands sync_place (sync_of d.design d.fsm_stmts) (0 + p.sync) d.fsms j f at (ap (option_map (λ (r : FsmPlace). r.sync)) q ∙ ap Some (plus_none p.sync))))

place_there : (x : Design) (o : Option FsmPlace) (p : FsmPlace) → o ≡ Some p → IfSome o (IsPlace x) → IsPlace x p
place_there x o p e h = subst (λ (q : Option FsmPlace). IfSome q (IsPlace x)) e h

clock_below : (d : Description) (j : ℕ) (f : FsmDecl) → CanFlatten d → slice_get d.fsms j ≡ Some f → clock d < length d.design.domains
clock_below d j f can at =
    let within = slice_get_within d.fsms j f at in
    let test : (nat_eq (length d.fsms) 0 || list_any is_sys d.design.domains) ≡ true = search can.fsms.clock in
    sys_below d.design.domains (clock_some (length d.fsms) (list_any is_sys d.design.domains) test (omega arith))

stands : (d e : Description) (j : ℕ) (f : FsmDecl) (p : FsmPlace) → CanFlatten d → IsWithout d e → slice_get d.fsms j ≡ Some f → f.place ≡ Some p → Stands (circuit_of e.design) (clock d) (machine d f)
stands d e j f p can h at q =
    let own = each_of_at (IsFsm d) d.fsms can.fsms.fsms j f at in
    let place = place_there d.design f.place p q own.place in
    let same = flat_shapes d e.design h.flat in
    let below : clock d < length e.design.domains = omega (arith, clock_below d j f can at, ap (λ (ds : List Domain). length ds) h.flat.domains) in
    record {
      known = line_free (machine d f) f.line (sound_at (faults_of d.design d.fsm_stmts) d.fsms j f h.none at);
      comb =
          subst (λ (s : Shapes). StandsIn (comb_list s (machine d f)) (circuit_of e.design).comb) (sym same)
          (subst (StandsIn (comb_of d.design d.fsm_stmts f)) (sym (comb_whole e.design ∙ h.flat.comb)) (comb_stands d j f p at q place));
      sync =
          subst (λ (s : Shapes). StandsIn (sync_list s (machine d f)) (domain_at (circuit_of e.design) (clock d)).stmts) (sym same)
          (subst (StandsIn (sync_of d.design d.fsm_stmts f)) (sym (domain_whole e.design (clock d) below ∙ h.flat.sync (clock d))) (sync_stands d j f p at q place));
    }

pub stand_law : StandLaw
stand_law d e can h j f p at q =
    let s = stands d e j f p can h at q in
    (s, λ r a. record { known = s.known; comb = s.comb; sync = s.sync; register = r; alone = a })
