-- `ongoing` is 1 exactly in its state.
use Rattle.std.proofs.Common.{◌≡◌, ℕ, zero, suc, ◌%◌, ◌^◌, ◌<◌, Bool, true, false, ◌||◌, List, [], ◌∷◌, cond, nat_eq, pos, refl, sym, ap, subst, ◌∙◌, arith, eq-eqb}
use Rattle.std.specs.Prelude.{Some, map, slice_get, slice_index_or}
use Rattle.std.proofs.lemmas.Option.{slice_get-get_or}
use Rattle.lx_num.specs.declared.Shape.{Shape}
use Rattle.lx_num.specs.Ints.{modulo, read_bits, unsigned}
use Rattle.lx_num.proofs.Ints.{modulo-below}
use Rattle.lx_circuit.specs.Places.{Values, At}
use Rattle.lx_circuit.specs.Shapes.{Shapes}
use Rattle.lx_circuit.specs.Values.{flag}
use Rattle.lx_circuit.specs.Statements.{Block, Piece, after_pieces, drives_block, laid_over, taken_block}
use Rattle.lx_circuit.specs.Circuit.{Circuit, Comb, by_role, idle_role, made, read_role, role, shapes, sync_role}
use Rattle.lx_circuit.proofs.Cases.{after_append, by_test}
use Rattle.lx_circuit.proofs.Frames.{block_leaves}
use Rattle.lx_circuit.proofs.Whole.{laid_whole}
use Rattle.lx_lowering.specs.Flat.{append}
use Rattle.lx_lowering.proofs.Appends.{drives_append, taken_append}
use Rattle.lx_fhdl.specs.Keeping.{EachOf}
use Rattle.lx_fsm.specs.Actions.{Action}
use Rattle.lx_fsm.specs.Lists.{Register, by_state, comb_list, in_comb, ongoing_list, register_of}
use Rattle.lx_fsm.specs.Machine.{Fsm, Ongoing, actions, no_state, number}
use Rattle.lx_fsm.specs.Runs.{HasFsm, IsOngoing, OngoingLaw, ongoing_now}
use Rattle.lx_fsm.proofs.Held.{all_held}
use Rattle.lx_fsm.proofs.Known.{ongoing_known}
use Rattle.lx_fsm.proofs.Law.{alone_takes, holds}
use Rattle.lx_fsm.proofs.InState.{ongoing_takes, state_takes}
use Rattle.lx_fsm.proofs.Taken.{become}
use Rattle.lx_fsm.proofs.Undriven.{Leaves, acts_leave}

-- what actions become leaves the signal
become_leaves : (s : Shapes) (v : Values) (x : ℕ) (f : Action → Block) (as_ : List Action) → EachOf (Leaves x f) as_ → (p : ℕ) → after_pieces x p (become s v f as_) ≡ p
become_leaves s v x f [] h p = refl
become_leaves s v x f (a ∷ as_) h p =
    after_append x p (taken_block s v (f a)) (become s v f as_)
    ∙ ap (λ (q : ℕ). after_pieces x q (become s v f as_)) (block_leaves s v x (f a) h.0 p)
    ∙ become_leaves s v x f as_ h.1 p

-- ---- the assignments of `ongoing`

-- all that go to the signal of o are those of o
abbrev pub AreOf : Ongoing → List Ongoing → Type 0
AreOf o os = (j : ℕ) (p : Ongoing) → slice_get os j ≡ Some p → nat_eq p.signal o.signal ≡ true → p ≡ o

abbrev pub bit_of : Fsm → ℕ → Ongoing → ℕ
bit_of f k o = modulo (flag (nat_eq k (number f o.name))) (2 ^ 1)

rest_of : (o p : Ongoing) (os : List Ongoing) → AreOf o (p ∷ os) → AreOf o os
rest_of o p os h j q e t = h (suc j) q e t

-- one assignment to the signal
ongoing_lays : (s : Shapes) (f : Fsm) (k q : ℕ) (o p : Ongoing) → s o.signal ≡ unsigned 1 → q < 2 ^ 1 → p ≡ o → laid_over q 0 (s p.signal).bits (flag (nat_eq k (number f p.name))) ≡ bit_of f k o
ongoing_lays s f k q o p shape l same =
    ap (λ (r : Ongoing). laid_over q 0 (s r.signal).bits (flag (nat_eq k (number f r.name)))) same
    ∙ ap (λ (a : Shape). laid_over q 0 a.bits (flag (nat_eq k (number f o.name)))) shape
    ∙ laid_whole q 1 (flag (nat_eq k (number f o.name))) l

bit_below : (f : Fsm) (k : ℕ) (o : Ongoing) → bit_of f k o < 2 ^ 1
bit_below f k o = modulo-below (flag (nat_eq k (number f o.name))) (2 ^ 1) (omega arith)

-- once it is assigned it stays so
ongoing_stays : (s : Shapes) (f : Fsm) (k : ℕ) (o : Ongoing) (os : List Ongoing) → s o.signal ≡ unsigned 1 → AreOf o os → after_pieces o.signal (bit_of f k o) (map (ongoing_now s f k) os) ≡ bit_of f k o
ongoing_stays s f k o [] shape h = refl
ongoing_stays s f k o (p ∷ os) shape h =
    by_test (nat_eq p.signal o.signal)
    (λ t.
    ap (λ (b : Bool). after_pieces o.signal (cond b (laid_over (bit_of f k o) 0 (s p.signal).bits (flag (nat_eq k (number f p.name)))) (bit_of f k o)) (map (ongoing_now s f k) os)) t
    ∙ ap (λ (q : ℕ). after_pieces o.signal q (map (ongoing_now s f k) os)) (ongoing_lays s f k (bit_of f k o) o p shape (bit_below f k o) (h 0 p refl t))
    ∙ ongoing_stays s f k o os shape (rest_of o p os h))
    (λ t.
    ap (λ (b : Bool). after_pieces o.signal (cond b (laid_over (bit_of f k o) 0 (s p.signal).bits (flag (nat_eq k (number f p.name)))) (bit_of f k o)) (map (ongoing_now s f k) os)) t
    ∙ ongoing_stays s f k o os shape (rest_of o p os h))

ongoing_after : (s : Shapes) (f : Fsm) (k q j : ℕ) (o : Ongoing) (os : List Ongoing) → s o.signal ≡ unsigned 1 → AreOf o os → slice_get os j ≡ Some o → q < 2 ^ 1 → after_pieces o.signal q (map (ongoing_now s f k) os) ≡ bit_of f k o
ongoing_after s f k q j o [] shape h e l = absurd (cc)
ongoing_after s f k q zero o (p ∷ os) shape h e l =
    let same : p ≡ o = cc in
    let t : nat_eq p.signal o.signal ≡ true = eq-eqb p.signal o.signal (ap (λ (r : Ongoing). r.signal) same) in
    ap (λ (b : Bool). after_pieces o.signal (cond b (laid_over q 0 (s p.signal).bits (flag (nat_eq k (number f p.name)))) q) (map (ongoing_now s f k) os)) t
    ∙ ap (λ (r : ℕ). after_pieces o.signal r (map (ongoing_now s f k) os)) (ongoing_lays s f k q o p shape l same)
    ∙ ongoing_stays s f k o os shape (rest_of o p os h)
ongoing_after s f k q (suc j) o (p ∷ os) shape h e l =
    by_test (nat_eq p.signal o.signal)
    (λ t.
    ap (λ (b : Bool). after_pieces o.signal (cond b (laid_over q 0 (s p.signal).bits (flag (nat_eq k (number f p.name)))) q) (map (ongoing_now s f k) os)) t
    ∙ ap (λ (r : ℕ). after_pieces o.signal r (map (ongoing_now s f k) os)) (ongoing_lays s f k q o p shape l (h 0 p refl t))
    ∙ ongoing_stays s f k o os shape (rest_of o p os h))
    (λ t.
    ap (λ (b : Bool). after_pieces o.signal (cond b (laid_over q 0 (s p.signal).bits (flag (nat_eq k (number f p.name)))) q) (map (ongoing_now s f k) os)) t
    ∙ ongoing_after s f k q j o os shape (rest_of o p os h) e l)

-- ---- its role

ongoing_drives : (r : Register) (j : ℕ) (o : Ongoing) (os : List Ongoing) → slice_get os j ≡ Some o → drives_block o.signal (ongoing_list r os) ≡ true
ongoing_drives r j o [] e = absurd (cc)
ongoing_drives r zero o (p ∷ os) e =
    let same : p ≡ o = cc in
    ap (λ (b : Bool). b || drives_block o.signal (ongoing_list r os)) (eq-eqb p.signal o.signal (ap (λ (q : Ongoing). q.signal) same))
ongoing_drives r (suc j) o (p ∷ os) e = ap (λ (b : Bool). nat_eq p.signal o.signal || b) (ongoing_drives r j o os e) ∙ or_true (nat_eq p.signal o.signal)
  where
    or_true : (b : Bool) → (b || true) ≡ true
    or_true true = refl
    or_true false = refl

driven : (c : Circuit) (d : ℕ) (f : Fsm) (has : HasFsm c d f) (o : Ongoing) → IsOngoing c d f has o → drives_block o.signal c.comb ≡ true
driven c d f has o h =
    let r = register_of (shapes c) f in
    let states = by_state r in_comb 0 f.states in
    let own = comb_list (shapes c) f in
    ap (drives_block o.signal) has.comb.is
    ∙ drives_append o.signal has.comb.before (append own has.comb.after)
    ∙ ap (λ (b : Bool). drives_block o.signal has.comb.before || b) (drives_append o.signal own has.comb.after)
    ∙ ap (λ (b : Bool). drives_block o.signal has.comb.before || (b || drives_block o.signal has.comb.after))
    (drives_append o.signal states (ongoing_list r f.ongoing) ∙ ap (λ (b : Bool). drives_block o.signal states || b) (ongoing_drives r h.place o f.ongoing h.there))
    ∙ some_true (drives_block o.signal has.comb.before) (drives_block o.signal states) (drives_block o.signal has.comb.after)
  where
    some_true : (a b e : Bool) → (a || ((b || true) || e)) ≡ true
    some_true true b e = refl
    some_true false true e = refl
    some_true false false e = refl

-- ---- the law

bit_is : (t : Bool) → pos (modulo (flag t) (2 ^ 1) % 2 ^ 1) ≡ flag t
bit_is true = refl
bit_is false = refl

pub ongoing_is : OngoingLaw
ongoing_is c d f has o h state inputs v k settled at =
    let s = shapes c in
    let x = o.signal in
    let hold = holds c d f v k has at.number in
    let as_ = actions s v f k in
    let acts = (slice_index_or f.states k no_state).acts in
    let comb = taken_block s v c.comb in
    let start = modulo (made c x).reset (2 ^ (s x).bits) in
    let is_comb : role c x ≡ Comb = ap (λ (b : Bool). cond b Comb (sync_role x 0 c.domains (read_role x 0 c.ports (idle_role c x)))) (driven c d f has o h) in
    let one : start < 2 ^ 1 = subst (λ (a : Shape). modulo (made c x).reset (2 ^ a.bits) < 2 ^ 1) (sym h.shape) (modulo-below (made c x).reset (2 ^ 1) (omega arith)) in
    let leaves = become_leaves s v x in_comb as_ (all_held (Leaves x in_comb) s v acts (acts_leave x in_comb acts (h.states k (slice_index_or f.states k no_state) (slice_get-get_or f.states k no_state at.one_of)))) in
    let after : after_pieces x start comb ≡ bit_of f k o =
    alone_takes c v (comb_list s f) c.comb has.comb x start h.alone
    ∙ ap (after_pieces x start) (taken_append s v (by_state (register_of s f) in_comb 0 f.states) (ongoing_list (register_of s f) f.ongoing))
    ∙ after_append x start (taken_block s v (by_state (register_of s f) in_comb 0 f.states)) (taken_block s v (ongoing_list (register_of s f) f.ongoing))
    ∙ ap (λ (ps : List Piece). after_pieces x (after_pieces x start ps) (taken_block s v (ongoing_list (register_of s f) f.ongoing))) (state_takes s v f in_comb k hold)
    ∙ ap (λ (q : ℕ). after_pieces x q (taken_block s v (ongoing_list (register_of s f) f.ongoing))) (leaves start)
    ∙ ap (after_pieces x start) (ongoing_takes s v f k f.ongoing hold (ongoing_known f 0 has.known))
    ∙ ongoing_after s f k start h.place o f.ongoing h.shape h.others h.there one in
    settled.each (At x)
    ∙ ap (by_role c state inputs v x) is_comb
    ∙ ap (λ (q : ℕ). read_bits (s x).bits (s x).signed (q % 2 ^ (s x).bits)) after
    ∙ ap (λ (a : Shape). read_bits a.bits a.signed (bit_of f k o % 2 ^ a.bits)) h.shape
    ∙ bit_is (nat_eq k (number f o.name))
