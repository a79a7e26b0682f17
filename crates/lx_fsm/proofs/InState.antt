-- While an FSM is in a state, its two lists take what the actions of this state become.
use Rattle.std.proofs.Common.{◌≡◌, ℕ, ℤ, suc, ◌+◌, ◌-◌, ◌^◌, ◌<◌, ◌≤◌, Bool, true, false, not, List, [], ◌∷◌, ◌++◌, cond, length, nat_eq, pos, refl, sym, ap, ◌∙◌, arith, eq-eqb, eqb-true}
use Rattle.std.specs.Prelude.{flat_map, map, slice_index_or}
use Rattle.std.specs.Ordering.{int_eq}
use Rattle.std.proofs.lemmas.Bool.{ne_eqb}
use Rattle.std.proofs.lemmas.List.{append-nil}
use Rattle.lx_num.specs.Ints.{wrapped}
use Rattle.lx_num.proofs.Ints.{modulo-small}
use Rattle.lx_circuit.specs.Places.{Values, At}
use Rattle.lx_circuit.specs.Shapes.{Shapes}
use Rattle.lx_circuit.specs.Values.{flag, is_zero, value_of}
use Rattle.lx_circuit.specs.Statements.{Block, Piece, after_pieces, is_target, laid_over, piece, pieces, taken_block}
use Rattle.lx_circuit.proofs.Cases.{after_append, by_test}
use Rattle.lx_circuit.proofs.Frames.{target_leaves}
use Rattle.lx_circuit.proofs.Whole.{laid_whole}
use Rattle.lx_fhdl.specs.Keeping.{EachOf}
use Rattle.lx_lowering.specs.Flat.{some_when}
use Rattle.lx_lowering.proofs.Appends.{taken_append}
use Rattle.lx_lowering.proofs.Branches.{some_when_any}
use Rattle.lx_lowering.proofs.Picks.{held, same_test}
use Rattle.lx_fsm.specs.Actions.{Action, Assign, NextState, NextValue}
use Rattle.lx_fsm.specs.Lists.{Register, all_kept, by_state, comb_list, in_comb, in_sync, is_in, ongoing_list, register_of, sync_list}
use Rattle.lx_fsm.specs.Machine.{Fsm, Ongoing, State, actions, assigned_later, assigned_now, following, last_state, later, no_state, now, number, number_among, state_names}
use Rattle.lx_fsm.specs.Runs.{ongoing_now}
use Rattle.lx_fsm.proofs.Known.{IsKnown, names_long}
use Rattle.lx_fsm.proofs.Taken.{all_kept_takes, become}

-- the signal has a number for each of n states, and is the number m under these values
pub record Holds (r : Register) (v : Values) (n m : ℕ) : Type 0 where
  pub some : 1 ≤ r.shape.bits
  pub plain : r.shape.signed ≡ false
  pub bits : n ≤ 2 ^ r.shape.bits
  pub is : v (At r.signal) ≡ pos m

-- `state == k`
pub test_value : (s : Shapes) (v : Values) (r : Register) (n m k : ℕ) → Holds r v n m → k < n → value_of s v (is_in r k) ≡ flag (nat_eq m k)
test_value s v r n m k h l =
    ap (λ (z : ℤ). flag (int_eq z (wrapped r.shape (pos k)))) h.is
    ∙ ap (λ (z : ℤ). flag (int_eq (pos m) z)) (held r.shape k h.some h.plain (omega (arith, h.bits)))
    ∙ ap flag (same_test m k)

zero_flag : (b : Bool) → is_zero (flag b) ≡ not b
zero_flag true = refl
zero_flag false = refl

turned : (b : Bool) (ps : List Piece) → cond (not b) [] ps ≡ cond b ps []
turned true ps = refl
turned false ps = refl

when_takes : (s : Shapes) (v : Values) (r : Register) (n m k : ℕ) (b : Block) → Holds r v n m → k < n → taken_block s v (some_when (is_in r k) b) ≡ cond (nat_eq m k) (taken_block s v b) []
when_takes s v r n m k b h l =
    some_when_any s v (is_in r k) b
    ∙ ap (λ (z : ℤ). cond (is_zero z) [] (taken_block s v b)) (test_value s v r n m k h l)
    ∙ ap (λ (t : Bool). cond t [] (taken_block s v b)) (zero_flag (nat_eq m k))
    ∙ turned (nat_eq m k) (taken_block s v b)

first_takes : (s : Shapes) (v : Values) (r : Register) (f : Action → Block) (n m k : ℕ) (x : State) (xs : List State) → Holds r v n m → k < n
    → taken_block s v (by_state r f k (x ∷ xs)) ≡ cond (nat_eq m k) (taken_block s v (all_kept f x.acts)) [] ++ taken_block s v (by_state r f (k + 1) xs)
first_takes s v r f n m k x xs h l =
    taken_append s v (some_when (is_in r k) (all_kept f x.acts)) (by_state r f (k + 1) xs)
    ∙ ap (λ (ps : List Piece). ps ++ taken_block s v (by_state r f (k + 1) xs)) (when_takes s v r n m k (all_kept f x.acts) h l)

-- the states after the one that it is in take nothing
none_after : (s : Shapes) (v : Values) (r : Register) (f : Action → Block) (n m k : ℕ) (xs : List State) → Holds r v n m → k + length xs ≤ n → m < k → taken_block s v (by_state r f k xs) ≡ []
none_after s v r f n m k [] h l g = refl
none_after s v r f n m k (x ∷ xs) h l g =
    first_takes s v r f n m k x xs h (omega arith)
    ∙ ap (λ (t : Bool). cond t (taken_block s v (all_kept f x.acts)) [] ++ taken_block s v (by_state r f (k + 1) xs)) (ne_eqb m k (omega arith))
    ∙ none_after s v r f n m (k + 1) xs h (omega arith) (omega arith)

by_state_takes : (s : Shapes) (v : Values) (r : Register) (f : Action → Block) (n m k : ℕ) (xs : List State) → Holds r v n m → k + length xs ≤ n → k ≤ m
    → taken_block s v (by_state r f k xs) ≡ taken_block s v (all_kept f (slice_index_or xs (m - k) no_state).acts)
by_state_takes s v r f n m k [] h l g = refl
by_state_takes s v r f n m k (x ∷ xs) h l g =
    by_test (nat_eq m k)
    (λ t.
    let same : m ≡ k = eqb-true m k t in
    let e : m - k ≡ 0 = omega arith in
    first_takes s v r f n m k x xs h (omega arith)
    ∙ ap (λ (b : Bool). cond b (taken_block s v (all_kept f x.acts)) [] ++ taken_block s v (by_state r f (k + 1) xs)) t
    ∙ ap (λ (ps : List Piece). taken_block s v (all_kept f x.acts) ++ ps) (none_after s v r f n m (k + 1) xs h (omega arith) (omega arith))
    ∙ append-nil (taken_block s v (all_kept f x.acts))
    ∙ ap (λ (i : ℕ). taken_block s v (all_kept f (slice_index_or (x ∷ xs) i no_state).acts)) (sym e))
    (λ t.
    let other : m ≡ k → ⊥ = λ q. let h : nat_eq m k ≡ true = eq-eqb m k q in absurd (cc) in
    let e : m - k ≡ suc (m - (k + 1)) = omega arith in
    first_takes s v r f n m k x xs h (omega arith)
    ∙ ap (λ (b : Bool). cond b (taken_block s v (all_kept f x.acts)) [] ++ taken_block s v (by_state r f (k + 1) xs)) t
    ∙ by_state_takes s v r f n m (k + 1) xs h (omega arith) (omega arith)
    ∙ ap (λ (i : ℕ). taken_block s v (all_kept f (slice_index_or (x ∷ xs) i no_state).acts)) (sym e))

-- in the state m the statements of this state are taken
pub state_takes : (s : Shapes) (v : Values) (f : Fsm) (g : Action → Block) (m : ℕ) → Holds (register_of s f) v (length f.states) m
    → taken_block s v (by_state (register_of s f) g 0 f.states) ≡ become s v g (actions s v f m)
state_takes s v f g m h =
    by_state_takes s v (register_of s f) g (length f.states) m 0 f.states h (omega arith) (omega arith)
    ∙ ap (λ (i : ℕ). taken_block s v (all_kept g (slice_index_or f.states i no_state).acts)) (let e : m - 0 ≡ m = omega arith in e)
    ∙ all_kept_takes s v g (slice_index_or f.states m no_state).acts

-- ---- comb

now_becomes : (s : Shapes) (v : Values) (as_ : List Action) → become s v in_comb as_ ≡ flat_map (now s v) as_
now_becomes s v [] = refl
now_becomes s v (Assign t e ∷ as_) =
    ap (λ (ps : List Piece). ps ++ become s v in_comb as_) (append-nil (pieces s v t (value_of s v e)))
    ∙ ap (λ (ps : List Piece). pieces s v t (value_of s v e) ++ ps) (now_becomes s v as_)
now_becomes s v (NextState name ∷ as_) = now_becomes s v as_
now_becomes s v (NextValue t e ∷ as_) = now_becomes s v as_

pub ongoing_takes : (s : Shapes) (v : Values) (f : Fsm) (m : ℕ) (os : List Ongoing) → Holds (register_of s f) v (length f.states) m
    → EachOf (λ (o : Ongoing). number f o.name < length f.states) os → taken_block s v (ongoing_list (register_of s f) os) ≡ map (ongoing_now s f m) os
ongoing_takes s v f m [] h each = refl
ongoing_takes s v f m (o ∷ os) h each =
    ap (λ (z : ℤ). piece o.signal 0 (s o.signal).bits z ∷ taken_block s v (ongoing_list (register_of s f) os)) (test_value s v (register_of s f) (length f.states) m (number f o.name) h each.0)
    ∙ ap (λ (ps : List Piece). ongoing_now s f m o ∷ ps) (ongoing_takes s v f m os h each.1)

-- what is taken of the list in comb
pub comb_takes : (s : Shapes) (v : Values) (f : Fsm) (m : ℕ) → Holds (register_of s f) v (length f.states) m → EachOf (λ (o : Ongoing). number f o.name < length f.states) f.ongoing
    → taken_block s v (comb_list s f) ≡ assigned_now s v f m ++ map (ongoing_now s f m) f.ongoing
comb_takes s v f m h each =
    taken_append s v (by_state (register_of s f) in_comb 0 f.states) (ongoing_list (register_of s f) f.ongoing)
    ∙ ap (λ (ps : List Piece). ps ++ taken_block s v (ongoing_list (register_of s f) f.ongoing)) (state_takes s v f in_comb m h ∙ now_becomes s v (actions s v f m))
    ∙ ap (λ (ps : List Piece). assigned_now s v f m ++ ps) (ongoing_takes s v f m f.ongoing h each)

-- ---- the clock domain

-- to other signals the NextValues alone assign
later_becomes : (s : Shapes) (v : Values) (r : Register) (x : ℕ) (as_ : List Action) → nat_eq r.signal x ≡ false → (p : ℕ)
    → after_pieces x p (become s v (in_sync r) as_) ≡ after_pieces x p (flat_map (later s v) as_)
later_becomes s v r x [] e p = refl
later_becomes s v r x (Assign t y ∷ as_) e p = later_becomes s v r x as_ e p
later_becomes s v r x (NextState name ∷ as_) e p =
    ap (λ (b : Bool). after_pieces x (cond b (laid_over p 0 (s r.signal).bits (wrapped r.shape (pos (number_among r.names name)))) p) (become s v (in_sync r) as_)) e
    ∙ later_becomes s v r x as_ e p
later_becomes s v r x (NextValue t y ∷ as_) e p =
    let ps = pieces s v t (value_of s v y) in
    ap (λ (qs : List Piece). after_pieces x p (qs ++ become s v (in_sync r) as_)) (append-nil ps)
    ∙ after_append x p ps (become s v (in_sync r) as_)
    ∙ later_becomes s v r x as_ e (after_pieces x p ps)
    ∙ sym (after_append x p ps (flat_map (later s v) as_))

pub sync_takes : (s : Shapes) (v : Values) (f : Fsm) (m x : ℕ) → Holds (register_of s f) v (length f.states) m → nat_eq f.state x ≡ false → (p : ℕ)
    → after_pieces x p (taken_block s v (sync_list s f)) ≡ after_pieces x p (assigned_later s v f m)
sync_takes s v f m x h e p =
    ap (after_pieces x p) (state_takes s v f (in_sync (register_of s f)) m h)
    ∙ later_becomes s v (register_of s f) x (actions s v f m) e p

-- to `state` the NextStates alone assign; the last one counts
-- an action that assigns the signal x by no NextValue
abbrev pub IsOther : ℕ → Action → Type 0
IsOther x (NextValue t e) = is_target x t ≡ false
IsOther x _ = Unit {0}

next_becomes : (s : Shapes) (v : Values) (f : Fsm) (m k : ℕ) (as_ : List Action) → Holds (register_of s f) v (length f.states) m → k < length f.states
    → EachOf (IsKnown (state_names f)) as_ → EachOf (IsOther f.state) as_ → after_pieces f.state k (become s v (in_sync (register_of s f)) as_) ≡ last_state f k as_
next_becomes s v f m k [] h l known other = refl
next_becomes s v f m k (Assign t y ∷ as_) h l known other = next_becomes s v f m k as_ h l known.1 other.1
next_becomes s v f m k (NextState name ∷ as_) h l known other =
    let j = number f name in
    let n = (s f.state).bits in
    let g : j < length f.states = omega (arith, known.0, names_long f) in
    let small : k < 2 ^ n = omega (arith, h.bits) in
    let below : j < 2 ^ n = omega (arith, h.bits) in
    ap (λ (b : Bool). after_pieces f.state (cond b (laid_over k 0 n (wrapped (s f.state) (pos j))) k) (become s v (in_sync (register_of s f)) as_)) (eq-eqb f.state f.state refl)
    ∙ ap (λ (z : ℤ). after_pieces f.state (laid_over k 0 n z) (become s v (in_sync (register_of s f)) as_)) (held (s f.state) j h.some h.plain below)
    ∙ ap (λ (q : ℕ). after_pieces f.state q (become s v (in_sync (register_of s f)) as_)) (laid_whole k n (pos j) small ∙ modulo-small j (2 ^ n) below)
    ∙ next_becomes s v f m j as_ h g known.1 other.1
next_becomes s v f m k (NextValue t y ∷ as_) h l known other =
    let ps = pieces s v t (value_of s v y) in
    let more = become s v (in_sync (register_of s f)) as_ in
    ap (λ (qs : List Piece). after_pieces f.state k (qs ++ more)) (append-nil ps)
    ∙ after_append f.state k ps more
    ∙ ap (λ (q : ℕ). after_pieces f.state q more) (target_leaves s v f.state t (value_of s v y) other.0 k)
    ∙ next_becomes s v f m k as_ h l known.1 other.1

-- the number that the list of the clock domain gives `state`
pub next_takes : (s : Shapes) (v : Values) (f : Fsm) (m : ℕ) → Holds (register_of s f) v (length f.states) m → m < length f.states
    → EachOf (IsKnown (state_names f)) (actions s v f m) → EachOf (IsOther f.state) (actions s v f m) → after_pieces f.state m (taken_block s v (sync_list s f)) ≡ following s v f m
next_takes s v f m h l known other =
    ap (after_pieces f.state m) (state_takes s v f (in_sync (register_of s f)) m h)
    ∙ next_becomes s v f m m (actions s v f m) h l known other
