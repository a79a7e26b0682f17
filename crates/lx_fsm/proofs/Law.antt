-- The register of an FSM follows the machine of its states.
use Rattle.std.proofs.Common.{◌≡◌, ℕ, ℤ, ◌%◌, ◌^◌, ◌<◌, Bool, true, false, not, ◌&&◌, List, [], ◌∷◌, ◌++◌, cond, length, pos, refl, sym, ap, ◌∙◌, arith, append_assoc}
use Rattle.std.specs.Prelude.{slice_index_or}
use Rattle.std.proofs.Math.Nat.{mod-eq_of_lt}
use Rattle.std.proofs.lemmas.Option.{slice_get-get_or}
use Rattle.lx_num.specs.Ints.{modulo, read_bits}
use Rattle.lx_num.proofs.Ints.{modulo-small}
use Rattle.lx_num.proofs.Machine.{read_unsigned}
use Rattle.lx_circuit.specs.Places.{Values, At}
use Rattle.lx_circuit.specs.Statements.{Block, Piece, after_pieces, drives_block, result, taken_block}
use Rattle.lx_circuit.specs.Circuit.{Circuit, IsSettled, Role, Step, Sync, Undriven, ViewFrom, by_role, domain_at, first_state, is_reset, made, next, next_state, risen, role, shapes}
use Rattle.lx_circuit.proofs.Cases.{after_append}
use Rattle.lx_circuit.proofs.Frames.{block_leaves}
use Rattle.lx_lowering.specs.Flat.{append}
use Rattle.lx_lowering.proofs.Appends.{taken_append}
use Rattle.lx_fhdl.specs.Keeping.{EachOf}
use Rattle.lx_fsm.specs.Actions.{Action, Assign, NextState, NextValue}
use Rattle.lx_fsm.specs.Lists.{comb_list, in_sync, register_of, sync_list}
use Rattle.lx_fsm.specs.Machine.{Fsm, State, actions, assigned_later, following, last_state, no_state, number, start, state_names}
use Rattle.lx_fsm.specs.Runs.{FollowsFrom, HasFsm, IsAlone, RunLaw, SameFor, StandsIn, StateLaw, next_values, number_after, taken_among}
use Rattle.lx_fsm.proofs.Held.{all_held}
use Rattle.lx_fsm.proofs.Known.{IsKnown, names_long, ongoing_known, start_below, states_known}
use Rattle.lx_fsm.proofs.InState.{Holds, IsOther, comb_takes, next_takes, sync_takes}
use Rattle.lx_fsm.proofs.Undriven.{Leaves, acts_leave, all_other, no_next, state_leaves}

-- ---- statements among others

among_takes : (c : Circuit) (v : Values) (own whole : Block) (place : StandsIn own whole) → taken_block (shapes c) v whole ≡ taken_among c v place (taken_block (shapes c) v own)
among_takes c v own whole place =
    let s = shapes c in
    ap (taken_block s v) place.is
    ∙ taken_append s v place.before (append own place.after)
    ∙ ap (λ (ps : List Piece). taken_block s v place.before ++ ps) (taken_append s v own place.after)
    ∙ sym (append_assoc (taken_block s v place.before) (taken_block s v own) (taken_block s v place.after))

-- lists that do the same to a signal do so among others
same_among : (c : Circuit) (v : Values) (own whole : Block) (place : StandsIn own whole) (x : ℕ) (ps qs : List Piece) → SameFor x ps qs → SameFor x (taken_among c v place ps) (taken_among c v place qs)
same_among c v own whole place x ps qs h p =
    let a = taken_block (shapes c) v place.before in
    let b = taken_block (shapes c) v place.after in
    after_append x p (a ++ ps) b
    ∙ ap (λ (k : ℕ). after_pieces x k b) (after_append x p a ps ∙ h (after_pieces x p a) ∙ sym (after_append x p a qs))
    ∙ sym (after_append x p (a ++ qs) b)

-- statements that leave the signal
pub alone_takes : (c : Circuit) (v : Values) (own whole : Block) (place : StandsIn own whole) (x p : ℕ) → IsAlone x place → after_pieces x p (taken_block (shapes c) v whole) ≡ after_pieces x p (taken_block (shapes c) v own)
alone_takes c v own whole place x p h =
    let s = shapes c in
    let a = taken_block s v place.before in
    let o = taken_block s v own in
    ap (after_pieces x p) (among_takes c v own whole place)
    ∙ after_append x p (a ++ o) (taken_block s v place.after)
    ∙ block_leaves s v x place.after h.after (after_pieces x p (a ++ o))
    ∙ after_append x p a o
    ∙ ap (λ (k : ℕ). after_pieces x k o) (block_leaves s v x place.before h.before p)

-- ---- a state

pub holds : (c : Circuit) (d : ℕ) (f : Fsm) (v : Values) (k : ℕ) → HasFsm c d f → v (At f.state) ≡ pos k → Holds (register_of (shapes c) f) v (length f.states) k
holds c d f v k has e = record { some = has.register.some; plain = has.register.plain; bits = has.register.bits; is = e }

pub does : StateLaw
does c d f has v k at =
    let h = holds c d f v k has at.number in
    record {
      comb =
          among_takes c v (comb_list (shapes c) f) c.comb has.comb
          ∙ ap (taken_among c v has.comb) (comb_takes (shapes c) v f k h (ongoing_known f 0 has.known));
      sync = λ x e p.
          ap (after_pieces x p) (among_takes c v (sync_list (shapes c) f) (domain_at c d).stmts has.sync)
          ∙ same_among c v (sync_list (shapes c) f) (domain_at c d).stmts has.sync x (taken_block (shapes c) v (sync_list (shapes c) f)) (assigned_later (shapes c) v f k)
          (λ q. sync_takes (shapes c) v f k x h e q) p;
    }

-- ---- the number after a step

-- where the FSM assigns `state` the state of the circuit holds its number, else it is the reset state's for ever
abbrev pub IsNumber : Fsm → Bool → Values → ℕ → Type 0
IsNumber f true state k = state (At f.state) ≡ pos k
IsNumber f false state k = k ≡ start f

abbrev pub role_of : Bool → ℕ → Role
role_of b d = cond b (Sync d) Undriven

settled_number : (c : Circuit) (d : ℕ) (f : Fsm) (b : Bool) (state inputs v : Values) (k : ℕ) → HasFsm c d f → role c f.state ≡ role_of b d → IsSettled c state inputs v → IsNumber f b state k → v (At f.state) ≡ pos k
settled_number c d f true state inputs v k has r settled n = settled.each (At f.state) ∙ ap (by_role c state inputs v f.state) r ∙ n
settled_number c d f false state inputs v k has r settled n = settled.each (At f.state) ∙ ap (by_role c state inputs v f.state) r ∙ has.register.reset ∙ ap pos (sym n)

actions_known : (c : Circuit) (d : ℕ) (f : Fsm) (v : Values) (k : ℕ) → HasFsm c d f → k < length f.states → EachOf (IsKnown (state_names f)) (actions (shapes c) v f k)
actions_known c d f v k has l = all_held (IsKnown (state_names f)) (shapes c) v (slice_index_or f.states k no_state).acts (states_known f 0 k has.known l)

actions_other : (c : Circuit) (d : ℕ) (f : Fsm) (v : Values) (k : ℕ) → HasFsm c d f → k < length f.states → EachOf (IsOther f.state) (actions (shapes c) v f k)
actions_other c d f v k has l =
    let x : State = slice_index_or f.states k no_state in
    all_other f.state (actions (shapes c) v f k)
    (all_held (Leaves f.state next_values) (shapes c) v x.acts (acts_leave f.state next_values x.acts (has.register.values k x (slice_get-get_or f.states k no_state l))))

last_below : (f : Fsm) (k : ℕ) (as_ : List Action) → k < length f.states → EachOf (IsKnown (state_names f)) as_ → last_state f k as_ < length f.states
last_below f k [] l h = l
last_below f k (Assign t e ∷ as_) l h = last_below f k as_ l h.1
last_below f k (NextState name ∷ as_) l h = last_below f (number f name) as_ (omega (arith, h.0, names_long f)) h.1
last_below f k (NextValue t e ∷ as_) l h = last_below f k as_ l h.1

both_below : (b : Bool) (j k n : ℕ) → j < n → k < n → cond b j k < n
both_below true j k n h g = h
both_below false j k n h g = g

after_below : (c : Circuit) (d : ℕ) (f : Fsm) (v : Values) (rises : ℕ → Bool) (k : ℕ) → HasFsm c d f → k < length f.states → number_after c d f v rises k < length f.states
after_below c d f v rises k has l =
    let r = is_reset v (domain_at c d).reset in
    both_below (rises d) (cond r (start f) (following (shapes c) v f k)) k (length f.states)
    (both_below r (start f) (following (shapes c) v f k) (length f.states) (start_below f 0 has.known) (last_below f k (actions (shapes c) v f k) l (actions_known c d f v k has l))) l

-- the register after a rise without a reset
rise_number : (c : Circuit) (d : ℕ) (f : Fsm) (v : Values) (k : ℕ) → HasFsm c d f → k < length f.states → v (At f.state) ≡ pos k
    → result (shapes c) f.state (v (At f.state)) (taken_block (shapes c) v (domain_at c d).stmts) ≡ pos (following (shapes c) v f k)
rise_number c d f v k has l e =
    let s = shapes c in
    let x = f.state in
    let n = (s x).bits in
    let ps = taken_block s v (domain_at c d).stmts in
    let small : k < 2 ^ n = omega (arith, has.register.bits) in
    let after = following s v f k in
    let below : after < 2 ^ n = omega (arith, has.register.bits, last_below f k (actions s v f k) l (actions_known c d f v k has l)) in
    let is : after_pieces x k ps ≡ after =
    alone_takes c v (sync_list s f) (domain_at c d).stmts has.sync x k has.alone
    ∙ next_takes s v f k (holds c d f v k has e) l (actions_known c d f v k has l) (actions_other c d f v k has l) in
    ap (λ (z : ℤ). read_bits n (s x).signed (after_pieces x (modulo z (2 ^ n)) ps % 2 ^ n)) e
    ∙ ap (λ (p : ℕ). read_bits n (s x).signed (after_pieces x p ps % 2 ^ n)) (modulo-small k (2 ^ n) small)
    ∙ ap (λ (p : ℕ). read_bits n (s x).signed (p % 2 ^ n)) is
    ∙ ap (read_bits n (s x).signed) (mod-eq_of_lt below)
    ∙ read_unsigned n (s x).signed after has.register.plain

-- a choice of two numbers, and of two values
choose : (b : Bool) (j k : ℕ) (y z : ℤ) → y ≡ pos j → z ≡ pos k → cond b y z ≡ pos (cond b j k)
choose true j k y z h g = h
choose false j k y z h g = g

reset_test : (b less : Bool) → less ≡ false → (b && not less) ≡ b
reset_test true less e = ap not e
reset_test false less e = refl

one_number : (b : Bool) (j k n : ℕ) → j ≡ n → k ≡ n → cond b j k ≡ n
one_number true j k n h g = h
one_number false j k n h g = g

stepped : (c : Circuit) (d : ℕ) (f : Fsm) (b : Bool) (state v : Values) (rises : ℕ → Bool) (k : ℕ) → HasFsm c d f → b ≡ drives_block f.state (sync_list (shapes c) f) → role c f.state ≡ role_of b d
    → k < length f.states → v (At f.state) ≡ pos k → IsNumber f b state k → IsNumber f b (next_state c state v rises) (number_after c d f v rises k)
stepped c d f true state v rises k has same r l e n =
    let dom = domain_at c d in
    let x = f.state in
    let reset = is_reset v dom.reset in
    let more = result (shapes c) x (v (At x)) (taken_block (shapes c) v dom.stmts) in
    ap (next c state v rises x) r
    ∙ choose (rises d) (cond reset (start f) (following (shapes c) v f k)) k (risen c v dom x) (state (At x))
    (ap (λ (t : Bool). cond t (made c x).reset more) (reset_test reset (made c x).reset_less has.register.is_reset)
    ∙ choose reset (start f) (following (shapes c) v f k) (made c x).reset more has.register.reset (rise_number c d f v k has l e)) n
stepped c d f false state v rises k has same r l e n =
    let acts = (slice_index_or f.states k no_state).acts in
    let reg = register_of (shapes c) f in
    let stays : following (shapes c) v f k ≡ k =
    no_next f reg k (actions (shapes c) v f k)
    (all_held (Leaves f.state (in_sync reg)) (shapes c) v acts (acts_leave f.state (in_sync reg) acts (state_leaves f.state reg (in_sync reg) 0 k f.states (sym same)))) in
    let reset = is_reset v (domain_at c d).reset in
    one_number (rises d) (cond reset (start f) (following (shapes c) v f k)) k (start f) (one_number reset (start f) (following (shapes c) v f k) (start f) refl (stays ∙ n)) n

-- ---- runs

follows : (c : Circuit) (d : ℕ) (f : Fsm) (b : Bool) (k : ℕ) (state : Values) (steps : List Step) (inputs v : Values) → HasFsm c d f → b ≡ drives_block f.state (sync_list (shapes c) f) → role c f.state ≡ role_of b d
    → k < length f.states → IsNumber f b state k → ViewFrom c state steps inputs v → FollowsFrom c d f k state steps inputs v
follows c d f b k state [] inputs v has same r l n view = (view, record { one_of = l; number = settled_number c d f b state inputs v k has r view n })
follows c d f b k state (t ∷ ts) inputs v has same r l n view =
    let w = view.0 in
    let e = settled_number c d f b state t.inputs w k has r view.1 n in (
      w,
      view.1,
      record { one_of = l; number = e },
      follows c d f b (number_after c d f w t.rises k) (next_state c state w t.rises) ts inputs v has same r (after_below c d f w t.rises k has l) (stepped c d f b state w t.rises k has same r l e n) view.2,
    )

first_number : (c : Circuit) (d : ℕ) (f : Fsm) (b : Bool) → HasFsm c d f → IsNumber f b (first_state c) (start f)
first_number c d f true has = has.register.reset
first_number c d f false has = refl

pub runs : RunLaw
runs c d f has steps inputs v view =
    let b = drives_block f.state (sync_list (shapes c) f) in
    follows c d f b (start f) (first_state c) steps inputs v has refl has.register.role (start_below f 0 has.known) (first_number c d f b has) view
