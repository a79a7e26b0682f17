-- An FSM in a circuit: its register follows the machine of its states.
use Rattle.std.specs.Prelude.{◌≡◌, ℕ, pos, Bool, true, false, List, [], ◌∷◌, ◌++◌, Some, ◌^◌, ◌<◌, ◌≤◌, nat_eq, if◌then◌else◌, length, map, slice_get}
use Rattle.lx_num.specs.Ints.{unsigned}
use Rattle.lx_circuit.specs.Places.{Values, At}
use Rattle.lx_circuit.specs.Shapes.{Shapes}
use Rattle.lx_circuit.specs.Values.{flag}
use Rattle.lx_circuit.specs.Statements as tree
use Rattle.lx_circuit.specs.Statements.{Piece, piece, drives_block, taken_block, after_pieces}
use Rattle.lx_circuit.specs.Circuit.{Circuit, Step, Sync, Undriven, IsSettled, IsView, domain_at, first_state, is_reset, made, next_state, role, shapes}
use Rattle.lx_lowering.specs.Flat.{append, one}
use Rattle.lx_fsm.specs.Actions.{Action, NextValue}
use Rattle.lx_fsm.specs.Lists.{all_kept, comb_list, in_comb, sync_list}
use Rattle.lx_fsm.specs.Machine.{State, Ongoing, Fsm, assigned_later, assigned_now, faults, following, number, start}

-- a list of statements stands among others
pub record StandsIn (own whole : tree.Block) : Type 0 where
  pub before : tree.Block
  pub after : tree.Block
  pub is : whole ≡ append before (append own after)

-- no statement beside it assigns the signal
pub record IsAlone {own whole : tree.Block} (x : ℕ) (place : StandsIn own whole) : Type 0 where
  pub before : drives_block x place.before ≡ false
  pub after : drives_block x place.after ≡ false

abbrev pub next_values : Action → tree.Block
next_values (NextValue t e) = one (tree.Assign t e)
next_values _ = tree.Done

-- the signal `state`: it has a number for each state, starts in the reset state, and the FSM alone assigns it, by NextState;
-- where there is none, nothing does
pub record IsRegister (c : Circuit) (d : ℕ) (f : Fsm) : Type 0 where
  pub plain : (shapes c f.state).signed ≡ false
  pub some : 1 ≤ (shapes c f.state).bits
  pub bits : length f.states ≤ 2 ^ (shapes c f.state).bits
  pub reset : (made c f.state).reset ≡ pos (start f)
  pub is_reset : (made c f.state).reset_less ≡ false
  pub values : (k : ℕ) (s : State) → slice_get f.states k ≡ Some s → drives_block f.state (all_kept next_values s.acts) ≡ false
  pub role : role c f.state ≡ (if drives_block f.state (sync_list (shapes c) f) then Sync d else Undriven)

-- A circuit with an FSM in the domain d: its two lists stand there, and its names are known.
pub record HasFsm (c : Circuit) (d : ℕ) (f : Fsm) : Type 0 where
  pub known : faults f 0 ≡ []
  pub comb : StandsIn (comb_list (shapes c) f) c.comb
  pub sync : StandsIn (sync_list (shapes c) f) (domain_at c d).stmts
  pub register : IsRegister c d f
  pub alone : IsAlone f.state sync

-- the number of the state after a step that starts in the state k, under its settled values
abbrev pub number_after : Circuit → ℕ → Fsm → Values → (ℕ → Bool) → ℕ → ℕ
number_after c d f v rises k =
    if rises d
    then (if is_reset v (domain_at c d).reset then start f else following (shapes c) v f k)
    else k

-- under these values the machine is in its state k
pub record IsIn (f : Fsm) (v : Values) (k : ℕ) : Type 0 where
  pub one_of : k < length f.states
  pub number : v (At f.state) ≡ pos k

-- a run of the circuit in which the machine goes from state to state, from k on
abbrev pub FollowsFrom : Circuit → ℕ → Fsm → ℕ → Values → List Step → Values → Values → Type 0
FollowsFrom c d f k state [] inputs v = IsSettled c state inputs v × IsIn f v k
FollowsFrom c d f k state (t ∷ ts) inputs v =
    (w : Values) × IsSettled c state t.inputs w × IsIn f w k
    × FollowsFrom c d f (number_after c d f w t.rises k) (next_state c state w t.rises) ts inputs v

-- Over every list of steps the register follows the states' own machine.
abbrev pub RunLaw : Type 0
RunLaw = (c : Circuit) (d : ℕ) (f : Fsm) → HasFsm c d f
    → (steps : List Step) (inputs v : Values) → IsView c steps inputs v → FollowsFrom c d f (start f) (first_state c) steps inputs v

-- ---- what is assigned in a state

-- `ongoing` is 1 exactly in its state
abbrev pub ongoing_now : Shapes → Fsm → ℕ → Ongoing → Piece
ongoing_now s f k o = piece o.signal 0 (s o.signal).bits (flag (nat_eq k (number f o.name)))

-- the assignments to the signal x come to the same
abbrev pub SameFor : ℕ → List Piece → List Piece → Type 0
SameFor x ps qs = (p : ℕ) → after_pieces x p ps ≡ after_pieces x p qs

-- what is taken beside the FSM's own
abbrev pub taken_among : Circuit → Values → {own whole : tree.Block} → StandsIn own whole → List Piece → List Piece
taken_among c v place ps = taken_block (shapes c) v place.before ++ ps ++ taken_block (shapes c) v place.after

-- in its state k an FSM takes the assignments of this state alone; and its NextValues assign at the rise
pub record Does (c : Circuit) (d : ℕ) (f : Fsm) (has : HasFsm c d f) (v : Values) (k : ℕ) : Type 0 where
  pub comb : taken_block (shapes c) v c.comb ≡ taken_among c v has.comb (assigned_now (shapes c) v f k ++ map (ongoing_now (shapes c) f k) f.ongoing)
  pub sync : (x : ℕ) → nat_eq f.state x ≡ false
      → SameFor x (taken_block (shapes c) v (domain_at c d).stmts) (taken_among c v has.sync (assigned_later (shapes c) v f k))

abbrev pub StateLaw : Type 0
StateLaw = (c : Circuit) (d : ℕ) (f : Fsm) (has : HasFsm c d f) (v : Values) (k : ℕ) → IsIn f v k → Does c d f has v k

-- a signal of one bit that is `ongoing` of one state, and that nothing else assigns
pub record IsOngoing (c : Circuit) (d : ℕ) (f : Fsm) (has : HasFsm c d f) (o : Ongoing) : Type 0 where
  pub place : ℕ
  pub there : slice_get f.ongoing place ≡ Some o
  pub shape : shapes c o.signal ≡ unsigned 1
  pub others : (j : ℕ) (p : Ongoing) → slice_get f.ongoing j ≡ Some p → nat_eq p.signal o.signal ≡ true → p ≡ o
  pub states : (j : ℕ) (s : State) → slice_get f.states j ≡ Some s → drives_block o.signal (all_kept in_comb s.acts) ≡ false
  pub alone : IsAlone o.signal has.comb

-- `ongoing` is 1 exactly in its state.
abbrev pub OngoingLaw : Type 0
OngoingLaw = (c : Circuit) (d : ℕ) (f : Fsm) (has : HasFsm c d f) (o : Ongoing) → IsOngoing c d f has o
    → (state inputs v : Values) (k : ℕ) → IsSettled c state inputs v → IsIn f v k → v (At o.signal) ≡ flag (nat_eq k (number f o.name))
