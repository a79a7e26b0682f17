-- One port lowered: the runs on the signals and words of the circuit are the same, and an order of reads stays one.
use Rattle.std.proofs.Common.{◌≡◌, ℕ, pos, ◌<◌, ◌≤◌, Bool, true, false, length, refl, sym, ap, subst, ◌∙◌, arith, nat_eq, nat_lt, cond}
use Rattle.std.proofs.lemmas.Bool.{eqb-true, false_from_ne_true, le-ltb, lt-ltb, ltb-false, ltb-true}
use Rattle.lx_num.specs.Ints.{Fits}
use Rattle.lx_circuit.specs.Circuit.{Circuit, Made, Role, Input, Comb, Sync, Read, Undriven, IsSettled, by_place, by_role, first_state, made, memory_at, next_state, role}
use Rattle.lx_circuit.specs.Fitting.{InputsFit, KeptFits, StateFits}
use Rattle.lx_circuit.specs.Memories.{Mode, Async, WriteFirst, ReadFirst, NoChange, Port}
use Rattle.lx_circuit.specs.Places.{Place, Values, At, Word, Kept}
use Rattle.lx_circuit.specs.Runs.{Extends, Same, StepsWith}
use Rattle.lx_circuit.specs.Statements.{drives_block}
use Rattle.lx_circuit.proofs.Cases.{by_test}
use Rattle.lx_circuit.proofs.Fitting.{settled_fits}
use Rattle.lx_circuit.proofs.Runs.{extends_by}
use Rattle.lx_memory.specs.Lowers.{keeps_some}
use Rattle.lx_memory.specs.Ports.{takes}
use Rattle.lx_memory.proofs.Roles.{Shows, known, made_before, ported, role_after, role_before, role_past, role_reader, role_register, takes_others}
use Rattle.lx_memory.proofs.Settled.{StatesMatch, ValuesMatch, agree}
use Rattle.lx_memory.proofs.Stepped.{kept_same, next_signal, register_made, register_next, some_domain, word_same}
use Rattle.lx_memory.proofs.Fetched.{PastIsZero}

-- ---- signals past those of the circuit

-- a role by which a signal hangs on the state alone
abbrev pub by_state : Role → Bool
by_state (Sync k) = true
by_state Undriven = true
by_state _ = false

by_state_alone : (c : Circuit) (s i v w : Values) (x : ℕ) (o : Role) → by_state o ≡ true → by_role c s i v x o ≡ by_role c s i w x o
by_state_alone c s i v w x Input e = absurd cc
by_state_alone c s i v w x Comb e = absurd cc
by_state_alone c s i v w x (Sync k) e = refl
by_state_alone c s i v w x (Read k) e = absurd cc
by_state_alone c s i v w x Undriven e = refl

no_takes : (c : Circuit) (q : Port) (n x : ℕ) (m : Mode) → keeps_some m ≡ false → drives_block x (takes c q n m) ≡ false
no_takes c q n x Async e = refl
no_takes c q n x WriteFirst e = absurd cc
no_takes c q n x ReadFirst e = absurd cc
no_takes c q n x NoChange e = absurd cc

pub past_role : (c : Circuit) (j : ℕ) (q : Port) (r x : ℕ) → Shows c j q r → length c.signals ≤ x → by_state (role (ported c j q r) x) ≡ true
past_role c j q r x h l =
    let n = length c.signals in
    let own = known c j q r h in
    by_test (nat_eq n x)
    (λ e. by_test (keeps_some q.mode)
    (λ m. let dom = some_domain q.domain (length c.domains) (own.fits.domain m) in
    subst (λ y. by_state (role (ported c j q r) y) ≡ true) (eqb-true n x e) (ap by_state (role_register c j q r dom.place h m dom.is dom.there)))
    (λ m. ap by_state (role_after c j q r x h l (no_takes c q n x q.mode m))))
    (λ e. ap by_state (role_after c j q r x h l (takes_others c q n q.mode x e)))

-- ---- settled values beside one another

-- the values of the one below n and on words, and beside them those that the other's state gives
abbrev beside : Circuit → ℕ → Values → Values → Values → Values
beside c n s i v (At x) = cond (nat_lt x n) (v (At x)) (by_role c s i v x (role c x))
beside c n s i v (Word m k) = v (Word m k)
beside c n s i v (Kept k) = s (Kept k)

below_same : (c : Circuit) (n x : ℕ) (s i v : Values) → x < n → beside c n s i v (At x) ≡ v (At x)
below_same c n x s i v l = ap (λ t. cond t (v (At x)) (by_role c s i v x (role c x))) (lt-ltb x n l)

past_same : (c : Circuit) (n x : ℕ) (s i v : Values) → n ≤ x → by_state (role c x) ≡ true → beside c n s i v (At x) ≡ by_role c s i (beside c n s i v) x (role c x)
past_same c n x s i v l e =
    ap (λ t. cond t (v (At x)) (by_role c s i v x (role c x))) (le-ltb x n l)
    ∙ by_state_alone c s i v (beside c n s i v) x (role c x) e

-- words past the depth are 0 where values are settled
settled_past : (c : Circuit) (s i v : Values) (m : ℕ) → IsSettled c s i v → PastIsZero v m (memory_at c m).depth
settled_past c s i v m p k e = p.each (Word m k) ∙ ap (λ t. cond t (s (Word m k)) (pos 0)) e

-- what the register has under settled values
register_is : (c : Circuit) (j : ℕ) (q : Port) (r : ℕ) (t i w : Values) → Shows c j q r → keeps_some q.mode ≡ true → by_role (ported c j q r) t i w (length c.signals) (role (ported c j q r) (length c.signals)) ≡ t (At (length c.signals))
register_is c j q r t i w h m =
    let own = known c j q r h in
    let dom = some_domain q.domain (length c.domains) (own.fits.domain m) in
    ap (λ o. by_role (ported c j q r) t i w (length c.signals) o) (role_register c j q r dom.place h m dom.is dom.there)

-- ---- there

there_match : (c : Circuit) (j : ℕ) (q : Port) (r : ℕ) (s t i v : Values) → Shows c j q r → StatesMatch (length c.signals) j q.mode s t → IsSettled c s i v
    → ValuesMatch (length c.signals) j q.mode v (beside (ported c j q r) (length c.signals) t i v)
there_match c j q r s t i v h a p =
    let d = ported c j q r in
    let n = length c.signals in
    record {
      same = record { signals = λ x l. sym (below_same d n x t i v l); words = λ m k. refl };
      kept = λ k e. p.each (Kept k) ∙ a.kept k e;
      own = λ m. p.each (Kept j) ∙ (a.own m ∙ (sym (register_is c j q r t i (beside d n t i v) h m) ∙ sym (past_same d n n t i v (omega arith) (past_role c j q r n h (omega arith)))));
    }

there_each : (c : Circuit) (j : ℕ) (q : Port) (r : ℕ) (s t i v : Values) → Shows c j q r → StatesMatch (length c.signals) j q.mode s t → IsSettled c s i v
    → (y : Place) → beside (ported c j q r) (length c.signals) t i v y ≡ by_place (ported c j q r) t i (beside (ported c j q r) (length c.signals) t i v) y
there_each c j q r s t i v h a p (At x) =
    let d = ported c j q r in
    let n = length c.signals in
    let w = beside d n t i v in
    by_test (nat_lt x n)
    (λ e. let l = ltb-true x n e in
    below_same d n x t i v l ∙ (p.each (At x) ∙ agree c j q r x s t i v w h a (there_match c j q r s t i v h a p) (settled_past c s i v q.memory p) l))
    (λ e. let l = ltb-false x n e in past_same d n x t i v l (past_role c j q r x h l))
there_each c j q r s t i v h a p (Word m k) = p.each (Word m k) ∙ ap (λ z. cond (nat_lt k (memory_at c m).depth) z (pos 0)) (a.words m k)
there_each c j q r s t i v h a p (Kept k) = refl

-- ---- back

back_match : (c : Circuit) (j : ℕ) (q : Port) (r : ℕ) (s t i w : Values) → Shows c j q r → StatesMatch (length c.signals) j q.mode s t → IsSettled (ported c j q r) t i w
    → ValuesMatch (length c.signals) j q.mode (beside c (length c.signals) s i w) w
back_match c j q r s t i w h a p =
    let d = ported c j q r in
    let n = length c.signals in
    record {
      same = record { signals = λ x l. below_same c n x s i w l; words = λ m k. refl };
      kept = λ k e. a.kept k e ∙ sym (p.each (Kept k));
      own = λ m. a.own m ∙ (sym (register_is c j q r t i w h m) ∙ sym (p.each (At n)));
    }

back_each : (c : Circuit) (j : ℕ) (q : Port) (r : ℕ) (s t i w : Values) → Shows c j q r → StatesMatch (length c.signals) j q.mode s t → IsSettled (ported c j q r) t i w
    → (y : Place) → beside c (length c.signals) s i w y ≡ by_place c s i (beside c (length c.signals) s i w) y
back_each c j q r s t i w h a p (At x) =
    let d = ported c j q r in
    let n = length c.signals in
    let v = beside c n s i w in
    by_test (nat_lt x n)
    (λ e. let l = ltb-true x n e in
    below_same c n x s i w l ∙ (p.each (At x) ∙ sym (agree c j q r x s t i v w h a (back_match c j q r s t i w h a p) (settled_past d t i w q.memory p) l)))
    (λ e. let l = ltb-false x n e in past_same c n x s i w l (ap by_state (role_past c h.can x l)))
back_each c j q r s t i w h a p (Word m k) = p.each (Word m k) ∙ ap (λ z. cond (nat_lt k (memory_at c m).depth) z (pos 0)) (sym (a.words m k))
back_each c j q r s t i w h a p (Kept k) = refl

-- ---- states

kept_fits : (c : Circuit) (j : ℕ) (q : Port) (r : ℕ) (s : Values) → Shows c j q r → StateFits c s → KeptFits c q.memory q.mode (s (Kept j))
kept_fits c j q r s h f = subst (λ (p : Port). KeptFits c p.memory p.mode (s (Kept j))) h.is (f.kept j)

next_match : (c : Circuit) (j : ℕ) (q : Port) (r : ℕ) (s t i v w : Values) (rises : ℕ → Bool) → Shows c j q r → StateFits c s → InputsFit c i → StatesMatch (length c.signals) j q.mode s t
    → IsSettled c s i v → IsSettled (ported c j q r) t i w → Same (length c.signals) v w → StatesMatch (length c.signals) j q.mode (next_state c s v rises) (next_state (ported c j q r) t w rises)
next_match c j q r s t i v w rises h f g a p o m =
    let d = ported c j q r in
    let n = length c.signals in
    record {
      signals = λ x l. next_signal c j q r x s t v w rises h a m l;
      words = λ b k. ap pos (word_same c j q r v w rises b k h m);
      kept = λ k e. kept_same c j q r k s t v w rises h a m e;
      own = λ e. register_next c j q r s t v w rises h e a m (settled_past d t i w q.memory o) (settled_fits c h.can.signals s i v f g p)
          (a.own e ∙ (sym (register_is c j q r t i w h e) ∙ sym (o.each (At n)))) (kept_fits c j q r s h f);
    }

register_reset : (c : Circuit) (j : ℕ) (q : Port) (r : ℕ) → keeps_some q.mode ≡ true → (made (ported c j q r) (length c.signals)).reset ≡ pos 0
register_reset c j q r e = ap (λ (z : Made). z.reset) (register_made c j q r e)

first_match : (c : Circuit) (j : ℕ) (q : Port) (r : ℕ) → StatesMatch (length c.signals) j q.mode (first_state c) (first_state (ported c j q r))
first_match c j q r = record {
  signals = λ x l. ap (λ (z : Made). z.reset) (sym (made_before c j q r x l));
  words = λ m k. refl;
  kept = λ k e. refl;
  own = λ e. sym (register_reset c j q r e);
}

-- ---- inputs

input_below : (c : Circuit) (j : ℕ) (q : Port) (r x : ℕ) → Shows c j q r → role (ported c j q r) x ≡ Input → x < length c.signals
input_below c j q r x h e =
    by_test (nat_lt x (length c.signals))
    (λ t. ltb-true x (length c.signals) t)
    (λ t. absurd (let z = past_role c j q r x h (ltb-false x (length c.signals) t) in let y : by_state (role (ported c j q r) x) ≡ false = ap by_state e in cc))

inputs_fit : (c : Circuit) (j : ℕ) (q : Port) (r : ℕ) (i : Values) → Shows c j q r → InputsFit c i → InputsFit (ported c j q r) i
inputs_fit c j q r i h f = record {
  each = λ x e.
      let l = input_below c j q r x h e in
      by_test (nat_eq r x)
      (λ t. absurd (let y : role (ported c j q r) x ≡ Comb = subst (λ z. role (ported c j q r) z ≡ Comb) (eqb-true r x t) (role_reader c j q r) in cc))
      (λ t. subst (λ (m : Made). Fits m.shape (i (At x))) (sym (made_before c j q r x l)) (f.each x (sym (role_before c j q r x h l t) ∙ e)));
}

-- ---- the runs

steps : (c : Circuit) (j : ℕ) (q : Port) (r : ℕ) → Shows c j q r → StepsWith (length c.signals) c (ported c j q r) (StatesMatch (length c.signals) j q.mode)
steps c j q r h =
    let d = ported c j q r in
    let n = length c.signals in
    record {
      keeps = h.can.signals;
      inputs = λ i f. inputs_fit c j q r i h f;
      first = first_match c j q r;
      there = λ s t i v f g a p.
          let w = beside d n t i v in
          let o : IsSettled d t i w = record { each = there_each c j q r s t i v h a p } in
          let m = (there_match c j q r s t i v h a p).same in
          (w, o, m, λ rises. next_match c j q r s t i v w rises h f g a p o m);
      back = λ s t i w f g a o.
          let v = beside c n s i w in
          let p : IsSettled c s i v = record { each = back_each c j q r s t i w h a o } in
          let m = (back_match c j q r s t i w h a o).same in
          (v, p, m, λ rises. next_match c j q r s t i v w rises h f g a p o m);
    }

pub port_extends : (c : Circuit) (j : ℕ) (q : Port) (r : ℕ) → Shows c j q r → Extends (length c.signals) c (ported c j q r)
port_extends c j q r h = extends_by (length c.signals) c (ported c j q r) (StatesMatch (length c.signals) j q.mode) (steps c j q r h)

-- inputs stay inputs
pub port_inputs : (c : Circuit) (j : ℕ) (q : Port) (r x : ℕ) → Shows c j q r → role c x ≡ Input → role (ported c j q r) x ≡ Input
port_inputs c j q r x h e =
    let l : x < length c.signals = by_test (nat_lt x (length c.signals))
    (λ t. ltb-true x (length c.signals) t)
    (λ t. absurd (let z = role_past c h.can x (ltb-false x (length c.signals) t) in cc)) in
    let apart : nat_eq r x ≡ false = false_from_ne_true (nat_eq r x)
    (λ t. let z : role c x ≡ Read j = subst (λ y. role c y ≡ Read j) (eqb-true r x t) (known c j q r h).alone in absurd (cc)) in
    role_before c j q r x h l apart ∙ e

pub port_inputs_back : (c : Circuit) (j : ℕ) (q : Port) (r x : ℕ) → Shows c j q r → role (ported c j q r) x ≡ Input → role c x ≡ Input
port_inputs_back c j q r x h e =
    by_test (nat_eq r x)
    (λ t. absurd (let y : role (ported c j q r) x ≡ Comb = subst (λ z. role (ported c j q r) z ≡ Comb) (eqb-true r x t) (role_reader c j q r) in cc))
    (λ t. sym (role_before c j q r x h (input_below c j q r x h e) t) ∙ e)
