-- What a settled valuation has at inputs, and at the signals that the bus gives.
use Rattle.std.proofs.Common.{◌≡◌, ℕ, Bool, true, false, List, [], ◌∷◌, ◌++◌, Option, Some, ◌+◌, ◌⊎◌, inl, inr, cond, not, refl, sym, ◌∙◌, ap, subst, nat_eq, zero, suc, eq-eqb, slice_get, zero-add, arith}
use Rattle.std.proofs.lemmas.Bool.{eqb-true, or_parts, and_parts, not-true, false≢true}
use Rattle.lx_circuit.specs.Places.{Values, At}
use Rattle.lx_circuit.specs.Circuit.{by_role, role, is_among, Role}
use Rattle.lx_circuit.proofs.Cases.{by_test}
use Rattle.lx_machine.specs.Map.{Register}
use Rattle.lx_machine.specs.System.{System}
use Rattle.lx_machine.specs.Bus.{register}
use Rattle.lx_machine.specs.Gives.{Given, given_at, all_given, gives_port, gives_kind, gives_registers, gives_managers, gives_targets}
use Rattle.lx_machine.specs.Views.{State, IsSystemSettled, given_or}
use Rattle.lx_machine.specs.Sound.{IsInput, IsSound, signals_of, is_distinct}

pub at_input : (y : System) (st : State) (inputs v : Values) (x : ℕ) → IsSystemSettled y st inputs v → IsInput y x → v (At x) ≡ inputs (At x)
at_input y st inputs v x s i =
    s.each (At x)
    ∙ (ap (λ (o : Option Given). given_or o st.bus v (by_role y.circuit st.held inputs v x (role y.circuit x))) i.free
    ∙ ap (λ (r : Role). by_role y.circuit st.held inputs v x r) i.input)

pub at_given : (y : System) (st : State) (inputs v : Values) (g : Given) → IsSystemSettled y st inputs v → given_at g.signal (all_given y) ≡ Some g → v (At g.signal) ≡ g.value st.bus v
at_given y st inputs v g s e =
    s.each (At g.signal) ∙ ap (λ (o : Option Given). given_or o st.bus v (by_role y.circuit st.held inputs v g.signal (role y.circuit g.signal))) e

-- ---- rows

abbrev pub Among : Given → List Given → Type 0
Among g [] = ⊥
Among g (h ∷ hs) = (h ≡ g) ⊎ Among g hs

pub among_left : (g : Given) (xs ys : List Given) → Among g xs → Among g (xs ++ ys)
among_left g [] ys m = absurd m
among_left g (x ∷ xs) ys (inl e) = inl e
among_left g (x ∷ xs) ys (inr m) = inr (among_left g xs ys m)

pub among_right : (g : Given) (xs ys : List Given) → Among g ys → Among g (xs ++ ys)
among_right g [] ys m = m
among_right g (x ∷ xs) ys m = inr (among_right g xs ys m)

-- a signal that is in no row is none of them
apart_from : (x : ℕ) (g : Given) (gs : List Given) → is_among x (signals_of gs) ≡ false → Among g gs → nat_eq g.signal x ≡ false
apart_from x g [] e m = absurd m
apart_from x g (h ∷ hs) e (inl q) = ap (λ (z : Given). nat_eq z.signal x) (sym q) ∙ (or_parts (nat_eq h.signal x) (is_among x (signals_of hs)) e).0
apart_from x g (h ∷ hs) e (inr m) = apart_from x g hs (or_parts (nat_eq h.signal x) (is_among x (signals_of hs)) e).1 m

turned : (a b : ℕ) → nat_eq a b ≡ false → nat_eq b a ≡ false
turned a b e =
    by_test (nat_eq b a)
    (λ t. absurd (false≢true (sym e ∙ eq-eqb a b (sym (eqb-true b a t)))))
    (λ f. f)

first_by : (t : Bool) (h g : Given) (o : Option Given) → t ≡ false → o ≡ Some g → cond t (Some h) o ≡ Some g
first_by t h g o e k = ap (λ z. cond z (Some h) o) e ∙ k

pub given_among : (g : Given) (gs : List Given) → is_distinct (signals_of gs) ≡ true → Among g gs → given_at g.signal gs ≡ Some g
given_among g [] d m = absurd m
given_among g (h ∷ hs) d (inl e) =
    subst (λ (z : Given). given_at g.signal (z ∷ hs) ≡ Some g) (sym e)
    (ap (λ z. cond z (Some g) (given_at g.signal hs)) (eq-eqb g.signal g.signal refl))
given_among g (h ∷ hs) d (inr m) =
    let a = not-true (is_among h.signal (signals_of hs)) (and_parts (not (is_among h.signal (signals_of hs))) (is_distinct (signals_of hs)) d).0 in
    first_by (nat_eq h.signal g.signal) h g (given_at g.signal hs)
    (turned g.signal h.signal (apart_from h.signal g hs a m))
    (given_among g hs (and_parts (not (is_among h.signal (signals_of hs))) (is_distinct (signals_of hs)) d).1 m)

-- ---- the rows of a register, and of the port

pub registers_among : (y : System) (g : Given) (rs : List Register) (k i : ℕ) (r : Register) → slice_get rs i ≡ Some r → Among g (gives_kind y (i + k) r r.kind) → Among g (gives_registers y k rs)
registers_among y g [] k i r e m = absurd cc
registers_among y g (q ∷ rs) k zero r e m =
    let same : q ≡ r = cc in
    among_left g (gives_kind y k q q.kind) (gives_registers y (k + 1) rs)
    (subst (λ (z : Register). Among g (gives_kind y k z z.kind)) (sym same) (subst (λ (n : ℕ). Among g (gives_kind y n r r.kind)) (zero-add k) m))
registers_among y g (q ∷ rs) k (suc i) r e m =
    among_right g (gives_kind y k q q.kind) (gives_registers y (k + 1) rs)
    (registers_among y g rs (k + 1) i r e (let n : suc i + k ≡ i + (k + 1) = omega arith in subst (λ (j : ℕ). Among g (gives_kind y j r r.kind)) n m))

pub port_row : (y : System) (g : Given) → IsSound y → Among g (gives_port y) → given_at g.signal (all_given y) ≡ Some g
port_row y g s m =
    given_among g (all_given y) s.distinct
    (among_left g (gives_port y) (gives_registers y 0 y.registers ++ (gives_managers y 0 y.managers ++ gives_targets y 0 y.regions)) m)

pub register_row : (y : System) (g : Given) (k : ℕ) (r : Register) → IsSound y → register y k ≡ Some r → Among g (gives_kind y k r r.kind) → given_at g.signal (all_given y) ≡ Some g
register_row y g k r s e m =
    given_among g (all_given y) s.distinct
    (among_right g (gives_port y) (gives_registers y 0 y.registers ++ (gives_managers y 0 y.managers ++ gives_targets y 0 y.regions))
    (among_left g (gives_registers y 0 y.registers) (gives_managers y 0 y.managers ++ gives_targets y 0 y.regions)
    (registers_among y g y.registers 0 k r e (let n : k ≡ k + 0 = omega arith in subst (λ (j : ℕ). Among g (gives_kind y j r r.kind)) n m))))
