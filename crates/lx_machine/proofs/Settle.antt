-- A system with an order of its reads settles in exactly one way: round after round, a place of rank k
-- stays as it is from round k + 1 on.
use Rattle.std.proofs.Common.{◌≡◌, ℕ, ◌+◌, ◌-◌, ◌<◌, Option, Some, None, List, [], ◌∷◌, refl, sym, ◌∙◌, ap, zero, suc, arith}
use Rattle.lx_circuit.specs.Places.{Place, Values, At, Word, Kept}
use Rattle.lx_circuit.specs.Circuit.{by_place, Step}
use Rattle.lx_circuit.specs.Reads.{reads_at}
use Rattle.lx_circuit.proofs.Frames.{AgreeOn}
use Rattle.lx_circuit.proofs.Settle.{by_place_same}
use Rattle.lx_machine.specs.System.{System}
use Rattle.lx_machine.specs.Gives.{Given, all_given}
use Rattle.lx_machine.specs.Views.{State, given_or, given_place, by_system, IsSystemSettled, reads_of, system_reads, HasSystemOrder, Runs, system_next}
use Rattle.lx_machine.specs.Running.{rounds, values_run, state_run}
use Rattle.lx_machine.specs.Settling.{SystemSettlesOnce}
use Rattle.lx_machine.proofs.Hangs.{HangsOr, agree_each, all_hang, given_hangs}

-- what the bus gives, or the circuit says, hangs on what it reads
or_same : (y : System) (st : State) (inputs v w : Values) (p : Place) (o : Option Given) → HangsOr o → AgreeOn v w (λ q. reads_of o q (reads_at y.circuit p q))
    → given_or o st.bus v (by_place y.circuit st.held inputs v p) ≡ given_or o st.bus w (by_place y.circuit st.held inputs w p)
or_same y st inputs v w p None k h = by_place_same y.circuit st.held inputs v w p h
or_same y st inputs v w p (Some g) k h = k st.bus v w (agree_each v w g.reads (λ x e. h (At x) e))

place_hangs : (y : System) (p : Place) → HangsOr (given_place y p)
place_hangs y (At x) = given_hangs (all_given y) x (all_hang y)
place_hangs y (Word m k) = tt
place_hangs y (Kept j) = tt

pub by_system_same : (y : System) (st : State) (inputs v w : Values) (p : Place) → AgreeOn v w (λ q. system_reads y p q) → by_system y st inputs v p ≡ by_system y st inputs w p
by_system_same y st inputs v w p h = or_same y st inputs v w p (given_place y p) (place_hangs y p) h

pub stable : (y : System) (o : HasSystemOrder y) (st : State) (inputs : Values) (n : ℕ) (p : Place) → o.rank p < n → rounds y st inputs n p ≡ rounds y st inputs (suc n) p
stable y o st inputs zero p h = absurd (omega arith)
stable y o st inputs (suc n) p h =
    by_system_same y st inputs (rounds y st inputs n) (rounds y st inputs (suc n)) p
    (λ q r. let below : o.rank q < o.rank p = o.after p q r in stable y o st inputs n q (omega arith))

-- from its round on a place stays
pub stays : (y : System) (o : HasSystemOrder y) (st : State) (inputs : Values) (k : ℕ) (p : Place) → rounds y st inputs (k + suc (o.rank p)) p ≡ rounds y st inputs (suc (o.rank p)) p
stays y o st inputs zero p = ap (λ n. rounds y st inputs n p) (let e : 0 + suc (o.rank p) ≡ suc (o.rank p) = omega arith in e)
stays y o st inputs (suc k) p =
    ap (λ n. rounds y st inputs n p) (let e : suc k + suc (o.rank p) ≡ suc (k + suc (o.rank p)) = omega arith in e)
    ∙ (sym (stable y o st inputs (k + suc (o.rank p)) p (omega arith)) ∙ stays y o st inputs k p)

abbrev pub reached : (y : System) → HasSystemOrder y → State → Values → Values
reached y o st inputs p = rounds y st inputs (suc (o.rank p)) p

-- a round that is late enough has the value that is reached
pub late : (y : System) (o : HasSystemOrder y) (st : State) (inputs : Values) (m : ℕ) (q : Place) → o.rank q < m → rounds y st inputs m q ≡ reached y o st inputs q
late y o st inputs m q h =
    ap (λ n. rounds y st inputs n q) (let e : m ≡ (m - suc (o.rank q)) + suc (o.rank q) = omega arith in e) ∙ stays y o st inputs (m - suc (o.rank q)) q

pub reached_settled : (y : System) (o : HasSystemOrder y) (st : State) (inputs : Values) → IsSystemSettled y st inputs (reached y o st inputs)
reached_settled y o st inputs = record {
  each = λ p. by_system_same y st inputs (rounds y st inputs (o.rank p)) (reached y o st inputs) p (λ q r. late y o st inputs (o.rank p) q (o.after p q r));
}

-- two settled valuations agree, from the lowest rank on
pub agree_below : (y : System) (o : HasSystemOrder y) (st : State) (inputs v w : Values) → IsSystemSettled y st inputs v → IsSystemSettled y st inputs w → (n : ℕ) (p : Place) → o.rank p < n → v p ≡ w p
agree_below y o st inputs v w f g zero p h = absurd (omega arith)
agree_below y o st inputs v w f g (suc n) p h =
    f.each p ∙ (by_system_same y st inputs v w p (λ q r. let below : o.rank q < o.rank p = o.after p q r in agree_below y o st inputs v w f g n q (omega arith)) ∙ sym (g.each p))

unfoldable pub settles_once : (y : System) → HasSystemOrder y → (st : State) (inputs : Values) → SystemSettlesOnce y st inputs
settles_once y o st inputs = record {
  values = reached y o st inputs;
  settled = reached_settled y o st inputs;
  only = λ v f p. agree_below y o st inputs v (reached y o st inputs) f (reached_settled y o st inputs) (suc (o.rank p)) p (omega arith);
}

-- what is computed with enough rounds is a run
pub computed : (y : System) (n : ℕ) (o : HasSystemOrder y) → ((p : Place) → o.rank p < n) → (st : State) (steps : List Step) → Runs y st steps (values_run y n st steps) (state_run y n st steps)
computed y n o h st [] = refl
computed y n o h st (t ∷ ts) =
    (record { each = λ p. stable y o st t.inputs n p (h p) }, computed y n o h (system_next y st (rounds y st t.inputs n) t.rises) ts)
