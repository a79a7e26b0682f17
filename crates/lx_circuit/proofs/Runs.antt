-- A simulation makes an extension, and extensions follow one another.
use Rattle.std.proofs.Common.{ℕ, List, [], ◌∷◌, ◌≤◌, ◌∙◌, refl, arith}
use Rattle.lx_circuit.specs.Places.{Values}
use Rattle.lx_circuit.specs.Circuit.{Circuit, Step, next_state, first_state, ViewFrom}
use Rattle.lx_circuit.specs.Fitting.{InputsFit, StepsFit, StateFits}
use Rattle.lx_circuit.specs.Runs.{HaveSameRuns, Same, Extends, StepsWith, Simulates}
use Rattle.lx_circuit.proofs.Settle.{settles_once}
use Rattle.lx_circuit.proofs.Fitting.{settled_fits, next_state_fits, first_state_fits}

there_from : (n : ℕ) (c e : Circuit) (R : Values → Values → Type 0) → StepsWith n c e R → (steps : List Step) (s t i v : Values) → StateFits c s → StepsFit c steps → InputsFit c i → R s t → ViewFrom c s steps i v
    → (w : Values) × ViewFrom e t steps i w × Same n v w
there_from n c e R h [] s t i v f g k r p = let one = h.there s t i v f k r p in (one.0, one.1, one.2)
there_from n c e R h (x ∷ xs) s t i v f g k r p =
    let one = h.there s t x.inputs p.0 f g.0 r p.1 in
    let later = there_from n c e R h xs (next_state c s p.0 x.rises) (next_state e t one.0 x.rises) i v (next_state_fits c h.keeps s p.0 x.rises f (settled_fits c h.keeps s x.inputs p.0 f g.0 p.1)) g.1 k (one.3 x.rises) p.2 in
    (later.0, (one.0, one.1, later.1), later.2)

back_from : (n : ℕ) (c e : Circuit) (R : Values → Values → Type 0) → StepsWith n c e R → (steps : List Step) (s t i w : Values) → StateFits c s → StepsFit c steps → InputsFit c i → R s t → ViewFrom e t steps i w
    → (v : Values) × ViewFrom c s steps i v × Same n v w
back_from n c e R h [] s t i w f g k r p = let one = h.back s t i w f k r p in (one.0, one.1, one.2)
back_from n c e R h (x ∷ xs) s t i w f g k r p =
    let one = h.back s t x.inputs p.0 f g.0 r p.1 in
    let later = back_from n c e R h xs (next_state c s one.0 x.rises) (next_state e t p.0 x.rises) i w (next_state_fits c h.keeps s one.0 x.rises f (settled_fits c h.keeps s x.inputs one.0 f g.0 one.1)) g.1 k (one.3 x.rises) p.2 in
    (later.0, (one.0, one.1, later.1), later.2)

pub extends_by : (n : ℕ) (c e : Circuit) (R : Values → Values → Type 0) → StepsWith n c e R → Extends n c e
extends_by n c e R h = record {
  inputs = h.inputs;
  there = λ steps i g k v p. there_from n c e R h steps (first_state c) (first_state e) i v (first_state_fits c h.keeps) g k h.first p;
  back = λ steps i g k w p. back_from n c e R h steps (first_state c) (first_state e) i w (first_state_fits c h.keeps) g k h.first p;
}

-- circuits that settle in one way settle beside one another
pub steps_with : (n : ℕ) (c e : Circuit) (R : Values → Values → Type 0) → Simulates n c e R → StepsWith n c e R
steps_with n c e R h = record {
  keeps = h.keeps;
  inputs = h.inputs;
  first = h.first;
  there = λ s t i v f k r p.
      let other = settles_once e h.other_order t i in
      let both = h.step s t i v other.values f k r p other.settled in
      (other.values, other.settled, both.0, both.1);
  back = λ s t i w f k r p.
      let one = settles_once c h.order s i in
      let both = h.step s t i one.values w f k r one.settled p in
      (one.values, one.settled, both.0, both.1);
}

steps_fit : (c e : Circuit) → ((i : Values) → InputsFit c i → InputsFit e i) → (steps : List Step) → StepsFit c steps → StepsFit e steps
steps_fit c e h [] f = tt
steps_fit c e h (x ∷ xs) f = (h x.inputs f.0, steps_fit c e h xs f.1)

same_then : (n m : ℕ) (u v w : Values) → n ≤ m → Same n u v → Same m v w → Same n u w
same_then n m u v w l h k = record {
  signals = λ x b. h.signals x b ∙ k.signals x (omega arith);
  words = λ a b. h.words a b ∙ k.words a b;
}

pub extends_then : (n m : ℕ) (c d e : Circuit) → n ≤ m → Extends n c d → Extends m d e → Extends n c e
extends_then n m c d e l h k = record {
  inputs = λ i f. k.inputs i (h.inputs i f);
  there = λ steps i f g v p.
      let one = h.there steps i f g v p in
      let two = k.there steps i (steps_fit c d h.inputs steps f) (h.inputs i g) one.0 one.1 in
      (two.0, two.1, same_then n m v one.0 two.0 l one.2 two.2);
  back = λ steps i f g w p.
      let two = k.back steps i (steps_fit c d h.inputs steps f) (h.inputs i g) w p in
      let one = h.back steps i f g two.0 two.1 in
      (one.0, one.1, same_then n m one.0 two.0 w l one.2 two.2);
}

-- circuits with the same runs, as an extension by no signals
pub extends_by_runs : (n : ℕ) (c e : Circuit) → ((i : Values) → InputsFit c i → InputsFit e i) → HaveSameRuns c e → Extends n c e
extends_by_runs n c e h r = record {
  inputs = h;
  there = λ steps i f g v p. (v, r.there steps i f g v p, record { signals = λ x b. refl; words = λ a b. refl });
  back = λ steps i f g w p. (w, r.back steps i f g w p, record { signals = λ x b. refl; words = λ a b. refl });
}
