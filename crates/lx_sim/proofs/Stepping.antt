-- Views, step by step from the end.
use Rattle.std.proofs.Common.{◌≡◌, List, [], ◌∷◌, ◌++◌, refl, sym, subst}
use Rattle.lx_circuit.specs.Places.{Values}
use Rattle.lx_circuit.specs.Circuit.{Circuit, Step, IsSettled, ViewFrom, next_state}
use Rattle.lx_circuit.specs.Fitting.{InputsFit, StepsFit}

-- the state after these steps
abbrev pub Reached : Circuit → Values → List Step → Values → Type 0
Reached c state [] last = state ≡ last
Reached c state (t ∷ ts) last = (w : Values) × IsSettled c state t.inputs w × Reached c (next_state c state w t.rises) ts last

-- a view is what settles under the state that is reached
pub view_reached : (c : Circuit) (state : Values) (steps : List Step) (inputs v : Values) → ViewFrom c state steps inputs v → (last : Values) × Reached c state steps last × IsSettled c last inputs v
view_reached c state [] inputs v h = (state, refl, h)
view_reached c state (t ∷ ts) inputs v h = let more = view_reached c (next_state c state h.0 t.rises) ts inputs v h.2 in (more.0, (h.0, h.1, more.1), more.2)

pub reached_view : (c : Circuit) (state : Values) (steps : List Step) (last inputs v : Values) → Reached c state steps last → IsSettled c last inputs v → ViewFrom c state steps inputs v
reached_view c state [] last inputs v r h = subst (λ (s : Values). IsSettled c s inputs v) (sym r) h
reached_view c state (t ∷ ts) last inputs v r h = (r.0, r.1, reached_view c (next_state c state r.0 t.rises) ts last inputs v r.2 h)

-- one step more
pub reached_more : (c : Circuit) (state : Values) (steps : List Step) (last : Values) (t : Step) (w : Values) → Reached c state steps last → IsSettled c last t.inputs w → Reached c state (steps ++ t ∷ []) (next_state c last w t.rises)
reached_more c state [] last t w r h = (w, subst (λ (s : Values). IsSettled c s t.inputs w) (sym r) h, subst (λ (s : Values). next_state c state w t.rises ≡ next_state c s w t.rises) r refl)
reached_more c state (u ∷ us) last t w r h = (r.0, r.1, reached_more c (next_state c state r.0 u.rises) us last t w r.2 h)

pub steps_fit_more : (c : Circuit) (steps : List Step) (t : Step) → StepsFit c steps → InputsFit c t.inputs → StepsFit c (steps ++ t ∷ [])
steps_fit_more c [] t h f = (f, tt)
steps_fit_more c (u ∷ us) t h f = (h.0, steps_fit_more c us t h.1 f)
