-- The names of an FSM.
use Rattle.std.specs.Prelude.{ℕ, List, map}
use Rattle.lx_description.specs.declared.fsms.Asked.{Asked}
use Rattle.lx_description.specs.declared.fsms.StateDecl.{StateDecl}

abbrev pub state_names : List StateDecl → List (List ℕ)
state_names ss = map (λ (s : StateDecl). s.name) ss

abbrev pub asked_names : List Asked → List (List ℕ)
asked_names as_ = map (λ (a : Asked). a.name) as_
