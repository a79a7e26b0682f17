-- The laws of settling and of views of a system.
use Rattle.std.specs.Prelude.{◌≡◌, List}
use Rattle.lx_circuit.specs.Places.{Place, Values}
use Rattle.lx_circuit.specs.Circuit.{Step}
use Rattle.lx_machine.specs.System.{System}
use Rattle.lx_machine.specs.Views.{State, IsSystemSettled, IsSystemView, Runs, first_system, HasSystemOrder}

-- settled values, and no others
pub record SystemSettlesOnce (y : System) (st : State) (inputs : Values) : Type 0 where
  pub values : Values
  pub settled : IsSystemSettled y st inputs values
  pub only : (v : Values) → IsSystemSettled y st inputs v → (p : Place) → v p ≡ values p

-- A system with an order of its reads settles in exactly one way, whatever the state and the inputs.
abbrev pub IsSystemSettlingLaw : Type 0
IsSystemSettlingLaw = (y : System) → HasSystemOrder y → (st : State) (inputs : Values) → SystemSettlesOnce y st inputs

-- a view, and no other
pub record SystemViewedOnce (y : System) (steps : List Step) (inputs : Values) : Type 0 where
  pub values : Values
  pub view : IsSystemView y steps inputs values
  pub only : (v : Values) → IsSystemView y steps inputs v → (p : Place) → v p ≡ values p

-- So it has exactly one view after every list of steps.
abbrev pub IsSystemViewLaw : Type 0
IsSystemViewLaw = (y : System) → HasSystemOrder y → (steps : List Step) (inputs : Values) → SystemViewedOnce y steps inputs

-- a run of these steps, to a state in which these values are settled
pub record RanTo (y : System) (steps : List Step) (inputs v : Values) : Type 0 where
  pub values : List Values
  pub state : State
  pub ran : Runs y (first_system y) steps values state
  pub settled : IsSystemSettled y state inputs v

-- A view is what is settled where a run ended.
pub record IsRunLaw : Type 0 where
  pub there : (y : System) (steps : List Step) (inputs v : Values) → IsSystemView y steps inputs v → RanTo y steps inputs v
  pub back : (y : System) (steps : List Step) (inputs v : Values) → RanTo y steps inputs v → IsSystemView y steps inputs v
