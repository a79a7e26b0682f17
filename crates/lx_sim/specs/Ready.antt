-- A simulator between two calls.
use Rattle.std.specs.Prelude.{◌≡◌, true, ℤ, List, length}
use Rattle.lx_circuit.specs.Places.{Values}
use Rattle.lx_fhdl.specs.declared.design.Design.{Design}
use Rattle.lx_sim.specs.Blocks.{AreRight}
use Rattle.lx_sim.specs.Moments.{AreValues}
use Rattle.lx_sim.specs.Plans.{IsPlanOf}
use Rattle.lx_sim.specs.Settled.{AllFit}
use Rattle.lx_sim.specs.Words.{AreWords, HaveWords}
use Rattle.lx_sim.specs.declared.plan.Plan.{Plan}

-- the expressions have the values that follow from those of the signals and from the words
pub record IsReady (d : Design) (p : Plan) (vals : List ℤ) (words : List (List ℤ)) (known next : List ℤ) : Type 0 where
  pub planned : IsPlanOf d p
  pub fit : AllFit p vals known
  pub have : HaveWords p.design words
  pub long : length next ≡ length p.design.signals
  pub right : (v : Values) → AreValues p.design vals v → AreWords words v → AreRight p.design v known (λ y. true)
