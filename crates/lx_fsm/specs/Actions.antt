-- What stands in the states of an FSM, as trees, and what of it is taken.
use Rattle.std.specs.Prelude.{ℕ, ℤ, List, [], ◌∷◌, ◌++◌, if◌then◌else◌}
use Rattle.std.specs.Ordering.{int_eq}
use Rattle.lx_circuit.specs.Places.{Values}
use Rattle.lx_circuit.specs.Terms.{Term}
use Rattle.lx_circuit.specs.Shapes.{Shapes}
use Rattle.lx_circuit.specs.Values.{value_of, is_zero}
use Rattle.lx_circuit.specs.Statements.{Target}

-- what a state does: it assigns now, goes to the state of a name, or assigns at the next rise
pub data Action : Type 0 where
  Assign : (target : Target) (value : Term) → Action
  NextState : (name : List ℕ) → Action
  NextValue : (target : Target) (value : Term) → Action

mutual
  pub data Act : Type 0 where
    Do : (action : Action) → Act
    -- the first branch whose condition is not 0, else the rest
    If : (branches : Branches) (rest : Acts) → Act
    -- the arm whose key is the value, else the rest
    Case : (on : Term) (arms : Arms) (rest : Acts) → Act

  pub data Branches : Type 0 where
    NoBranch : Branches
    Branch : (cond : Term) (body : Acts) (more : Branches) → Branches

  pub data Arms : Type 0 where
    NoArm : Arms
    Arm : (key : ℤ) (body : Acts) (more : Arms) → Arms

  pub data Acts : Type 0 where
    Done : Acts
    Then : (first : Act) (rest : Acts) → Acts

-- The actions that are taken under these values, in order.
abbrev mutual
  pub taken : Shapes → Values → Act → List Action
  taken s v (Do a) = a ∷ []
  taken s v (If bs rest) = taken_branch s v bs (all_taken s v rest)
  taken s v (Case on arms rest) = taken_arm s v (value_of s v on) arms (all_taken s v rest)

  pub taken_branch : Shapes → Values → Branches → List Action → List Action
  taken_branch s v NoBranch rest = rest
  taken_branch s v (Branch c b more) rest = if is_zero (value_of s v c) then taken_branch s v more rest else all_taken s v b

  pub taken_arm : Shapes → Values → ℤ → Arms → List Action → List Action
  taken_arm s v z NoArm rest = rest
  taken_arm s v z (Arm key b more) rest = if int_eq key z then all_taken s v b else taken_arm s v z more rest

  pub all_taken : Shapes → Values → Acts → List Action
  all_taken s v Done = []
  all_taken s v (Then x xs) = taken s v x ++ all_taken s v xs

abbrev pub goes_to : Action → List (List ℕ)
goes_to (NextState name) = name ∷ []
goes_to _ = []

-- the names of all states that some NextState goes to, taken or not, in the order of the text
abbrev mutual
  pub named : Act → List (List ℕ)
  named (Do a) = goes_to a
  named (If bs rest) = named_branches bs ++ all_named rest
  named (Case on arms rest) = named_arms arms ++ all_named rest

  pub named_branches : Branches → List (List ℕ)
  named_branches NoBranch = []
  named_branches (Branch c b more) = all_named b ++ named_branches more

  pub named_arms : Arms → List (List ℕ)
  named_arms NoArm = []
  named_arms (Arm key b more) = all_named b ++ named_arms more

  pub all_named : Acts → List (List ℕ)
  all_named Done = []
  all_named (Then x xs) = named x ++ all_named xs
