-- What holds of each action of statements holds of each that is taken.
use Rattle.std.proofs.Common.{ℤ, Bool, true, false, List, [], ◌∷◌, ◌++◌, cond}
use Rattle.std.specs.Ordering.{int_eq}
use Rattle.lx_circuit.specs.Places.{Values}
use Rattle.lx_circuit.specs.Shapes.{Shapes}
use Rattle.lx_circuit.specs.Values.{value_of, is_zero}
use Rattle.lx_fhdl.specs.Keeping.{EachOf}
use Rattle.lx_fsm.specs.Actions.{Action, Act, Do, If, Case, Branches, NoBranch, Branch, Arms, NoArm, Arm, Acts, Done, Then, all_taken, taken, taken_arm, taken_branch}

-- a fact of each action of statements
abbrev mutual
  pub Each : (Action → Type 0) → Act → Type 0
  Each P (Do a) = P a
  Each P (If bs rest) = EachBranch P bs × AllEach P rest
  Each P (Case on arms rest) = EachArm P arms × AllEach P rest

  pub EachBranch : (Action → Type 0) → Branches → Type 0
  EachBranch P NoBranch = Unit {0}
  EachBranch P (Branch c b more) = AllEach P b × EachBranch P more

  pub EachArm : (Action → Type 0) → Arms → Type 0
  EachArm P NoArm = Unit {0}
  EachArm P (Arm key b more) = AllEach P b × EachArm P more

  pub AllEach : (Action → Type 0) → Acts → Type 0
  AllEach P Done = Unit {0}
  AllEach P (Then x xs) = Each P x × AllEach P xs

each_append : {T : Type 0} (P : T → Type 0) (as_ bs : List T) → EachOf P as_ → EachOf P bs → EachOf P (as_ ++ bs)
each_append P [] bs h g = g
each_append P (a ∷ as_) bs h g = (h.0, each_append P as_ bs h.1 g)

each_choice : {T : Type 0} (P : T → Type 0) (b : Bool) (as_ bs : List T) → EachOf P as_ → EachOf P bs → EachOf P (cond b as_ bs)
each_choice P true as_ bs h g = h
each_choice P false as_ bs h g = g

mutual
  held : (P : Action → Type 0) (s : Shapes) (v : Values) (a : Act) → Each P a → EachOf P (taken s v a)
  held P s v (Do a) h = (h, tt)
  held P s v (If bs rest) h = held_branch P s v bs (all_taken s v rest) h.0 (all_held P s v rest h.1)
  held P s v (Case on arms rest) h = held_arm P s v (value_of s v on) arms (all_taken s v rest) h.0 (all_held P s v rest h.1)

  held_branch : (P : Action → Type 0) (s : Shapes) (v : Values) (bs : Branches) (rest : List Action) → EachBranch P bs → EachOf P rest → EachOf P (taken_branch s v bs rest)
  held_branch P s v NoBranch rest h g = g
  held_branch P s v (Branch c b more) rest h g =
      each_choice P (is_zero (value_of s v c)) (taken_branch s v more rest) (all_taken s v b) (held_branch P s v more rest h.1 g) (all_held P s v b h.0)

  held_arm : (P : Action → Type 0) (s : Shapes) (v : Values) (z : ℤ) (arms : Arms) (rest : List Action) → EachArm P arms → EachOf P rest → EachOf P (taken_arm s v z arms rest)
  held_arm P s v z NoArm rest h g = g
  held_arm P s v z (Arm key b more) rest h g =
      each_choice P (int_eq key z) (all_taken s v b) (taken_arm s v z more rest) (all_held P s v b h.0) (held_arm P s v z more rest h.1 g)

  pub all_held : (P : Action → Type 0) (s : Shapes) (v : Values) (acts : Acts) → AllEach P acts → EachOf P (all_taken s v acts)
  all_held P s v Done h = tt
  all_held P s v (Then x xs) h = each_append P (taken s v x) (all_taken s v xs) (held P s v x h.0) (all_held P s v xs h.1)
