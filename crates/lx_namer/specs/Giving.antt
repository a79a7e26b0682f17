-- Names on the way.
use Rattle.std.specs.Prelude.{◌≡◌, true, List, [], ◌∷◌, ◌++◌, Option, Some}
use Rattle.lx_text.specs.declared.faults.Fault.{Fault}
use Rattle.lx_text.specs.declared.faults.Refusal.{Refusal}
use Rattle.lx_text.specs.declared.faults.Refusal.TheVariants as refusal
use Rattle.lx_vtext.specs.Tree.{Name}
use Rattle.lx_fhdl.specs.declared.exprs.SigId.{SigId}
use Rattle.lx_fhdl.specs.declared.design.Design.{Design}
use Rattle.lx_emission.specs.Naming.{is_among}
use Rattle.lx_namer.specs.Names.{Wish, all_given, given, name_taken, own_name}
use Rattle.lx_namer.specs.Taken.{HaveTheSame, IsTakenToo}
use Rattle.lx_namer.specs.declared.names.Namer.{Namer}

-- a name is given besides, by this wish
pub record IsGivenToo (old new : Namer) (w : Wish) : Type 0 where
  pub name : new.names ≡ old.names ++ given old.taken w ∷ []
  pub taken : IsTakenToo old.taken new.taken (given old.taken w)

-- these wishes were met, where these names were taken first
pub record AreGiven (first : List Name) (ws : List Wish) (namer : Namer) : Type 0 where
  pub names : namer.names ≡ all_given first ws
  pub taken : HaveTheSame namer.taken (first ++ namer.names)

-- the port's own name is taken
abbrev pub TellsTaken : List Name → Design → SigId → Refusal → Type 0
TellsTaken taken d x (refusal.Fault f) = (is_among (own_name d x.0) taken ≡ true) × (f ≡ name_taken d x)
TellsTaken taken d x refusal.NoMemory = Unit {0}

-- want of memory aside, this is the fault
abbrev pub TellsFault : Option Fault → Refusal → Type 0
TellsFault o (refusal.Fault f) = o ≡ Some f
TellsFault o refusal.NoMemory = Unit {0}
