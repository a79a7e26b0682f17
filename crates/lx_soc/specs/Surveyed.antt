-- The system of a description.
use Rattle.std.specs.Prelude.{◌≡◌, ℕ, List, [], ◌∷◌, Some, Result, Ok, Err, ◌⊎◌, flat_map}
use Rattle.lx_text.specs.declared.faults.Fault.{Fault}
use Rattle.lx_text.specs.declared.faults.Refusal.{Refusal}
use Rattle.lx_text.specs.declared.faults.Refusal.TheVariants as refusal
use Rattle.lx_fhdl.specs.declared.design.Design.{Design}
use Rattle.lx_fhdl.specs.declared.places.BankWish.{BankWish}
use Rattle.lx_fhdl.specs.declared.places.Placement.{Placement}
use Rattle.lx_fhdl.specs.declared.places.Wishes.{Wishes}
use Rattle.lx_description.specs.declared.slaves.SlaveKind.{SlaveKind}
use Rattle.lx_description.specs.declared.slaves.SlaveKind.TheVariants as slave
use Rattle.lx_description.specs.declared.slaves.SlaveDecl.{SlaveDecl}
use Rattle.lx_description.specs.declared.modules.ConstDecl.{ConstDecl}
use Rattle.lx_description.specs.declared.description.Description.{Description}
use Rattle.lx_alloc.specs.Answer as alloc
use Rattle.lx_alloc.specs.Judged.{first}
use Rattle.lx_csr.specs.Collected.{banks, constants, managers}
use Rattle.lx_csr.specs.Faults.{faults}
use Rattle.lx_csr.specs.Mapped as csr
use Rattle.lx_csr.specs.declared.registers.Register.{Register}
use Rattle.lx_soc.specs.declared.system.System.{System}

-- what is wished for, with these banks, and these modules that have an interrupt; interrupts are those wished for
abbrev pub with_banks : Wishes → List BankWish → List (List ℕ) → Wishes
with_banks w banks managers = record w { banks = banks; managers = managers }

-- what a description wishes for, with its banks and managers
abbrev pub wishes : Description → Wishes
wishes d = with_banks d.wishes (csr.wishes_of (banks d)) (managers d)

abbrev pub ram : SlaveKind → List ℕ → List (List ℕ)
ram (slave.Ram contents) name = name ∷ []
ram _ name = []

-- the name of a slave that is a RAM
abbrev pub ram_name : SlaveDecl → List (List ℕ)
ram_name s = ram s.kind s.name

-- the regions that are RAMs
abbrev pub rams : Description → List (List ℕ)
rams d = flat_map ram_name d.slaves

-- the system of this circuit, under this name, with these registers, places, constants and RAMs
pub record IsSystemOf (d : Design) (name : List ℕ) (rs : List Register) (p : Placement) (cs : List ConstDecl) (ms : List (List ℕ)) (s : System) : Type 0 where
  pub design : s.design ≡ d
  pub top : s.top ≡ name
  pub map : s.map ≡ rs
  pub placement : s.placement ≡ p
  pub constants : s.constants ≡ cs
  pub rams : s.rams ≡ ms

-- All parts of the system are those of the description, each at its place.
pub record IsPlaced (d : Description) (s : System) : Type 0 where
  pub sound : faults d ≡ []
  pub placement : alloc.IsPlacement (wishes d) s.placement
  pub map : s.map ≡ csr.map_of (banks d) s.placement
  pub constants : s.constants ≡ constants d
  pub rams : s.rams ≡ rams d
  pub top : s.top ≡ d.top

-- the first fault: of the registers, or else of the places
abbrev pub IsFault : Description → Fault → Type 0
IsFault d f = (first (faults d) ≡ Some f) ⊎ ((faults d ≡ []) × alloc.IsFault (wishes d) f)

-- the system, whose circuit is the description's, or the first fault; or memory runs out
abbrev pub Surveys : Description → Result System Refusal → Type 0
Surveys d (Ok s) = (s.design ≡ d.design) × IsPlaced d s
Surveys d (Err (refusal.Fault f)) = IsFault d f
Surveys d (Err refusal.NoMemory) = Unit {0}

-- ---- a top that is no system

-- the system of a circuit that has no bus
pub record IsPlain (d : Design) (name : List ℕ) (s : System) : Type 0 where
  pub design : s.design ≡ d
  pub map : s.map ≡ []
  pub placement : s.placement ≡ record { regions = []; banks = []; irqs = [] }
  pub constants : s.constants ≡ []
  pub rams : s.rams ≡ []
  pub top : s.top ≡ name
