-- Where all parts of a system go, or the first fault.
use Rattle.std.specs.Prelude.{◌≡◌, ℕ, ◌≤◌, List, [], ◌++◌, Some, Result, Ok, Err, map, flat_map, ◌⊎◌}
use Rattle.lx_text.specs.declared.faults.Fault.{Fault}
use Rattle.lx_text.specs.declared.faults.Refusal.{Refusal}
use Rattle.lx_text.specs.declared.faults.Refusal.TheVariants as refusal
use Rattle.lx_fhdl.specs.declared.places.Wishes.{Wishes}
use Rattle.lx_fhdl.specs.declared.places.Placement.{Placement}
use Rattle.lx_alloc.specs.Judged.{first}
use Rattle.lx_alloc.specs.Places.{fixed_faults, IsExhausted, IsRoomy, ArePlaced}
use Rattle.lx_alloc.specs.Numbers.{irq_faults, all_bank_faults, number_of, AreNumbered}

-- the first fault: of fixed regions, then a size that is short of slots, then of interrupts, then of banks
abbrev pub IsFault : Wishes → Fault → Type 0
IsFault w f =
    (first (fixed_faults w.regions) ≡ Some f)
    ⊎ (((fixed_faults w.regions ≡ []) × IsExhausted w.regions f)
    ⊎ ((fixed_faults w.regions ≡ []) × IsRoomy w.regions × (first (irq_faults w.managers w.irqs ++ all_bank_faults w.fixes w.banks) ≡ Some f)))

-- the placement is the least legal one, and nothing was at fault
pub record IsPlacement (w : Wishes) (p : Placement) : Type 0 where
  pub fixed : fixed_faults w.regions ≡ []
  pub regions : ArePlaced w.regions p.regions
  pub numbers : irq_faults w.managers w.irqs ++ all_bank_faults w.fixes w.banks ≡ []
  pub irqs : AreNumbered (map (λ f. f.name) w.irqs) (map (λ f. f.number) w.irqs) p.irqs
  pub banks : AreNumbered (map (λ b. b.name) w.banks) (map (λ b. number_of w.fixes b.name) w.banks) p.banks

-- what the wishes give: the least legal placement, or the first fault; or memory runs out
abbrev pub Answers : Wishes → Result Placement Refusal → Type 0
Answers w (Ok p) = IsPlacement w p
Answers w (Err (refusal.Fault f)) = IsFault w f
Answers w (Err refusal.NoMemory) = Unit {0}

-- the answer is that a size is short; or memory ran out
abbrev pub TellsExhausted : Wishes → Result Placement Refusal → Type 0
TellsExhausted w (Ok p) = ⊥
TellsExhausted w (Err (refusal.Fault f)) = IsExhausted w.regions f
TellsExhausted w (Err refusal.NoMemory) = Unit {0}
