-- The lowered design of a plan.
use Rattle.std.proofs.Common.{List, sym, subst}
use Rattle.lx_circuit.specs.Memories.{Port}
use Rattle.lx_circuit.specs.Reads.{HasOrder}
use Rattle.lx_emission.specs.Emits.{IsWithFirst, MemoriesFit, ShowsNothing}
use Rattle.lx_fhdl.specs.Designs.{circuit_of}
use Rattle.lx_fhdl.specs.Keeping.{EachOf}
use Rattle.lx_fhdl.specs.declared.design.Design.{Design}
use Rattle.lx_lower.specs.Lowers.{IsLoweringOf}
use Rattle.lx_sheet.specs.Lowered.{IsFit}

-- its memories fit where those of the design do
pub memories_stay : (d e : Design) → IsLoweringOf d e → MemoriesFit d → MemoriesFit e
memories_stay d e of fit = record {
  show_nothing = subst (λ (qs : List Port). EachOf ShowsNothing qs) (sym of.lowers.parts.ports) fit.show_nothing;
  one_domain = subst (λ (qs : List Port). EachOf (IsWithFirst qs) qs) (sym of.lowers.parts.ports) fit.one_domain;
}

pub lowered_fits : (d e : Design) → IsLoweringOf d e → MemoriesFit d → IsFit e
lowered_fits d e of fit = record { keeps = of.keeps; lowered = of.lowered; memories = memories_stay d e of fit }

pub lowered_order : (d e : Design) → IsLoweringOf d e → HasOrder (circuit_of d) → HasOrder (circuit_of e)
lowered_order d e of order = of.lowers.order order
