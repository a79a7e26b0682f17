-- A circuit without a fault has none.
use Rattle.std.proofs.Common.{inl, inr, sym, ◌∙◌, true≢false}
use Rattle.lx_text.specs.declared.faults.Fault.{Fault}
use Rattle.lx_fhdl.specs.declared.design.Design.{Design}
use Rattle.lx_check.proofs.Sound.{sound_has_none}
use Rattle.lx_translate.specs.Translation.{IsFaultless, HasFault}

pub no_fault_of : (d : Design) (f : Fault) → IsFaultless d → HasFault d f → ⊥
no_fault_of d f s (inl e) = sound_has_none d f s.sound e
no_fault_of d f s (inr (inl e)) = let named = s.named in let other = e.1 in cc
no_fault_of d f s (inr (inr e)) = true≢false (sym s.alone ∙ e.shared)
