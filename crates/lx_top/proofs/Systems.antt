-- Systems: a module is none, and a system whose parts have their places has no fault.
use Rattle.std.proofs.Common.{◌≡◌, Bool, true, false, not, Result, Ok, Err, ◌&&◌, refl, sym, ap, subst, ◌∙◌, inl, inr}
use Rattle.std.proofs.lemmas.Bool.{and_parts}
use Rattle.lx_text.specs.declared.faults.Fault.{Fault}
use Rattle.lx_text.specs.declared.faults.Refusal.{Refusal}
use Rattle.lx_text.specs.declared.faults.Refusal.TheVariants as refusal
use Rattle.lx_fhdl.specs.declared.places.Placement.{Placement}
use Rattle.lx_fhdl.specs.declared.places.Wishes.{Wishes}
use Rattle.lx_alloc.specs.Answer as alloc
use Rattle.lx_description.specs.PlainModule.{is_nothing}
use Rattle.lx_description.specs.declared.description.Description.{Description}
use Rattle.lx_fsm.specs.Flattened.{IsWithout}
use Rattle.lx_soc.specs.Surveyed.{IsFault, Surveys, wishes}
use Rattle.lx_soc.specs.declared.system.System.{System}
use Rattle.lx_command.specs.Lines.{not_built}
use Rattle.lx_top.specs.Meaning.{HasPlaces, IsModuleRefused, IsRefusedAs, IsRefusedFor, IsSystemRefused}
use Rattle.lx_top.specs.Making.{Judges, Modules, RefusesSystem}
use Rattle.lx_top.specs.Modules.{is_module}

-- ---- a module is no system

not_true : (b : Bool) → not b ≡ true → b ≡ false
not_true true e = absurd cc
not_true false e = refl

pub plain_top : (d e : Description) → IsWithout d e → is_module e ≡ true → d.soc ≡ false
plain_top d e w fit =
    let plain = (and_parts (not e.soc) (is_nothing e.fsms && is_nothing e.slaves) fit).0 in
    sym (ap (λ (x : Description). x.soc) w.rest) ∙ not_true e.soc plain

-- ---- refusals, by whether it is one

pub module_refused : (d : Description) (f : Fault) → d.soc ≡ false → IsModuleRefused d f → IsRefusedFor d f
module_refused d f plain h = subst (λ (b : Bool). IsRefusedAs b d f) (sym plain) h

pub refused_module : (d : Description) (f : Fault) → d.soc ≡ false → IsRefusedFor d f → IsModuleRefused d f
refused_module d f plain h = subst (λ (b : Bool). IsRefusedAs b d f) plain h

pub system_refused : (d : Description) (r : Refusal) → d.soc ≡ true → RefusesSystem d r → Judges d (Err r)
system_refused d (refusal.Fault f) soc h = subst (λ (b : Bool). IsRefusedAs b d f) (sym soc) h
system_refused d refusal.NoMemory soc h = tt

pub module_judged : (d : Description) (r : Result Description Refusal) → d.soc ≡ false → Modules d r → Judges d r
module_judged d (Ok e) plain h = h
module_judged d (Err (refusal.Fault f)) plain h = module_refused d f plain h
module_judged d (Err refusal.NoMemory) plain h = tt

-- ---- a survey

pub not_surveyed : (d : Description) (r : Refusal) → Surveys d (Err r) → RefusesSystem d r
not_surveyed d (refusal.Fault f) h = inl h
not_surveyed d refusal.NoMemory h = tt

pub surveyed : (d : Description) (s : System) (f : Fault) → Surveys d (Ok s) → f ≡ not_built → IsSystemRefused d f
surveyed d s f h is = inr ((s, h.1), is)

-- ---- not both

no_alloc_fault : (w : Wishes) (p : Placement) (f : Fault) → alloc.IsPlacement w p → alloc.IsFault w f → ⊥
no_alloc_fault w p f is (inl e) = let fixed = is.fixed in cc
no_alloc_fault w p f is (inr (inl e)) = e.1.none is.regions.spots is.regions.least.placement
no_alloc_fault w p f is (inr (inr e)) = let numbers = is.numbers in let told = e.2 in cc

pub no_place_fault : (d : Description) (f : Fault) → HasPlaces d → IsFault d f → ⊥
no_place_fault d f h (inl e) = let sound = h.1.sound in cc
no_place_fault d f h (inr e) = no_alloc_fault (wishes d) h.0.placement f h.1.placement e.1
