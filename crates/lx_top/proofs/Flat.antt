-- A description without its FSMs: how it is had, and that all such are alike.
use Rattle.std.proofs.Common.{◌≡◌, ℕ, ◌+◌, Bool, true, false, List, [], ◌∷◌, Some, None, Result, Ok, Err, ◌&&◌, not, map, refl, sym, ap, ◌∙◌}
use Rattle.lx_text.specs.declared.faults.Fault.{Fault}
use Rattle.lx_text.specs.declared.faults.Refusal.{Refusal}
use Rattle.lx_text.specs.declared.faults.Refusal.TheVariants as refusal
use Rattle.lx_alloc.specs.Judged.{first}
use Rattle.lx_circuit.specs.Circuit.{Circuit}
use Rattle.lx_circuit.specs.Circuit as circuit
use Rattle.lx_circuit.specs.Statements as tree
use Rattle.lx_fhdl.specs.Designs.{block, circuit_of, domain_of, domains_from, made_of, memory_of, port_of, signal_number, stmts_of}
use Rattle.lx_fhdl.specs.Keeping.{Keeps}
use Rattle.lx_fhdl.specs.declared.design.Design.{Design}
use Rattle.lx_fhdl.specs.declared.design.Domain.{Domain}
use Rattle.lx_fhdl.specs.declared.design.Memory.{Memory}
use Rattle.lx_fhdl.specs.declared.design.Port.{Port}
use Rattle.lx_fhdl.specs.declared.design.Signal.{Signal}
use Rattle.lx_fhdl.specs.declared.exprs.SigId.{SigId}
use Rattle.lx_description.specs.declared.fsms.FsmDecl.{FsmDecl}
use Rattle.lx_description.specs.Instance.{and_design, system}
use Rattle.lx_description.specs.PlainModule.{is_nothing}
use Rattle.lx_description.specs.declared.description.Description.{Description}
use Rattle.lx_fsm.specs.Flattened.{Flattens, IsFlat, IsWithout, fsm_faults}
use Rattle.lx_fsm_kept.specs.Stand.{fsms_stand}
use Rattle.lx_parts_kept.specs.Parts.{parts_keep}
use Rattle.lx_elab.specs.Elaboration.{after, built, checked, elaborated, kept, parted, stood, untested}
use Rattle.lx_elab.specs.Fsms.{unless}
use Rattle.lx_syntax.specs.Ast as ast
use Rattle.lx_translate.specs.Translation.{AreAlike}
use Rattle.lx_top.specs.Making.{Flattened}
use Rattle.lx_top.specs.Modules.{AreBuilt, is_module}

-- ---- what elaboration answers has no FSM with a fault

judged : (r : Result Description Fault) (d : Description) → after stood (after checked r) ≡ Ok d → fsm_faults d ≡ []
judged (Err f) d e = absurd cc
judged (Ok x) d e = by (fsm_faults x) refl e
  where
    stands : fsm_faults x ≡ [] → (b : Bool) → built b x ≡ Ok d → fsm_faults d ≡ []
    stands p true g = let same : x ≡ d = cc in ap fsm_faults (sym same) ∙ p
    stands p false g = absurd cc

    by : (fs : List Fault) → fsm_faults x ≡ fs → after stood (unless x (first fs)) ≡ Ok d → fsm_faults d ≡ []
    by [] p q = stands p (fsms_stand x) q
    by (f ∷ fs) p q = absurd cc

unparted : (r : Result Description Fault) (d : Description) → after parted r ≡ Ok d → r ≡ Ok d
unparted (Err f) d e = absurd cc
unparted (Ok x) d e = by (parts_keep x) e
  where
    by : (b : Bool) → built b x ≡ Ok d → built true x ≡ Ok d
    by true g = g
    by false g = absurd cc

pub no_fsm_faults : (classes : List ast.Class) (d : Description) → elaborated classes ≡ Ok d → fsm_faults d ≡ []
no_fsm_faults classes d e =
    let r = after kept (untested classes) in
    judged r d (unparted (after stood (after checked r)) d e)

-- ---- it is had where they have none

pub flat_made : (d : Description) (r : Result Description Refusal) → fsm_faults d ≡ [] → Flattens d r → Flattened d r
flat_made d (Ok e) none w = w
flat_made d (Err (refusal.Fault f)) none h = let bad : None ≡ Some f = sym (ap first none) ∙ h in absurd cc
flat_made d (Err refusal.NoMemory) none h = tt

pub flat_keeps : (d e : Description) → IsWithout d e → Keeps e.design
flat_keeps d e w = w.keeps

pub same_top : (d e : Description) → IsWithout d e → e.top ≡ d.top
same_top d e w = ap (λ (x : Description). x.top) w.rest

-- ---- all are alike

abbrev made_from : List Signal → tree.Block → List circuit.Domain → List Memory → List Port → List SigId → Circuit
made_from ss comb ds ms ps ios = record { signals = map made_of ss; comb = comb; domains = ds; memories = map memory_of ms; ports = map port_of ps; ios = map signal_number ios }

circuit_is : (d : Design) → circuit_of d ≡ made_from d.signals (block d d.comb) (domains_from d 0 d.domains) d.memories d.ports d.ios
unfolding circuit_of
circuit_is d = refl

same_domains : (a b : Design) → ((m : ℕ) → block a (stmts_of m a.sync) ≡ block b (stmts_of m b.sync)) → (k : ℕ) (xs : List Domain) → domains_from a k xs ≡ domains_from b k xs
same_domains a b same k [] = refl
same_domains a b same k (x ∷ xs) =
    ap (λ (s : tree.Block). record { name = x.name; reset = (domain_of a k x).reset; stmts = s } ∷ domains_from a (k + 1) xs) (same k)
    ∙ ap (λ (ds : List circuit.Domain). domain_of b k x ∷ ds) (same_domains a b same (k + 1) xs)

flats_alike : (d : Description) (a b : Design) → IsFlat d a → IsFlat d b → AreAlike a b
flats_alike d a b p q =
    let signals : a.signals ≡ b.signals = p.signals ∙ sym q.signals in
    let comb : block a a.comb ≡ block b b.comb = p.comb ∙ sym q.comb in
    let domains : a.domains ≡ b.domains = p.domains ∙ sym q.domains in
    let memories : a.memories ≡ b.memories = p.memories ∙ sym q.memories in
    let ports : a.ports ≡ b.ports = p.ports ∙ sym q.ports in
    let ios : a.ios ≡ b.ios = p.ios ∙ sym q.ios in
    record {
      circuit =
          circuit_is a ∙ ap (λ (ss : List Signal). made_from ss (block a a.comb) (domains_from a 0 a.domains) a.memories a.ports a.ios) signals
          ∙ ap (λ (s : tree.Block). made_from b.signals s (domains_from a 0 a.domains) a.memories a.ports a.ios) comb
          ∙ ap (λ (xs : List Domain). made_from b.signals (block b b.comb) (domains_from a 0 xs) a.memories a.ports a.ios) domains
          ∙ ap (λ (ds : List circuit.Domain). made_from b.signals (block b b.comb) ds a.memories a.ports a.ios) (same_domains a b (λ m. p.sync m ∙ sym (q.sync m)) 0 b.domains)
          ∙ ap (λ (ms : List Memory). made_from b.signals (block b b.comb) (domains_from b 0 b.domains) ms a.ports a.ios) memories
          ∙ ap (λ (ps : List Port). made_from b.signals (block b b.comb) (domains_from b 0 b.domains) b.memories ps a.ios) ports
          ∙ ap (λ (xs : List SigId). made_from b.signals (block b b.comb) (domains_from b 0 b.domains) b.memories b.ports xs) ios
          ∙ sym (circuit_is b);
      signals = signals;
      ios = ios;
      domains = domains;
      memories = memories;
      ports = ports;
      drivings = p.drivings ∙ sym q.drivings;
    }

pub flat_alike : (d a b : Description) → IsWithout d a → IsWithout d b → AreAlike a.design b.design
flat_alike d a b p q = flats_alike d a.design b.design p.flat q.flat

-- whether one is a module hangs on nothing that FSMs change
abbrev module_of : Description → Bool
module_of d = not d.soc && (is_nothing {T = FsmDecl} [] && is_nothing d.slaves)

module_is : (d e : Description) → IsWithout d e → is_module e ≡ module_of d
module_is d e w = ap is_module w.rest

pub module_alike : (d a b : Description) → IsWithout d a → IsWithout d b → is_module a ≡ is_module b
module_alike d a b p q = module_is d a p ∙ sym (module_is d b q)

-- ---- rows

pub module_rows : AreBuilt
unfolding and_design system
module_rows = record { circuit = refl; memory = refl; system = refl; slave = refl; generated = refl }
