-- A module that agrees with the lowered circuit agrees with the circuit, and has its ports.
use Rattle.std.proofs.Common.{◌≡◌, ℕ, ◌+◌, ◌<◌, List, [], ◌∷◌, map, length, Option, Some, None, refl, sym, ap, ◌∙◌, arith}
use Rattle.std.proofs.lemmas.List.{length-map}
use Rattle.lx_circuit.specs.Places.{Values}
use Rattle.lx_circuit.specs.Circuit.{Circuit, Domain, Step, Role, Input, role, shapes}
use Rattle.lx_circuit.specs.Fitting.{InputsFit, StepsFit}
use Rattle.lx_circuit.specs.Reads.{HasOrder}
use Rattle.lx_circuit.proofs.Views.{viewed_once}
use Rattle.lx_vtext.specs.Tree.{Name, VModule}
use Rattle.lx_vmeaning.specs.Runs.{VStep}
use Rattle.lx_agree.specs.Agreement.{Naming, SameInputs, SameSteps, SameRun, Agrees, HasPorts, PortOf, is_input_role, signal_port, reset_port, domain_ports, ports_of}
use Rattle.lx_lowering.specs.Lowering.{Lowers, lowered, lowered_domain}

-- the inputs of the one are those of the other
input_same : (c : Circuit) → Lowers c (lowered c) → (x : ℕ) → role (lowered c) x ≡ Input → role c x ≡ Input
input_same c low x e = low.roles x ∙ e

inputs_fit : (c : Circuit) → Lowers c (lowered c) → (inputs : Values) → InputsFit c inputs → InputsFit (lowered c) inputs
unfolding lowered
inputs_fit c low inputs fit = record { each = λ x e. fit.each x (low.roles x ∙ e) }

steps_fit : (c : Circuit) → Lowers c (lowered c) → (steps : List Step) → StepsFit c steps → StepsFit (lowered c) steps
steps_fit c low [] fit = tt
steps_fit c low (t ∷ ts) fit = (inputs_fit c low t.inputs fit.0, steps_fit c low ts fit.1)

same_inputs : (c : Circuit) (names : Naming) → Lowers c (lowered c) → (inputs : Values) (nets : Name → ℕ) → SameInputs c names inputs nets → SameInputs (lowered c) names inputs nets
unfolding lowered
same_inputs c names low inputs nets same = record { each = λ x e. same.each x (low.roles x ∙ e) }

domains_long : (c : Circuit) (k : ℕ) → k < length (lowered c).domains → k < length c.domains
unfolding lowered
domains_long c k lt = omega (arith, length-map c.domains (lowered_domain c))

same_steps : (c : Circuit) (names : Naming) → Lowers c (lowered c) → (ss : List Step) (ts : List VStep) → SameSteps c names ss ts → SameSteps (lowered c) names ss ts
same_steps c names low [] [] same = tt
same_steps c names low [] (t ∷ ts) same = absurd same
same_steps c names low (s ∷ ss) [] same = absurd same
same_steps c names low (s ∷ ss) (t ∷ ts) same =
    (record { inputs = same_inputs c names low s.inputs t.inputs same.0.inputs; rises = λ k lt. same.0.rises k (domains_long c k lt) }, same_steps c names low ss ts same.1)

same_run : (c : Circuit) (names : Naming) → Lowers c (lowered c) → (steps : List Step) (inputs : Values) (v_steps : List VStep) (v_inputs : Name → ℕ) → SameRun c names steps inputs v_steps v_inputs → SameRun (lowered c) names steps inputs v_steps v_inputs
same_run c names low steps inputs v_steps v_inputs run = record {
  fitting_steps = steps_fit c low steps run.fitting_steps;
  fitting_inputs = inputs_fit c low inputs run.fitting_inputs;
  same_steps = same_steps c names low steps v_steps run.same_steps;
  same_inputs = same_inputs c names low inputs v_inputs run.same_inputs;
}

pub agrees_over : (c : Circuit) (m : VModule) (names : Naming) → Lowers c (lowered c) → HasOrder c → Agrees (lowered c) m names → Agrees c m names
unfolding lowered
agrees_over c m names low order agrees = record {
  declares = record { nets = agrees.declares.nets; memories = agrees.declares.memories };
  view = λ steps inputs. let once = viewed_once c order steps inputs in (once.values, once.view);
  v_view = agrees.v_view;
  same = λ steps inputs v_steps v_inputs run v w view v_view.
      let same = agrees.same steps inputs v_steps v_inputs (same_run c names low steps inputs v_steps v_inputs run) v w (low.runs.there steps inputs run.fitting_steps run.fitting_inputs v view) v_view in
      record { signals = same.signals; words = same.words };
}

-- ---- ports

port_same : (c : Circuit) (names : Naming) → Lowers c (lowered c) → (x : ℕ) → signal_port (lowered c) names x ≡ signal_port c names x
unfolding lowered
port_same c names low x = ap (λ (r : Role). record { is_input = is_input_role r; signed = (shapes c x).signed; bits = (shapes c x).bits; name = names.net x }) (sym (low.roles x))

reset_same : (c : Circuit) (names : Naming) → Lowers c (lowered c) → (o : Option ℕ) → reset_port (lowered c) names o ≡ reset_port c names o
reset_same c names low None = refl
reset_same c names low (Some r) = ap (λ (p : PortOf). p ∷ []) (port_same c names low r)

domains_same : (c : Circuit) (names : Naming) → Lowers c (lowered c) → (k : ℕ) (ds : List Domain) → domain_ports (lowered c) names k (map (lowered_domain c) ds) ≡ domain_ports c names k ds
domains_same c names low k [] = refl
domains_same c names low k (d ∷ ds) = rw (reset_same c names low d.reset, domains_same c names low (k + 1) ds) refl

ios_same : (c : Circuit) (names : Naming) → Lowers c (lowered c) → (xs : List ℕ) → map (λ x. signal_port (lowered c) names x) xs ≡ map (λ x. signal_port c names x) xs
ios_same c names low [] = refl
ios_same c names low (x ∷ xs) = rw (port_same c names low x, ios_same c names low xs) refl

ports_same : (c : Circuit) (names : Naming) → Lowers c (lowered c) → ports_of (lowered c) names ≡ ports_of c names
unfolding lowered
ports_same c names low = rw (domains_same c names low 0 c.domains, ios_same c names low c.ios) refl

pub ports_over : (c : Circuit) (m : VModule) (names : Naming) → Lowers c (lowered c) → HasPorts (lowered c) names m → HasPorts c names m
ports_over c m names low ports = ports ∙ ports_same c names low
