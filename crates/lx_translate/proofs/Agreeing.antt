-- A module that gives what a design with lowered ports means gives what the design means, and has its ports.
use Rattle.std.proofs.Common.{◌≡◌, ℕ, suc, ◌+◌, ◌<◌, ◌≤◌, ◌^◌, Bool, true, false, List, [], ◌∷◌, ◌++◌, map, length, Option, Some, None, refl, sym, ap, subst, ◌∙◌, inl, inr, arith, length-append}
use Rattle.std.specs.Prelude.{slice_get, slice_index_or, option_map, IfSome}
use Rattle.std.proofs.lemmas.Bool.{cases_lt}
use Rattle.std.proofs.lemmas.List.{get_or_append_left, length-map, map-append}
use Rattle.std.proofs.lemmas.Option.{slice_get_within}
use Rattle.lx_num.specs.declared.Shape.{Shape}
use Rattle.lx_num.specs.Ints.{modulo, read_bits}
use Rattle.lx_circuit.specs.Circuit as circuit
use Rattle.lx_circuit.specs.Circuit.{Circuit, Step, Role, Input, Comb, Sync, Read, Undriven, memory_at, nothing, role, shapes}
use Rattle.lx_circuit.specs.Fitting.{StepsFit}
use Rattle.lx_circuit.specs.Memories as memory
use Rattle.lx_circuit.specs.Places.{Values, At, Word}
use Rattle.lx_circuit.specs.Reads.{HasOrder}
use Rattle.lx_circuit.proofs.Views.{viewed_once}
use Rattle.lx_vtext.specs.Tree.{Name, VModule}
use Rattle.lx_vmeaning.specs.Runs.{VStep, all_nets, decl_memories, memory_named, net_named}
use Rattle.lx_agree.specs.Agreement.{Agrees, HasPorts, Naming, PortOf, SameInputs, SameRun, SameSteps, Size, declared_size, domain_ports, is_input_role, net_shape, number, ports_of, reset_port, signal_port, size}
use Rattle.lx_fhdl.specs.Designs.{circuit_of, domains_from, made_of, memory_of, signal_number}
use Rattle.lx_fhdl.specs.Keeping.{EachOf, HasResetPath, IsDomain, IsReset, Keeps}
use Rattle.lx_fhdl.specs.declared.exprs.SigId.{SigId}
use Rattle.lx_fhdl.specs.declared.design.Signal.{Signal}
use Rattle.lx_fhdl.specs.declared.design.Memory.{Memory}
use Rattle.lx_fhdl.specs.declared.design.Domain.{Domain}
use Rattle.lx_fhdl.specs.declared.design.Design.{Design}
use Rattle.lx_emission.specs.Naming.{clock_of, naming}
use Rattle.lx_memory.specs.Lowers.{IsPortsOf, LowersPorts, ShowAlone}
use Rattle.lx_memory.proofs.FromDesign.{can_lower_ports}
use Rattle.lx_memory.proofs.Roles.{role_past}
use Rattle.lx_namer.specs.Staying.{HaveStayed}

-- ---- two circuits under two namings

-- The first n signals and all memories of the one circuit have in the other the same shapes and names; domains have the same
-- clocks; and the same signals are inputs, all of them among the first n.
record Over (n : ℕ) (c e : Circuit) (old new : Naming) : Type 0 where
  lowers : LowersPorts c e
  long : length c.signals ≡ n
  longer : n ≤ length e.signals
  shapes : (x : ℕ) → x < n → shapes e x ≡ shapes c x
  memories : e.memories ≡ c.memories
  domains : length e.domains ≡ length c.domains
  nets : (x : ℕ) → x < n → new.net x ≡ old.net x
  clocks : (k : ℕ) → new.clock k ≡ old.clock k
  words : (k : ℕ) → new.memory k ≡ old.memory k
  inputs : (x : ℕ) → role c x ≡ Input → x < n

-- ---- the same run

steps_fit : (n : ℕ) (c e : Circuit) (old new : Naming) → Over n c e old new → (steps : List Step) → StepsFit c steps → StepsFit e steps
steps_fit n c e old new o [] fit = tt
steps_fit n c e old new o (t ∷ ts) fit = (o.lowers.runs.inputs t.inputs fit.0, steps_fit n c e old new o ts fit.1)

same_inputs : (n : ℕ) (c e : Circuit) (old new : Naming) → Over n c e old new → (inputs : Values) (nets : Name → ℕ) → SameInputs c old inputs nets → SameInputs e new inputs nets
same_inputs n c e old new o inputs nets same = record {
  each = λ x i.
      let own : role c x ≡ Input = o.lowers.inputs_back x i in
      let l = o.inputs x own in
      ap nets (o.nets x l) ∙ same.each x own ∙ sym (ap (λ (a : Shape). modulo (inputs (At x)) (2 ^ a.bits)) (o.shapes x l));
}

same_steps : (n : ℕ) (c e : Circuit) (old new : Naming) → Over n c e old new → (ss : List Step) (ts : List VStep) → SameSteps c old ss ts → SameSteps e new ss ts
same_steps n c e old new o [] [] same = tt
same_steps n c e old new o [] (t ∷ ts) same = absurd same
same_steps n c e old new o (s ∷ ss) [] same = absurd same
same_steps n c e old new o (s ∷ ss) (t ∷ ts) same = (
  record {
    inputs = same_inputs n c e old new o s.inputs t.inputs same.0.inputs;
    rises = λ k l. ap t.rises (o.clocks k) ∙ same.0.rises k (omega (arith, o.domains, l));
  },
  same_steps n c e old new o ss ts same.1,
)

same_run : (n : ℕ) (c e : Circuit) (old new : Naming) → Over n c e old new → (steps : List Step) (inputs : Values) (v_steps : List VStep) (v_inputs : Name → ℕ) → SameRun c old steps inputs v_steps v_inputs
    → SameRun e new steps inputs v_steps v_inputs
same_run n c e old new o steps inputs v_steps v_inputs run = record {
  fitting_steps = steps_fit n c e old new o steps run.fitting_steps;
  fitting_inputs = o.lowers.runs.inputs inputs run.fitting_inputs;
  same_steps = same_steps n c e old new o steps v_steps run.same_steps;
  same_inputs = same_inputs n c e old new o inputs v_inputs run.same_inputs;
}

-- ---- it agrees

size_same : (n : ℕ) (c e : Circuit) (old new : Naming) → Over n c e old new → (k : ℕ) → size e k ≡ size c k
size_same n c e old new o k = ap (λ (ms : List memory.Memory). record { width = (slice_index_or ms k circuit.no_memory).width; depth = (slice_index_or ms k circuit.no_memory).depth }) o.memories

agrees_over : (n : ℕ) (c e : Circuit) (old new : Naming) (m : VModule) → Over n c e old new → HasOrder c → Agrees e m new → Agrees c m old
agrees_over n c e old new m o order agrees = record {
  declares = record {
    nets = λ x l.
        let here : x < n = omega (arith, o.long, l) in
        sym (ap (λ (a : Name). option_map net_shape (net_named a (all_nets m))) (o.nets x here))
        ∙ agrees.declares.nets x (omega (arith, o.longer, here)) ∙ ap Some (o.shapes x here);
    memories = λ k l.
        sym (ap (λ (a : Name). option_map declared_size (memory_named a (decl_memories m.decls))) (o.words k))
        ∙ agrees.declares.memories k (subst (λ (ms : List memory.Memory). k < length ms) (sym o.memories) l) ∙ ap Some (size_same n c e old new o k);
  };
  view = λ steps inputs. let once = viewed_once c order steps inputs in (once.values, once.view);
  v_view = agrees.v_view;
  same = λ steps inputs v_steps v_inputs run v w view v_view.
      let (u, seen, alike) = o.lowers.runs.there steps inputs run.fitting_steps run.fitting_inputs v view in
      let same = agrees.same steps inputs v_steps v_inputs (same_run n c e old new o steps inputs v_steps v_inputs run) u w seen v_view in
      record {
        signals = λ x l.
            let here : x < n = omega (arith, o.long, l) in
            alike.signals x l ∙ same.signals x (omega (arith, o.longer, here))
            ∙ ap (λ (a : Shape). read_bits a.bits a.signed (w.nets (new.net x))) (o.shapes x here)
            ∙ ap (λ (a : Name). number c x (w.nets a)) (o.nets x here);
        words = λ k j l.
            sym (ap (λ (a : Name). w.words a j) (o.words k))
            ∙ same.words k j (subst (λ (z : Size). j < z.depth) (sym (size_same n c e old new o k)) l)
            ∙ ap (λ (z : Size). modulo (u (Word k j)) (2 ^ z.width)) (size_same n c e old new o k)
            ∙ sym (ap (λ z. modulo z (2 ^ (memory_at c k).width)) (alike.words k j));
      };
}

-- ---- it has the ports

is_input : (r : Role) → is_input_role r ≡ true → r ≡ Input
is_input Input e = refl
is_input Comb e = absurd cc
is_input (Sync d) e = absurd cc
is_input (Read j) e = absurd cc
is_input Undriven e = absurd cc

both_ways : (a b : Bool) → (a ≡ true → b ≡ true) → (b ≡ true → a ≡ true) → a ≡ b
both_ways true b f g = sym (f refl)
both_ways false true f g = g refl
both_ways false false f g = refl

input_same : (n : ℕ) (c e : Circuit) (old new : Naming) → Over n c e old new → (x : ℕ) → is_input_role (role e x) ≡ is_input_role (role c x)
input_same n c e old new o x =
    both_ways (is_input_role (role e x)) (is_input_role (role c x))
    (λ i. ap is_input_role (o.lowers.inputs_back x (is_input (role e x) i)))
    (λ i. ap is_input_role (o.lowers.inputs x (is_input (role c x) i)))

abbrev port_from : Bool → Shape → Name → PortOf
port_from is_input a n = record { is_input = is_input; signed = a.signed; bits = a.bits; name = n }

port_same : (n : ℕ) (c e : Circuit) (old new : Naming) → Over n c e old new → (x : ℕ) → x < n → signal_port e new x ≡ signal_port c old x
port_same n c e old new o x l =
    ap (λ (b : Bool). port_from b (shapes e x) (new.net x)) (input_same n c e old new o x)
    ∙ ap (λ (a : Shape). port_from (is_input_role (role c x)) a (new.net x)) (o.shapes x l)
    ∙ ap (λ (a : Name). port_from (is_input_role (role c x)) (shapes c x) a) (o.nets x l)

ios_same : (n : ℕ) (c e : Circuit) (old new : Naming) → Over n c e old new → (xs : List SigId) → EachOf (λ (x : SigId). x.0 < n) xs
    → map (λ x. signal_port e new x) (map signal_number xs) ≡ map (λ x. signal_port c old x) (map signal_number xs)
ios_same n c e old new o [] h = refl
ios_same n c e old new o (x ∷ xs) h = rw (port_same n c e old new o x.0 h.0, ios_same n c e old new o xs h.1) refl

reset_same : (n : ℕ) (c e : Circuit) (old new : Naming) → Over n c e old new → (r : Option SigId) → IfSome r (λ (x : SigId). x.0 < n)
    → reset_port e new (option_map signal_number r) ≡ reset_port c old (option_map signal_number r)
reset_same n c e old new o None h = refl
reset_same n c e old new o (Some r) h = ap (λ (p : PortOf). p ∷ []) (port_same n c e old new o r.0 h)

abbrev clock_port : Name → PortOf
clock_port n = record { is_input = true; signed = false; bits = 1; name = n }

domains_same : (n : ℕ) (c e : Circuit) (old new : Naming) → Over n c e old new → (d p : Design) (k : ℕ) (xs : List Domain) → EachOf (λ (x : Domain). IfSome x.reset (λ (r : SigId). r.0 < n)) xs
    → domain_ports e new k (domains_from p k xs) ≡ domain_ports c old k (domains_from d k xs)
domains_same n c e old new o d p k [] h = refl
domains_same n c e old new o d p k (x ∷ xs) h =
    ap (λ (a : Name). clock_port a ∷ (reset_port e new (option_map signal_number x.reset) ++ domain_ports e new (k + 1) (domains_from p (k + 1) xs))) (o.clocks k)
    ∙ ap (λ (ps : List PortOf). clock_port (old.clock k) ∷ (ps ++ domain_ports e new (k + 1) (domains_from p (k + 1) xs))) (reset_same n c e old new o x.reset h.0)
    ∙ ap (λ (ps : List PortOf). clock_port (old.clock k) ∷ (reset_port c old (option_map signal_number x.reset) ++ ps)) (domains_same n c e old new o d p (k + 1) xs h.1)

-- ---- a design with its ports lowered

reset_there : (d : Design) (x : Domain) (o : Option SigId) → IfSome o (IsReset d x) → IfSome o (λ (r : SigId). r.0 < length d.signals)
reset_there d x None h = tt
reset_there d x (Some r) h = by (slice_get d.signals r.0) refl h.path
  where
    by : (o : Option Signal) → slice_get d.signals r.0 ≡ o → HasResetPath x o → r.0 < length d.signals
    by None e p = absurd p
    by (Some s) e p = slice_get_within d.signals r.0 s e

resets_there : (d : Design) (xs : List Domain) → EachOf (IsDomain d) xs → EachOf (λ (x : Domain). IfSome x.reset (λ (r : SigId). r.0 < length d.signals)) xs
resets_there d [] h = tt
resets_there d (x ∷ xs) h = (reset_there d x x.reset h.0.reset, resets_there d xs h.1)

signals_long : (d : Design) → length (circuit_of d).signals ≡ length d.signals
unfolding circuit_of
signals_long d = length-map d.signals made_of

longer : (d p : Design) → IsPortsOf d p → length d.signals ≤ length (circuit_of p).signals
longer d p h =
    let all = signals_long p in
    let are = ap length h.added.signals_are in
    let split = length-append d.signals h.added.signals in
    omega (arith, all, are, split)

shapes_same : (d p : Design) → IsPortsOf d p → (x : ℕ) → x < length d.signals → shapes (circuit_of p) x ≡ shapes (circuit_of d) x
unfolding circuit_of
shapes_same d p h x l =
    ap (λ (ss : List Signal). (slice_index_or (map made_of ss) x nothing).shape) h.added.signals_are
    ∙ ap (λ (ms : List circuit.Made). (slice_index_or ms x nothing).shape) (map-append made_of d.signals h.added.signals)
    ∙ ap (λ (m : circuit.Made). m.shape) (get_or_append_left (map made_of d.signals) (map made_of h.added.signals) nothing x (omega (arith, length-map d.signals made_of, l)))

memories_same : (d p : Design) → IsPortsOf d p → (circuit_of p).memories ≡ (circuit_of d).memories
unfolding circuit_of
memories_same d p h = ap (λ (ms : List Memory). map memory_of ms) h.memories

from_long : (d : Design) (k : ℕ) (xs : List Domain) → length (domains_from d k xs) ≡ length xs
from_long d k [] = refl
from_long d k (x ∷ xs) = ap suc (from_long d (k + 1) xs)

domains_long : (d p : Design) → IsPortsOf d p → length (circuit_of p).domains ≡ length (circuit_of d).domains
unfolding circuit_of
domains_long d p h = from_long p 0 p.domains ∙ ap length h.domains ∙ sym (from_long d 0 d.domains)

inputs_there : (d : Design) → Keeps d → ShowAlone (circuit_of d) → (x : ℕ) → role (circuit_of d) x ≡ Input → x < length d.signals
inputs_there d keeps alone x i =
    elim (cases_lt x (length d.signals)) [
      | inl l ↦ l
      | inr l ↦
          let past : role (circuit_of d) x ≡ Undriven = role_past (circuit_of d) (can_lower_ports d keeps alone) x (omega (arith, signals_long d, l)) in
          let both : Input ≡ Undriven = sym i ∙ past in
          absurd cc
    ]

over : (d p : Design) (names more : List Name) → Keeps d → ShowAlone (circuit_of d) → IsPortsOf d p → HaveStayed d p names more → Over (length d.signals) (circuit_of d) (circuit_of p) (naming d names) (naming p more)
over d p names more keeps alone h stay = record {
  lowers = h.lowers;
  long = signals_long d;
  longer = longer d p h;
  shapes = shapes_same d p h;
  memories = memories_same d p h;
  domains = domains_long d p h;
  nets = stay.signals;
  clocks = λ k. ap (λ (xs : List Domain). clock_of (slice_get xs k)) h.domains;
  words = stay.memories;
  inputs = inputs_there d keeps alone;
}

pub agrees_with : (d p : Design) (names more : List Name) (m : VModule) → Keeps d → ShowAlone (circuit_of d) → IsPortsOf d p → HaveStayed d p names more → HasOrder (circuit_of d) → Agrees (circuit_of p) m (naming p more) → Agrees (circuit_of d) m (naming d names)
agrees_with d p names more m keeps alone h stay order agrees =
    agrees_over (length d.signals) (circuit_of d) (circuit_of p) (naming d names) (naming p more) m (over d p names more keeps alone h stay) order agrees

ports_same : (d p : Design) (old new : Naming) → Keeps d → IsPortsOf d p → Over (length d.signals) (circuit_of d) (circuit_of p) old new → ports_of (circuit_of p) new ≡ ports_of (circuit_of d) old
unfolding circuit_of
ports_same d p old new keeps h o =
    let c = circuit_of d in
    let e = circuit_of p in
    let n = length d.signals in
    ap (λ (xs : List Domain). domain_ports e new 0 (domains_from p 0 xs) ++ map (λ x. signal_port e new x) (map signal_number p.ios)) h.domains
    ∙ ap (λ (xs : List SigId). domain_ports e new 0 (domains_from p 0 d.domains) ++ map (λ x. signal_port e new x) (map signal_number xs)) h.ios
    ∙ ap (λ (ps : List PortOf). ps ++ map (λ x. signal_port e new x) (map signal_number d.ios)) (domains_same n c e old new o d p 0 d.domains (resets_there d d.domains keeps.domains))
    ∙ ap (λ (ps : List PortOf). domain_ports c old 0 (domains_from d 0 d.domains) ++ ps) (ios_same n c e old new o d.ios keeps.ios)

pub has_ports : (d p : Design) (names more : List Name) (m : VModule) → Keeps d → ShowAlone (circuit_of d) → IsPortsOf d p → HaveStayed d p names more → HasPorts (circuit_of p) (naming p more) m → HasPorts (circuit_of d) (naming d names) m
has_ports d p names more m keeps alone h stay ports = ports ∙ ports_same d p (naming d names) (naming p more) keeps h (over d p names more keeps alone h stay)
