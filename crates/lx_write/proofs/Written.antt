-- A lowered design can be emitted where the design can be written, and its module is the design's.
use Rattle.std.proofs.Common.{◌≡◌, ℕ, ◌+◌, ◌<◌, arith, Bool, false, ◌||◌, List, [], ◌∷◌, map, length, refl, sym, ap, subst, ◌∙◌}
use Rattle.std.specs.Prelude.{slice_get, IsTrue}
use Rattle.std.proofs.lemmas.List.{length-map}
use Rattle.lx_circuit.specs.Circuit as circuit
use Rattle.lx_circuit.specs.Circuit.{Circuit}
use Rattle.lx_circuit.specs.Reads.{HasOrder}
use Rattle.lx_vtext.specs.Tree.{Name, VModule}
use Rattle.lx_agree.specs.Agreement.{Naming, Agrees, HasPorts}
use Rattle.lx_fhdl.specs.Designs.{circuit_of, memory_of, port_of}
use Rattle.lx_fhdl.specs.Keeping.{EachOf}
use Rattle.lx_fhdl.specs.declared.design.Port.{Port}
use Rattle.lx_fhdl.specs.declared.design.Signal.{Signal}
use Rattle.lx_fhdl.specs.declared.design.Domain.{Domain}
use Rattle.lx_fhdl.specs.declared.design.Design.{Design}
use Rattle.lx_lowering.specs.Lowering.{Lowers, lowered, lowered_domain}
use Rattle.lx_lower.specs.Lowers.{IsLoweringOf}
use Rattle.lx_emission.specs.Naming.{net, clock_of, naming, is_among, NamesFit}
use Rattle.lx_emission.specs.Emits.{are_once, none_is_reset, PortsFit, ShowsNothing, IsWithFirst, MemoriesFit, CanBeEmitted, Emits}
use Rattle.lx_write.specs.Writes.{CanBeWritten, Writes}
use Rattle.lx_write.proofs.Over.{agrees_over, ports_over}

-- the lowered circuit has the runs of the circuit
lowers : (d e : Design) → IsLoweringOf d e → Lowers (circuit_of d) (lowered (circuit_of d))
lowers d e low = subst (Lowers (circuit_of d)) low.circuit low.lowers

resets_same : (c : Circuit) (x : ℕ) (ds : List circuit.Domain) → circuit.is_some_reset x (map (lowered_domain c) ds) ≡ circuit.is_some_reset x ds
resets_same c x [] = refl
resets_same c x (d ∷ ds) = ap (λ (b : Bool). circuit.is_named x d.reset || b) (resets_same c x ds)

none_same : (c : Circuit) (xs : List ℕ) (ds : List circuit.Domain) → none_is_reset xs (map (lowered_domain c) ds) ≡ none_is_reset xs ds
none_same c [] ds = refl
none_same c (x ∷ xs) ds = rw (resets_same c x ds, none_same c xs ds) refl

lowered_ports : (c : Circuit) → IsTrue (none_is_reset c.ios c.domains) → IsTrue (none_is_reset (lowered c).ios (lowered c).domains)
unfolding lowered
lowered_ports c h = none_same c c.ios c.domains ∙ h

lowered_once : (c : Circuit) → IsTrue (are_once c.ios) → IsTrue (are_once (lowered c).ios)
unfolding lowered
lowered_once c h = h

ports_fit : (d e : Design) → IsLoweringOf d e → PortsFit d → PortsFit e
ports_fit d e low fit = record {
  once = subst (λ c. IsTrue (are_once c.ios)) (sym low.circuit) (lowered_once (circuit_of d) fit.once);
  resets = subst (λ c. IsTrue (none_is_reset c.ios c.domains)) (sym low.circuit) (lowered_ports (circuit_of d) fit.resets);
}

memories_long : (d e : Design) → IsLoweringOf d e → length e.memories ≡ length d.memories
unfolding circuit_of lowered
memories_long d e low = sym (length-map e.memories memory_of) ∙ ap (λ c. length c.memories) low.circuit ∙ length-map d.memories memory_of

names_fit : (d e : Design) (names : List Name) → IsLoweringOf d e → NamesFit d names → NamesFit e names
names_fit d e names low fit = record {
  long = omega (arith, fit.long, ap length low.signals, memories_long d e low);
  lawful = fit.lawful;
  distinct = fit.distinct;
  clocks = subst (λ (ds : List Domain). (k : ℕ) → k < length ds → is_among (clock_of (slice_get ds k)) names ≡ false) (sym low.domains) fit.clocks;
  nodes = fit.nodes;
}

-- the ports are the same
memories_fit : (d e : Design) → IsLoweringOf d e → MemoriesFit d → MemoriesFit e
unfolding circuit_of
memories_fit d e low fit = record {
  show_nothing = subst (λ (qs : List Port). EachOf ShowsNothing (map port_of qs)) (sym low.ports) fit.show_nothing;
  one_domain = subst (λ (qs : List Port). EachOf (IsWithFirst (map port_of qs)) (map port_of qs)) (sym low.ports) fit.one_domain;
}

pub can_be_emitted : (d e : Design) (names : List Name) → IsLoweringOf d e → CanBeWritten d names → CanBeEmitted e names
can_be_emitted d e names low can = record {
  keeps = low.keeps;
  lowered = low.lowered;
  order = subst HasOrder (sym low.circuit) ((lowers d e low).order can.order);
  named = names_fit d e names low can.named;
  ports = ports_fit d e low can.ports;
  memories = memories_fit d e low can.memories;
}

naming_same : (d e : Design) (names : List Name) → IsLoweringOf d e → naming e names ≡ naming d names
naming_same d e names low = ap (λ (ds : List Domain). the_naming names ds (length e.signals)) low.domains ∙ ap (λ (ss : List Signal). the_naming names d.domains (length ss)) low.signals
  where
    the_naming : List Name → List Domain → ℕ → Naming
    the_naming ns ds n = record { net = λ x. net ns x; clock = λ k. clock_of (slice_get ds k); memory = λ k. net ns (n + k) }

pub writes : (d e : Design) (names : List Name) (m : VModule) → IsLoweringOf d e → CanBeWritten d names → Emits e names m → Writes d names m
writes d e names m low can emits =
    let c = circuit_of d in
    let ports : HasPorts (lowered c) (naming d names) m = subst (λ k. HasPorts k (naming d names) m) low.circuit (subst (λ (n : Naming). HasPorts (circuit_of e) n m) (naming_same d e names low) emits.ports) in
    let agrees : Agrees (lowered c) m (naming d names) = subst (λ k. Agrees k m (naming d names)) low.circuit (subst (λ (n : Naming). Agrees (circuit_of e) m n) (naming_same d e names low) emits.agrees) in
    record {
      lawful = emits.lawful;
      meaning = emits.meaning;
      ports = ports_over c m (naming d names) (lowers d e low) ports;
      agrees = agrees_over c m (naming d names) (lowers d e low) can.order agrees;
    }

-- a lowered design that can be emitted can be written too
pub written_from_emitted : (d : Design) (names : List Name) → CanBeEmitted d names → CanBeWritten d names
written_from_emitted d names can = record { keeps = can.keeps; order = can.order; named = can.named; ports = can.ports; memories = can.memories }
