-- Two designs of one circuit, whose statements have the same lines, have the same faults.
use Rattle.std.proofs.Common.{◌≡◌, ℕ, Bool, true, ◌||◌, List, [], ◌∷◌, ◌++◌, Option, Some, None, Result, length, codes, map, refl, sym, ap, subst, ◌∙◌, inl, inr, if◌then◌else◌}
use Rattle.std.specs.List.{find, flat_map, range_with_len}
use Rattle.std.specs.Option.{is_some, option_and_then, option_map, option_or}
use Rattle.std.specs.Prelude.{slice_get}
use Rattle.lx_text.specs.declared.faults.Fault.{Fault}
use Rattle.lx_text.specs.declared.faults.Kind.TheVariants.{CombLoop, NameTaken, StorageDriven, TwoDrivers}
use Rattle.lx_circuit.specs.Circuit.{Circuit}
use Rattle.lx_circuit.specs.Circuit as circuit
use Rattle.lx_circuit.specs.Places.{At}
use Rattle.lx_circuit.specs.Reads.{HasOrder, reads_in}
use Rattle.lx_vtext.specs.Tree.{Name}
use Rattle.lx_fhdl.specs.Designs.{circuit_of}
use Rattle.lx_fhdl.specs.declared.design.Design.{Design}
use Rattle.lx_fhdl.specs.declared.design.Domain.{Domain}
use Rattle.lx_fhdl.specs.declared.design.Memory.{Memory}
use Rattle.lx_fhdl.specs.declared.design.Port.{Port}
use Rattle.lx_fhdl.specs.declared.design.Signal.{Signal}
use Rattle.lx_fhdl.specs.declared.exprs.SigId.{SigId}
use Rattle.lx_emission.specs.Emission.{is_port}
use Rattle.lx_emission.specs.Naming.{clock_name, is_among}
use Rattle.lx_graph.specs.Cycle.{IsTold}
use Rattle.lx_reads.specs.Drivings.{Driving, drivings, first_driving}
use Rattle.lx_memory.specs.Alone.{are_alone, shows_alone}
use Rattle.lx_check.specs.Checked.{IsSound, HasCheckFault}
use Rattle.lx_check.specs.Faults.{any_driving, fault, first_fault, first_of, is_described, is_reader, memory_fault, name_of, second_driving, writings}
use Rattle.lx_check.specs.Loops.{IsLoopFault, line_of, loop_fault}
use Rattle.lx_namer.specs.Names as names
use Rattle.lx_namer.specs.Names.{Wish, all_given, memory_path, memory_wish, name_or_place, has_no_path, names_of, own_memory_name, own_name, port_fault, reserved, signal_path, signal_wish, unless}
use Rattle.lx_translate.specs.Translation.{AreAlike, HasFault, IsNotBuilt}

-- ---- drivers and memories, from what is alike

abbrev storage : Circuit → List Signal → List Port → List Driving → ℕ → Option Fault
storage c ss ps all x =
    if (circuit.made c x).given || is_some (find (is_reader x) ps)
    then option_map (λ (a : Driving). fault a.line (StorageDriven (name_of (slice_get ss x)))) (first_driving x is_described all)
    else None

abbrev two : List Signal → List Driving → ℕ → Option Fault
two ss all x =
    option_and_then
    (λ (a : Driving). option_map (λ (b : Driving). fault b.line (TwoDrivers (name_of (slice_get ss x)) a.line)) (second_driving x all))
    (first_driving x any_driving all)

abbrev clocks : List Memory → List Port → ℕ → Option Fault
clocks ms ps m = if is_some (second_driving m (writings ps)) then memory_fault (slice_get ms m) else None

abbrev faults_from : Circuit → List Signal → List Memory → List Port → List Driving → Option Fault
faults_from c ss ms ps all = option_or (first_of (storage c ss ps all) (length ss)) (option_or (first_of (two ss all) (length ss)) (first_of (clocks ms ps) (length ms)))

first_is : (d : Design) → first_fault d ≡ faults_from (circuit_of d) d.signals d.memories d.ports (drivings d)
unfolding first_fault
first_is d = refl

same_first : (a b : Design) → AreAlike a b → first_fault a ≡ first_fault b
same_first a b h =
    first_is a ∙ ap (λ (c : Circuit). faults_from c a.signals a.memories a.ports (drivings a)) h.circuit
    ∙ ap (λ (ss : List Signal). faults_from (circuit_of b) ss a.memories a.ports (drivings a)) h.signals
    ∙ ap (λ (ms : List Memory). faults_from (circuit_of b) b.signals ms a.ports (drivings a)) h.memories
    ∙ ap (λ (ps : List Port). faults_from (circuit_of b) b.signals b.memories ps (drivings a)) h.ports
    ∙ ap (λ (all : List Driving). faults_from (circuit_of b) b.signals b.memories b.ports all) h.drivings
    ∙ sym (first_is b)

-- ---- cycles

abbrev loop_from : List Signal → List Driving → List ℕ → Fault
loop_from ss all [] = fault 0 (CombLoop [])
loop_from ss all (x ∷ others) = fault (line_of (first_driving x any_driving all)) (CombLoop (map (λ (y : ℕ). name_of (slice_get ss y)) (x ∷ others)))

loop_is : (d : Design) (cycle : List ℕ) → loop_fault d cycle ≡ loop_from d.signals (drivings d) cycle
loop_is d [] = refl
loop_is d (x ∷ others) = refl

same_loop : (a b : Design) (cycle : List ℕ) → AreAlike a b → loop_fault a cycle ≡ loop_fault b cycle
same_loop a b cycle h =
    loop_is a cycle ∙ ap (λ (ss : List Signal). loop_from ss (drivings a) cycle) h.signals
    ∙ ap (λ (all : List Driving). loop_from b.signals all cycle) h.drivings ∙ sym (loop_is b cycle)

loop_too : (a b : Design) (f : Fault) → AreAlike a b → IsLoopFault a f → IsLoopFault b f
loop_too a b f h l = record {
  cycle = l.cycle;
  told = subst (λ (c : Circuit). IsTold (λ (x y : ℕ). reads_in c x (At y) ≡ true) l.cycle) h.circuit l.told;
  is = l.is ∙ same_loop a b l.cycle h;
}

sound_too : (a b : Design) → AreAlike a b → IsSound a → IsSound b
sound_too a b h s = record { faultless = sym (same_first a b h) ∙ s.faultless; order = subst HasOrder h.circuit s.order }

check_too : (a b : Design) (f : Fault) → AreAlike a b → HasCheckFault a f → HasCheckFault b f
check_too a b f h (inl e) = inl (sym (same_first a b h) ∙ e)
check_too a b f h (inr e) = inr (sym (same_first a b h) ∙ e.0, loop_too a b f h e.1)

-- ---- names, from what is alike

abbrev own : List Signal → ℕ → Name
own ss x = name_or_place (codes "s$") x (signal_path (slice_get ss x))

abbrev own_memory : List Memory → ℕ → Name
own_memory ms k = name_or_place (codes "m$") k (memory_path (slice_get ms k))

abbrev port_there : Circuit → ℕ → Bool
port_there c x = circuit.is_among x c.ios || circuit.is_some_reset x c.domains

abbrev wish : Circuit → List Signal → ℕ → Wish
wish c ss x = record { name = own ss x; only = has_no_path (signal_path (slice_get ss x)) || port_there c x }

abbrev memory_wish_from : List Memory → ℕ → Wish
memory_wish_from ms k = record { name = own_memory ms k; only = has_no_path (memory_path (slice_get ms k)) }

abbrev resets_from : List Signal → Option SigId → List Name
resets_from ss None = []
resets_from ss (Some r) = own ss r.0 ∷ []

abbrev reserved_from : List Signal → List Domain → List Name
reserved_from ss ds = flat_map (λ (x : Domain). clock_name x.name ∷ resets_from ss x.reset) ds

abbrev taken_from : List Signal → SigId → Fault
taken_from ss x = record { line = names.line_of (slice_get ss x.0); kind = NameTaken (own ss x.0) }

abbrev ports_from : List Signal → List Name → List SigId → Option Fault
ports_from ss taken [] = None
ports_from ss taken (x ∷ xs) = if is_among (own ss x.0) taken then Some (taken_from ss x) else ports_from ss (taken ++ own ss x.0 ∷ []) xs

port_fault_is : (d : Design) (taken : List Name) (xs : List SigId) → port_fault d taken xs ≡ ports_from d.signals taken xs
unfolding port_fault own_name
port_fault_is d taken [] = refl
port_fault_is d taken (x ∷ xs) = ap (λ (o : Option Fault). if is_among (own d.signals x.0) taken then Some (taken_from d.signals x) else o) (port_fault_is d (taken ++ own d.signals x.0 ∷ []) xs)

resets_is : (d : Design) (o : Option SigId) → names.reset_names d o ≡ resets_from d.signals o
unfolding own_name
resets_is d None = refl
resets_is d (Some r) = refl

reserved_each : (d : Design) (ds : List Domain) → flat_map (names.domain_names d) ds ≡ reserved_from d.signals ds
reserved_each d [] = refl
reserved_each d (x ∷ xs) =
    ap (λ (l : List Name). (clock_name x.name ∷ l) ++ flat_map (names.domain_names d) xs) (resets_is d x.reset)
    ∙ ap (λ (l : List Name). (clock_name x.name ∷ resets_from d.signals x.reset) ++ l) (reserved_each d xs)

reserved_is : (d : Design) → reserved d ≡ reserved_from d.signals d.domains
unfolding reserved
reserved_is d = reserved_each d d.domains

abbrev names_from : Circuit → List Signal → List SigId → List Domain → List Memory → Result (List Name) Fault
names_from c ss ios ds ms =
    unless (ports_from ss (reserved_from ss ds) ios)
    (all_given (reserved_from ss ds ++ map (λ (x : SigId). own ss x.0) ios) (map (wish c ss) (range_with_len 0 (length ss)) ++ map (memory_wish_from ms) (range_with_len 0 (length ms))))

names_is : (d : Design) → names_of d ≡ names_from (circuit_of d) d.signals d.ios d.domains d.memories
unfolding names_of own_name own_memory_name signal_wish memory_wish is_port
names_is d =
    ap (λ (r : List Name). unless (port_fault d r d.ios) (all_given (r ++ names.port_names d d.ios) (names.all_wishes d))) (reserved_is d)
    ∙ ap (λ (o : Option Fault). unless o (all_given (reserved_from d.signals d.domains ++ names.port_names d d.ios) (names.all_wishes d))) (port_fault_is d (reserved_from d.signals d.domains) d.ios)

pub same_names : (a b : Design) → AreAlike a b → names_of a ≡ names_of b
same_names a b h =
    names_is a ∙ ap (λ (c : Circuit). names_from c a.signals a.ios a.domains a.memories) h.circuit
    ∙ ap (λ (ss : List Signal). names_from (circuit_of b) ss a.ios a.domains a.memories) h.signals
    ∙ ap (λ (xs : List SigId). names_from (circuit_of b) b.signals xs a.domains a.memories) h.ios
    ∙ ap (λ (ds : List Domain). names_from (circuit_of b) b.signals b.ios ds a.memories) h.domains
    ∙ ap (λ (ms : List Memory). names_from (circuit_of b) b.signals b.ios b.domains ms) h.memories
    ∙ sym (names_is b)

-- ---- what ports show

same_alone : (a b : Design) → AreAlike a b → shows_alone a ≡ shows_alone b
unfolding shows_alone
same_alone a b h = ap (λ (ps : List Port). are_alone ps (drivings a)) h.ports ∙ ap (λ (all : List Driving). are_alone b.ports all) h.drivings

not_built_too : (a b : Design) (f : Fault) → AreAlike a b → IsNotBuilt a f → IsNotBuilt b f
not_built_too a b f h e = record {
  sound = sound_too a b h e.sound;
  names = e.names;
  named = sym (same_names a b h) ∙ e.named;
  shared = sym (same_alone a b h) ∙ e.shared;
  fault = e.fault;
}

-- ---- the law

pub fault_too : (a b : Design) (f : Fault) → AreAlike a b → HasFault a f → HasFault b f
fault_too a b f h (inl e) = inl (check_too a b f h e)
fault_too a b f h (inr (inl e)) = inr (inl (sound_too a b h e.0, sym (same_names a b h) ∙ e.1))
fault_too a b f h (inr (inr e)) = inr (inr (not_built_too a b f h e))
