-- A description that keeps what descriptions keep can be flattened.
use Rattle.std.proofs.Common.{◌≡◌, ℕ, true, false, ◌||◌, not, List, [], ◌∷◌, ◌++◌, Option, Some, None, refl, sym, subst, ◌∙◌, nat_eq, flat_map, inl, inr}
use Rattle.std.specs.Prelude.{IfSome, slice_get}
use Rattle.std.specs.List.{list_any}
use Rattle.std.proofs.lemmas.Bool.{and_parts, eqb-true, not-true, or_cases, or_left, or_parts, or_right}
use Rattle.lx_circuit.specs.Circuit as circuit
use Rattle.lx_circuit.specs.Circuit.{is_among}
use Rattle.lx_circuit.specs.Statements.{drives_block}
use Rattle.lx_circuit.proofs.Cases.{by_test}
use Rattle.lx_fhdl.specs.Designs.{circuit_of}
use Rattle.lx_fhdl.specs.Keeping.{EachOf, HasResetPath, IsDomain, IsReset}
use Rattle.lx_fhdl.specs.declared.design.Design.{Design}
use Rattle.lx_fhdl.specs.declared.design.Domain.{Domain}
use Rattle.lx_fhdl.specs.declared.design.Signal.{Signal}
use Rattle.lx_fhdl.specs.declared.exprs.SigId.{SigId}
use Rattle.lx_description.specs.Keeping.{KeepsDescription, are_apart, fsms_drive, is_generated}
use Rattle.lx_description.specs.Wires.{bus_signals, declared, fsm_signals, part_signals, placed, port_signals, resets, slave_signals, some_number}
use Rattle.lx_description.specs.declared.description.Description.{Description}
use Rattle.lx_description.specs.declared.modules.ModuleDecl.{ModuleDecl}
use Rattle.lx_description.specs.declared.slaves.SlaveDecl.{SlaveDecl}
use Rattle.lx_fsm.specs.Flattened.{CanFlatten}

-- ---- a reset is a signal

some_path : (y : Domain) (o : Option Signal) → HasResetPath y o → (s : Signal) × (o ≡ Some s)
some_path y None h = absurd h
some_path y (Some s) h = (s, refl)

own_reset : (x : Design) (y : Domain) (o : Option SigId) (r : ℕ) (zs : List ℕ) → IfSome o (IsReset x y) → (is_among r zs ≡ true → (s : Signal) × (slice_get x.signals r ≡ Some s)) → is_among r (some_number o ++ zs) ≡ true → (s : Signal) × (slice_get x.signals r ≡ Some s)
own_reset x y None r zs h rest e = rest e
own_reset x y (Some q) r zs h rest e =
    elim (or_cases (nat_eq q.0 r) (is_among r zs) e) [
      | inl p ↦ subst (λ (k : ℕ). (s : Signal) × (slice_get x.signals k ≡ Some s)) (eqb-true q.0 r p) (some_path y (slice_get x.signals q.0) h.path)
      | inr p ↦ rest p
    ]

reset_there : (x : Design) (ds : List Domain) → EachOf (IsDomain x) ds → (r : ℕ) → is_among r (resets ds) ≡ true → (s : Signal) × (slice_get x.signals r ≡ Some s)
reset_there x [] h r e = absurd (cc)
reset_there x (y ∷ ys) h r e = own_reset x y y.reset r (resets ys) h.0.reset (λ p. reset_there x ys h.1 r p) e

-- ---- no signal stands twice

among_later : (r : ℕ) (xs ys : List ℕ) → is_among r ys ≡ true → is_among r (xs ++ ys) ≡ true
among_later r [] ys h = h
among_later r (x ∷ xs) ys h = or_right (nat_eq x r) (is_among r (xs ++ ys)) (among_later r xs ys h)

not_both : (r : ℕ) (xs ys : List ℕ) → are_apart (xs ++ ys) ≡ true → is_among r xs ≡ true → is_among r ys ≡ true → ⊥
not_both r [] ys h e f = absurd (cc)
not_both r (x ∷ xs) ys h e f =
    let p = and_parts (not (is_among x (xs ++ ys))) (are_apart (xs ++ ys)) h in
    elim (or_cases (nat_eq x r) (is_among r xs) e) [
      | inl q ↦
          let none : is_among x (xs ++ ys) ≡ false = not-true (is_among x (xs ++ ys)) p.0 in
          let same : x ≡ r = eqb-true x r q in
          let there : is_among x (xs ++ ys) ≡ true = subst (λ (k : ℕ). is_among k (xs ++ ys) ≡ true) (sym same) (among_later r xs ys f) in
          let no_way : false ≡ true = sym none ∙ there in
          absurd (cc)
      | inr q ↦ not_both r xs ys p.1 q f
    ]

apart_from : (d : Description) → are_apart (placed d) ≡ true → (r : ℕ) → is_among r (resets d.design.domains) ≡ true → is_among r (flat_map fsm_signals d.fsms) ≡ false
apart_from d h r e =
    let own = flat_map (λ (m : ModuleDecl). flat_map part_signals m.parts) d.modules in
    let slaves = flat_map (λ (s : SlaveDecl). slave_signals s.kind) d.slaves in
    let fsms = flat_map fsm_signals d.fsms in
    let ports = flat_map port_signals d.design.ports in
    let bus = bus_signals d.soc in
    let last = resets d.design.domains in
    let reset_last : is_among r (ports ++ (bus ++ last)) ≡ true = among_later r ports (bus ++ last) (among_later r bus last e) in
    by_test (is_among r fsms)
    (λ t. absurd (not_both r (declared d) (ports ++ (bus ++ last)) h (among_later r own (slaves ++ fsms) (among_later r slaves fsms t)) reset_last))
    (λ t. t)

driven_by : (d : Description) → KeepsDescription d → (r : ℕ) → is_among r (resets d.design.domains) ≡ true → fsms_drive d r ≡ false
driven_by d h r e =
    let c = circuit_of d.design in
    let there = reset_there d.design d.design.domains h.design.domains r e in
    let none = h.undriven r there.0 there.1
    (or_right (is_generated there.0) (is_among r (resets d.design.domains) || is_among r (bus_signals d.soc)) (or_left (is_among r (resets d.design.domains)) (is_among r (bus_signals d.soc)) e)) in
    let outer = or_parts (drives_block r c.comb) (list_any (λ (y : circuit.Domain). drives_block r y.stmts) c.domains || fsms_drive d r) none in
    (or_parts (list_any (λ (y : circuit.Domain). drives_block r y.stmts) c.domains) (fsms_drive d r) outer.1).1

pub can_flatten : (d : Description) → KeepsDescription d → CanFlatten d
can_flatten d h = record {
  design = h.design;
  fsms = h.fsms;
  driven = driven_by d h;
  apart = apart_from d (search h.apart);
}
