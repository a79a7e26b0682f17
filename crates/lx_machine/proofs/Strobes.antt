-- The strobes of storages and statuses after an access.
use Rattle.std.proofs.Common.{◌≡◌, ℕ, Bool, Option, Some, ◌&&◌, not, refl, sym, ◌∙◌, ap, subst, inl, inr, ap₂}
use Rattle.lx_circuit.specs.Places.{Values, At}
use Rattle.lx_circuit.specs.Values.{flag}
use Rattle.lx_machine.specs.Map.{Shown, StorageParts, Kind, Storage, Status, Register}
use Rattle.lx_machine.specs.System.{System}
use Rattle.lx_machine.specs.Bus.{Bus, register, is_last, is_last_of, tells, strobe_next, edge}
use Rattle.lx_machine.specs.Gives.{Given, gives_kind}
use Rattle.lx_machine.specs.Views.{State}
use Rattle.lx_machine.specs.Access.{Each, Ask, Trace, after_edge, taking}
use Rattle.lx_machine.specs.Laws.{CsrRan}
use Rattle.lx_machine.proofs.Given.{at_given, register_row, Among}
use Rattle.lx_machine.proofs.Edges.{SettledAt}
use Rattle.lx_machine.proofs.Asked.{writes_idle, reads_idle, last_is}
use Rattle.lx_machine.proofs.Access.{known, taken_bus, each_map}
use Rattle.lx_machine.proofs.Accessors.{shown_rows}

-- the strobe at an edge
strobe_is : (y : System) (b : Bus) (v : Values) (k : ℕ) (r : Register) (kd : Kind) → register y k ≡ Some r → r.kind ≡ kd → (edge y b v).strobe k ≡ (tells y b v kd && is_last_of y v r)
strobe_is y b v k r kd e f = ap (λ (o : Option Register). strobe_next y b v o) e ∙ ap (λ (d : Kind). tells y b v d && is_last_of y v r) f

pub storage_strobe : (y : System) (q : Ask) (t : Trace) (new : State) → CsrRan y q t new
    → (k : ℕ) (r : Register) (s : StorageParts) (h : Shown) → register y k ≡ Some r → r.kind ≡ Storage s → s.shown ≡ Some h
    → Each (λ v. v (At h.re) ≡ flag (q.writes && is_last r.words q.addr)) (after_edge y t.steps t.values)
storage_strobe y q t new c k r s h e kd sh =
    let n = known y q t new c in
    let b = t.from.bus in
    let w = taking y t in
    let strobe : (taken_bus y t).strobe k ≡ (q.writes && is_last r.words q.addr) =
    strobe_is y b w k r (Storage s) e kd
    ∙ ap₂ (λ (c d : Bool). c && d) (writes_idle y q b w n.reaches n.taking_asks n.idle) (last_is y q w r n.reaches n.taking_asks) in
    each_map (SettledAt y (taken_bus y t)) (λ v. v (At h.re) ≡ flag (q.writes && is_last r.words q.addr)) (after_edge y t.steps t.values)
    (λ v p.
    let st : State = record { held = p.0; bus = taken_bus y t } in
    at_given y st p.1 v _ p.2 (register_row y _ k r c.sound e (shown_rows y k r s h _ kd sh (inr (inl refl)))) ∙ ap (λ z. flag z) strobe) n.after

status_row : (y : System) (k : ℕ) (r : Register) (status we : ℕ) (g : Given) → r.kind ≡ Status status we → Among g (gives_kind y k r (Status status we)) → Among g (gives_kind y k r r.kind)
status_row y k r status we g e m = subst (λ (d : Kind). Among g (gives_kind y k r d)) (sym e) m

pub status_strobe : (y : System) (q : Ask) (t : Trace) (new : State) → CsrRan y q t new
    → (k : ℕ) (r : Register) (status we : ℕ) → register y k ≡ Some r → r.kind ≡ Status status we
    → Each (λ v. v (At we) ≡ flag (not q.writes && is_last r.words q.addr)) (after_edge y t.steps t.values)
status_strobe y q t new c k r status we e kd =
    let n = known y q t new c in
    let b = t.from.bus in
    let w = taking y t in
    let strobe : (taken_bus y t).strobe k ≡ (not q.writes && is_last r.words q.addr) =
    strobe_is y b w k r (Status status we) e kd
    ∙ ap₂ (λ (c d : Bool). c && d) (reads_idle y q b w n.reaches n.taking_asks n.idle) (last_is y q w r n.reaches n.taking_asks) in
    each_map (SettledAt y (taken_bus y t)) (λ v. v (At we) ≡ flag (not q.writes && is_last r.words q.addr)) (after_edge y t.steps t.values)
    (λ v p.
    let st : State = record { held = p.0; bus = taken_bus y t } in
    at_given y st p.1 v _ p.2 (register_row y _ k r c.sound e (status_row y k r status we _ kd (inl refl))) ∙ ap (λ z. flag z) strobe) n.after
