-- All ports, one after the other.
use Rattle.std.proofs.Common.{◌≡◌, ℕ, zero, suc, ◌<◌, ◌≤◌, false, List, [], ◌∷◌, ◌++◌, Option, Some, None, length, length-append, append_assoc, refl, sym, ap, subst, ◌∙◌, arith, cond}
use Rattle.std.specs.Prelude.{is_some, slice_index_or}
use Rattle.std.proofs.lemmas.Bool.{or_from, or_parts}
use Rattle.lx_circuit.specs.Circuit.{Circuit, Input, no_port, port_at, role}
use Rattle.lx_circuit.specs.Memories.{Port}
use Rattle.lx_circuit.specs.Reads.{HasOrder}
use Rattle.lx_circuit.specs.Runs.{Extends}
use Rattle.lx_circuit.proofs.Orders.{some_reader}
use Rattle.lx_circuit.proofs.Runs.{extends_by_runs, extends_then}
use Rattle.lx_memory.specs.Lowers.{CanLowerPorts, LowersPorts}
use Rattle.lx_memory.specs.Ports.{changed, lowered, silent, with_ports, with_reader, with_readers, writers}
use Rattle.lx_memory.proofs.Dropped.{writer_step, writers_extend, writers_inputs, writers_inputs_back, writers_order}
use Rattle.lx_memory.proofs.Grown.{can_go_on, more_signals}
use Rattle.lx_memory.proofs.Ordered.{port_order}
use Rattle.lx_memory.proofs.Roles.{Shows, ported}
use Rattle.lx_memory.proofs.Simulated.{port_extends, port_inputs, port_inputs_back}

-- ---- lists of ports

index_at : (xs ys : List Port) (y d : Port) → slice_index_or (xs ++ y ∷ ys) (length xs) d ≡ y
index_at [] ys y d = refl
index_at (x ∷ xs) ys y d = index_at xs ys y d

changed_at : (xs ys : List Port) (y : Port) → changed silent (length xs) (xs ++ y ∷ ys) ≡ xs ++ silent y ∷ ys
changed_at [] ys y = refl
changed_at (x ∷ xs) ys y = ap (λ l. x ∷ l) (changed_at xs ys y)

some_append : (xs : List Port) (y : Port) → some_reader xs ≡ false → is_some y.reader ≡ false → some_reader (xs ++ y ∷ []) ≡ false
some_append [] y e h = or_from (is_some y.reader) false h refl
some_append (x ∷ xs) y e h =
    let p = or_parts (is_some x.reader) (some_reader xs) e in
    or_from (is_some x.reader) (some_reader (xs ++ y ∷ [])) p.0 (some_append xs y p.1 h)

writers_changed : (j : ℕ) (qs : List Port) → writers (changed silent j qs) ≡ writers qs
writers_changed j [] = refl
writers_changed zero (q ∷ qs) = writer_step (silent q) qs ∙ sym (writer_step q qs)
writers_changed (suc j) (q ∷ qs) =
    writer_step q (changed silent j qs) ∙ (ap (λ l. cond (is_some q.writer) (silent q ∷ l) l) (writers_changed j qs) ∙ sym (writer_step q qs))

-- ---- circuits that differ in their ports

reader_ports : (a : Circuit) (ps : List Port) (q : Port) (o : Option ℕ) → with_reader (with_ports a ps) q o ≡ with_ports (with_reader a q o) ps
reader_ports a ps q None = refl
reader_ports a ps q (Some r) = refl

same_ports : (a : Circuit) (ps qs rs : List Port) → with_ports (with_readers (with_ports a ps) qs) rs ≡ with_ports (with_readers a qs) rs
same_ports a ps [] rs = refl
same_ports a ps (q ∷ qs) rs = ap (λ z. with_ports (with_readers z qs) rs) (reader_ports a ps q q.reader) ∙ same_ports (with_reader a q q.reader) ps qs rs

-- ---- the walk

-- the circuit t with some ports, none of which shows anything, comes of the circuit c
record Walked (c t : Circuit) : Type 0 where
  ports : List Port
  none : some_reader ports ≡ false
  same : writers ports ≡ writers c.ports
  can : CanLowerPorts (with_ports t ports)
  longer : length c.signals ≤ length t.signals
  extends : Extends (length c.signals) c (with_ports t ports)
  inputs : (x : ℕ) → role c x ≡ Input → role (with_ports t ports) x ≡ Input
  inputs_back : (x : ℕ) → role (with_ports t ports) x ≡ Input → role c x ≡ Input
  order : HasOrder c → HasOrder (with_ports t ports)

extends_itself : (n : ℕ) (c : Circuit) → Extends n c c
extends_itself n c = extends_by_runs n c c (λ i f. f) (record { there = λ steps i f g v p. p; back = λ steps i f g v p. p })

walk : (c : Circuit) (qs done : List Port) → CanLowerPorts c → c.ports ≡ done ++ qs → some_reader done ≡ false → Walked c (with_readers c qs)
walk c [] done h e n = record {
  ports = c.ports;
  none = ap some_reader (e ∙ nil done) ∙ n;
  same = refl;
  can = h;
  longer = omega arith;
  extends = extends_itself (length c.signals) c;
  inputs = λ x i. i;
  inputs_back = λ x i. i;
  order = λ o. o;
}
  where
    nil : (xs : List Port) → xs ++ [] ≡ xs
    nil [] = refl
    nil (x ∷ xs) = ap (λ l. x ∷ l) (nil xs)
walk c (q ∷ qs) done h e n = by_reader q.reader refl (λ d more. walk d qs more)
  where
    by_reader : (o : Option ℕ) → q.reader ≡ o → ((d : Circuit) (more : List Port) → CanLowerPorts d → d.ports ≡ more ++ qs → some_reader more ≡ false → Walked d (with_readers d qs)) → Walked c (with_readers (with_reader c q o) qs)
    by_reader None is on = on c (done ++ q ∷ []) h (e ∙ sym (append_assoc done (q ∷ []) qs)) (some_append done q n (ap is_some is))
    by_reader (Some r) is on =
        let j = length done in
        let d = ported c j q r in
        let at : port_at c j ≡ q = ap (λ ps. slice_index_or ps j no_port) e ∙ index_at done qs q no_port in
        let there : j < length c.ports = (let a = ap length e in let b = length-append done (q ∷ qs) in omega arith) in
        let shows : Shows c j q r = record { can = h; there = there; is = at; reader = is } in
        let ports : d.ports ≡ (done ++ silent q ∷ []) ++ qs = ap (changed silent j) e ∙ (changed_at done qs q ∙ sym (append_assoc done (silent q ∷ []) qs)) in
        let rest = on d (done ++ silent q ∷ []) (can_go_on c j q r shows) ports (some_append done (silent q) n refl) in
        let same = same_ports (with_reader c q (Some r)) (changed silent j c.ports) qs rest.ports in
        let more = more_signals c j q r in
        let wide : length c.signals ≤ length d.signals = omega arith in
        record {
          ports = rest.ports;
          none = rest.none;
          same = rest.same ∙ writers_changed j c.ports;
          can = subst CanLowerPorts same rest.can;
          longer = (let a = rest.longer in let b = ap (λ (z : Circuit). length z.signals) same in omega arith);
          extends = subst (λ z. Extends (length c.signals) c z) same (extends_then (length c.signals) (length d.signals) c d (with_ports (with_readers d qs) rest.ports) wide (port_extends c j q r shows) rest.extends);
          inputs = λ x i. subst (λ z. role z x ≡ Input) same (rest.inputs x (port_inputs c j q r x shows i));
          inputs_back = λ x i. port_inputs_back c j q r x shows (rest.inputs_back x (subst (λ z. role z x ≡ Input) (sym same) i));
          order = λ o. subst HasOrder same (rest.order (port_order c j q r shows o));
        }

-- the law
pub lowers : (c : Circuit) → CanLowerPorts c → LowersPorts c (lowered c)
unfolding lowered
lowers c h =
    let w = walk c c.ports [] h refl refl in
    let t = with_readers c c.ports in
    let e = with_ports t w.ports in
    let same : with_ports t (writers w.ports) ≡ with_ports t (writers c.ports) = ap (with_ports t) w.same in
    record {
      runs = subst (λ z. Extends (length c.signals) c z) same (extends_then (length c.signals) (length e.signals) c e (with_ports t (writers w.ports)) w.longer w.extends (writers_extend (length e.signals) e w.can.signals w.none));
      inputs = λ x i. subst (λ z. role z x ≡ Input) same (writers_inputs e x w.none (w.inputs x i));
      inputs_back = λ x i. w.inputs_back x (writers_inputs_back e x w.none (subst (λ z. role z x ≡ Input) (sym same) i));
      order = λ o. subst HasOrder same (writers_order e (w.order o));
    }
