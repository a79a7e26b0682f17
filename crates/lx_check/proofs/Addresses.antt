-- The addresses that signals read as dat_r of their ports.
use Rattle.std.proofs.Common.{◌≡◌, ℕ, zero, suc, ◌<◌, ◌≤◌, Bool, true, false, List, [], ◌∷◌, Option, Some, None, length, get_or, refl, sym, ap, subst, ◌∙◌, arith, cond}
use Rattle.std.specs.Prelude.{IfSome, if◌then◌else◌}
use Rattle.std.specs.List.{find}
use Rattle.std.specs.Option.{is_some}
use Rattle.lx_fhdl.specs.Keeping.{EachOf, IsPort, Keeps}
use Rattle.lx_fhdl.specs.declared.design.Design.{Design}
use Rattle.lx_fhdl.specs.declared.design.Port.{Port}
use Rattle.lx_graph.specs.Graph.{Nodes}
use Rattle.lx_reads.specs.Drivings.{drivings, first_driving}
use Rattle.lx_reads.specs.Net.{driving_of, signals_of}
use Rattle.lx_check.specs.Faults.{any_driving, is_reader, reader_of}
use Rattle.lx_check.specs.Graphs.{address_of, is_async, shown_address}
use Rattle.lx_check.specs.Marks.{AreMarks, AreReaders}
use Rattle.lx_check.specs.declared.marks.Mark.{Mark}
use Rattle.lx_check.proofs.Faulting.{mark_item, reader_item, some_map}
use Rattle.lx_check.proofs.Graphing.{HasPorts}
use Rattle.lx_check.proofs.Roles.{read_address}

-- marks and readers tell them
pub address_is : (d : Design) (x : ℕ) (marks : List Mark) (readers : List (Option Port)) (m : Mark) (o : Option Port) → AreMarks (length d.signals) (drivings d) marks → AreReaders (length d.signals) d.ports readers → x < length d.signals
    → shown_address (get_or marks x m) (get_or readers x o) ≡ read_address d x
address_is d x marks readers m o h r l =
    let mark = mark_item (length d.signals) x (drivings d) marks m h l in
    ap (λ (b : Bool). if b then None else address_of (get_or readers x o)) (some_map (get_or marks x m).first ∙ ap is_some mark.first)
    ∙ ap (λ (v : Option Port). if is_some (first_driving x any_driving (drivings d)) then None else address_of v) (reader_item (length d.signals) x d.ports readers o r l)

-- ---- they are signals

found_fits : (d : Design) (x : ℕ) (qs : List Port) → EachOf (IsPort d) qs → IfSome (address_of (find (is_reader x) qs)) (λ a. a < signals_of d)
found_fits d x [] h = tt
found_fits d x (q ∷ qs) h = by_answer (is_reader x q) (found_fits d x qs h.1)
  where
    by_mode : (b : Bool) → IfSome (if b then Some q.adr.0 else None) (λ a. a < signals_of d)
    by_mode true = h.0.adr.there
    by_mode false = tt

    by_answer : (b : Bool) → IfSome (address_of (find (is_reader x) qs)) (λ a. a < signals_of d) → IfSome (address_of (cond b (Some q) (find (is_reader x) qs))) (λ a. a < signals_of d)
    by_answer true more = by_mode (is_async q.mode)
    by_answer false more = more

pub address_fits : (d : Design) (x : ℕ) → Keeps d → IfSome (read_address d x) (λ a. a < signals_of d)
address_fits d x keeps = by_answer (is_some (first_driving x any_driving (drivings d)))
  where
    by_answer : (b : Bool) → IfSome (if b then None else address_of (reader_of d x)) (λ a. a < signals_of d)
    by_answer true = tt
    by_answer false = found_fits d x d.ports keeps.ports

pub shown_fits : (d : Design) (x : ℕ) (o : Option ℕ) → Keeps d → o ≡ read_address d x → IfSome o (λ a. a < signals_of d)
shown_fits d x o keeps e = let P : Option ℕ → Type 0 = λ v. IfSome v (λ a. a < signals_of d) in subst P (sym e) (address_fits d x keeps)

pub wider_fits : (d : Design) (o : Option ℕ) (k : ℕ) (g : Nodes) → HasPorts d k g → IfSome o (λ a. a < signals_of d) → IfSome o (λ a. a < length g.rows)
wider_fits d None k g p h = tt
wider_fits d (Some a) k g p h = omega (arith, h, p.has.long)
