-- What the check answers.
use Rattle.std.proofs.Common.{◌≡◌, ℕ, zero, suc, ◌<◌, ◌⊎◌, ◌++◌, Bool, true, false, List, [], ◌∷◌, Option, Some, None, length, get_or, map, refl, sym, ap, subst, ◌∙◌, arith, inl, inr, nat_lt}
use Rattle.std.specs.Prelude.{option_map, slice_get, slice_index_or}
use Rattle.std.specs.Option.{option_or}
use Rattle.std.proofs.lemmas.Bool.{and_from, and_parts, lt-ltb, ltb-true, true≢false}
use Rattle.lx_fhdl.specs.declared.design.Design.{Design}
use Rattle.lx_fhdl.specs.declared.exprs.SigId.{SigId}
use Rattle.lx_graph.specs.Cycle.{IsTold}
use Rattle.lx_graph.specs.Graph.{Nodes}
use Rattle.lx_graph.specs.Order.{IsOrder}
use Rattle.lx_graph.specs.Through as through
use Rattle.lx_reads.specs.Drivings.{Driving, domains_drivings, drivings}
use Rattle.lx_reads.specs.Net.{IsNet, driving_of, net_drivings, signals_of}
use Rattle.lx_reads.specs.Whole.{Drives, IsCombNet}
use Rattle.lx_reads.specs.declared.net.Driven.{Driven}
use Rattle.lx_reads.specs.declared.net.Net.{Net}
use Rattle.lx_check.specs.Checked.{HasCheckFault, IsSound}
use Rattle.lx_check.specs.Faults.{fault, first_fault, first_of, memory_clocks, signal_name, storage_driven, two_drivers}
use Rattle.lx_check.specs.Graphs.{IsReadGraph, all_reads}
use Rattle.lx_check.specs.Loops.{IsReadOrder, line_of, loop_fault, numbers_of}
use Rattle.lx_check.specs.Marks.{AreMarks, are_below, no_mark}
use Rattle.lx_check.specs.Orders.{are_under, is_under, line_among, line_marked, signals_among}
use Rattle.lx_check.specs.declared.marks.Mark.{Mark}
use Rattle.lx_check.proofs.Ordering.{has_order, order_is}
use Rattle.lx_check.proofs.Telling.{told_is, told_under}
use Rattle.lx_text.specs.declared.faults.Fault.{Fault}
use Rattle.lx_text.specs.declared.faults.Kind.TheVariants.{CombLoop}

-- ---- what is driven

pub all_driven : (d : Design) (a b : Net) → IsCombNet d a → Drives d a b (domains_drivings d 0 d.domains) → net_drivings b ≡ drivings d
unfolding drivings
all_driven d a b c p = p.drivings ∙ ap (λ (v : List Driving). v ++ domains_drivings d 0 d.domains) c.drivings

all_below : (n : ℕ) (driven : List Driven) → ((k : ℕ) (a : Driven) → slice_get driven k ≡ Some a → a.signal < n) → are_below n driven ≡ true
all_below n [] h = refl
all_below n (a ∷ as_) h = and_from (nat_lt a.signal n) (are_below n as_) (lt-ltb a.signal n (h 0 a refl)) (all_below n as_ (λ k. h (suc k)))

pub driven_below : (d : Design) (net : Net) → IsNet d net → are_below (length d.signals) net.driven ≡ true
driven_below d net n = all_below (length d.signals) net.driven n.there

-- ---- cycles

line_map : (o : Option Driven) → line_marked o ≡ line_of (option_map driving_of o)
line_map None = refl
line_map (Some a) = refl

pub loop_is : (d : Design) (marks : List Mark) (cycle : List ℕ) → AreMarks (length d.signals) (drivings d) marks → are_under (length d.signals) cycle ≡ true → fault (line_among marks cycle) (CombLoop (map (signal_name d) cycle)) ≡ loop_fault d cycle
loop_is d marks [] h l = refl
loop_is d marks (x ∷ others) h l =
    let lx = ltb-true x (length d.signals) (and_parts (is_under (length d.signals) x) (are_under (length d.signals) others) l).0 in
    ap (λ (v : ℕ). fault v (CombLoop (map (signal_name d) (x ∷ others)))) (line_map (slice_index_or marks x no_mark).first ∙ ap line_of (h.each x lx).first)

pub under_at : (n : ℕ) (xs : List ℕ) (k z : ℕ) → are_under n xs ≡ true → k < length xs → get_or xs k z < n
under_at n [] k z h l = absurd (omega arith)
under_at n (x ∷ xs) zero z h l = ltb-true x n (and_parts (is_under n x) (are_under n xs) h).0
under_at n (x ∷ xs) (suc k) z h l = under_at n xs k z (and_parts (is_under n x) (are_under n xs) h).1 (omega arith)

-- ---- answers

pub accepted : (d : Design) (g : Nodes) (nodes : List ℕ) (order : List SigId) → first_fault d ≡ None → IsReadGraph d (all_reads d) g → IsOrder g nodes → numbers_of order ≡ signals_among (signals_of d) nodes → IsSound d × IsReadOrder d order
accepted d g nodes order f r o e =
    let is = order_is d g r nodes order o e in
    (record { faultless = f; order = has_order d g r order is }, is)

pub refused : (d : Design) (g : Nodes) (cycle : List ℕ) (f : Fault) → first_fault d ≡ None → IsReadGraph d (all_reads d) g → IsTold (through.Links g) cycle → f ≡ loop_fault d cycle → HasCheckFault d f
refused d g cycle f none r t e = inr (none, record { cycle = cycle; told = told_is d g cycle r t; is = e })

-- ---- the first fault of three kinds

or_or : (o p q : Option Fault) → option_or (option_or o p) q ≡ option_or o (option_or p q)
or_or None p q = refl
or_or (Some f) p q = refl

pub faults_are : (d : Design) (o p q : Option Fault) → o ≡ first_of (storage_driven d) (length d.signals) → p ≡ option_or o (first_of (two_drivers d) (length d.signals)) → q ≡ option_or p (first_of (memory_clocks d) (length d.memories)) → q ≡ first_fault d
unfolding first_fault
faults_are d o p q e f g =
    let clocks = first_of (memory_clocks d) (length d.memories) in
    let drivers = first_of (two_drivers d) (length d.signals) in
    g ∙ ap (λ (v : Option Fault). option_or v clocks) f ∙ or_or o drivers clocks ∙ ap (λ (v : Option Fault). option_or v (option_or drivers clocks)) e
