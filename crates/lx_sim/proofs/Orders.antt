-- An order of a design's reads, where no port shows anything.
use Rattle.std.proofs.Common.{◌≡◌, ℕ, zero, suc, Bool, true, false, ◌||◌, ◌+◌, ◌<◌, ◌≤◌, List, [], ◌∷◌, ◌++◌, length, take, refl, sym, ◌∙◌, ap, subst, arith, inl, inr, append_assoc}
use Rattle.std.specs.Prelude.{Some, slice_get}
use Rattle.std.specs.List.{Contains}
use Rattle.std.proofs.lemmas.Bool.{cases_order, or_left}
use Rattle.std.proofs.lemmas.List.{append-nil}
use Rattle.std.proofs.lemmas.Option.{get_or_from_slice_get, slice_get_read, slice_get_within}
use Rattle.lx_circuit.specs.Places.{At}
use Rattle.lx_circuit.specs.Reads.{HasOrder, reads_block, role_reads}
use Rattle.lx_circuit.specs.Circuit as circuit
use Rattle.lx_circuit.specs.Circuit.{Circuit, Role, role}
use Rattle.lx_fhdl.specs.Designs.{block, circuit_of}
use Rattle.lx_fhdl.specs.Keeping.{EachOf}
use Rattle.lx_fhdl.specs.declared.exprs.SigId.{SigId}
use Rattle.lx_fhdl.specs.declared.design.Design.{Design}
use Rattle.lx_graph.specs.Cycle.{IsTold, IsWayBack, Walk}
use Rattle.lx_graph.specs.Graph.{Nodes}
use Rattle.lx_graph.specs.Order.{IsOrder}
use Rattle.lx_graph.specs.Through as through
use Rattle.lx_check.specs.Graphs.{IsReadGraph, all_reads, comb_reads}
use Rattle.lx_check.specs.Loops.{AreInTurn, IsReadOrder, Links, MayFollow, numbers_of}
use Rattle.lx_check.specs.Orders.{signals_among}
use Rattle.lx_check.proofs.Ordering.{order_is}
use Rattle.lx_check.proofs.Telling.{told_is}
use Rattle.lx_emission.specs.Emits.{ShowsNothing}
use Rattle.lx_emission.proofs.Roles.{no_reads}
use Rattle.lx_reads.specs.Net.{signals_of}
use Rattle.lx_sim.specs.Orders.{IsOrderFor, StandsBefore}

-- ---- what is read

role_reads_none : (c : Circuit) (y : ℕ) (r : Role) → ((j : ℕ) → r ≡ circuit.Read j → ⊥) → role_reads c (At y) r ≡ false
role_reads_none c y circuit.Input none = refl
role_reads_none c y circuit.Comb none = refl
role_reads_none c y (circuit.Sync k) none = refl
role_reads_none c y (circuit.Read j) none = absurd (none j refl)
role_reads_none c y circuit.Undriven none = refl

or_false : (a b : Bool) → b ≡ false → a || b ≡ a
or_false true b e = refl
or_false false b e = e

comb_of : (d : Design) → (circuit_of d).comb ≡ block d d.comb
unfolding circuit_of
comb_of d = refl

reads_same : (d : Design) → EachOf ShowsNothing (circuit_of d).ports → (x y : ℕ) → all_reads d x y ≡ comb_reads d x y
reads_same d silent x y =
    or_false (reads_block x (At y) (circuit_of d).comb) (role_reads (circuit_of d) (At y) (role (circuit_of d) x)) (role_reads_none (circuit_of d) y (role (circuit_of d) x) (no_reads (circuit_of d) silent x))
    ∙ ap (reads_block x (At y)) (comb_of d)

links : (d : Design) (x y : ℕ) → reads_block x (At y) (block d d.comb) ≡ true → Links d x y
links d x y r = or_left (reads_block x (At y) (circuit_of d).comb) (role_reads (circuit_of d) (At y) (role (circuit_of d) x)) (ap (reads_block x (At y)) (comb_of d) ∙ r)

all_graph : (d : Design) (g : Nodes) → EachOf ShowsNothing (circuit_of d).ports → IsReadGraph d (comb_reads d) g → IsReadGraph d (all_reads d) g
all_graph d g silent r = record {
  rows = r.rows;
  lower = r.lower;
  has = record { plain = r.has.plain; long = r.has.long; inner = r.has.inner; reads = λ x y l. r.has.reads x y l ∙ sym (reads_same d silent x y) };
  within = λ x y e. r.within x y (sym (reads_same d silent x y) ∙ e);
}

-- ---- no cycle

walk_falls : (d : Design) (o : HasOrder (circuit_of d)) (x y n : ℕ) → Walk (Links d) x y n → o.rank (At y) + n ≤ o.rank (At x)
walk_falls d o x y zero w = let P : ℕ → Type 0 = λ z. o.rank (At z) + 0 ≤ o.rank (At x) in subst P w (omega arith)
walk_falls d o x y (suc n) (z, r, w) = let a = o.after x (At z) r in let b = walk_falls d o z y n w in omega arith

way_walk : (d : Design) (t a : ℕ) (others : List ℕ) → IsWayBack (Links d) t a others → Walk (Links d) a t (suc (length others))
way_walk d t a [] r = (t, r, refl)
way_walk d t a (c ∷ others) (l, w) = (c, l.link, way_walk d t c others w)

none_told : (d : Design) → HasOrder (circuit_of d) → (cycle : List ℕ) → IsTold (Links d) cycle → ⊥
none_told d o [] t = t
none_told d o (x ∷ others) t = let f = walk_falls d o x x (suc (length others)) (way_walk d x x others t.cycle) in absurd (omega arith)

pub no_loop : (d : Design) (g : Nodes) (cycle : List ℕ) → HasOrder (circuit_of d) → EachOf ShowsNothing (circuit_of d).ports → IsReadGraph d (comb_reads d) g → IsTold (through.Links g) cycle → ⊥
no_loop d g cycle o silent r t = none_told d o cycle (told_is d g cycle (all_graph d g silent r) t)

-- ---- orders

-- each of an order's signals may follow those before it
turn_at : (d : Design) (before xs : List ℕ) (i x : ℕ) → AreInTurn d before xs → slice_get xs i ≡ Some x → MayFollow d (before ++ take i xs) x
turn_at d before [] i x h e = absurd cc
turn_at d before (y ∷ ys) zero x h e =
    let same : y ≡ x = cc in
    subst (λ (b : List ℕ). MayFollow d b x) (sym (append-nil before)) (subst (λ (z : ℕ). MayFollow d before z) same h.0)
turn_at d before (y ∷ ys) (suc i) x h e = subst (λ (b : List ℕ). MayFollow d b x) (append_assoc before (y ∷ []) (take i ys)) (turn_at d (before ++ y ∷ []) ys i x h.1 e)

take_get : (i j x : ℕ) (xs : List ℕ) → slice_get (take i xs) j ≡ Some x → (j < i) × (slice_get xs j ≡ Some x)
take_get zero j x [] e = absurd cc
take_get zero j x (y ∷ ys) e = absurd cc
take_get (suc i) j x [] e = absurd cc
take_get (suc i) zero x (y ∷ ys) e = (omega arith, e)
take_get (suc i) (suc j) x (y ∷ ys) e = let more = take_get i j x ys e in (omega (arith, more.0), more.1)

get_take : (i j x : ℕ) (xs : List ℕ) → j < i → slice_get xs j ≡ Some x → slice_get (take i xs) j ≡ Some x
get_take zero j x xs l e = absurd (omega arith)
get_take (suc i) j x [] l e = absurd cc
get_take (suc i) zero x (y ∷ ys) l e = e
get_take (suc i) (suc j) x (y ∷ ys) l e = get_take i j x ys (omega arith) e

stands_before : (i x : ℕ) (xs : List ℕ) → Contains (take i xs) x → StandsBefore xs i x
stands_before i x xs h = let t = take_get i h.0 x xs (slice_get_read (take i xs) (length (take i xs)) h.0 x refl h.1 (sym h.2)) in (h.0, t.0, t.1)

contained : (i j x : ℕ) (xs : List ℕ) → j < i → slice_get xs j ≡ Some x → Contains (take i xs) x
contained i j x xs l e = let g = get_take i j x xs l e in (j, slice_get_within (take i xs) j x g, get_or_from_slice_get (take i xs) j x x g)

order_for : (d : Design) (order : List SigId) → IsReadOrder d order → IsOrderFor d (numbers_of order)
order_for d order is =
    let xs = numbers_of order in
    record {
      below = λ i x f. (turn_at d [] xs i x is.turns f).there;
      all = λ x l. let c = is.all x l in (c.0, slice_get_read xs (length xs) c.0 x refl c.1 (sym c.2));
      after = λ i x y f r. stands_before i y xs ((turn_at d [] xs i x is.turns f).reads y (links d x y r));
      once = λ i j x f g.
          elim (cases_order i j) [
            | inl q ↦ q
            | inr q ↦
                elim q [
                  | inl l ↦ absurd ((turn_at d [] xs j x is.turns g).once (contained j i x xs l f))
                  | inr l ↦ absurd ((turn_at d [] xs i x is.turns f).once (contained i j x xs l g))
                ]
          ];
    }

pub order_found : (d : Design) (g : Nodes) (nodes : List ℕ) (order : List SigId) (numbers : List ℕ) → EachOf ShowsNothing (circuit_of d).ports → IsReadGraph d (comb_reads d) g → IsOrder g nodes → numbers_of order ≡ signals_among (signals_of d) nodes → numbers ≡ numbers_of order → IsOrderFor d numbers
order_found d g nodes order numbers silent r o e same = subst (IsOrderFor d) (sym same) (order_for d order (order_is d g (all_graph d g silent r) nodes order o e))
