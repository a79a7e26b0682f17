-- The signals of an order of nodes, and their ranks.
use Rattle.std.proofs.Common.{◌≡◌, ℕ, zero, suc, ◌+◌, ◌<◌, ◌≤◌, ◌⊎◌, Bool, true, false, List, [], ◌∷◌, ◌++◌, length, map, refl, sym, ap, subst, ◌∙◌, arith, nat_eq, nat_lt, inl, inr, append_assoc, cond, eq-eqb}
use Rattle.std.specs.Prelude.{if◌then◌else◌}
use Rattle.std.specs.List.{Contains, filter}
use Rattle.std.proofs.lemmas.Bool.{cases_eq, eqb-true, lt-ltb, ltb-true, true≢false}
use Rattle.std.proofs.lemmas.List.{append-nil}
use Rattle.std.proofs.lemmas.List.Elements.{Contains-append_left, Contains-push, Contains-push_cases, filter-append}
use Rattle.lx_circuit.specs.Places.{Place, At, Word, Kept}
use Rattle.lx_circuit.specs.Reads.{HasOrder, reads_in}
use Rattle.lx_fhdl.specs.Designs.{circuit_of}
use Rattle.lx_fhdl.specs.declared.design.Design.{Design}
use Rattle.lx_fhdl.specs.declared.exprs.SigId.{SigId}
use Rattle.lx_graph.specs.Graph.{Nodes, Reads}
use Rattle.lx_graph.specs.Order as order
use Rattle.lx_graph.specs.Through.{Within}
use Rattle.lx_graph.proofs.Rows.{contains_cons, none_in}
use Rattle.lx_reads.specs.Net.{signals_of}
use Rattle.lx_check.specs.Graphs.{IsReadGraph, all_reads}
use Rattle.lx_check.specs.Loops.{AreInTurn, IsReadOrder, Links, MayFollow, numbers_of}
use Rattle.lx_check.specs.Orders.{is_under, signals_among}
use Rattle.lx_check.proofs.Reaching.{are_links, contains_head, contains_tail}

-- ---- signals among nodes

keep : (n : ℕ) (xs : List ℕ) (b : ℕ) → b < n → Contains xs b → Contains (signals_among n xs) b
keep n [] b l c = c
keep n (x ∷ xs) b l c = by_answer (is_under n x) refl (λ h. keep n xs b l h)
  where
    by_answer : (v : Bool) → is_under n x ≡ v → (Contains xs b → Contains (signals_among n xs) b) → Contains (cond v (x ∷ signals_among n xs) (signals_among n xs)) b
    by_answer true e rest =
        elim (contains_cons x xs b c) [
          | inl same ↦ subst (λ (v : ℕ). Contains (x ∷ signals_among n xs) v) same (contains_head x (signals_among n xs))
          | inr more ↦ contains_tail x (signals_among n xs) b (rest more)
        ]
    by_answer false e rest =
        elim (contains_cons x xs b c) [
          | inl same ↦ absurd (true≢false (sym (lt-ltb b n l) ∙ ap (is_under n) (sym same) ∙ e))
          | inr more ↦ rest more
        ]

kept : (n : ℕ) (xs : List ℕ) (b : ℕ) → Contains (signals_among n xs) b → Contains xs b
kept n [] b c = c
kept n (x ∷ xs) b c = by_answer (is_under n x) (λ h. kept n xs b h) c
  where
    by_answer : (v : Bool) → (Contains (signals_among n xs) b → Contains xs b) → Contains (cond v (x ∷ signals_among n xs) (signals_among n xs)) b → Contains (x ∷ xs) b
    by_answer true rest h =
        elim (contains_cons x (signals_among n xs) b h) [
          | inl same ↦ subst (λ (v : ℕ). Contains (x ∷ xs) v) same (contains_head x xs)
          | inr more ↦ contains_tail x xs b (rest more)
        ]
    by_answer false rest h = contains_tail x xs b (rest h)

-- ---- turns

abbrev Closed : Nodes → List ℕ → Type 0
Closed g before = (a b : ℕ) → Contains before a → Reads g a b → Contains before b

within_closed : (g : Nodes) (before : List ℕ) → Closed g before → (between a b : ℕ) → Contains before a → Within g a b between → Contains before b
within_closed g before closed zero a b c w = closed a b c w
within_closed g before closed (suc between) a b c (e, le, reads, w) = within_closed g before closed between e b (closed a e c reads) w

through_closed : (g : Nodes) (before : List ℕ) (between a b : ℕ) → Closed g before → order.MayFollow g before a → Within g a b between → Contains before b
through_closed g before zero a b closed may w = may.reads b w
through_closed g before (suc between) a b closed may (e, le, reads, w) = within_closed g before closed between e b (may.reads e reads) w

closed_more : (g : Nodes) (before : List ℕ) (a : ℕ) → Closed g before → order.MayFollow g before a → Closed g (before ++ a ∷ [])
closed_more g before a closed may b c here reads =
    elim (Contains-push_cases before a b here) [
      | inl old ↦ Contains-append_left before (a ∷ []) c (closed b c old reads)
      | inr e ↦ Contains-append_left before (a ∷ []) c (may.reads c (subst (λ (v : ℕ). Reads g v c) (sym e) reads))
    ]

turns : (d : Design) (g : Nodes) (r : IsReadGraph d (all_reads d) g) (before nodes : List ℕ) → Closed g before → order.AreInTurn g before nodes → AreInTurn d (signals_among (signals_of d) before) (signals_among (signals_of d) nodes)
turns d g r before [] closed t = tt
turns d g r before (x ∷ others) closed (may, t) = by_answer (is_under n x) refl (turns d g r (before ++ x ∷ []) others (closed_more g before x closed may) t)
  where
    n : ℕ
    n = signals_of d

    by_answer : (v : Bool) → is_under n x ≡ v → AreInTurn d (signals_among n (before ++ x ∷ [])) (signals_among n others) → AreInTurn d (signals_among n before) (cond v (x ∷ signals_among n others) (signals_among n others))
    by_answer true e rest = (
      record {
        there = ltb-true x n e;
        once = λ c. may.once (kept n before x c);
        reads = λ y l. let k = are_links d g r x y l in keep n before y (subst (λ (v : ℕ). y < v) r.has.plain k.1) (through_closed g before k.2.0 x y closed may k.2.1);
      },
      subst (λ (v : List ℕ). AreInTurn d v (signals_among n others)) (filter-append (is_under n) before (x ∷ []) ∙ ap (λ (v : Bool). signals_among n before ++ cond v (x ∷ []) []) e) rest,
    )
    by_answer false e rest =
        subst (λ (v : List ℕ). AreInTurn d v (signals_among n others)) (filter-append (is_under n) before (x ∷ []) ∙ ap (λ (v : Bool). signals_among n before ++ cond v (x ∷ []) []) e ∙ append-nil (signals_among n before)) rest

pub order_is : (d : Design) (g : Nodes) (r : IsReadGraph d (all_reads d) g) (nodes : List ℕ) (found : List SigId) → order.IsOrder g nodes → numbers_of found ≡ signals_among (signals_of d) nodes → IsReadOrder d found
order_is d g r nodes found o e = record {
  all = λ x l. subst (λ (v : List ℕ). Contains v x) (sym e) (keep (signals_of d) nodes x l (o.all x (omega (arith, l, r.has.long))));
  turns = subst (AreInTurn d []) (sym e) (turns d g r [] nodes (λ a b c reads. absurd (none_in a c)) o.turns);
}

-- ---- ranks

-- where a number stands first
abbrev place_in : ℕ → List ℕ → ℕ
place_in x [] = 0
place_in x (z ∷ zs) = if nat_eq z x then 0 else suc (place_in x zs)

place_front : (y : ℕ) (before xs : List ℕ) → Contains before y → place_in y (before ++ xs) < length before
place_front y [] xs c = absurd (none_in y c)
place_front y (z ∷ zs) xs c = by_answer (nat_eq z y) refl (λ h. place_front y zs xs h)
  where
    by_answer : (v : Bool) → nat_eq z y ≡ v → (Contains zs y → place_in y (zs ++ xs) < length zs) → (if v then 0 else suc (place_in y (zs ++ xs))) < suc (length zs)
    by_answer true e rest = omega arith
    by_answer false e rest =
        elim (contains_cons z zs y c) [
          | inl same ↦ absurd (true≢false (sym (eq-eqb z y same) ∙ e))
          | inr more ↦ let l = rest more in omega (arith, l)
        ]

place_after : (x : ℕ) (before xs : List ℕ) → (Contains before x → ⊥) → length before ≤ place_in x (before ++ xs)
place_after x [] xs h = omega arith
place_after x (z ∷ zs) xs h = by_answer (nat_eq z x) refl (λ k. place_after x zs xs k)
  where
    by_answer : (v : Bool) → nat_eq z x ≡ v → ((Contains zs x → ⊥) → length zs ≤ place_in x (zs ++ xs)) → suc (length zs) ≤ (if v then 0 else suc (place_in x (zs ++ xs)))
    by_answer true e rest = absurd (h (subst (λ (v : ℕ). Contains (z ∷ zs) v) (eqb-true z x e) (contains_head z zs)))
    by_answer false e rest = let l = rest (λ c. h (contains_tail z zs x c)) in omega (arith, l)

place_falls : (d : Design) (before xs : List ℕ) (x y : ℕ) → AreInTurn d before xs → Contains xs x → Links d x y → place_in y (before ++ xs) < place_in x (before ++ xs)
place_falls d before [] x y t c l = absurd (none_in x c)
place_falls d before (z ∷ zs) x y (may, t) c l =
    elim (contains_cons z zs x c) [
      | inl same ↦
          let m = subst (MayFollow d before) same may in
          let a = place_front y before (z ∷ zs) (m.reads y l) in
          let b = place_after x before (z ∷ zs) m.once in
          omega (arith, a, b)
      | inr more ↦
          let P : List ℕ → Type 0 = λ v. place_in y v < place_in x v in
          subst P (append_assoc before (z ∷ []) zs) (place_falls d (before ++ z ∷ []) zs x y t more l)
    ]

abbrev rank_in : List ℕ → Place → ℕ
rank_in xs (At x) = suc (place_in x xs)
rank_in xs (Word m k) = 0
rank_in xs (Kept j) = 0

pub has_order : (d : Design) (g : Nodes) (r : IsReadGraph d (all_reads d) g) (found : List SigId) → IsReadOrder d found → HasOrder (circuit_of d)
has_order d g r found o = record { rank = rank_in (numbers_of found); after = λ x p h. falls x p h }
  where
    xs : List ℕ
    xs = numbers_of found

    falls : (x : ℕ) (p : Place) → reads_in (circuit_of d) x p ≡ true → rank_in xs p < rank_in xs (At x)
    falls x (At y) h = let l = place_falls d [] xs x y o.turns (o.all x (r.within x y h)) h in omega (arith, l)
    falls x (Word m k) h = omega arith
    falls x (Kept j) h = omega arith
