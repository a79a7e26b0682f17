-- What signals read through the rows of a graph is what they read.
use Rattle.std.proofs.Common.{◌≡◌, ℕ, zero, suc, ◌+◌, ◌-◌, ◌<◌, ◌≤◌, ◌⊎◌, Bool, true, false, ◌||◌, List, [], ◌∷◌, ◌++◌, Option, Some, None, length, drop, get_or, refl, sym, ap, subst, ◌∙◌, arith, nat_eq, nat_lt, inl, inr, eq-eqb}
use Rattle.std.specs.Prelude.{slice_get, slice_index_or, if◌then◌else◌}
use Rattle.std.specs.List.{Contains, list_all, list_any}
use Rattle.std.proofs.lemmas.Bool.{and_parts, cases_lt, eqb-true, le-ltb, lt-ltb, ltb-false, ltb-true, or_cases, true≢false}
use Rattle.lx_arena.specs.Folds.{fold_at, fold_within, level}
use Rattle.lx_arena.specs.Lower.{EachLower}
use Rattle.lx_arena.proofs.Places.{lower_at, node_there}
use Rattle.lx_fhdl.specs.declared.design.Design.{Design}
use Rattle.lx_graph.specs.Graph.{Nodes, Reads, row}
use Rattle.lx_graph.specs.Through.{Through, Within}
use Rattle.lx_graph.specs.Through as through
use Rattle.lx_graph.proofs.Rows.{contains_cons, none_in}
use Rattle.lx_reads.specs.Net.{hits, link_hits, row_below, row_hits, signals_of}
use Rattle.lx_reads.proofs.Hits.{hits_is, link_signal}
use Rattle.lx_check.specs.Graphs.{HasReads, IsReadGraph, all_reads}
use Rattle.lx_check.specs.Loops.{Links}

-- ---- tests of rows

pub contains_head : (x : ℕ) (xs : List ℕ) → Contains (x ∷ xs) x
contains_head x xs = (0, omega arith, refl)

pub contains_tail : (x : ℕ) (xs : List ℕ) (b : ℕ) → Contains xs b → Contains (x ∷ xs) b
contains_tail x xs b (k, l, e) = (suc k, omega (arith, l), e)

pub any_from : (p : ℕ → Bool) (xs : List ℕ) (b : ℕ) → Contains xs b → p b ≡ true → list_any p xs ≡ true
any_from p [] b c e = absurd (none_in b c)
any_from p (x ∷ xs) b c e =
    elim (contains_cons x xs b c) [
      | inl same ↦ ap (λ (v : ℕ). p v || list_any p xs) same ∙ ap (λ (v : Bool). v || list_any p xs) e
      | inr more ↦ ap (λ (v : Bool). p x || v) (any_from p xs b more e) ∙ or_true_right (p x)
    ]
  where
    or_true_right : (v : Bool) → (v || true) ≡ true
    or_true_right true = refl
    or_true_right false = refl

-- an item that passes
pub record Passes (p : ℕ → Bool) (xs : List ℕ) : Type 0 where
  pub item : ℕ
  pub there : Contains xs item
  pub passes : p item ≡ true

pub any_to : (p : ℕ → Bool) (xs : List ℕ) → list_any p xs ≡ true → Passes p xs
any_to p [] e = absurd (true≢false (sym e))
any_to p (x ∷ xs) e =
    elim (or_cases (p x) (list_any p xs) e) [
      | inl h ↦ record { item = x; there = contains_head x xs; passes = h }
      | inr h ↦ let r = any_to p xs h in record { item = r.item; there = contains_tail x xs r.item r.there; passes = r.passes }
    ]

all_at : (n k : ℕ) (xs : List ℕ) (b : ℕ) → row_below n xs k ≡ true → Contains xs b → b < n + k
all_at n k [] b h c = absurd (none_in b c)
all_at n k (x ∷ xs) b h c =
    let p = and_parts (nat_lt x (n + k)) (row_below n xs k) h in
    elim (contains_cons x xs b c) [
      | inl same ↦ let l = ltb-true x (n + k) p.0 in subst (λ (v : ℕ). v < n + k) same l
      | inr more ↦ all_at n k xs b p.1 more
    ]

-- ---- inner rows

get_drop : (n : ℕ) (xs : List (List ℕ)) (c : ℕ) → n ≤ c → slice_index_or xs c [] ≡ slice_index_or (drop n xs) (c - n) []
get_drop zero xs c l = let e : c - 0 ≡ c = omega arith in sym (ap (λ (j : ℕ). slice_index_or xs j []) e)
get_drop (suc n) [] c l = refl
get_drop (suc n) (x ∷ xs) zero l = absurd (omega arith)
get_drop (suc n) (x ∷ xs) (suc c) l = let e : suc c - suc n ≡ c - n = omega arith in get_drop n xs c (omega arith) ∙ sym (ap (λ (j : ℕ). slice_index_or (drop n xs) j []) e)

inner_row : {d : Design} {test : ℕ → ℕ → Bool} {rows : List (List ℕ)} (g : Nodes) (c : ℕ) → HasReads d rows test g → signals_of d ≤ c → row g c ≡ slice_index_or rows (c - signals_of d) []
inner_row {d} g c h l = get_drop (signals_of d) g.rows c l ∙ ap (λ (rs : List (List ℕ)). slice_index_or rs (c - signals_of d) []) h.inner

-- a row that isn't there has no items
row_there : (rows : List (List ℕ)) (k b : ℕ) → Contains (slice_index_or rows k []) b → k < length rows
row_there [] k b c = absurd (none_in b c)
row_there (r ∷ rs) zero b c = omega arith
row_there (r ∷ rs) (suc k) b c = let l = row_there rs k b c in omega (arith, l)

got : (rows : List (List ℕ)) (k : ℕ) (r : List ℕ) → slice_get rows k ≡ Some r → slice_index_or rows k [] ≡ r
got [] k r e = absurd (cc)
got (x ∷ xs) zero r e = cc
got (x ∷ xs) (suc k) r e = got xs k r e

-- an item of a row that names y
row_names : (n y : ℕ) (rows : List (List ℕ)) (k b : ℕ) → EachLower (row_below n) rows → Contains (slice_index_or rows k []) b → link_hits n y (hits n rows y) b ≡ true → hits n rows y k ≡ true
row_names n y rows k b low c e =
    let (r, is) = node_there rows k (row_there rows k b c) in
    let here : Contains r b = subst (λ (v : List ℕ). Contains v b) (got rows k r is) c in
    hits_is n rows y k r low is ∙ any_from (link_hits n y (hits n rows y)) r b here e

-- ---- what is reached is named

signal_named : (n y : ℕ) (f : ℕ → Bool) → y < n → link_hits n y f y ≡ true
signal_named n y f l = link_signal n y f y l ∙ eq-eqb y y refl

inner_named : (n y : ℕ) (f : ℕ → Bool) (c : ℕ) → n ≤ c → f (c - n) ≡ true → link_hits n y f c ≡ true
inner_named n y f c l e = ap (λ (b : Bool). if b then nat_eq c y else f (c - n)) (le-ltb c n l) ∙ e

within_named : {d : Design} {test : ℕ → ℕ → Bool} (g : Nodes) (r : IsReadGraph d test g) (y between c : ℕ) → y < signals_of d → signals_of d ≤ c → Within g c y between → hits (signals_of d) r.rows y (c - signals_of d) ≡ true
within_named {d} g r y zero c ly lc w =
    let n = signals_of d in
    row_names n y r.rows (c - n) y r.lower (subst (λ (v : List ℕ). Contains v y) (inner_row g c r.has lc) w) (signal_named n y (hits n r.rows y) ly)
within_named {d} g r y (suc between) c ly lc (e, le, reads, w) =
    let n = signals_of d in
    let l : n ≤ e = subst (λ (v : ℕ). v ≤ e) r.has.plain le in
    row_names n y r.rows (c - n) e r.lower (subst (λ (v : List ℕ). Contains v e) (inner_row g c r.has lc) reads)
    (inner_named n y (hits n r.rows y) e l (within_named g r y between e ly l w))

-- a signal reads what its row leads to
through_at : {d : Design} {test : ℕ → ℕ → Bool} (g : Nodes) (r : IsReadGraph d test g) (x y between : ℕ) → x < signals_of d → y < signals_of d → Within g x y between → test x y ≡ true
through_at {d} g r x y zero lx ly w =
    let n = signals_of d in
    sym (r.has.reads x y lx) ∙ any_from (link_hits n y (hits n r.rows y)) (row g x) y w (signal_named n y (hits n r.rows y) ly)
through_at {d} g r x y (suc between) lx ly (e, le, reads, w) =
    let n = signals_of d in
    let l : n ≤ e = subst (λ (v : ℕ). v ≤ e) r.has.plain le in
    sym (r.has.reads x y lx)
    ∙ any_from (link_hits n y (hits n r.rows y)) (row g x) e reads (inner_named n y (hits n r.rows y) e l (within_named g r y between e ly l w))

-- ---- what is named is reached

no_row : (n : ℕ) (rows : List (List ℕ)) (y k : ℕ) → slice_get rows k ≡ None → hits n rows y k ≡ false
unfolding hits fold_at
no_row n rows y k e = ap (level false (row_hits n y) (fold_within false (row_hits n y) rows k)) e

-- y is a signal, and a leads to it
abbrev LeadsTo : Design → Nodes → ℕ → ℕ → Type 0
LeadsTo d g a y = (y < signals_of d) × Through g a y

-- an item that names y leads to it
item_reaches : {d : Design} {test : ℕ → ℕ → Bool} (g : Nodes) (r : IsReadGraph d test g) (y bound a b : ℕ)
    → ((k : ℕ) → k < bound → hits (signals_of d) r.rows y k ≡ true → LeadsTo d g (signals_of d + k) y) → b < signals_of d + bound → Reads g a b → link_hits (signals_of d) y (hits (signals_of d) r.rows y) b ≡ true → LeadsTo d g a y
item_reaches {d} g r y bound a b more l reads e = by_answer (nat_lt b n) refl
  where
    n : ℕ
    n = signals_of d

    by_answer : (v : Bool) → nat_lt b n ≡ v → LeadsTo d g a y
    by_answer true h =
        let named : nat_eq b y ≡ true = sym (ap (λ (v : Bool). if v then nat_eq b y else hits n r.rows y (b - n)) h) ∙ e in
        let same = eqb-true b y named in
        let low = ltb-true b n h in
        (subst (λ (v : ℕ). v < n) same low, (0, subst (Reads g a) same reads))
    by_answer false h =
        let named : hits n r.rows y (b - n) ≡ true = sym (ap (λ (v : Bool). if v then nat_eq b y else hits n r.rows y (b - n)) h) ∙ e in
        let low = ltb-false b n h in
        let m = more (b - n) (omega (arith, low, l)) named in
        let same : n + (b - n) ≡ b = omega (arith, low) in
        (m.0, (suc m.1.0, (b, subst (λ (v : ℕ). v ≤ b) (sym r.has.plain) low, reads, subst (λ (v : ℕ). Within g v y m.1.0) same m.1.1)))

inner_reaches : {d : Design} {test : ℕ → ℕ → Bool} (g : Nodes) (r : IsReadGraph d test g) (y bound k : ℕ) → k < bound → hits (signals_of d) r.rows y k ≡ true → LeadsTo d g (signals_of d + k) y
inner_reaches {d} g r y zero k l e = absurd (omega arith)
inner_reaches {d} g r y (suc bound) k l e = by_row (slice_get r.rows k) refl (λ j i h. inner_reaches g r y bound j i h)
  where
    n : ℕ
    n = signals_of d

    by_row : (o : Option (List ℕ)) → slice_get r.rows k ≡ o → ((j : ℕ) → j < bound → hits n r.rows y j ≡ true → LeadsTo d g (n + j) y) → LeadsTo d g (n + k) y
    by_row None is more = absurd (true≢false (sym e ∙ no_row n r.rows y k is))
    by_row (Some items) is more =
        let p = any_to (link_hits n y (hits n r.rows y)) items (sym (hits_is n r.rows y k items r.lower is) ∙ e) in
        let low = all_at n k items p.item (lower_at (row_below n) r.rows r.lower k items is) p.there in
        let at : row g (n + k) ≡ items = inner_row g (n + k) r.has (omega arith) ∙ (let same : n + k - n ≡ k = omega arith in ap (λ (j : ℕ). slice_index_or r.rows j []) same) ∙ got r.rows k items is in
        let reads : Reads g (n + k) p.item = subst (λ (v : List ℕ). Contains v p.item) (sym at) p.there in
        item_reaches g r y k (n + k) p.item (λ j i h. more j (omega (arith, i, l)) h) low reads p.passes

pub reads_through : {d : Design} {test : ℕ → ℕ → Bool} (g : Nodes) (r : IsReadGraph d test g) (x y : ℕ) → x < signals_of d → test x y ≡ true → LeadsTo d g x y
reads_through {d} g r x y lx e =
    let n = signals_of d in
    let p = any_to (link_hits n y (hits n r.rows y)) (row g x) (r.has.reads x y lx ∙ e) in
    item_reaches g r y (suc p.item) x p.item (λ k l h. inner_reaches g r y (suc k) k (omega arith) h) (omega arith) p.there p.passes

-- ---- links

pub links_are : (d : Design) (g : Nodes) (r : IsReadGraph d (all_reads d) g) (x y : ℕ) → through.Links g x y → Links d x y
links_are d g r x y (lx, ly, t) = through_at g r x y t.0 (subst (λ (v : ℕ). x < v) r.has.plain lx) (subst (λ (v : ℕ). y < v) r.has.plain ly) t.1

pub are_links : (d : Design) (g : Nodes) (r : IsReadGraph d (all_reads d) g) (x y : ℕ) → Links d x y → through.Links g x y
are_links d g r x y e =
    let lx = r.within x y e in
    let t = reads_through g r x y lx e in
    (subst (λ (v : ℕ). x < v) (sym r.has.plain) lx, subst (λ (v : ℕ). y < v) (sym r.has.plain) t.0, t.1)
