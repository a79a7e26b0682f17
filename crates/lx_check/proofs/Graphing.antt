-- How the graph of a design is made.
use Rattle.std.proofs.Common.{◌≡◌, ℕ, zero, suc, ◌+◌, ◌<◌, ◌≤◌, ◌⊎◌, Bool, true, false, ◌||◌, ◌&&◌, List, [], ◌∷◌, ◌++◌, Option, Some, None, length, drop, take, get_or, set, replicate, refl, sym, ap, subst, ◌∙◌, arith, nat_eq, nat_lt, inl, inr, eq-eqb, length-append}
use Rattle.std.specs.Prelude.{IfSome, slice_get, slice_index_or, slice_set}
use Rattle.std.specs.List.{All, list_any}
use Rattle.std.specs.Option.{is_some}
use Rattle.std.proofs.Math.Bool.{or-false, or_assoc}
use Rattle.std.proofs.Math.Seq.{drop-append_seam}
use Rattle.std.proofs.lemmas.Bool.{and_parts, and_right, cases_eq, cases_lt, eqb-true, le-ltb, lt-ltb, ltb-true, ne_eqb, or_cases, true≢false}
use Rattle.std.proofs.lemmas.List.{append-nil, drop-set-lt, get_or-set_other, get_or_default, get_or-set_same, length-drop, length-replicate, length-set, length-take-le, take_all, take_more}
use Rattle.lx_arena.specs.Lower.{EachLower}
use Rattle.lx_arena.proofs.Places.{lower_at, node_there}
use Rattle.lx_fhdl.specs.Keeping.{Keeps}
use Rattle.lx_fhdl.specs.declared.design.Design.{Design}
use Rattle.lx_graph.specs.Graph.{Nodes, row}
use Rattle.lx_reads.specs.Drivings.{drivings}
use Rattle.lx_reads.specs.Net.{IsNet, IsNumber, driven_reads, hits, link_hits, net_reaches, net_reads, reaches, row_below, row_hits, signals_of}
use Rattle.lx_reads.specs.Whole.{IsCombNet}
use Rattle.lx_reads.specs.declared.net.Driven.{Driven}
use Rattle.lx_reads.specs.declared.net.Net.{Net}
use Rattle.lx_reads.proofs.Hits.{link_signal, row_append, row_one}
use Rattle.lx_reads.proofs.Items.{got_at}
use Rattle.lx_check.specs.Graphs.{HasReads, HasRows, IsReadGraph, all_reads, comb_reads, with_address}
use Rattle.lx_check.proofs.Roles.{address_there, read_address, reads_address, reads_are}

-- ---- rows

row_all : (n k : ℕ) (xs : List ℕ) → row_below n xs k ≡ true → (i : ℕ) (z : ℕ) → i < length xs → slice_index_or xs i z < n + k
row_all n k [] h i z l = absurd (omega arith)
row_all n k (x ∷ xs) h zero z l = ltb-true x (n + k) (and_parts (nat_lt x (n + k)) (row_below n xs k) h).0
row_all n k (x ∷ xs) h (suc i) z l = row_all n k xs (and_parts (nat_lt x (n + k)) (row_below n xs k) h).1 i z (omega arith)

rows_long : (d : Design) (net : Net) (k : ℕ) (g : Nodes) → k ≤ length net.rows → HasRows d net k g → length g.rows ≡ signals_of d + k
rows_long d net k g l e =
    ap (λ (v : Nodes). length v.rows) e ∙ length-append (replicate (signals_of d) []) (take k net.rows)
    ∙ ap (λ (v : ℕ). v + length (take k net.rows)) (length-replicate (signals_of d) [])
    ∙ (let h = length-take-le k net.rows l in omega (arith, h))

pub rows_start : (d : Design) (net : Net) (g : Nodes) → g ≡ record { plain = signals_of d; rows = replicate (signals_of d) [] } → HasRows d net 0 g
rows_start d net g e = let made : List (List ℕ) → Nodes = λ v. record { plain = signals_of d; rows = v } in e ∙ ap made (sym (append-nil (replicate (signals_of d) [])))

-- the next row reads what is there
pub row_fits : (d : Design) (net : Net) (items : List (List ℕ)) (k : ℕ) (g : Nodes) (z row : List ℕ) → IsNet d net → items ≡ net.rows → k < length items → row ≡ get_or items k z → HasRows d net k g → All (λ b. b < length g.rows) row
row_fits d net items k g z row net_is same_items l0 e0 h i q j =
    let l : k < length net.rows = subst (λ (v : List (List ℕ)). k < length v) same_items l0 in
    let e : row ≡ get_or net.rows k z = e0 ∙ ap (λ (v : List (List ℕ)). get_or v k z) same_items in
    let (r, is) = node_there net.rows k l in
    let at : get_or net.rows k z ≡ r = got net.rows k z r is in
    let low = row_all (signals_of d) k r (lower_at (row_below (signals_of d)) net.rows net_is.lower k r is) i q in
    let same : row ≡ r = e ∙ at in
    let P : List ℕ → Type 0 = λ v. i < length v → slice_index_or v i q < length g.rows in
    subst P (sym same) (λ m. let b = low m in omega (arith, b, rows_long d net k g (omega arith) h)) j
  where
    got : (rows : List (List ℕ)) (k : ℕ) (z r : List ℕ) → slice_get rows k ≡ Some r → get_or rows k z ≡ r
    got [] k z r e = absurd (cc)
    got (x ∷ xs) zero z r e = cc
    got (x ∷ xs) (suc k) z r e = got xs k z r e

append_assoc_one : (xs ys : List (List ℕ)) (r : List ℕ) → (xs ++ ys) ++ r ∷ [] ≡ xs ++ (ys ++ r ∷ [])
append_assoc_one [] ys r = refl
append_assoc_one (x ∷ xs) ys r = ap (λ (v : List (List ℕ)). x ∷ v) (append_assoc_one xs ys r)

pub rows_more : (d : Design) (net : Net) (items : List (List ℕ)) (k : ℕ) (g h : Nodes) (z row : List ℕ) → items ≡ net.rows → k < length items → row ≡ get_or items k z → HasRows d net k g → h ≡ record { plain = g.plain; rows = g.rows ++ row ∷ [] } → HasRows d net (k + 1) h
rows_more d net items k g h z row same l0 e0 p is =
    let l : k < length net.rows = subst (λ (v : List (List ℕ)). k < length v) same l0 in
    let e : row ≡ get_or net.rows k z = e0 ∙ ap (λ (v : List (List ℕ)). get_or v k z) same in
    let made : List (List ℕ) → Nodes = λ v. record { plain = signals_of d; rows = v } in
    is ∙ ap (λ (v : Nodes). record { plain = v.plain; rows = v.rows ++ row ∷ [] }) p
    ∙ ap made (append_assoc_one (replicate (signals_of d) []) (take k net.rows) row
    ∙ ap (λ (v : List ℕ). replicate (signals_of d) [] ++ (take k net.rows ++ v ∷ [])) e
    ∙ ap (λ (v : List (List ℕ)). replicate (signals_of d) [] ++ v) (sym (take_more net.rows k z l)))

-- ---- signals that read nothing yet

front : (n : ℕ) (rows : List (List ℕ)) (x : ℕ) → x < n → slice_index_or (replicate n [] ++ rows) x [] ≡ []
front zero rows x l = absurd (omega arith)
front (suc n) rows zero l = refl
front (suc n) rows (suc x) l = front n rows x (omega arith)

seam : (n : ℕ) (rows : List (List ℕ)) → drop n (replicate n [] ++ rows) ≡ rows
seam zero rows = refl
seam (suc n) rows = seam n rows

pub reads_none : (d : Design) (net : Net) (g : Nodes) (driven : List Driven) → HasRows d net (length net.rows) g → HasReads d net.rows (λ x y. list_any (driven_reads d net x y) (take 0 driven)) g
reads_none d net g driven e =
    let all = take_all (length net.rows) net.rows (omega arith) in
    let rows : g.rows ≡ replicate (signals_of d) [] ++ net.rows = ap (λ (v : Nodes). v.rows) e ∙ ap (λ (v : List (List ℕ)). replicate (signals_of d) [] ++ v) all in
    record {
      plain = ap (λ (v : Nodes). v.plain) e;
      long = let h = rows_long d net (length net.rows) g (omega arith) e in omega (arith, h);
      inner = ap (λ (v : List (List ℕ)). drop (signals_of d) v) rows ∙ seam (signals_of d) net.rows;
      reads = λ x y l. ap (row_hits (signals_of d) y (hits (signals_of d) net.rows y)) (ap (λ (v : List (List ℕ)). slice_index_or v x []) rows ∙ front (signals_of d) net.rows x l);
    }

-- ---- a read more

pub read_added : (d : Design) (rows : List (List ℕ)) (test : ℕ → ℕ → Bool) (g h : Nodes) (x0 j : ℕ) → x0 < signals_of d → HasReads d rows test g → h ≡ record { plain = g.plain; rows = slice_set g.rows x0 (row g x0 ++ j ∷ []) }
    → HasReads d rows (λ x y. test x y || (nat_eq x0 x && reaches (signals_of d) rows y j)) h
read_added d rows test g h x0 j l p e = record {
  plain = ap (λ (v : Nodes). v.plain) e ∙ p.plain;
  long = let k = ap (λ (v : Nodes). length v.rows) e in let m = length-set g.rows x0 (row g x0 ++ j ∷ []) in omega (arith, p.long, k, m);
  inner = ap (λ (v : Nodes). drop n v.rows) e ∙ drop-set-lt n g.rows x0 (row g x0 ++ j ∷ []) l ∙ p.inner;
  reads = λ x y lx. by_answer x y lx (nat_eq x0 x) refl;
}
  where
    n : ℕ
    n = signals_of d

    new : List ℕ
    new = row g x0 ++ j ∷ []

    at : (x : ℕ) → row h x ≡ get_or (set g.rows x0 new) x []
    at x = ap (λ (v : Nodes). row v x) e

    by_answer : (x y : ℕ) → x < n → (b : Bool) → nat_eq x0 x ≡ b → row_hits n y (hits n rows y) (row h x) ≡ (test x y || (b && reaches n rows y j))
    by_answer x y lx true same =
        let is = eqb-true x0 x same in
        ap (row_hits n y (hits n rows y)) (at x ∙ ap (λ (v : ℕ). get_or (set g.rows x0 new) v []) (sym is) ∙ get_or-set_same g.rows x0 new [] (omega (arith, l, p.long)))
        ∙ row_append n y (hits n rows y) (row g x0) (j ∷ [])
        ∙ ap (λ (v : Bool). row_hits n y (hits n rows y) (row g x0) || v) (row_one n y (hits n rows y) j)
        ∙ ap (λ (v : Bool). v || reaches n rows y j) (ap (λ (v : ℕ). row_hits n y (hits n rows y) (row g v)) is ∙ p.reads x y lx)
    by_answer x y lx false other =
        ap (row_hits n y (hits n rows y)) (at x ∙ get_or-set_other g.rows x0 x new [] (λ q. true≢false (sym (eq-eqb x0 x (sym q)) ∙ other)))
        ∙ p.reads x y lx ∙ sym (or-false (test x y))

-- the same test, said otherwise
pub test_as : (d : Design) (rows : List (List ℕ)) (test other : ℕ → ℕ → Bool) (g : Nodes) → ((x y : ℕ) → x < signals_of d → test x y ≡ other x y) → HasReads d rows test g → HasReads d rows other g
test_as d rows test other g f p = record { plain = p.plain; long = p.long; inner = p.inner; reads = λ x y l. p.reads x y l ∙ f x y l }

any_push : (p : Driven → Bool) (xs : List Driven) (a : Driven) → list_any p (xs ++ a ∷ []) ≡ (list_any p xs || p a)
any_push p [] a = or-false (p a)
any_push p (x ∷ xs) a = ap (λ (v : Bool). p x || v) (any_push p xs a) ∙ sym (or_assoc (p x) (list_any p xs) (p a))

-- an item of what is driven
item_there : (net : Net) (items : List Driven) (k : ℕ) (z w : Driven) → items ≡ net.driven → k < length items → z ≡ get_or items k w → slice_get net.driven k ≡ Some z
item_there net items k z w same l is = got_at items net.driven k z same l (is ∙ get_or_default items k w z l)

pub signal_fits : (d : Design) (net : Net) (items : List Driven) (k : ℕ) (z w : Driven) (test : ℕ → ℕ → Bool) (g : Nodes) → IsNet d net → items ≡ net.driven → k < length items → z ≡ get_or items k w → HasReads d net.rows test g → z.signal < g.plain
signal_fits d net items k z w test g n same l is h = let m = n.there k z (item_there net items k z w same l is) in omega (arith, m, h.plain)

long_all : (d : Design) (rows : List (List ℕ)) (test : ℕ → ℕ → Bool) (g : Nodes) → HasReads d rows test g → length g.rows ≡ signals_of d + length rows
long_all d rows test g h = let e = length-drop (signals_of d) g.rows in let f = ap length h.inner in omega (arith, e, f, h.long)

pub node_fits : (d : Design) (net : Net) (items : List Driven) (k : ℕ) (z w : Driven) (test : ℕ → ℕ → Bool) (g : Nodes) → IsNet d net → items ≡ net.driven → k < length items → z ≡ get_or items k w → HasReads d net.rows test g → z.node < length g.rows
node_fits d net items k z w test g n same l is h = let m = n.nodes k z (item_there net items k z w same l is) in omega (arith, m, long_all d net.rows test g h)

-- one that is driven more
pub driven_more : (d : Design) (net : Net) (items : List Driven) (k : ℕ) (z w : Driven) (g h : Nodes) → IsNet d net → items ≡ net.driven → k < length items → z ≡ get_or items k w
    → HasReads d net.rows (λ x y. list_any (driven_reads d net x y) (take k items)) g → h ≡ record { plain = g.plain; rows = slice_set g.rows z.signal (row g z.signal ++ z.node ∷ []) }
    → HasReads d net.rows (λ x y. list_any (driven_reads d net x y) (take (k + 1) items)) h
driven_more d net items k z w g h n same l is p e =
    let lx = n.there k z (item_there net items k z w same l is) in
    test_as d net.rows (λ x y. list_any (driven_reads d net x y) (take k items) || driven_reads d net x y z) (λ x y. list_any (driven_reads d net x y) (take (k + 1) items)) h
    (λ x y m.
    sym (any_push (driven_reads d net x y) (take k items) z)
    ∙ ap (λ (v : Driven). list_any (driven_reads d net x y) (take k items ++ v ∷ [])) is
    ∙ ap (list_any (driven_reads d net x y)) (sym (take_more items k w l)))
    (read_added d net.rows (λ x y. list_any (driven_reads d net x y) (take k items)) g h z.signal z.node lx p e)

pub driven_done : (d : Design) (net : Net) (driven : List Driven) (k : ℕ) (g : Nodes) → length driven ≤ k → driven ≡ net.driven → HasReads d net.rows (λ x y. list_any (driven_reads d net x y) (take k driven)) g → HasReads d net.rows (net_reads d net) g
unfolding net_reads
driven_done d net driven k g l e p =
    test_as d net.rows (λ x y. list_any (driven_reads d net x y) (take k driven)) (net_reads d net) g (λ x y m. ap (list_any (driven_reads d net x y)) (take_all k driven l ∙ e)) p

-- what is read is read by a signal
net_within : (d : Design) (net : Net) (x y : ℕ) → IsNet d net → net_reads d net x y ≡ true → x < signals_of d
unfolding net_reads
net_within d net x y n e = some net.driven n.there e
  where
    some : (driven : List Driven) → ((k : ℕ) (a : Driven) → slice_get driven k ≡ Some a → a.signal < signals_of d) → list_any (driven_reads d net x y) driven ≡ true → x < signals_of d
    some [] h i = absurd (true≢false (sym i))
    some (a ∷ as_) h i =
        elim (or_cases (driven_reads d net x y a) (list_any (driven_reads d net x y) as_) i) [
          | inl here ↦ let l = h 0 a refl in subst (λ (v : ℕ). v < signals_of d) (eqb-true a.signal x (and_parts (nat_eq a.signal x) (net_reaches d net y a.node) here).0) l
          | inr more ↦ some as_ (λ k. h (suc k)) more
        ]

pub comb_graph_is : (d : Design) (net : Net) (g : Nodes) → IsCombNet d net → HasReads d net.rows (net_reads d net) g → IsReadGraph d (comb_reads d) g
comb_graph_is d net g c p = record {
  rows = net.rows;
  lower = c.stands.lower;
  has = test_as d net.rows (net_reads d net) (comb_reads d) g (λ x y l. c.reads x y) p;
  within = λ x y e. net_within d net x y c.stands (c.reads x y ∙ e);
}

-- ---- ports

-- with the addresses that the first k signals read
abbrev pub port_test : Design → ℕ → ℕ → ℕ → Bool
port_test d k x y = comb_reads d x y || (nat_lt x k && reads_address y (read_address d x))

pub ports_none : (d : Design) (g : Nodes) (r : IsReadGraph d (comb_reads d) g) → HasReads d r.rows (port_test d 0) g
ports_none d g r = test_as d r.rows (comb_reads d) (port_test d 0) g (λ x y l. sym (or-false (comb_reads d x y)) ∙ ap (λ (v : Bool). comb_reads d x y || (v && reads_address y (read_address d x))) (sym (le-ltb x 0 (omega arith)))) r.has

before_next : (x k : ℕ) → nat_lt x (k + 1) ≡ (nat_lt x k || nat_eq k x)
before_next x k =
    elim (cases_lt x k) [
      | inl l ↦ lt-ltb x (k + 1) (omega arith) ∙ ap (λ (v : Bool). v || nat_eq k x) (sym (lt-ltb x k l))
      | inr h ↦ elim (cases_eq k x) [
        | inl e ↦ lt-ltb x (k + 1) (omega arith) ∙ sym (ap (λ (v : Bool). v || nat_eq k x) (le-ltb x k h) ∙ eq-eqb k x e)
        | inr e ↦ le-ltb x (k + 1) (above x k h e) ∙ sym (ap (λ (v : Bool). v || nat_eq k x) (le-ltb x k h) ∙ ne_eqb k x e)
      ]
    ]
  where
    above : (x k : ℕ) → k ≤ x → (k ≡ x → ⊥) → k + 1 ≤ x
    above x k h e = elim (cases_lt k x) [ inl l ↦ omega (arith, l) | inr m ↦ absurd (e (omega (arith, h, m))) ]

and_or : (a b r : Bool) → ((a || b) && r) ≡ ((a && r) || (b && r))
and_or true true true = refl
and_or true true false = refl
and_or true false true = refl
and_or true false false = refl
and_or false b r = refl

-- signal k reads its address too
next_test : (d : Design) (k x y : ℕ) → port_test d (k + 1) x y ≡ (port_test d k x y || (nat_eq k x && reads_address y (read_address d k)))
next_test d k x y =
    ap (λ (v : Bool). comb_reads d x y || (v && reads_address y (read_address d x))) (before_next x k)
    ∙ ap (λ (v : Bool). comb_reads d x y || v) (and_or (nat_lt x k) (nat_eq k x) (reads_address y (read_address d x)))
    ∙ sym (or_assoc (comb_reads d x y) (nat_lt x k && reads_address y (read_address d x)) (nat_eq k x && reads_address y (read_address d x)))
    ∙ ap (λ (v : Bool). port_test d k x y || v) (same (nat_eq k x) refl)
  where
    same : (b : Bool) → nat_eq k x ≡ b → (b && reads_address y (read_address d x)) ≡ (b && reads_address y (read_address d k))
    same true e = let s : k ≡ x = eqb-true k x e in ap (λ (v : ℕ). reads_address y (read_address d v)) (sym s)
    same false e = refl

pub ports_more : (d : Design) (rows : List (List ℕ)) (g h : Nodes) (k : ℕ) (o : Option ℕ) → k < signals_of d → o ≡ read_address d k → IfSome o (λ a. a < signals_of d) → HasReads d rows (port_test d k) g → h ≡ with_address g k o → HasReads d rows (port_test d (k + 1)) h
ports_more d rows g h k None l s t p e =
    test_as d rows (port_test d k) (port_test d (k + 1)) h
    (λ x y m. sym (next_test d k x y ∙ ap (λ (v : Option ℕ). port_test d k x y || (nat_eq k x && reads_address y v)) (sym s) ∙ ap (λ (v : Bool). port_test d k x y || v) (and_right (nat_eq k x) false refl) ∙ or-false (port_test d k x y)))
    (subst (HasReads d rows (port_test d k)) (sym e) p)
ports_more d rows g h k (Some a) l s t p e =
    test_as d rows (λ x y. port_test d k x y || (nat_eq k x && reaches (signals_of d) rows y a)) (port_test d (k + 1)) h
    (λ x y m. sym (next_test d k x y ∙ ap (λ (v : Option ℕ). port_test d k x y || (nat_eq k x && reads_address y v)) (sym s) ∙ ap (λ (v : Bool). port_test d k x y || (nat_eq k x && v)) (sym (link_signal (signals_of d) y (hits (signals_of d) rows y) a t))))
    (read_added d rows (port_test d k) g h k a l p e)

-- all that is read
pub ports_done : (d : Design) (rows : List (List ℕ)) (g : Nodes) (n : ℕ) → Keeps d → signals_of d ≤ n → EachLower (row_below (signals_of d)) rows → ((x y : ℕ) → comb_reads d x y ≡ true → x < signals_of d) → HasReads d rows (port_test d n) g → IsReadGraph d (all_reads d) g
ports_done d rows g n keeps l low within p = record {
  rows = rows;
  lower = low;
  has =
      test_as d rows (port_test d n) (all_reads d) g
      (λ x y m. ap (λ (v : Bool). comb_reads d x y || (v && reads_address y (read_address d x))) (lt-ltb x n (omega (arith, m, l))) ∙ sym (reads_are d x y keeps)) p;
  within = λ x y e.
      elim (or_cases (comb_reads d x y) (reads_address y (read_address d x)) (sym (reads_are d x y keeps) ∙ e)) [
        | inl h ↦ within x y h
        | inr h ↦ address_there d x y keeps h
      ];
}

-- a graph with the addresses that the first k signals read
pub record HasPorts (d : Design) (k : ℕ) (g : Nodes) : Type 0 where
  pub rows : List (List ℕ)
  pub lower : EachLower (row_below (signals_of d)) rows
  pub within : (x y : ℕ) → comb_reads d x y ≡ true → x < signals_of d
  pub has : HasReads d rows (port_test d k) g

pub has_none : (d : Design) (g : Nodes) → IsReadGraph d (comb_reads d) g → HasPorts d 0 g
has_none d g r = record { rows = r.rows; lower = r.lower; within = r.within; has = ports_none d g r }

pub has_more : (d : Design) (g h : Nodes) (k : ℕ) (o : Option ℕ) → k < signals_of d → o ≡ read_address d k → IfSome o (λ a. a < signals_of d) → HasPorts d k g → h ≡ with_address g k o → HasPorts d (k + 1) h
has_more d g h k o l s t p e = record { rows = p.rows; lower = p.lower; within = p.within; has = ports_more d p.rows g h k o l s t p.has e }

pub has_all : (d : Design) (g : Nodes) (n : ℕ) → Keeps d → signals_of d ≤ n → HasPorts d n g → IsReadGraph d (all_reads d) g
has_all d g n keeps l p = ports_done d p.rows g n keeps l p.lower p.within p.has

-- the rows of all expressions and statements
pub rows_done : (d : Design) (net : Net) (items : List (List ℕ)) (k : ℕ) (g : Nodes) → items ≡ net.rows → length items ≤ k → HasRows d net k g → HasRows d net (length net.rows) g
rows_done d net items k g same l h =
    let m : length net.rows ≤ k = subst (λ (v : List (List ℕ)). length v ≤ k) same l in
    let made : List (List ℕ) → Nodes = λ v. record { plain = signals_of d; rows = replicate (signals_of d) [] ++ v } in
    h ∙ ap made (take_all k net.rows m ∙ sym (take_all (length net.rows) net.rows (omega arith)))
