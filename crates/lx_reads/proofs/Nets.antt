-- Rows and drivings more in a net.
use Rattle.std.proofs.Common.{◌≡◌, ℕ, zero, suc, ◌+◌, ◌<◌, ◌≤◌, ◌^◌, Bool, true, false, ◌||◌, ◌&&◌, List, [], ◌∷◌, ◌++◌, Option, Some, None, length, map, drop, get_or, refl, sym, ap, subst, ◌∙◌, arith, nat_eq, nat_lt}
use Rattle.std.specs.Prelude.{slice_get, IsTrue}
use Rattle.std.specs.List.{list_all, list_any}
use Rattle.std.specs.Option.{option_to_list}
use Rattle.std.proofs.Math.Bool.{or-false, or_assoc}
use Rattle.std.proofs.lemmas.Bool.{and_parts, ltb-true}
use Rattle.std.proofs.lemmas.List.{append-nil, drop_all, length_push}
use Rattle.lx_arena.proofs.Places.{each_more, lower_more}
use Rattle.lx_circuit.specs.Circuit.{is_among}
use Rattle.lx_circuit.specs.Places.{At}
use Rattle.lx_circuit.specs.Reads.{names, target_names}
use Rattle.lx_circuit.specs.Statements.{is_target}
use Rattle.lx_fhdl.specs.Below.{ExprId, TargetId}
use Rattle.lx_fhdl.specs.Designs.{target, term}
use Rattle.lx_fhdl.specs.Keeping.{Keeps}
use Rattle.lx_fhdl.specs.declared.design.Design.{Design}
use Rattle.lx_reads.specs.Drivings.{Driving, driving, target_signals}
use Rattle.lx_reads.specs.Net.{Adds, AreExprRows, Goes, IsAround, IsNet, IsNumber, NetGrows, Todo, above, driven_reads, driving_of, hits, net_reaches, net_reads, row_below, row_hits, signals_of}
use Rattle.lx_reads.specs.Targets.{AddsTarget}
use Rattle.lx_reads.specs.Walks.{AddsCond, AddsRow, IsReady, IsStart, are_signals, assign_todo, driven_todo}
use Rattle.lx_reads.specs.declared.net.Driven.{Driven}
use Rattle.lx_reads.specs.declared.net.Net.{Net}
use Rattle.lx_reads.specs.declared.targets.Parts.{Parts}
use Rattle.lx_reads.specs.declared.walk.Under.{Under}
use Rattle.lx_reads.proofs.Adding.{number_below, number_hit}
use Rattle.lx_reads.proofs.Drivings.{signals_are}
use Rattle.lx_reads.proofs.Going.{goes_beside, goes_done, goes_last, goes_start, goes_then, number_kept}
use Rattle.lx_reads.proofs.Hits.{below_append, below_one, hits_front, hits_last, link_inner, reaches_front, row_append, row_one}
use Rattle.lx_reads.proofs.Items.{next_item}

abbrev made : List (List ℕ) → List Driven → Net
made rows driven = record { rows = rows; driven = driven }

net_is : (b : Net) (rows : List (List ℕ)) (driven : List Driven) → b.rows ≡ rows → b.driven ≡ driven → made rows driven ≡ b
net_is b rows driven e f = ap (λ (rs : List (List ℕ)). made rs driven) (sym e) ∙ ap (made b.rows) (sym f)

-- ---- rows

-- what is driven reads the same
reads_kept : (d : Design) (a b : Net) (x y : ℕ) (driven : List Driven) → NetGrows d a b → ((k : ℕ) (e : Driven) → slice_get driven k ≡ Some e → IsNumber d a e.node)
    → list_any (driven_reads d b x y) driven ≡ list_any (driven_reads d a x y) driven
reads_kept d a b x y [] g h = refl
reads_kept d a b x y (e ∷ es) g h =
    ap (λ (v : Bool). (nat_eq e.signal x && v) || list_any (driven_reads d b x y) es) (g.same y e.node (h 0 e refl))
    ∙ ap (λ (v : Bool). driven_reads d a x y e || v) (reads_kept d a b x y es g (λ k. h (suc k)))

net_reads_kept : (d : Design) (a : Net) (rows : List (List ℕ)) (x y : ℕ) → IsNet d a → NetGrows d a (made rows a.driven) → net_reads d (made rows a.driven) x y ≡ net_reads d a x y
unfolding net_reads
net_reads_kept d a rows x y net g = reads_kept d a (made rows a.driven) x y a.driven g net.nodes

made_row : (d : Design) (a : Net) (row : List ℕ) (node : ℕ) → IsNet d a → row_below (signals_of d) row (length a.rows) ≡ true → signals_of d + length a.rows ≡ node → node < 2 ^ 64
    → AddsRow d a (made (a.rows ++ row ∷ []) a.driven) row node
made_row d a row node net h is l =
    let n = signals_of d in
    let low = lower_more (row_below n) a.rows row net.lower h in
    let long = length_push a.rows row in
    let grows : NetGrows d a (made (a.rows ++ row ∷ []) a.driven) = record { longer = omega (arith, long); same = λ y j i. reaches_front n a.rows row y j low i } in
    record {
      goes = record {
        net = record {
          keeps = net.keeps;
          lower = low;
          fits = omega (arith, long, is, l);
          exprs = omega (arith, long, net.exprs);
          names = λ y k i. hits_front n a.rows row y k low (omega (arith, i, net.exprs)) ∙ net.names y k i;
          nodes = λ k x i. number_kept grows (net.nodes k x i);
          there = net.there;
        };
        grows = grows;
        drivings = refl;
        reads = λ x y. ap (λ (z : Bool). z || false) (net_reads_kept d a (a.rows ++ row ∷ []) x y net grows);
      };
      there = omega (arith, long, is);
      hits = λ y.
          ap (net_reaches d (made (a.rows ++ row ∷ []) a.driven) y) (sym is)
          ∙ link_inner n y (hits n (a.rows ++ row ∷ []) y) (length a.rows)
          ∙ hits_last n a.rows row y low h;
    }

pub row_added : (d : Design) (a b : Net) (row : List ℕ) (node : ℕ) → IsNet d a → row_below (signals_of d) row (length a.rows) ≡ true → b.rows ≡ a.rows ++ row ∷ [] → b.driven ≡ a.driven → signals_of d + length a.rows ≡ node → node < 2 ^ 64
    → AddsRow d a b row node
row_added d a b row node net h e f is l = subst (λ (m : Net). AddsRow d a m row node) (net_is b (a.rows ++ row ∷ []) a.driven e f) (made_row d a row node net h is l)

-- ---- what is driven

any_append : {X : Type 0} (p : X → Bool) (xs : List X) (x : X) → list_any p (xs ++ x ∷ []) ≡ (list_any p xs || p x)
any_append p [] x = or-false (p x)
any_append p (z ∷ zs) x = ap (λ (v : Bool). p z || v) (any_append p zs x) ∙ sym (or_assoc (p z) (list_any p zs) (p x))

map_append : (xs : List Driven) (x : Driven) → map driving_of (xs ++ x ∷ []) ≡ map driving_of xs ++ driving_of x ∷ []
map_append [] x = refl
map_append (z ∷ zs) x = ap (λ (v : List Driving). driving_of z ∷ v) (map_append zs x)

abbrev one_todo : Design → Net → Driven → Todo
one_todo d a e = record { drivings = driving_of e ∷ []; reads = λ x y. driven_reads d a x y e }

one_reads : (d : Design) (a : Net) (e : Driven) (x y : ℕ) → net_reads d (made a.rows (a.driven ++ e ∷ [])) x y ≡ (net_reads d a x y || driven_reads d a x y e)
unfolding net_reads
one_reads d a e x y = any_append (driven_reads d a x y) a.driven e

one_driven : (d : Design) (a b : Net) (e : Driven) → IsNet d a → e.signal < signals_of d → IsNumber d a e.node → b.rows ≡ a.rows → b.driven ≡ a.driven ++ e ∷ [] → Adds d a b (one_todo d a e)
one_driven d a b e net l h f g =
    subst (λ (m : Net). Adds d a m (one_todo d a e)) (net_is b a.rows (a.driven ++ e ∷ []) f g) (record {
      net = record {
        keeps = net.keeps;
        lower = net.lower;
        fits = net.fits;
        exprs = net.exprs;
        names = net.names;
        nodes = each_more (λ (x : Driven). IsNumber d a x.node) a.driven e net.nodes h;
        there = each_more (λ (x : Driven). x.signal < signals_of d) a.driven e net.there l;
      };
      grows = record { longer = omega arith; same = λ y j i. refl };
      drivings = append-nil (map driving_of (a.driven ++ e ∷ [])) ∙ map_append a.driven e;
      reads = λ x y. ap (λ (z : Bool). z || false) (one_reads d a e x y) ∙ or-false (net_reads d a x y || driven_reads d a x y e);
    })

and_or : (a b r s : Bool) → s ≡ r → ((a || b) && r) ≡ ((a && s) || (b && r))
and_or a b r s e = both a b r ∙ ap (λ (v : Bool). (a && v) || (b && r)) (sym e)
  where
    both : (a b r : Bool) → ((a || b) && r) ≡ ((a && r) || (b && r))
    both true true true = refl
    both true true false = refl
    both true false true = refl
    both true false false = refl
    both false b r = refl

signal_at : (n : ℕ) (xs : List ℕ) (k z : ℕ) → list_all (λ x. nat_lt x n) xs ≡ true → k < length xs → get_or xs k z < n
signal_at n [] k z p h = absurd (omega arith)
signal_at n (x ∷ xs) zero z p h = ltb-true x n (and_parts (nat_lt x n) (list_all (λ x. nat_lt x n) xs) p).0
signal_at n (x ∷ xs) (suc k) z p h = signal_at n xs k z (and_parts (nat_lt x n) (list_all (λ x. nat_lt x n) xs) p).1 (omega arith)

-- a signal more
pub driven_more : (d : Design) (driver line node : ℕ) (signals : List ℕ) (k z : ℕ) {o a b : Net} {t : Todo} (e : Driven) → k < length signals → IsTrue (are_signals d signals) → IsNumber d o node
    → e ≡ record { signal = get_or signals k z; driver = driver; line = line; node = node } → b.rows ≡ a.rows → b.driven ≡ a.driven ++ e ∷ []
    → Goes d o a t (driven_todo d o driver line node (drop k signals)) → Goes d o b t (driven_todo d o driver line node (drop (k + 1) signals))
driven_more d driver line node signals k z {o} {a} {b} {t} e l all h is f g p =
    let x0 = get_or signals k z in
    let more = drop (k + 1) signals in
    let fresh : Driven = record { signal = x0; driver = driver; line = line; node = node } in
    let g2 : b.driven ≡ a.driven ++ fresh ∷ [] = g ∙ ap (λ (v : Driven). a.driven ++ v ∷ []) is in
    let q = one_driven d a b fresh p.net (signal_at (signals_of d) signals k z all l) (number_kept p.grows h) f g2 in
    goes_then (driven_todo d o driver line node more) (subst (λ (xs : List ℕ). Goes d o a t (driven_todo d o driver line node xs)) (next_item signals k z l) p) q refl
    (λ x y. and_or (nat_eq x0 x) (is_among x more) (net_reaches d o y node) (net_reaches d a y node) (p.grows.same y node h))

pub driven_done : (d : Design) (driver line node : ℕ) (signals : List ℕ) (k : ℕ) {o a : Net} {t : Todo} → length signals ≤ k → Goes d o a t (driven_todo d o driver line node (drop k signals)) → Adds d o a t
driven_done d driver line node signals k {o} {a} {t} l p = goes_done (subst (λ (xs : List ℕ). Goes d o a t (driven_todo d o driver line node xs)) (drop_all k signals l) p) refl (λ x y. refl)

-- ---- conditions

around_below : (d : Design) (a : Net) (o : Option ℕ) → IsAround d a o → row_below (signals_of d) (option_to_list o) (length a.rows) ≡ true
around_below d a None h = refl
around_below d a (Some j) h = below_one (signals_of d) j (length a.rows) h

around_hits : (d : Design) (a : Net) (o : Option ℕ) (y : ℕ) → row_hits (signals_of d) y (hits (signals_of d) a.rows y) (option_to_list o) ≡ above d a o y
around_hits d a None y = refl
around_hits d a (Some j) y = row_one (signals_of d) y (hits (signals_of d) a.rows y) j

-- the row of a condition
pub cond_below : (d : Design) (a : Net) (o : Option ℕ) (id : ExprId) (xs : List ℕ) → IsReady d a o → id.place < length d.exprs → row_below (signals_of d) xs (length a.rows) ≡ true
    → row_below (signals_of d) (xs ++ (signals_of d + id.place) ∷ [] ++ option_to_list o) (length a.rows) ≡ true
cond_below d a o id xs r l h = below_append (signals_of d) (xs ++ (signals_of d + id.place) ∷ []) (option_to_list o) (length a.rows) (number_below d a id xs r.stands l h) (around_below d a o r.within)

row_names : (d : Design) (a : Net) (o : Option ℕ) (id : ExprId) (xs : List ℕ) (y : ℕ) → IsReady d a o → id.place < length d.exprs
    → row_hits (signals_of d) y (hits (signals_of d) a.rows y) (xs ++ (signals_of d + id.place) ∷ [] ++ option_to_list o)
    ≡ ((row_hits (signals_of d) y (hits (signals_of d) a.rows y) xs || names (At y) (term d id.place)) || above d a o y)
row_names d a o id xs y r l =
    let f = hits (signals_of d) a.rows y in
    row_append (signals_of d) y f (xs ++ (signals_of d + id.place) ∷ []) (option_to_list o)
    ∙ ap (λ (v : Bool). v || row_hits (signals_of d) y f (option_to_list o)) (number_hit d a id y xs r.stands l)
    ∙ ap (λ (v : Bool). (row_hits (signals_of d) y f xs || names (At y) (term d id.place)) || v) (around_hits d a o y)

pub cond_added : (d : Design) (a b : Net) (id : ExprId) (under : Under) (row : List ℕ) (node : ℕ) → IsReady d a under.around → id.place < length d.exprs → row ≡ [] ++ (signals_of d + id.place) ∷ [] ++ option_to_list under.around
    → AddsRow d a b row node → AddsCond d a b id under (record { driver = under.driver; around = Some node })
cond_added d a b id under row node r l e p = record {
  goes = p.goes;
  driver = refl;
  around = p.there;
  names = λ y. p.hits y ∙ ap (row_hits (signals_of d) y (hits (signals_of d) a.rows y)) e ∙ row_names d a under.around id [] y r l;
}

-- ---- assignments

turned : (t n e a : Bool) → (t && ((n || e) || a)) ≡ (t && ((e || n) || a))
turned t true true a = refl
turned t true false a = refl
turned t false true a = refl
turned t false false a = refl

pub assign_added : (d : Design) (a m b : Net) (t : TargetId) (value : ExprId) (driver line : ℕ) (around : Option ℕ) (old parts : Parts) (row : List ℕ) (node : ℕ) → IsReady d a around → value.place < length d.exprs
    → old.signals ≡ [] → old.reads ≡ [] → AddsTarget d a old parts (target d t.place) → row ≡ parts.reads ++ (signals_of d + value.place) ∷ [] ++ option_to_list around
    → AddsRow d a m row node → Adds d m b (driven_todo d m driver line node parts.signals) → Adds d a b (assign_todo d driver (above d a around) t value line)
assign_added d a m b t value driver line around old parts row node r l e f p is q s =
    let all = p.signals ∙ ap (λ (xs : List ℕ). xs ++ target_signals (target d t.place)) e in
    let todo = assign_todo d driver (above d a around) t value line in
    goes_last (goes_beside (goes_start todo r.stands) q.goes) s
    (ap (map (driving driver line)) (sym all))
    (λ x y.
    let f_of = hits (signals_of d) a.rows y in
    let hit = q.hits y ∙ ap (row_hits (signals_of d) y f_of) is ∙ row_names d a around value parts.reads y r l ∙ ap (λ (v : Bool). (v || names (At y) (term d value.place)) || above d a around y) (p.reads y ∙ ap (λ (xs : List ℕ). row_hits (signals_of d) y f_of xs || target_names (At y) (target d t.place)) f) in
    sym (turned (is_target x (target d t.place)) (target_names (At y) (target d t.place)) (names (At y) (term d value.place)) (above d a around y))
    ∙ ap (λ (v : Bool). v && ((target_names (At y) (target d t.place) || names (At y) (term d value.place)) || above d a around y)) (sym (ap (is_among x) all ∙ signals_are x (target d t.place)))
    ∙ ap (λ (v : Bool). is_among x parts.signals && v) (sym hit))

-- ---- the start

pub start_is : (d : Design) (a : Net) → Keeps d → AreExprRows d (length d.exprs) a.rows → signals_of d + length d.exprs ≤ 2 ^ 64 → a.driven ≡ [] → IsStart d a
start_is d a keeps r l e = record {
  stands = record {
    keeps = keeps;
    lower = r.lower;
    fits = omega (arith, l, r.long);
    exprs = omega (arith, r.long);
    names = λ y k i. r.names y k i;
    nodes = λ k x i. absurd (none_there a.driven k x e i);
    there = λ k x i. absurd (none_there a.driven k x e i);
  };
  none = e;
}
  where
    none_there : (xs : List Driven) (k : ℕ) (x : Driven) → xs ≡ [] → slice_get xs k ≡ Some x → ⊥
    none_there [] k x e i = absurd (cc)
    none_there (y ∷ ys) k x e i = absurd (cc)
