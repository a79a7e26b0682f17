-- What targets add to an assignment.
use Rattle.std.proofs.Common.{◌≡◌, ℕ, ◌+◌, ◌<◌, ◌≤◌, Bool, true, false, ◌||◌, List, [], ◌∷◌, ◌++◌, Some, length, drop, get_or, refl, sym, ap, subst, ◌∙◌, arith, append_assoc, nat_lt}
use Rattle.std.specs.Prelude.{slice_get}
use Rattle.std.specs.List.{list_all}
use Rattle.std.proofs.Math.Bool.{or-false, or_assoc}
use Rattle.std.proofs.lemmas.Bool.{and_from, and_parts, lt-ltb}
use Rattle.std.proofs.lemmas.List.{append-nil, drop_all}
use Rattle.lx_circuit.specs.Places.{At}
use Rattle.lx_circuit.specs.Reads.{names, target_names, targets_name}
use Rattle.lx_circuit.specs.Statements as tree
use Rattle.lx_fhdl.specs.Below.{ExprId, TargetId}
use Rattle.lx_fhdl.specs.Designs.{target, term}
use Rattle.lx_fhdl.specs.Stmts.{targets_at}
use Rattle.lx_fhdl.specs.declared.design.Design.{Design}
use Rattle.lx_fhdl.specs.declared.exprs.SigId.{SigId}
use Rattle.lx_fhdl.specs.declared.stmts.Target.TheVariants as node
use Rattle.lx_fhdl.proofs.Drafts.{target_is}
use Rattle.lx_reads.specs.Drivings.{target_signals, targets_signals}
use Rattle.lx_reads.specs.Net.{IsNet, hits, row_below, row_hits, signals_of}
use Rattle.lx_reads.specs.Targets.{AddsTarget, AddsTargets, reads_hit}
use Rattle.lx_reads.specs.declared.net.Net.{Net}
use Rattle.lx_reads.specs.declared.targets.Parts.{Parts}
use Rattle.lx_reads.proofs.Hits.{below_append, below_one, link_inner, row_append, row_one}
use Rattle.lx_reads.proofs.Items.{next_item}

all_append : (n : ℕ) (xs ys : List ℕ) → list_all (λ x. nat_lt x n) xs ≡ true → list_all (λ x. nat_lt x n) ys ≡ true → list_all (λ x. nat_lt x n) (xs ++ ys) ≡ true
all_append n [] ys h g = g
all_append n (x ∷ xs) ys h g = let p = and_parts (nat_lt x n) (list_all (λ x. nat_lt x n) xs) h in and_from (nat_lt x n) (list_all (λ x. nat_lt x n) (xs ++ ys)) p.0 (all_append n xs ys p.1 g)

-- some of the targets are added, and these are left
pub record GoesTargets (d : Design) (net : Net) (old new : Parts) (before after : tree.Targets) : Type 0 where
  pub signals : new.signals ++ targets_signals after ≡ old.signals ++ targets_signals before
  pub there : list_all (λ x. nat_lt x (signals_of d)) (targets_signals after) ≡ true → list_all (λ x. nat_lt x (signals_of d)) (targets_signals before) ≡ true
  pub reads : (y : ℕ) → (reads_hit d net y new || targets_name (At y) after) ≡ (reads_hit d net y old || targets_name (At y) before)
  pub below : row_below (signals_of d) old.reads (length net.rows) ≡ true → row_below (signals_of d) new.reads (length net.rows) ≡ true

pub targets_start : (d : Design) (net : Net) (a : Parts) (ts : tree.Targets) → GoesTargets d net a a ts ts
targets_start d net a ts = record { signals = refl; there = λ h. h; reads = λ y. refl; below = λ h. h }

targets_then : (d : Design) (net : Net) (a b c : Parts) (us : tree.Targets) (t : tree.Target) (ts : tree.Targets) → GoesTargets d net a b us (tree.MoreTargets t ts) → AddsTarget d net b c t → GoesTargets d net a c us ts
targets_then d net a b c us t ts p q = record {
  signals = ap (λ (xs : List ℕ). xs ++ targets_signals ts) q.signals ∙ append_assoc b.signals (target_signals t) (targets_signals ts) ∙ p.signals;
  there = λ h. p.there (all_append (signals_of d) (target_signals t) (targets_signals ts) q.there h);
  reads = λ y. ap (λ (z : Bool). z || targets_name (At y) ts) (q.reads y) ∙ or_assoc (reads_hit d net y b) (target_names (At y) t) (targets_name (At y) ts) ∙ p.reads y;
  below = λ h. q.below (p.below h);
}

pub targets_more : (d : Design) (net : Net) (g : ℕ → tree.Target) (ids : List TargetId) (k : ℕ) (z : TargetId) (a b c : Parts) (us : tree.Targets) → k < length ids
    → GoesTargets d net a b us (targets_at g (drop k ids)) → AddsTarget d net b c (g (get_or ids k z).place) → GoesTargets d net a c us (targets_at g (drop (k + 1) ids))
targets_more d net g ids k z a b c us l p q =
    targets_then d net a b c us (g (get_or ids k z).place) (targets_at g (drop (k + 1) ids)) (subst (λ (is : List TargetId). GoesTargets d net a b us (targets_at g is)) (next_item ids k z l) p) q

pub targets_done : (d : Design) (net : Net) (g : ℕ → tree.Target) (ids : List TargetId) (k : ℕ) (a b : Parts) (us : tree.Targets) → length ids ≤ k → GoesTargets d net a b us (targets_at g (drop k ids)) → AddsTargets d net a b us
targets_done d net g ids k a b us l p =
    let q = subst (λ (is : List TargetId). GoesTargets d net a b us (targets_at g is)) (drop_all k ids l) p in
    record {
      signals = sym (append-nil b.signals) ∙ q.signals;
      there = q.there refl;
      reads = λ y. sym (or-false (reads_hit d net y b)) ∙ q.reads y;
      below = q.below;
    }

-- ---- one target

-- a signal, or a part of one
pub signal_added : (d : Design) (net : Net) (a b : Parts) (x : ℕ) (t : tree.Target) → x < signals_of d → b.signals ≡ a.signals ++ x ∷ [] → b.reads ≡ a.reads → target_signals t ≡ x ∷ [] → ((y : ℕ) → target_names (At y) t ≡ false) → AddsTarget d net a b t
signal_added d net a b x t l e f g h = record {
  signals = e ∙ ap (λ (xs : List ℕ). a.signals ++ xs) (sym g);
  there = subst (λ (xs : List ℕ). list_all (λ x. nat_lt x (signals_of d)) xs ≡ true) (sym g) (and_from (nat_lt x (signals_of d)) true (lt-ltb x (signals_of d) l) refl);
  reads = λ y. ap (row_hits (signals_of d) y (hits (signals_of d) net.rows y)) f ∙ sym (or-false (reads_hit d net y a)) ∙ ap (λ (z : Bool). reads_hit d net y a || z) (sym (h y));
  below = λ p. subst (λ (xs : List ℕ). row_below (signals_of d) xs (length net.rows) ≡ true) (sym f) p;
}

pub targets_as : (d : Design) (net : Net) (a b : Parts) (ts : tree.Targets) (t : tree.Target) → target_signals t ≡ targets_signals ts → ((y : ℕ) → target_names (At y) t ≡ targets_name (At y) ts) → AddsTargets d net a b ts → AddsTarget d net a b t
targets_as d net a b ts t e f p = record {
  signals = p.signals ∙ ap (λ (xs : List ℕ). a.signals ++ xs) (sym e);
  there = subst (λ (xs : List ℕ). list_all (λ x. nat_lt x (signals_of d)) xs ≡ true) (sym e) p.there;
  reads = λ y. p.reads y ∙ ap (λ (z : Bool). reads_hit d net y a || z) (sym (f y));
  below = p.below;
}

or_swap : (a b c : Bool) → ((a || b) || c) ≡ (a || (c || b))
or_swap true b c = refl
or_swap false true true = refl
or_swap false true false = refl
or_swap false false true = refl
or_swap false false false = refl

-- a row with the number of an expression more
pub number_hit : (d : Design) (net : Net) (id : ExprId) (y : ℕ) (xs : List ℕ) → IsNet d net → id.place < length d.exprs
    → row_hits (signals_of d) y (hits (signals_of d) net.rows y) (xs ++ (signals_of d + id.place) ∷ []) ≡ (row_hits (signals_of d) y (hits (signals_of d) net.rows y) xs || names (At y) (term d id.place))
number_hit d net id y xs n l =
    let f = hits (signals_of d) net.rows y in
    row_append (signals_of d) y f xs ((signals_of d + id.place) ∷ [])
    ∙ ap (λ (z : Bool). row_hits (signals_of d) y f xs || z) (row_one (signals_of d) y f (signals_of d + id.place) ∙ link_inner (signals_of d) y f id.place ∙ n.names y id.place l)

pub number_below : (d : Design) (net : Net) (id : ExprId) (xs : List ℕ) → IsNet d net → id.place < length d.exprs
    → row_below (signals_of d) xs (length net.rows) ≡ true → row_below (signals_of d) (xs ++ (signals_of d + id.place) ∷ []) (length net.rows) ≡ true
number_below d net id xs n l h = below_append (signals_of d) xs ((signals_of d + id.place) ∷ []) (length net.rows) h (below_one (signals_of d) (signals_of d + id.place) (length net.rows) (omega (arith, l, n.exprs)))

-- items, after their index
pub pick_added : (d : Design) (net : Net) (a m b : Parts) (items : tree.Targets) (index : ExprId) → IsNet d net → index.place < length d.exprs
    → m.signals ≡ a.signals → m.reads ≡ a.reads ++ (signals_of d + index.place) ∷ [] → AddsTargets d net m b items → AddsTarget d net a b (tree.PickTarget items (term d index.place))
pick_added d net a m b items index n l e f p =
    let n_of = signals_of d in
    record {
      signals = p.signals ∙ ap (λ (xs : List ℕ). xs ++ targets_signals items) e;
      there = p.there;
      reads = λ y.
          p.reads y
          ∙ ap (λ (z : Bool). z || targets_name (At y) items) (ap (row_hits n_of y (hits n_of net.rows y)) f ∙ number_hit d net index y a.reads n l)
          ∙ or_swap (reads_hit d net y a) (names (At y) (term d index.place)) (targets_name (At y) items);
      below = λ h. p.below (subst (λ (xs : List ℕ). row_below n_of xs (length net.rows) ≡ true) (sym f) (number_below d net index a.reads n l h));
    }

-- ---- the target at a place

pub whole_added : (d : Design) (net : Net) (a b : Parts) (k : ℕ) (x : SigId) → IsNet d net → slice_get d.targets k ≡ Some (node.Whole x) → b.signals ≡ a.signals ++ x.0 ∷ [] → b.reads ≡ a.reads → AddsTarget d net a b (target d k)
whole_added d net a b k x n e f g =
    let is = target_is d k (node.Whole x) n.keeps.arenas.targets_lower e in
    signal_added d net a b x.0 (target d k) (n.keeps.arenas.targets k (node.Whole x) e) f g (ap target_signals is) (λ y. ap (target_names (At y)) is)

pub part_added : (d : Design) (net : Net) (a b : Parts) (k : ℕ) (x : SigId) (low len : ℕ) → IsNet d net → slice_get d.targets k ≡ Some (node.Part x low len) → b.signals ≡ a.signals ++ x.0 ∷ [] → b.reads ≡ a.reads → AddsTarget d net a b (target d k)
part_added d net a b k x low len n e f g =
    let is = target_is d k (node.Part x low len) n.keeps.arenas.targets_lower e in
    signal_added d net a b x.0 (target d k) (n.keeps.arenas.targets k (node.Part x low len) e).0 f g (ap target_signals is) (λ y. ap (target_names (At y)) is)

pub cat_added : (d : Design) (net : Net) (a b : Parts) (k : ℕ) (parts : List TargetId) → IsNet d net → slice_get d.targets k ≡ Some (node.Cat parts) → AddsTargets d net a b (targets_at (target d) parts) → AddsTarget d net a b (target d k)
cat_added d net a b k parts n e p =
    let is = target_is d k (node.Cat parts) n.keeps.arenas.targets_lower e in
    targets_as d net a b (targets_at (target d) parts) (target d k) (ap target_signals is) (λ y. ap (target_names (At y)) is) p

pub items_added : (d : Design) (net : Net) (a m b : Parts) (k : ℕ) (items : List TargetId) (index : ExprId) → IsNet d net → slice_get d.targets k ≡ Some (node.Pick items index)
    → m.signals ≡ a.signals → m.reads ≡ a.reads ++ (signals_of d + index.place) ∷ [] → AddsTargets d net m b (targets_at (target d) items) → AddsTarget d net a b (target d k)
items_added d net a m b k items index n e f g p =
    let is = target_is d k (node.Pick items index) n.keeps.arenas.targets_lower e in
    let there = (n.keeps.arenas.targets k (node.Pick items index) e).1 in
    subst (AddsTarget d net a b) (sym is) (pick_added d net a m b (targets_at (target d) items) index n there f g p)

pub index_fits : (d : Design) (net : Net) (k : ℕ) (items : List TargetId) (index : ExprId) → IsNet d net → slice_get d.targets k ≡ Some (node.Pick items index) → index.place < length d.exprs
index_fits d net k items index n e = (n.keeps.arenas.targets k (node.Pick items index) e).1
