-- Nets that grow, and what is left to be added to them.
use Rattle.std.proofs.Common.{◌≡◌, ℕ, Bool, false, ◌||◌, List, [], ◌++◌, Option, Some, None, refl, sym, ap, ◌∙◌, arith, append_assoc}
use Rattle.std.proofs.Math.Bool.{or-false, or_assoc}
use Rattle.std.proofs.lemmas.List.{append-nil}
use Rattle.lx_fhdl.specs.declared.design.Design.{Design}
use Rattle.lx_reads.specs.Drivings.{Driving}
use Rattle.lx_reads.specs.Net.{Adds, Goes, IsAround, IsNet, IsNumber, NetGrows, Todo, above, net_drivings, net_reads, nothing}
use Rattle.lx_reads.specs.declared.net.Net.{Net}

pub grows_same : (d : Design) (a : Net) → NetGrows d a a
grows_same d a = record { longer = omega arith; same = λ y j l. refl }

pub number_kept : {d : Design} {a b : Net} {j : ℕ} → NetGrows d a b → IsNumber d a j → IsNumber d b j
number_kept g l = omega (arith, l, g.longer)

pub grows_then : {d : Design} {a b c : Net} → NetGrows d a b → NetGrows d b c → NetGrows d a c
grows_then {d} {a} {b} {c} g h = record { longer = omega (arith, g.longer, h.longer); same = λ y j l. h.same y j (number_kept g l) ∙ g.same y j l }

pub around_kept : {d : Design} {a b : Net} (o : Option ℕ) → NetGrows d a b → IsAround d a o → IsAround d b o
around_kept None g h = tt
around_kept (Some j) g h = number_kept g h

pub above_kept : {d : Design} {a b : Net} (o : Option ℕ) → NetGrows d a b → IsAround d a o → (y : ℕ) → above d b o y ≡ above d a o y
above_kept None g h y = refl
above_kept (Some j) g h y = g.same y j h

-- ---- what is left

pub goes_start : {d : Design} {a : Net} (t : Todo) → IsNet d a → Goes d a a t t
goes_start {d} {a} t n = record { net = n; grows = grows_same d a; drivings = refl; reads = λ x y. refl }

all_drivings : {d : Design} {a b : Net} {t : Todo} → Adds d a b t → net_drivings b ≡ net_drivings a ++ t.drivings
all_drivings {b = b} p = sym (append-nil (net_drivings b)) ∙ p.drivings

all_reads : {d : Design} {a b : Net} {t : Todo} → Adds d a b t → (x y : ℕ) → net_reads d b x y ≡ (net_reads d a x y || t.reads x y)
all_reads {d} {b = b} p x y = sym (or-false (net_reads d b x y)) ∙ p.reads x y

-- a part of what is left is added
pub goes_then : {d : Design} {a b c : Net} {t u v : Todo} (w : Todo) → Goes d a b t u → Adds d b c v → u.drivings ≡ v.drivings ++ w.drivings → ((x y : ℕ) → u.reads x y ≡ (v.reads x y || w.reads x y)) → Goes d a c t w
goes_then {d} {a} {b} {c} {t} {u} {v} w p q e f = record {
  net = q.net;
  grows = grows_then p.grows q.grows;
  drivings =
      ap (λ (xs : List Driving). xs ++ w.drivings) (all_drivings q)
      ∙ append_assoc (net_drivings b) v.drivings w.drivings
      ∙ ap (λ (xs : List Driving). net_drivings b ++ xs) (sym e)
      ∙ p.drivings;
  reads = λ x y.
      ap (λ (z : Bool). z || w.reads x y) (all_reads q x y)
      ∙ or_assoc (net_reads d b x y) (v.reads x y) (w.reads x y)
      ∙ ap (λ (z : Bool). net_reads d b x y || z) (sym (f x y))
      ∙ p.reads x y;
}

-- all of it is
pub goes_last : {d : Design} {a b c : Net} {t u v : Todo} → Goes d a b t u → Adds d b c v → u.drivings ≡ v.drivings → ((x y : ℕ) → u.reads x y ≡ v.reads x y) → Adds d a c t
goes_last {v = v} p q e f = goes_then nothing p q (e ∙ sym (append-nil v.drivings)) (λ x y. f x y ∙ sym (or-false (v.reads x y)))

-- what grows beside leaves it
pub goes_beside : {d : Design} {a b c : Net} {t u : Todo} → Goes d a b t u → Adds d b c nothing → Goes d a c t u
goes_beside {u = u} p q = goes_then u p q refl (λ x y. refl)

pub goes_done : {d : Design} {a b : Net} {t u : Todo} → Goes d a b t u → u.drivings ≡ [] → ((x y : ℕ) → u.reads x y ≡ false) → Adds d a b t
goes_done {d} {a} {b} {t} {u} p e f = record {
  net = p.net;
  grows = p.grows;
  drivings = ap (λ (xs : List Driving). net_drivings b ++ xs) (sym e) ∙ p.drivings;
  reads = λ x y. ap (λ (z : Bool). net_reads d b x y || z) (sym (f x y)) ∙ p.reads x y;
}

-- the same, said otherwise
pub adds_as : {d : Design} {a b : Net} {t u : Todo} → Adds d a b t → u.drivings ≡ t.drivings → ((x y : ℕ) → u.reads x y ≡ t.reads x y) → Adds d a b u
adds_as {d} {a} {b} {t} {u} p e f = record {
  net = p.net;
  grows = p.grows;
  drivings = p.drivings ∙ ap (λ (xs : List Driving). net_drivings a ++ xs) (sym e);
  reads = λ x y. p.reads x y ∙ ap (λ (z : Bool). net_reads d a x y || z) (sym (f x y));
}
