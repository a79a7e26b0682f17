-- The net of a whole design.
use Rattle.std.proofs.Common.{◌≡◌, ℕ, ◌+◌, ◌<◌, ◌≤◌, Bool, true, false, ◌||◌, ◌&&◌, List, [], ◌∷◌, ◌++◌, None, length, drop, get_or, map, refl, sym, ap, ◌∙◌, arith, append_assoc, nat_eq}
use Rattle.std.specs.Prelude.{if◌then◌else◌}
use Rattle.std.specs.List.{list_any}
use Rattle.std.proofs.Math.Bool.{or-false}
use Rattle.std.proofs.lemmas.Bool.{and_right}
use Rattle.std.proofs.lemmas.List.{append-nil, drop_all}
use Rattle.lx_circuit.specs.Places.{At}
use Rattle.lx_circuit.specs.Reads.{reads_block}
use Rattle.lx_circuit.specs.Statements.{drives_block}
use Rattle.lx_fhdl.specs.Below.{StmtId}
use Rattle.lx_fhdl.specs.Designs.{block, stmts_of}
use Rattle.lx_fhdl.specs.declared.design.Design.{Design}
use Rattle.lx_fhdl.specs.declared.design.Domain.{Domain}
use Rattle.lx_fhdl.specs.declared.design.SyncPart.{SyncPart}
use Rattle.lx_reads.specs.Drivings.{Driving, domains_drivings, drivings_at, drivings_in, drivings_of}
use Rattle.lx_reads.specs.Net.{Adds, IsNet, above, driven_reads, driving_of, net_drivings, net_reads}
use Rattle.lx_reads.specs.Walks.{IsStart, block_todo}
use Rattle.lx_reads.specs.Whole.{Drives, IsCombNet}
use Rattle.lx_reads.specs.declared.net.Driven.{Driven}
use Rattle.lx_reads.specs.declared.net.Net.{Net}
use Rattle.lx_reads.proofs.Items.{next_item}

none_read : (d : Design) (a : Net) (x y : ℕ) → a.driven ≡ [] → net_reads d a x y ≡ false
unfolding net_reads
none_read d a x y e = ap (list_any (driven_reads d a x y)) e

pub comb_is : (d : Design) (a b : Net) → IsStart d a → Adds d a b (block_todo d 0 (above d a None) d.comb) → IsCombNet d b
comb_is d a b s p = record {
  stands = p.net;
  drivings = sym (append-nil (net_drivings b)) ∙ p.drivings ∙ ap (λ (xs : List Driven). map driving_of xs ++ drivings_of d 0 d.comb) s.none;
  reads = λ x y.
      sym (or-false (net_reads d b x y)) ∙ p.reads x y
      ∙ ap (λ (v : Bool). v || (reads_block x (At y) (block d d.comb) || (drives_block x (block d d.comb) && false))) (none_read d a x y s.none)
      ∙ ap (λ (v : Bool). reads_block x (At y) (block d d.comb) || v) (and_right (drives_block x (block d d.comb)) false refl)
      ∙ or-false (reads_block x (At y) (block d d.comb));
}

-- ---- domains

pub walk_drives : (d : Design) (a b : Net) (driver : ℕ) (ids : List StmtId) → Adds d a b (block_todo d driver (above d a None) ids) → Drives d a b (drivings_of d driver ids)
walk_drives d a b driver ids p = record { stands = p.net; drivings = sym (append-nil (net_drivings b)) ∙ p.drivings }

pub drives_none : (d : Design) (a : Net) → IsNet d a → Drives d a a []
drives_none d a n = record { stands = n; drivings = sym (append-nil (net_drivings a)) }

in_append : (f : ℕ → List Driving) (xs ys : List StmtId) → drivings_in f (xs ++ ys) ≡ drivings_in f xs ++ drivings_in f ys
in_append f [] ys = refl
in_append f (x ∷ xs) ys = ap (λ (v : List Driving). f x.place ++ v) (in_append f xs ys) ∙ sym (append_assoc (f x.place) (drivings_in f xs) (drivings_in f ys))

abbrev part_drivings : Design → ℕ → SyncPart → List Driving
part_drivings d k p = if nat_eq p.domain k then drivings_of d (k + 1) p.stmts else []

part_more : (d : Design) (k : ℕ) (p : SyncPart) (ps : List SyncPart) → drivings_of d (k + 1) (stmts_of k (p ∷ ps)) ≡ part_drivings d k p ++ drivings_of d (k + 1) (stmts_of k ps)
part_more d k p ps = by_answer (nat_eq p.domain k)
  where
    by_answer : (b : Bool) → drivings_of d (k + 1) (if b then p.stmts ++ stmts_of k ps else stmts_of k ps) ≡ (if b then drivings_of d (k + 1) p.stmts else []) ++ drivings_of d (k + 1) (stmts_of k ps)
    by_answer true = in_append (drivings_at d (k + 1)) p.stmts (stmts_of k ps)
    by_answer false = refl

-- of what a list drives this is left
pub record DrivesTo (d : Design) (old new : Net) (before after : List Driving) : Type 0 where
  pub stands : IsNet d new
  pub drivings : net_drivings new ++ after ≡ net_drivings old ++ before

pub to_start : (d : Design) (a : Net) (t : List Driving) → IsNet d a → DrivesTo d a a t t
to_start d a t n = record { stands = n; drivings = refl }

to_then : (d : Design) (o a b : Net) (t u v w : List Driving) → DrivesTo d o a t u → u ≡ v ++ w → Drives d a b v → DrivesTo d o b t w
to_then d o a b t u v w p e q = record {
  stands = q.stands;
  drivings = ap (λ (xs : List Driving). xs ++ w) q.drivings ∙ append_assoc (net_drivings a) v w ∙ ap (λ (xs : List Driving). net_drivings a ++ xs) (sym e) ∙ p.drivings;
}

to_done : (d : Design) (o a : Net) (t u : List Driving) → DrivesTo d o a t u → u ≡ [] → Drives d o a t
to_done d o a t u p e = record { stands = p.stands; drivings = sym (append-nil (net_drivings a)) ∙ ap (λ (xs : List Driving). net_drivings a ++ xs) (sym e) ∙ p.drivings }

pub parts_more : (d : Design) (k : ℕ) (ps : List SyncPart) (i : ℕ) (p : SyncPart) (o a b : Net) (t : List Driving) → i < length ps → p ≡ get_or ps i p
    → DrivesTo d o a t (drivings_of d (k + 1) (stmts_of k (drop i ps))) → Drives d a b (part_drivings d k p) → DrivesTo d o b t (drivings_of d (k + 1) (stmts_of k (drop (i + 1) ps)))
parts_more d k ps i p o a b t l is q r =
    let more = drop (i + 1) ps in
    to_then d o a b t (drivings_of d (k + 1) (stmts_of k (drop i ps))) (part_drivings d k p) (drivings_of d (k + 1) (stmts_of k more)) q
    (ap (λ (xs : List SyncPart). drivings_of d (k + 1) (stmts_of k xs)) (next_item ps i p l ∙ ap (λ (v : SyncPart). v ∷ more) (sym is)) ∙ part_more d k p more) r

pub parts_done : (d : Design) (k : ℕ) (ps : List SyncPart) (i : ℕ) (o a : Net) (t : List Driving) → length ps ≤ i → DrivesTo d o a t (drivings_of d (k + 1) (stmts_of k (drop i ps))) → Drives d o a t
parts_done d k ps i o a t l p = to_done d o a t (drivings_of d (k + 1) (stmts_of k (drop i ps))) p (ap (λ (xs : List SyncPart). drivings_of d (k + 1) (stmts_of k xs)) (drop_all i ps l))

some_domain : {X : Type 0} (xs : List X) (k : ℕ) → k < length xs → X
some_domain [] k l = absurd (omega arith)
some_domain (x ∷ xs) k l = x

pub domains_more : (d : Design) (k : ℕ) (xs : List Domain) (o a b : Net) (t : List Driving) → k < length xs
    → DrivesTo d o a t (domains_drivings d k (drop k xs)) → Drives d a b (drivings_of d (k + 1) (stmts_of k d.sync)) → DrivesTo d o b t (domains_drivings d (k + 1) (drop (k + 1) xs))
domains_more d k xs o a b t l q r =
    to_then d o a b t (domains_drivings d k (drop k xs)) (drivings_of d (k + 1) (stmts_of k d.sync)) (domains_drivings d (k + 1) (drop (k + 1) xs)) q
    (ap (domains_drivings d k) (next_item xs k (some_domain xs k l) l)) r

pub domains_done : (d : Design) (k : ℕ) (xs : List Domain) (o a : Net) (t : List Driving) → length xs ≤ k → DrivesTo d o a t (domains_drivings d k (drop k xs)) → Drives d o a t
domains_done d k xs o a t l p = to_done d o a t (domains_drivings d k (drop k xs)) p (ap (domains_drivings d k) (drop_all k xs l))
