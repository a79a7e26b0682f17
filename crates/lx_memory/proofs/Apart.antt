-- Designs whose ports show alone.
use Rattle.std.proofs.Common.{◌≡◌, ℕ, zero, suc, ◌+◌, ◌<◌, Bool, true, false, ◌&&◌, ◌||◌, not, List, [], ◌∷◌, ◌++◌, Option, Some, None, cond, get_or, take, length, map, refl, sym, ap, subst, ◌∙◌, arith, nat_eq}
use Rattle.std.specs.Prelude.{IfSome, option_map, slice_get, slice_index_or, slice_set}
use Rattle.std.specs.List.{list_any}
use Rattle.std.proofs.Math.Bool.{or-false, or-true, or_assoc}
use Rattle.std.proofs.lemmas.Bool.{and_parts, eq-eqb, eqb-true, false_from_ne_true, not-true, or_from, or_parts, true≢false}
use Rattle.std.proofs.lemmas.Grind.{get_or-set_at}
use Rattle.std.proofs.lemmas.List.Folds.{list_any_at, list_any_more}
use Rattle.std.proofs.lemmas.Option.{get_or_from_slice_get}
use Rattle.std.proofs.lemmas.List.{get_or-set_other, length-set, take_more}
use Rattle.lx_circuit.specs.Circuit as circuit
use Rattle.lx_circuit.specs.Circuit.{Circuit, Role, is_named, no_port, port_at, read_role, role, sync_role}
use Rattle.lx_circuit.specs.Statements.{drives_block}
use Rattle.lx_circuit.proofs.Cases.{by_test}
use Rattle.lx_fhdl.specs.Designs.{block, circuit_of, domains_from, memory_at, port_of, signal_number, stmts_of}
use Rattle.lx_fhdl.specs.Keeping.{EachOf, IsPort, IsUnsigned, Keeps}
use Rattle.lx_fhdl.specs.declared.design.Design.{Design}
use Rattle.lx_fhdl.specs.declared.design.Domain.{Domain}
use Rattle.lx_fhdl.specs.declared.design.Port.{Port}
use Rattle.lx_fhdl.specs.declared.exprs.SigId.{SigId}
use Rattle.lx_lower.proofs.FromKeeps.{sync_below}
use Rattle.lx_reads.specs.Drivings.{Driving, domains_drivings, drivings, drivings_of}
use Rattle.lx_reads.specs.Net.{driving_of}
use Rattle.lx_reads.specs.Whole.{Drives, IsCombNet}
use Rattle.lx_reads.specs.declared.net.Driven.{Driven}
use Rattle.lx_reads.specs.declared.net.Net.{Net}
use Rattle.lx_reads.proofs.Driven.{block_drives, some_append, some_drive}
use Rattle.lx_memory.specs.Alone.{AreShown, are_apart, drive_some, is_shown, is_shown_too, mark_of, shows_alone, with_mark}
use Rattle.lx_memory.specs.Lowers.{ShowAlone}

-- ---- one port more

-- the port's signal
abbrev number_of : Port → Option ℕ
number_of q = option_map signal_number q.dat_r

shown_more : (x : ℕ) (qs : List Port) (q : Port) → is_shown x (qs ++ q ∷ []) ≡ (is_shown x qs || is_named x (number_of q))
shown_more x [] q = or-false (is_named x (number_of q))
shown_more x (p ∷ ps) q = ap (λ (b : Bool). is_named x (number_of p) || b) (shown_more x ps q) ∙ sym (or_assoc (is_named x (number_of p)) (is_shown x ps) (is_named x (number_of q)))

-- the number that a signal has is that of another
abbrev same_number : Option SigId → Option SigId → Bool
same_number None p = false
same_number (Some x) p = is_named x.0 (option_map signal_number p)

too_more : (o : Option SigId) (qs : List Port) (q : Port) → is_shown_too (qs ++ q ∷ []) o ≡ (is_shown_too qs o || same_number o q.dat_r)
too_more None qs q = refl
too_more (Some x) qs q = shown_more x.0 qs q

too_first : (o : Option SigId) (p : Port) (ps : List Port) → is_shown_too (p ∷ ps) o ≡ (same_number o p.dat_r || is_shown_too ps o)
too_first None p ps = refl
too_first (Some x) p ps = refl

same_either : (a b : ℕ) → nat_eq a b ≡ nat_eq b a
same_either a b =
    by_test (nat_eq a b)
    (λ t. t ∙ sym (eq-eqb b a (sym (eqb-true a b t))))
    (λ t. t ∙ sym (false_from_ne_true (nat_eq b a) (λ s. true≢false (sym (eq-eqb a b (sym (eqb-true b a s))) ∙ t))))

number_either : (o p : Option SigId) → same_number o p ≡ same_number p o
number_either None None = refl
number_either None (Some y) = refl
number_either (Some x) None = refl
number_either (Some x) (Some y) = same_either y.0 x.0

too_none : (o : Option SigId) → is_shown_too [] o ≡ false
too_none None = refl
too_none (Some x) = refl

-- one more is apart where the others are, and its signal is none of theirs
apart_more : (qs : List Port) (q : Port) → are_apart (qs ++ q ∷ []) ≡ (are_apart qs && not (is_shown_too qs q.dat_r))
apart_more [] q = ap (λ (b : Bool). not b && true) (too_none q.dat_r) ∙ sym (ap not (too_none q.dat_r))
apart_more (p ∷ ps) q =
    ap (λ (b : Bool). not b && are_apart (ps ++ q ∷ [])) (too_more p.dat_r ps q)
    ∙ ap (λ (b : Bool). not (is_shown_too ps p.dat_r || same_number p.dat_r q.dat_r) && b) (apart_more ps q)
    ∙ joined (is_shown_too ps p.dat_r) (same_number p.dat_r q.dat_r) (are_apart ps) (is_shown_too ps q.dat_r)
    ∙ ap (λ (b : Bool). (not (is_shown_too ps p.dat_r) && are_apart ps) && not (b || is_shown_too ps q.dat_r)) (number_either p.dat_r q.dat_r)
    ∙ sym (ap (λ (b : Bool). (not (is_shown_too ps p.dat_r) && are_apart ps) && not b) (too_first q.dat_r p ps))
  where
    joined : (a m b t : Bool) → (not (a || m) && (b && not t)) ≡ ((not a && b) && not (m || t))
    joined true m b t = refl
    joined false true true t = refl
    joined false true false t = refl
    joined false false b t = refl

-- ---- marks

marked : (n : ℕ) (marks : List Bool) (qs : List Port) (q : Port) (o : Option SigId) → q.dat_r ≡ o → IfSome o (λ x. x.0 < length marks) → AreShown n qs marks → AreShown n (qs ++ q ∷ []) (with_mark marks o)
marked n marks qs q None e l h = record {
  long = h.long;
  each = λ x. h.each x ∙ (sym (or-false (is_shown x qs)) ∙ (ap (λ (o : Option SigId). is_shown x qs || is_named x (option_map signal_number o)) (sym e) ∙ sym (shown_more x qs q)));
}
marked n marks qs q (Some y) e l h = record {
  long = length-set marks y.0 true ∙ h.long;
  each = λ x. at x (nat_eq y.0 x) refl ∙ (ap (λ (o : Option SigId). is_shown x qs || is_named x (option_map signal_number o)) (sym e) ∙ sym (shown_more x qs q));
}
  where
    at : (x : ℕ) (t : Bool) → nat_eq y.0 x ≡ t → slice_index_or (slice_set marks y.0 true) x false ≡ (is_shown x qs || nat_eq y.0 x)
    at x true t = get_or-set_at marks y.0 x true false (sym (eqb-true y.0 x t)) l ∙ (sym (or-true (is_shown x qs)) ∙ ap (λ (b : Bool). is_shown x qs || b) (sym t))
    at x false t =
        get_or-set_other marks y.0 x true false (λ s. true≢false (sym (eq-eqb y.0 x (sym s)) ∙ t))
        ∙ (h.each x ∙ (sym (or-false (is_shown x qs)) ∙ ap (λ (b : Bool). is_shown x qs || b) (sym t)))

mark_is : (n : ℕ) (marks : List Bool) (qs : List Port) (o : Option SigId) → AreShown n qs marks → mark_of marks o ≡ is_shown_too qs o
mark_is n marks qs None h = refl
mark_is n marks qs (Some x) h = h.each x.0

-- the first k ports are marked, and are apart or not
pub record Marked (n : ℕ) (qs : List Port) (k : ℕ) (marks : List Bool) (test : Bool) : Type 0 where
  pub shown : AreShown n (take k qs) marks
  pub apart : test ≡ are_apart (take k qs)

pub mark_next : (n : ℕ) (qs : List Port) (k : ℕ) (z : Port) (marks new : List Bool) (apart was : Bool) → k < length qs → IfSome (get_or qs k z).dat_r (λ x. x.0 < length marks)
    → was ≡ mark_of marks (get_or qs k z).dat_r → new ≡ with_mark marks (get_or qs k z).dat_r → Marked n qs k marks apart → Marked n qs (k + 1) new (apart && not was)
mark_next n qs k z marks new apart was l there w e h =
    let q = get_or qs k z in
    let more : take (k + 1) qs ≡ take k qs ++ q ∷ [] = take_more qs k z l in
    record {
      shown = subst (λ (ps : List Port). AreShown n ps new) (sym more) (subst (AreShown n (take k qs ++ q ∷ [])) (sym e) (marked n marks (take k qs) q q.dat_r refl there h.shown));
      apart =
          ap (λ (b : Bool). b && not was) h.apart
          ∙ ap (λ (b : Bool). are_apart (take k qs) && not b) (w ∙ mark_is n marks (take k qs) q.dat_r h.shown)
          ∙ sym (apart_more (take k qs) q)
          ∙ ap are_apart (sym more);
    }

-- the signals that ports show are there
shown_there : (d : Design) (q : Port) (o : Option SigId) → q.dat_r ≡ o → IsPort d q → IfSome o (λ x. x.0 < length d.signals)
shown_there d q None e h = tt
shown_there d q (Some x) e h = (subst (λ (o : Option SigId). IfSome o (IsUnsigned d (memory_at d q.memory).width)) e h.dat_r).there

each_get : (d : Design) (qs : List Port) (k : ℕ) (z : Port) → EachOf (IsPort d) qs → k < length qs → IsPort d (get_or qs k z)
each_get d [] k z h l = absurd (omega arith)
each_get d (p ∷ ps) zero z h l = h.0
each_get d (p ∷ ps) (suc k) z h l = each_get d ps k z h.1 (omega arith)

pub port_shown : (d : Design) (qs : List Port) (k n : ℕ) (z : Port) → Keeps d → qs ≡ d.ports → n ≡ length d.signals → k < length qs → IfSome (get_or qs k z).dat_r (λ x. x.0 < n)
port_shown d qs k n z keeps same m l =
    let q = get_or qs k z in
    subst (λ (y : ℕ). IfSome q.dat_r (λ x. x.0 < y)) (sym m) (shown_there d q q.dat_r refl (each_get d qs k z (subst (EachOf (IsPort d)) (sym same) keeps.ports) l))

-- ---- what is driven

any_alike : (n : ℕ) (qs : List Port) (marks : List Bool) (all : List Driven) → AreShown n qs marks → list_any (λ (a : Driven). slice_index_or marks a.signal false) all ≡ drive_some qs (map driving_of all)
any_alike n qs marks [] h = refl
any_alike n qs marks (a ∷ as_) h =
    ap (λ (b : Bool). b || list_any (λ (z : Driven). slice_index_or marks z.signal false) as_) (h.each a.signal)
    ∙ ap (λ (b : Bool). is_shown a.signal qs || b) (any_alike n qs marks as_ h)

pub alone_is : (d : Design) (n : ℕ) (marks : List Bool) (all : List Driven) (apart driven : Bool) → AreShown n d.ports marks → apart ≡ are_apart d.ports → map driving_of all ≡ drivings d
    → driven ≡ list_any (λ (a : Driven). slice_index_or marks a.signal false) all → (apart && not driven) ≡ shows_alone d
unfolding shows_alone
alone_is d n marks all apart driven h a e b =
    ap (λ (z : Bool). z && not driven) a
    ∙ ap (λ (z : Bool). are_apart d.ports && not z) (b ∙ any_alike n d.ports marks all h ∙ ap (drive_some d.ports) e)

-- whether what is driven is marked
abbrev is_marked : List Bool → Driven → Bool
is_marked marks a = slice_index_or marks a.signal false

abbrev no_driven : Driven
no_driven = record { signal = 0; driver = 0; line = 0; node = 0 }

pub found_mark : (marks : List Bool) (all : List Driven) (k : ℕ) (b : Bool) → k < length all → slice_get marks (get_or all k no_driven).signal ≡ Some b → b ≡ true → list_any (is_marked marks) all ≡ true
found_mark marks all k b l e t = list_any_at (is_marked marks) all k no_driven l (get_or_from_slice_get marks (get_or all k no_driven).signal b false e ∙ t)

pub no_mark : (marks : List Bool) (all : List Driven) (k : ℕ) (b : Bool) → k < length all → slice_get marks (get_or all k no_driven).signal ≡ Some b → b ≡ false → list_any (is_marked marks) (take k all) ≡ false
    → list_any (is_marked marks) (take (k + 1) all) ≡ false
no_mark marks all k b l e t h =
    list_any_more (is_marked marks) all k no_driven l
    ∙ or_from (list_any (is_marked marks) (take k all)) (is_marked marks (get_or all k no_driven)) h (get_or_from_slice_get marks (get_or all k no_driven).signal b false e ∙ t)

pub driven_all : {d : Design} {old new : Net} {all : List Driven} → IsCombNet d old → Drives d old new (domains_drivings d 0 d.domains) → all ≡ new.driven → map driving_of all ≡ drivings d
unfolding drivings
driven_all {d} {old} {new} {all} h g e =
    ap (map driving_of) e ∙ g.drivings ∙ ap (λ (l : List Driving). l ++ domains_drivings d 0 d.domains) h.drivings

-- ---- the law

-- what drives a signal that a port shows drives some
drives_shown : (x : ℕ) (qs : List Port) (all : List Driving) → is_shown x qs ≡ true → drive_some qs all ≡ false → some_drive x all ≡ false
drives_shown x qs [] h e = refl
drives_shown x qs (a ∷ as_) h e =
    let p = or_parts (is_shown a.signal qs) (drive_some qs as_) e in
    by_test (nat_eq a.signal x)
    (λ t. absurd (true≢false (sym h ∙ (ap (λ (k : ℕ). is_shown k qs) (sym (eqb-true a.signal x t)) ∙ p.0))))
    (λ t. ap (λ (b : Bool). b || some_drive x as_) t ∙ drives_shown x qs as_ h p.1)

-- the reader of number j
shown_at : (qs : List Port) (j x : ℕ) → (slice_index_or (map port_of qs) j no_port).reader ≡ Some x → is_shown x qs ≡ true
shown_at [] j x e = absurd (cc)
shown_at (q ∷ qs) zero x e = ap (λ (o : Option ℕ). is_named x o || is_shown x qs) e ∙ ap (λ (b : Bool). b || is_shown x qs) (eq-eqb x x refl)
shown_at (q ∷ qs) (suc j) x e = ap (λ (b : Bool). is_named x (number_of q) || b) (shown_at qs j x e) ∙ or-true (is_named x (number_of q))

-- what one port shows no later one does
not_later : (x : ℕ) (o : Option SigId) (qs : List Port) → is_named x (option_map signal_number o) ≡ true → is_shown_too qs o ≡ false → is_shown x qs ≡ false
not_later x None qs n h = absurd (true≢false (sym n))
not_later x (Some y) qs n h = ap (λ (k : ℕ). is_shown k qs) (sym (eqb-true y.0 x n)) ∙ h

first_reader : (x k j : ℕ) (qs : List Port) (other : Role) → are_apart qs ≡ true → (slice_index_or (map port_of qs) j no_port).reader ≡ Some x → read_role x k (map port_of qs) other ≡ circuit.Read (k + j)
first_reader x k j [] other h e = absurd (cc)
first_reader x k zero (q ∷ qs) other h e =
    ap (λ (b : Bool). cond b (circuit.Read k) (read_role x (k + 1) (map port_of qs) other)) (ap (is_named x) e ∙ eq-eqb x x refl)
    ∙ ap circuit.Read (let z : k ≡ k + 0 = omega arith in z)
first_reader x k (suc j) (q ∷ qs) other h e =
    let p = and_parts (not (is_shown_too qs q.dat_r)) (are_apart qs) h in
    ap (λ (b : Bool). cond b (circuit.Read k) (read_role x (k + 1) (map port_of qs) other))
    (false_from_ne_true (is_named x (number_of q)) (λ n. true≢false (sym (shown_at qs j x e) ∙ not_later x q.dat_r qs n (not-true (is_shown_too qs q.dat_r) p.0))))
    ∙ first_reader x (k + 1) j qs other p.1 e
    ∙ ap circuit.Read (let z : k + 1 + j ≡ k + suc j = omega arith in z)

idle_domains : (d : Design) (x k : ℕ) (xs : List Domain) (other : Role) → Keeps d → some_drive x (domains_drivings d k xs) ≡ false → sync_role x k (domains_from d k xs) other ≡ other
idle_domains d x k [] other keeps h = refl
idle_domains d x k (z ∷ zs) other keeps h =
    let p = or_parts (some_drive x (drivings_of d (k + 1) (stmts_of k d.sync))) (some_drive x (domains_drivings d (k + 1) zs)) (sym (some_append x (drivings_of d (k + 1) (stmts_of k d.sync)) (domains_drivings d (k + 1) zs)) ∙ h) in
    ap (λ (b : Bool). cond b (circuit.Sync k) (sync_role x (k + 1) (domains_from d (k + 1) zs) other)) (sym (block_drives d (k + 1) x (stmts_of k d.sync) keeps (sync_below d k d.sync keeps.sync)) ∙ p.0)
    ∙ idle_domains d x (k + 1) zs other keeps p.1

role_alone : (d : Design) (x : ℕ) (other : Role) → Keeps d → some_drive x (drivings d) ≡ false → (cond (drives_block x (block d d.comb)) circuit.Comb (sync_role x 0 (domains_from d 0 d.domains) other)) ≡ other
unfolding drivings
role_alone d x other keeps h =
    let p = or_parts (some_drive x (drivings_of d 0 d.comb)) (some_drive x (domains_drivings d 0 d.domains)) (sym (some_append x (drivings_of d 0 d.comb) (domains_drivings d 0 d.domains)) ∙ h) in
    ap (λ (b : Bool). cond b circuit.Comb (sync_role x 0 (domains_from d 0 d.domains) other)) (sym (block_drives d 0 x d.comb keeps (search keeps.comb.there)) ∙ p.0)
    ∙ idle_domains d x 0 d.domains other keeps p.1

pub alone : (d : Design) → Keeps d → shows_alone d ≡ true → ShowAlone (circuit_of d)
unfolding circuit_of shows_alone
alone d keeps h =
    let p = and_parts (are_apart d.ports) (not (drive_some d.ports (drivings d))) h in
    record {
      each = λ j r e.
          role_alone d r (read_role r 0 (map port_of d.ports) (circuit.idle_role (circuit_of d) r)) keeps (drives_shown r d.ports (drivings d) (shown_at d.ports j r e) (not-true (drive_some d.ports (drivings d)) p.1))
          ∙ first_reader r 0 j d.ports (circuit.idle_role (circuit_of d) r) p.0 e
          ∙ ap circuit.Read (let z : 0 + j ≡ j = omega arith in z);
    }
