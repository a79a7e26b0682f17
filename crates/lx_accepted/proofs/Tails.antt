-- What lowering of ports adds to a circuit: registers, the assignment of each dat_r, and what registers take.
use Rattle.std.proofs.Common.{◌≡◌, ℕ, ◌+◌, ◌<◌, ◌≤◌, ◌||◌, Bool, true, false, List, [], ◌∷◌, ◌++◌, Option, Some, None, length, length-append, append_assoc, refl, sym, ap, subst, ◌∙◌, arith, nat_eq, cond, inl, inr}
use Rattle.std.specs.Prelude.{slice_index_or}
use Rattle.std.specs.List.{list_any}
use Rattle.std.proofs.Math.Bool.{or-true}
use Rattle.std.proofs.lemmas.Bool.{eq-eqb, eqb-true, or_cases, true≢false}
use Rattle.std.proofs.lemmas.List.{append-nil}
use Rattle.lx_circuit.specs.Circuit.{Circuit, Domain, Made, domain_at, is_named, no_domain}
use Rattle.lx_circuit.specs.Memories.{Mode, Async, WriteFirst, ReadFirst, NoChange, Port}
use Rattle.lx_circuit.specs.Statements.{Block, Done, Then, Assign, Whole, drives_block}
use Rattle.lx_circuit.specs.Terms.{Term}
use Rattle.lx_circuit.proofs.Cases.{by_test}
use Rattle.lx_fhdl.specs.Keeping.{EachOf}
use Rattle.lx_lowering.specs.Flat.{append, one}
use Rattle.lx_lowering.proofs.Appends.{append_all, append_done, drives_append}
use Rattle.lx_memory.specs.Ports.{changed, lowered, reads, registers, takes, with_reader, with_readers, with_stmts, with_sync}
use Rattle.lx_memory.proofs.Changed.{changed_here, changed_length, changed_there}
use Rattle.lx_memory.proofs.Roles.{takes_others}

-- a port shows on the signal
abbrev pub shows_on : ℕ → List Port → Bool
shows_on x qs = list_any (λ (q : Port). is_named x q.reader) qs

-- what a signal is assigned
pub record Shown : Type 0 where
  pub signal : ℕ
  pub value : Term

abbrev pub assigns : List Shown → Block
assigns [] = Done
assigns (a ∷ as_) = Then (Assign (Whole a.signal) a.value) (assigns as_)

-- t is c with more registers, assignments of signals that these ports show on, and statements in which each register is assigned
-- in one domain
pub record Tails (c t : Circuit) (qs : List Port) : Type 0 where
  pub more : List Made
  pub signals : t.signals ≡ c.signals ++ more
  pub made : EachOf (λ (m : Made). m.given ≡ false) more
  pub shown : List Shown
  pub comb : t.comb ≡ append c.comb (assigns shown)
  pub readers : EachOf (λ (a : Shown). shows_on a.signal qs ≡ true) shown
  pub taken : ℕ → Block
  pub as_many : length t.domains ≡ length c.domains
  pub sync : (k : ℕ) → k < length c.domains → (domain_at t k).stmts ≡ append (domain_at c k).stmts (taken k)
  pub fresh : (k x : ℕ) → drives_block x (taken k) ≡ true → length c.signals ≤ x
  pub once : (j k x : ℕ) → drives_block x (taken j) ≡ true → drives_block x (taken k) ≡ true → j ≡ k

-- ---- one port

abbrev domain_of : List Domain → ℕ → Domain
domain_of ds k = slice_index_or ds k no_domain

-- statements of the domain that is named
abbrev in_domain : Option ℕ → Block → ℕ → Block
in_domain None b k = Done
in_domain (Some j) b k = cond (nat_eq j k) b Done

sync_one : (ds : List Domain) (o : Option ℕ) (b : Block) (k : ℕ) → k < length ds → (domain_of (with_sync ds o b) k).stmts ≡ append (domain_of ds k).stmts (in_domain o b k)
sync_one ds None b k l = sym (append_done (domain_of ds k).stmts)
sync_one ds (Some j) b k l =
    by_test (nat_eq j k)
    (λ e. let same = eqb-true j k e in
    subst (λ i. (domain_of (changed (with_stmts b) i ds) k).stmts ≡ append (domain_of ds k).stmts (cond (nat_eq i k) b Done)) (sym same)
    (ap (λ (d : Domain). d.stmts) (changed_here (with_stmts b) k ds no_domain l) ∙ ap (λ t. append (domain_of ds k).stmts (cond t b Done)) (sym (eq-eqb k k refl))))
    (λ e. ap (λ (d : Domain). d.stmts) (changed_there (with_stmts b) j k ds no_domain e) ∙ (sym (append_done (domain_of ds k).stmts) ∙ ap (λ t. append (domain_of ds k).stmts (cond t b Done)) (sym e)))

sync_many : (ds : List Domain) (o : Option ℕ) (b : Block) → length (with_sync ds o b) ≡ length ds
sync_many ds None b = refl
sync_many ds (Some j) b = changed_length (with_stmts b) j ds

-- which domain that is, and what is assigned there
in_parts : (o : Option ℕ) (b : Block) (k x : ℕ) → drives_block x (in_domain o b k) ≡ true → (o ≡ Some k) × (drives_block x b ≡ true)
in_parts None b k x e = absurd cc
in_parts (Some j) b k x e = by_answer (nat_eq j k) refl e
  where
    by_answer : (t : Bool) → nat_eq j k ≡ t → drives_block x (cond t b Done) ≡ true → (Some j ≡ Some k) × (drives_block x b ≡ true)
    by_answer true s h = (ap Some (eqb-true j k s), h)
    by_answer false s h = absurd cc

-- the register alone is assigned, and it is there
takes_one : (c : Circuit) (q : Port) (n : ℕ) (m : Mode) (x : ℕ) → drives_block x (takes c q n m) ≡ true → (n ≡ x) × (length (registers c q m) ≡ 1)
takes_one c q n m x e =
    by_test (nat_eq n x)
    (λ s. (eqb-true n x s, one_register m e))
    (λ s. absurd (true≢false (sym e ∙ takes_others c q n m x s)))
  where
    one_register : (m : Mode) → drives_block x (takes c q n m) ≡ true → length (registers c q m) ≡ 1
    one_register Async h = absurd cc
    one_register WriteFirst h = refl
    one_register ReadFirst h = refl
    one_register NoChange h = refl

registers_made : (c : Circuit) (q : Port) (m : Mode) → EachOf (λ (z : Made). z.given ≡ false) (registers c q m)
registers_made c q Async = tt
registers_made c q WriteFirst = (refl, tt)
registers_made c q ReadFirst = (refl, tt)
registers_made c q NoChange = (refl, tt)

-- ---- lists

made_both : (xs ys : List Made) → EachOf (λ (m : Made). m.given ≡ false) xs → EachOf (λ (m : Made). m.given ≡ false) ys → EachOf (λ (m : Made). m.given ≡ false) (xs ++ ys)
made_both [] ys g h = h
made_both (x ∷ xs) ys g h = (g.0, made_both xs ys g.1 h)

-- with a port before them
readers_more : (q : Port) (qs : List Port) (shown : List Shown) → EachOf (λ (a : Shown). shows_on a.signal qs ≡ true) shown → EachOf (λ (a : Shown). shows_on a.signal (q ∷ qs) ≡ true) shown
readers_more q qs [] h = tt
readers_more q qs (a ∷ as_) h = (ap (λ t. is_named a.signal q.reader || t) h.0 ∙ or-true (is_named a.signal q.reader), readers_more q qs as_ h.1)

-- ---- all ports

none_added : (c : Circuit) → Tails c c []
none_added c = record {
  more = [];
  signals = sym (append-nil c.signals);
  made = tt;
  shown = [];
  comb = sym (append_done c.comb);
  readers = tt;
  taken = λ k. Done;
  as_many = refl;
  sync = λ k l. sym (append_done (domain_at c k).stmts);
  fresh = λ k x e. absurd cc;
  once = λ j k x e f. absurd cc;
}

silent_before : {c t : Circuit} (q : Port) (qs : List Port) → Tails c t qs → Tails c t (q ∷ qs)
silent_before q qs h = record {
  more = h.more;
  signals = h.signals;
  made = h.made;
  shown = h.shown;
  comb = h.comb;
  readers = readers_more q qs h.shown h.readers;
  taken = h.taken;
  as_many = h.as_many;
  sync = h.sync;
  fresh = h.fresh;
  once = h.once;
}

-- a port that shows on the signal r, before the others
one_before : (c t : Circuit) (q : Port) (r : ℕ) (qs : List Port) → q.reader ≡ Some r → Tails (with_reader c q (Some r)) t qs → Tails c t (q ∷ qs)
one_before c t q r qs reader h =
    let n = length c.signals in
    let d = with_reader c q (Some r) in
    let b = takes c q n q.mode in
    let own : ℕ → Block = in_domain q.domain b in
    let here : Shown = record { signal = r; value = reads c q n q.mode } in
    let long : length d.signals ≡ n + length (registers c q q.mode) = length-append c.signals (registers c q q.mode) in
    let many : length d.domains ≡ length c.domains = sync_many c.domains q.domain b in
    record {
      more = registers c q q.mode ++ h.more;
      signals = h.signals ∙ append_assoc c.signals (registers c q q.mode) h.more;
      made = made_both (registers c q q.mode) h.more (registers_made c q q.mode) h.made;
      shown = here ∷ h.shown;
      comb = h.comb ∙ append_all c.comb (one (Assign (Whole r) (reads c q n q.mode))) (assigns h.shown);
      readers = (
        ap (λ o. is_named r o || shows_on r qs) reader ∙ ap (λ t. t || shows_on r qs) (eq-eqb r r refl),
        readers_more q qs h.shown h.readers,
      );
      taken = λ k. append (own k) (h.taken k);
      as_many = h.as_many ∙ many;
      sync = λ k l.
          h.sync k (omega (arith, l, many))
          ∙ (ap (λ s. append s (h.taken k)) (sync_one c.domains q.domain b k l)
          ∙ append_all (domain_at c k).stmts (own k) (h.taken k));
      fresh = λ k x e. by_either k x e
          (λ f. let z = (takes_one c q n q.mode x (in_parts q.domain b k x f).1).0 in omega (arith, z))
          (λ f. let z = h.fresh k x f in omega (arith, z, long));
      once = λ j k x e f.
          by_either j x e
          (λ g.
          let a = in_parts q.domain b j x g in
          by_either k x f
          (λ i. let s : Some j ≡ Some k = sym a.0 ∙ (in_parts q.domain b k x i).0 in cc)
          (λ i. let z = takes_one c q n q.mode x a.1 in let y = h.fresh k x i in absurd (omega (arith, z.0, z.1, y, long))))
          (λ g.
          by_either k x f
          (λ i. let z = takes_one c q n q.mode x (in_parts q.domain b k x i).1 in let y = h.fresh j x g in absurd (omega (arith, z.0, z.1, y, long)))
          (λ i. h.once j k x g i));
    }
  where
    by_either : {P : Type 0} (k x : ℕ) → drives_block x (append (in_domain q.domain (takes c q (length c.signals) q.mode) k) (h.taken k)) ≡ true
        → (drives_block x (in_domain q.domain (takes c q (length c.signals) q.mode) k) ≡ true → P) → (drives_block x (h.taken k) ≡ true → P) → P
    by_either k x e f g =
        elim (or_cases (drives_block x (in_domain q.domain (takes c q (length c.signals) q.mode) k)) (drives_block x (h.taken k)) (sym (drives_append x (in_domain q.domain (takes c q (length c.signals) q.mode) k) (h.taken k)) ∙ e)) [
          | inl p ↦ f p
          | inr p ↦ g p
        ]

tails : (c : Circuit) (qs : List Port) → Tails c (with_readers c qs) qs
tails c [] = none_added c
tails c (q ∷ qs) = by_reader q.reader refl (λ d. tails d qs)
  where
    by_reader : (o : Option ℕ) → q.reader ≡ o → ((d : Circuit) → Tails d (with_readers d qs) qs) → Tails c (with_readers (with_reader c q o) qs) (q ∷ qs)
    by_reader None e on = silent_before q qs (on c)
    by_reader (Some r) e on = one_before c (with_readers (with_reader c q (Some r)) qs) q r qs e (on (with_reader c q (Some r)))

-- a circuit with its ports lowered
pub lowered_tails : (c : Circuit) → Tails c (lowered c) c.ports
unfolding lowered
lowered_tails c =
    let h = tails c c.ports in
    record {
      more = h.more;
      signals = h.signals;
      made = h.made;
      shown = h.shown;
      comb = h.comb;
      readers = h.readers;
      taken = h.taken;
      as_many = h.as_many;
      sync = h.sync;
      fresh = h.fresh;
      once = h.once;
    }
