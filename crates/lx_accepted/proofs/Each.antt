-- The drivings of each signal of a design with its ports lowered.
use Rattle.std.proofs.Common.{◌≡◌, ℕ, suc, ◌+◌, ◌<◌, ◌≤◌, Bool, true, false, ◌||◌, List, [], ◌∷◌, ◌++◌, Option, Some, None, length, map, refl, sym, ap, subst, ◌∙◌, arith, cond}
use Rattle.std.specs.Prelude.{option_map, slice_index_or}
use Rattle.std.proofs.lemmas.Bool.{eqb-true, false_from_ne_true, true≢false}
use Rattle.std.proofs.lemmas.List.{append-nil}
use Rattle.lx_circuit.specs.Circuit as circuit
use Rattle.lx_circuit.specs.Circuit.{Role, is_named, no_port, sync_role}
use Rattle.lx_circuit.specs.Statements.{drives_block}
use Rattle.lx_circuit.proofs.Cases.{by_test}
use Rattle.lx_fhdl.specs.Below.{StmtId, all_stmts_below}
use Rattle.lx_fhdl.specs.Designs.{block, circuit_of, domains_from, port_of, shapes, signal_number, stmts_of}
use Rattle.lx_fhdl.specs.Keeping.{EachOf, IsPort, Keeps}
use Rattle.lx_fhdl.specs.declared.design.Design.{Design}
use Rattle.lx_fhdl.specs.declared.design.Domain.{Domain}
use Rattle.lx_fhdl.specs.declared.design.Port.{Port}
use Rattle.lx_fhdl.specs.declared.exprs.SigId.{SigId}
use Rattle.lx_lower.proofs.FromKeeps.{design_block, sync_below}
use Rattle.lx_reads.specs.Drivings.{Driving, domains_drivings, drivings, drivings_of}
use Rattle.lx_reads.proofs.Driven.{block_drives, some_drive}
use Rattle.lx_memory.specs.Alone.{is_shown}
use Rattle.lx_memory.specs.Lowers.{ShowAlone}
use Rattle.lx_memory.proofs.Mentioned.{block_below, block_mentioned}
use Rattle.lx_check.proofs.Roles.{reader_in}
use Rattle.lx_accepted.specs.Accepted.{IsLoweredFrom}
use Rattle.lx_accepted.proofs.Grown.{Grown}
use Rattle.lx_accepted.proofs.Own.{own, own_both, own_each, own_none}
use Rattle.lx_accepted.proofs.Stayed.{HaveDriver}

-- ---- a design

-- what drives x in comb, and then in its domains
parted : (d : Design) (x : ℕ) → own x (drivings d) ≡ own x (drivings_of d 0 d.comb) ++ own x (domains_drivings d 0 d.domains)
unfolding drivings
parted d x = own_both x (drivings_of d 0 d.comb) (domains_drivings d 0 d.domains)

-- no statements drive a signal that isn't there
past_none : (d : Design) (driver x : ℕ) (ids : List StmtId) → Keeps d → all_stmts_below (length d.stmts) ids ≡ true → length d.signals ≤ x → own x (drivings_of d driver ids) ≡ []
past_none d driver x ids keeps low l =
    own_none x (drivings_of d driver ids)
    (block_drives d driver x ids keeps low
    ∙ false_from_ne_true (drives_block x (block d ids))
    (λ e. let z = block_below (shapes d) (length d.signals) x (block d ids) (design_block d ids keeps low) (block_mentioned x (block d ids) e) in omega (arith, z, l)))

-- ---- a signal that a port shows

shown_number : (x : ℕ) (qs : List Port) → is_shown x qs ≡ true → (j : ℕ) × ((slice_index_or (map port_of qs) j no_port).reader ≡ Some x)
shown_number x [] e = absurd cc
shown_number x (q ∷ qs) e = by_answer (is_named x (option_map signal_number q.dat_r)) refl e (shown_number x qs)
  where
    named : (o : Option ℕ) → is_named x o ≡ true → o ≡ Some x
    named None h = absurd cc
    named (Some r) h = ap Some (eqb-true r x h)

    by_answer : (t : Bool) → is_named x (option_map signal_number q.dat_r) ≡ t → (t || is_shown x qs) ≡ true
        → (is_shown x qs ≡ true → (j : ℕ) × ((slice_index_or (map port_of qs) j no_port).reader ≡ Some x)) → (j : ℕ) × ((slice_index_or (map port_of (q ∷ qs)) j no_port).reader ≡ Some x)
    by_answer true s h more = (0, named (option_map signal_number q.dat_r) s)
    by_answer false s h more = let (j, r) = more h in (suc j, r)

-- no domain drives what is dat_r of a port
domains_none : (d : Design) (x j k : ℕ) (xs : List Domain) (other : Role) → Keeps d → sync_role x k (domains_from d k xs) other ≡ circuit.Read j → own x (domains_drivings d k xs) ≡ []
domains_none d x j k [] other keeps e = refl
domains_none d x j k (z ∷ zs) other keeps e = by_answer (drives_block x (block d (stmts_of k d.sync))) refl e (domains_none d x j (k + 1) zs other keeps)
  where
    first : List Driving
    first = drivings_of d (k + 1) (stmts_of k d.sync)

    by_answer : (t : Bool) → drives_block x (block d (stmts_of k d.sync)) ≡ t → cond t (circuit.Sync k) (sync_role x (k + 1) (domains_from d (k + 1) zs) other) ≡ circuit.Read j
        → (sync_role x (k + 1) (domains_from d (k + 1) zs) other ≡ circuit.Read j → own x (domains_drivings d (k + 1) zs) ≡ []) → own x (first ++ domains_drivings d (k + 1) zs) ≡ []
    by_answer true s h more = absurd cc
    by_answer false s h more =
        own_both x first (domains_drivings d (k + 1) zs)
        ∙ ap (λ (l : List Driving). l ++ own x (domains_drivings d (k + 1) zs)) (own_none x first (block_drives d (k + 1) x (stmts_of k d.sync) keeps (sync_below d k d.sync keeps.sync) ∙ s))
        ∙ more h

-- it is there
shown_there : (d : Design) (x : ℕ) (qs : List Port) → EachOf (IsPort d) qs → is_shown x qs ≡ true → x < length d.signals
shown_there d x [] h e = absurd cc
shown_there d x (q ∷ qs) h e = by_answer (is_named x (option_map signal_number q.dat_r)) refl e (shown_there d x qs h.1)
  where
    named : (o : Option SigId) → q.dat_r ≡ o → is_named x (option_map signal_number o) ≡ true → x < length d.signals
    named None r s = absurd cc
    named (Some z) r s = subst (λ (y : ℕ). y < length d.signals) (eqb-true z.0 x s) (reader_in d q z h.0 r)

    by_answer : (t : Bool) → is_named x (option_map signal_number q.dat_r) ≡ t → (t || is_shown x qs) ≡ true → (is_shown x qs ≡ true → x < length d.signals) → x < length d.signals
    by_answer true s f more = named q.dat_r refl s
    by_answer false s f more = more f

-- nothing drives it
pub record IsIdle (d : Design) (x : ℕ) : Type 0 where
  pub comb : own x (drivings_of d 0 d.comb) ≡ []
  pub domains : own x (domains_drivings d 0 d.domains) ≡ []

role_idle : (d : Design) (x j : ℕ) (other : Role) → Keeps d → cond (drives_block x (block d d.comb)) circuit.Comb (sync_role x 0 (domains_from d 0 d.domains) other) ≡ circuit.Read j → IsIdle d x
role_idle d x j other keeps e = by_answer (drives_block x (block d d.comb)) refl e
  where
    by_answer : (t : Bool) → drives_block x (block d d.comb) ≡ t → cond t circuit.Comb (sync_role x 0 (domains_from d 0 d.domains) other) ≡ circuit.Read j → IsIdle d x
    by_answer true s h = absurd cc
    by_answer false s h = record {
      comb = own_none x (drivings_of d 0 d.comb) (block_drives d 0 x d.comb keeps (search keeps.comb.there) ∙ s);
      domains = domains_none d x j 0 d.domains other keeps h;
    }

pub shown_idle : (d : Design) (x : ℕ) → Keeps d → ShowAlone (circuit_of d) → is_shown x d.ports ≡ true → IsIdle d x
unfolding circuit_of
shown_idle d x keeps alone e =
    let (j, r) = shown_number x d.ports e in
    role_idle d x j (circuit.read_role x 0 (circuit_of d).ports (circuit.idle_role (circuit_of d) x)) keeps (alone.each j x r)

-- ---- with the ports lowered: a signal of the design

-- in comb
comb_own : (d p : Design) (x : ℕ) (g : Grown d p) → own x (drivings_of p 0 p.comb) ≡ own x (drivings_of d 0 d.comb) ++ own x g.shown
comb_own d p x g = ap (own x) g.comb ∙ own_both x (drivings_of d 0 d.comb) g.shown

part_own : (d p : Design) (x k : ℕ) (g : Grown d p) → k < length d.domains → own x (drivings_of p (k + 1) (stmts_of k p.sync)) ≡ own x (drivings_of d (k + 1) (stmts_of k d.sync)) ++ own x (g.taken k)
part_own d p x k g l = ap (own x) (g.sync k l) ∙ own_both x (drivings_of d (k + 1) (stmts_of k d.sync)) (g.taken k)

-- domains drive it as they did
domains_own : (d p : Design) (x k : ℕ) (xs : List Domain) (g : Grown d p) → x < length d.signals → k + length xs ≤ length d.domains → own x (domains_drivings p k xs) ≡ own x (domains_drivings d k xs)
domains_own d p x k [] g l m = refl
domains_own d p x k (z ∷ zs) g l m =
    let here : k < length d.domains = omega arith in
    let new = drivings_of p (k + 1) (stmts_of k p.sync) in
    let old = drivings_of d (k + 1) (stmts_of k d.sync) in
    let none : own x (g.taken k) ≡ [] = own_none x (g.taken k) (false_from_ne_true (some_drive x (g.taken k)) (λ e. let y = g.fresh k x here e in omega (arith, y, l))) in
    own_both x new (domains_drivings p (k + 1) zs)
    ∙ ap (λ (u : List Driving). u ++ own x (domains_drivings p (k + 1) zs)) (part_own d p x k g here ∙ (ap (λ (u : List Driving). own x old ++ u) none ∙ append-nil (own x old)))
    ∙ ap (λ (u : List Driving). own x old ++ u) (domains_own d p x (k + 1) zs g l (omega arith))
    ∙ sym (own_both x old (domains_drivings d (k + 1) zs))

all_domains : (d p : Design) (x : ℕ) (h : IsLoweredFrom d p) (g : Grown d p) → x < length d.signals → own x (domains_drivings p 0 p.domains) ≡ own x (domains_drivings d 0 d.domains)
all_domains d p x h g l = ap (λ (ds : List Domain). own x (domains_drivings p 0 ds)) h.ports.domains ∙ domains_own d p x 0 d.domains g l (omega arith)

-- one that no port shows is driven as it was
pub silent_own : (d p : Design) (x : ℕ) (h : IsLoweredFrom d p) (g : Grown d p) → x < length d.signals → is_shown x d.ports ≡ false → own x (drivings p) ≡ own x (drivings d)
silent_own d p x h g l e =
    let none : own x g.shown ≡ [] = own_none x g.shown (false_from_ne_true (some_drive x g.shown) (λ s. true≢false (sym (g.readers x s) ∙ e))) in
    parted p x
    ∙ ap (λ (u : List Driving). u ++ own x (domains_drivings p 0 p.domains)) (comb_own d p x g ∙ (ap (λ (u : List Driving). own x (drivings_of d 0 d.comb) ++ u) none ∙ append-nil (own x (drivings_of d 0 d.comb))))
    ∙ ap (λ (u : List Driving). own x (drivings_of d 0 d.comb) ++ u) (all_domains d p x h g l)
    ∙ sym (parted d x)

-- one that a port shows is driven by what was added in comb
pub shown_own : (d p : Design) (x : ℕ) (h : IsLoweredFrom d p) (g : Grown d p) → x < length d.signals → is_shown x d.ports ≡ true → own x (drivings p) ≡ own x g.shown
shown_own d p x h g l e =
    let idle = shown_idle d x h.keeps h.alone e in
    parted p x
    ∙ ap (λ (u : List Driving). own x (drivings_of p 0 p.comb) ++ u) (all_domains d p x h g l ∙ idle.domains)
    ∙ append-nil (own x (drivings_of p 0 p.comb))
    ∙ comb_own d p x g
    ∙ ap (λ (u : List Driving). u ++ own x g.shown) idle.comb

-- ---- and a signal past them

past_part : (d p : Design) (x k : ℕ) (h : IsLoweredFrom d p) (g : Grown d p) → length d.signals ≤ x → k < length d.domains → own x (drivings_of p (k + 1) (stmts_of k p.sync)) ≡ own x (g.taken k)
past_part d p x k h g l m =
    part_own d p x k g m ∙ ap (λ (u : List Driving). u ++ own x (g.taken k)) (past_none d (k + 1) x (stmts_of k d.sync) h.keeps (sync_below d k d.sync h.keeps.sync) l)

-- no domain from number k on
later_none : (d p : Design) (x k : ℕ) (xs : List Domain) (h : IsLoweredFrom d p) (g : Grown d p) → length d.signals ≤ x → k + length xs ≤ length d.domains
    → ((i : ℕ) → k ≤ i → i < length d.domains → some_drive x (g.taken i) ≡ false) → own x (domains_drivings p k xs) ≡ []
later_none d p x k [] h g l m f = refl
later_none d p x k (z ∷ zs) h g l m f =
    let here : k < length d.domains = omega arith in
    own_both x (drivings_of p (k + 1) (stmts_of k p.sync)) (domains_drivings p (k + 1) zs)
    ∙ ap (λ (u : List Driving). u ++ own x (domains_drivings p (k + 1) zs)) (past_part d p x k h g l here ∙ own_none x (g.taken k) (f k (omega arith) here))
    ∙ later_none d p x (k + 1) zs h g l (omega arith) (λ i a b. f i (omega (arith, a)) b)

abbrev OneDriver : List Driving → Type 0
OneDriver all = (m : ℕ) × HaveDriver m all

-- one domain at most
past_domains : (d p : Design) (x k : ℕ) (xs : List Domain) (h : IsLoweredFrom d p) (g : Grown d p) → length d.signals ≤ x → k + length xs ≤ length d.domains → OneDriver (own x (domains_drivings p k xs))
past_domains d p x k [] h g l m = (0, tt)
past_domains d p x k (z ∷ zs) h g l m =
    let here : k < length d.domains = omega arith in
    let first = drivings_of p (k + 1) (stmts_of k p.sync) in
    let rest = domains_drivings p (k + 1) zs in
    let both : own x (first ++ rest) ≡ own x (g.taken k) ++ own x rest = own_both x first rest ∙ ap (λ (u : List Driving). u ++ own x rest) (past_part d p x k h g l here) in
    by_test (some_drive x (g.taken k))
    (λ e.
    let none = later_none d p x (k + 1) zs h g l (omega arith) (λ i a b. false_from_ne_true (some_drive x (g.taken i)) (λ f. let y = g.once k i x here b e f in omega (arith, y, a))) in
    (k + 1, subst (HaveDriver (k + 1)) (sym (both ∙ (ap (λ (u : List Driving). own x (g.taken k) ++ u) none ∙ append-nil (own x (g.taken k))))) (own_each (λ (a : Driving). a.driver ≡ k + 1) x (g.taken k) (g.drivers k))))
    (λ e. subst OneDriver (sym (both ∙ ap (λ (u : List Driving). u ++ own x rest) (own_none x (g.taken k) e))) (past_domains d p x (k + 1) zs h g l (omega arith)))

pub past_own : (d p : Design) (x : ℕ) (h : IsLoweredFrom d p) (g : Grown d p) → length d.signals ≤ x → (m : ℕ) × HaveDriver m (own x (drivings p))
past_own d p x h g l =
    let old = past_none d 0 x d.comb h.keeps (search h.keeps.comb.there) l in
    let shown : own x g.shown ≡ [] = own_none x g.shown (false_from_ne_true (some_drive x g.shown) (λ e. let y = shown_there d x d.ports h.keeps.ports (g.readers x e) in omega (arith, y, l))) in
    let comb : own x (drivings_of p 0 p.comb) ≡ [] = comb_own d p x g ∙ (ap (λ (u : List Driving). u ++ own x g.shown) old ∙ shown) in
    subst OneDriver
    (sym (parted p x ∙ (ap (λ (u : List Driving). u ++ own x (domains_drivings p 0 p.domains)) comb ∙ ap (λ (ds : List Domain). own x (domains_drivings p 0 ds)) h.ports.domains)))
    (past_domains d p x 0 d.domains h g l (omega arith))
