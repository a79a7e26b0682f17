-- A signal is an input where nothing drives it and its value comes from outside.
use Rattle.std.proofs.lemmas.Bool.{both_ways, cases_lt, cond_both, eq-eqb, ltb-true, or_cases, or_parts}
use Rattle.std.proofs.Common.{◌≡◌, inl, inr, subst, ℕ, ◌+◌, ◌<◌, ◌≤◌, Bool, true, false, List, [], ◌∷◌, ◌++◌, length, refl, sym, ap, ◌∙◌, arith, nat_eq}
use Rattle.std.specs.Prelude.{◌&&◌, ◌||◌, not, map, option_map, if◌then◌else◌}
use Rattle.lx_circuit.specs.Circuit as circuit
use Rattle.lx_circuit.specs.Circuit.{Role, idle_role, is_among, is_named, is_some_reset, made, read_role, role, sync_role}
use Rattle.lx_circuit.specs.Statements.{drives, drives_block}
use Rattle.lx_fhdl.specs.Below.{StmtId}
use Rattle.lx_fhdl.specs.Designs as design
use Rattle.lx_fhdl.specs.Designs.{block, circuit_of, domains_from, port_of, signal_number, stmts_of}
use Rattle.lx_fhdl.specs.Keeping.{EachOf}
use Rattle.lx_fhdl.specs.Kept.{is_input}
use Rattle.lx_fhdl.specs.declared.design.Design.{Design}
use Rattle.lx_fhdl.specs.declared.design.Domain.{Domain}
use Rattle.lx_fhdl.specs.declared.design.Port.{Port}
use Rattle.lx_fhdl.specs.declared.design.SyncPart.{SyncPart}
use Rattle.lx_kept.specs.Drivers.{AreMarks, is_from_outside, is_read, is_reset_of, is_undriven, some_part_marked}
use Rattle.lx_kept.specs.Given.{AllPartsBelow, ListsAreThere, PartIsThere}
use Rattle.lx_kept.proofs.Marked.{block_told}

-- ---- what is idle

some_reset_is : (d : Design) (x k : ℕ) (as_ : List Domain) → is_some_reset x (domains_from d k as_) ≡ is_reset_of x as_
some_reset_is d x k [] = refl
some_reset_is d x k (a ∷ as_) = ap (λ b. is_named x (option_map signal_number a.reset) || b) (some_reset_is d x (k + 1) as_)

idle_by : (given named : Bool) → is_input (if given then circuit.Undriven else (if named then circuit.Input else circuit.Undriven)) ≡ (not given && named)
idle_by true named = refl
idle_by false true = refl
idle_by false false = refl

idle_is : (d : Design) (x : ℕ) → is_input (idle_role (circuit_of d) x) ≡ is_from_outside d x (made (circuit_of d) x).given
unfolding circuit_of
idle_is d x =
    idle_by (made (circuit_of d) x).given (is_among x (map signal_number d.ios) || is_some_reset x (domains_from d 0 d.domains))
    ∙ ap (λ b. not (made (circuit_of d) x).given && (is_among x (map signal_number d.ios) || b)) (some_reset_is d x 0 d.domains)

-- ---- what a port reads into

read_is : (x k : ℕ) (qs : List Port) (other : Role) → is_input (read_role x k (map port_of qs) other) ≡ (not (is_read x qs) && is_input other)
read_is x k [] other = refl
read_is x k (q ∷ qs) other =
    let named = is_named x (option_map signal_number q.dat_r) in
    cond_both named (circuit.Read k) (read_role x (k + 1) (map port_of qs) other) (λ (r : Role). is_input r ≡ (not (named || is_read x qs) && is_input other)) (λ h. rw h refl) (λ h. rw h (read_is x (k + 1) qs other))

-- ---- what the domains' statements assign

-- some part assigns the signal
abbrev pub part_drives : Design → ℕ → List SyncPart → Bool
part_drives d x [] = false
part_drives d x (p ∷ ps) = drives_block x (block d p.stmts) || part_drives d x ps

drives_both : (d : Design) (x : ℕ) (is js : List StmtId) → drives_block x (block d (is ++ js)) ≡ (drives_block x (block d is) || drives_block x (block d js))
drives_both d x [] js = refl
drives_both d x (i ∷ is) js = ap (λ b. drives x (design.stmt d i.place) || b) (drives_both d x is js) ∙ or_joined (drives x (design.stmt d i.place)) (drives_block x (block d is)) (drives_block x (block d js))
  where
    or_joined : (a b c : Bool) → (a || (b || c)) ≡ ((a || b) || c)
    or_joined true b c = refl
    or_joined false b c = refl

-- the statements of a domain, where they have those of a part or not
of_domain : (d : Design) (x : ℕ) (b : Bool) (is js : List StmtId) → drives_block x (block d (if b then is ++ js else js)) ≡ ((b && drives_block x (block d is)) || drives_block x (block d js))
of_domain d x true is js = drives_both d x is js
of_domain d x false is js = refl

-- no part, so no domain
no_domain : (d : Design) (x k : ℕ) (ps : List SyncPart) → part_drives d x ps ≡ false → drives_block x (block d (stmts_of k ps)) ≡ false
no_domain d x k [] h = refl
no_domain d x k (p ∷ ps) h =
    let parts = or_parts (drives_block x (block d p.stmts)) (part_drives d x ps) h in
    of_domain d x (nat_eq p.domain k) p.stmts (stmts_of k ps) ∙ none (nat_eq p.domain k) (drives_block x (block d p.stmts)) (drives_block x (block d (stmts_of k ps))) parts.0 (no_domain d x k ps parts.1)
  where
    none : (t a b : Bool) → a ≡ false → b ≡ false → ((t && a) || b) ≡ false
    none true a b e f = rw (e, f) refl
    none false a b e f = f

-- the domain of a part that assigns the signal
record DomainDrives (d : Design) (x n : ℕ) (ps : List SyncPart) : Type 0 where
  number : ℕ
  within : number < n
  drives : drives_block x (block d (stmts_of number ps)) ≡ true

some_domain : (d : Design) (x : ℕ) (ps : List SyncPart) → EachOf (PartIsThere d) ps → part_drives d x ps ≡ true → DomainDrives d x (length d.domains) ps
some_domain d x [] there h = absurd (cc)
some_domain d x (p ∷ ps) there h =
    elim (or_cases (drives_block x (block d p.stmts)) (part_drives d x ps) h) [
      | inl own ↦ record {
        number = p.domain;
        within = ltb-true p.domain (length d.domains) there.0.domain;
        drives = of_domain d x (nat_eq p.domain p.domain) p.stmts (stmts_of p.domain ps) ∙ first (nat_eq p.domain p.domain) (drives_block x (block d p.stmts)) (drives_block x (block d (stmts_of p.domain ps))) (eq-eqb p.domain p.domain refl) own;
      }
      | inr more ↦
          let later = some_domain d x ps there.1 more in
          record {
            number = later.number;
            within = later.within;
            drives = of_domain d x (nat_eq p.domain later.number) p.stmts (stmts_of later.number ps) ∙ second (nat_eq p.domain later.number) (drives_block x (block d p.stmts)) (drives_block x (block d (stmts_of later.number ps))) later.drives;
          }
    ]
  where
    first : (t a b : Bool) → t ≡ true → a ≡ true → ((t && a) || b) ≡ true
    first t a b e f = rw (e, f) refl

    second : (t a b : Bool) → b ≡ true → ((t && a) || b) ≡ true
    second true true b e = refl
    second true false b e = e
    second false a b e = e

-- no domain assigns the signal
sync_other : (d : Design) (x k : ℕ) (as_ : List Domain) (other : Role) → part_drives d x d.sync ≡ false → sync_role x k (domains_from d k as_) other ≡ other
sync_other d x k [] other h = refl
sync_other d x k (a ∷ as_) other h =
    let driven = drives_block x (block d (stmts_of k d.sync)) in
    cond_both driven (circuit.Sync k) (sync_role x (k + 1) (domains_from d (k + 1) as_) other) (λ (r : Role). r ≡ other) (λ e. absurd (both_ways driven (no_domain d x k d.sync h) e)) (λ e. sync_other d x (k + 1) as_ other h)

-- some domain does
sync_drives : (d : Design) (x k j : ℕ) (as_ : List Domain) (other : Role) → k ≤ j → j < k + length as_ → drives_block x (block d (stmts_of j d.sync)) ≡ true → is_input (sync_role x k (domains_from d k as_) other) ≡ false
sync_drives d x k j [] other l u h = absurd (omega arith)
sync_drives d x k j (a ∷ as_) other l u h =
    let driven = drives_block x (block d (stmts_of k d.sync)) in
    cond_both driven (circuit.Sync k) (sync_role x (k + 1) (domains_from d (k + 1) as_) other) (λ (r : Role). is_input r ≡ false) (λ e. refl)
    (λ e.
    elim (cases_lt k j) [
      | inl less ↦ sync_drives d x (k + 1) j as_ other (omega arith) (omega arith) h
      | inr more ↦ let same : j ≡ k = omega arith in absurd (both_ways driven e (subst (λ i. drives_block x (block d (stmts_of i d.sync)) ≡ true) same h))
    ])

sync_is : (d : Design) (x : ℕ) (other : Role) → EachOf (PartIsThere d) d.sync → is_input (sync_role x 0 (domains_from d 0 d.domains) other) ≡ (not (part_drives d x d.sync) && is_input other)
sync_is d x other there = by (part_drives d x d.sync) refl
  where
    by : (b : Bool) → part_drives d x d.sync ≡ b → is_input (sync_role x 0 (domains_from d 0 d.domains) other) ≡ (not b && is_input other)
    by true e = let found = some_domain d x d.sync there e in sync_drives d x 0 found.number d.domains other (omega arith) (omega (arith, found.within)) found.drives
    by false e = ap is_input (sync_other d x 0 d.domains other e)

-- the statements of parts that are there
pub parts_below : (d : Design) (n : ℕ) (ps : List SyncPart) → n ≡ length d.stmts → EachOf (PartIsThere d) ps → AllPartsBelow n ps
parts_below d n [] e there = tt
parts_below d n (p ∷ ps) e there = (rw e there.0.stmts, parts_below d n ps e there.1)

-- ---- the role

parts_told : (d : Design) (x : ℕ) (marks : List Bool) (ps : List SyncPart) → AreMarks d x (length d.stmts) marks → EachOf (PartIsThere d) ps → some_part_marked marks ps ≡ part_drives d x ps
parts_told d x marks [] h there = refl
parts_told d x marks (p ∷ ps) h there = rw (block_told x (design.stmt d) (length d.stmts) marks p.stmts h there.0.stmts, parts_told d x marks ps h there.1) refl

and_joined : (a b c : Bool) → ((a && b) && c) ≡ (a && (b && c))
and_joined true b c = refl
and_joined false b c = refl

-- the statements of a design that assign the signal, its ports and its outside say whether it is an input
pub role_is : (d : Design) (x : ℕ) (given : Bool) (marks : List Bool) → ListsAreThere d → AreMarks d x (length d.stmts) marks → given ≡ (made (circuit_of d) x).given
    → (is_undriven d x marks && is_from_outside d x given) ≡ is_input (role (circuit_of d) x)
unfolding circuit_of
role_is d x given marks there h e =
    rw (block_told x (design.stmt d) (length d.stmts) marks d.comb h there.comb, parts_told d x marks d.sync h there.sync, e)
    (by (drives_block x (block d d.comb)))
  where
    by : (b : Bool) → ((not b && (not (part_drives d x d.sync) && not (is_read x d.ports))) && is_from_outside d x (made (circuit_of d) x).given)
        ≡ is_input (if b then circuit.Comb else sync_role x 0 (domains_from d 0 d.domains) (read_role x 0 (map port_of d.ports) (idle_role (circuit_of d) x)))
    by true = refl
    by false =
        and_joined (not (part_drives d x d.sync)) (not (is_read x d.ports)) (is_from_outside d x (made (circuit_of d) x).given)
        ∙ ap (λ b. not (part_drives d x d.sync) && (not (is_read x d.ports) && b)) (sym (idle_is d x))
        ∙ ap (λ b. not (part_drives d x d.sync) && b) (sym (read_is x 0 d.ports (idle_role (circuit_of d) x)))
        ∙ sym (sync_is d x (read_role x 0 (map port_of d.ports) (idle_role (circuit_of d) x)) there.sync)
