-- What a design with its ports lowered drives: what the design does, and more.
use Rattle.std.proofs.Common.{◌≡◌, ℕ, zero, suc, ◌+◌, ◌<◌, ◌≤◌, ◌||◌, Bool, true, false, List, [], ◌∷◌, ◌++◌, length, map, append_assoc, refl, sym, ap, subst, ◌∙◌, arith, nat_eq, nat_lt, cond, inl, inr}
use Rattle.std.specs.Prelude.{Some, option_map, slice_get, slice_index_or}
use Rattle.std.proofs.lemmas.Bool.{and_parts, eqb-true, ltb-true, or_cases}
use Rattle.lx_arena.proofs.Places.{node_there}
use Rattle.lx_circuit.specs.Circuit.{Circuit, domain_at, is_named, no_domain}
use Rattle.lx_circuit.specs.Statements as tree
use Rattle.lx_circuit.specs.Statements.{Block, drives_block}
use Rattle.lx_circuit.specs.Terms.{Term}
use Rattle.lx_fhdl.specs.Below.{StmtId, all_stmts_below}
use Rattle.lx_fhdl.specs.Designs as design
use Rattle.lx_fhdl.specs.Designs.{block, circuit_of, domains_from, port_of, signal_number, stmts_of}
use Rattle.lx_fhdl.specs.Keeping.{EachOf, Keeps, PartStands}
use Rattle.lx_fhdl.specs.Stmts.{node_stmt}
use Rattle.lx_fhdl.specs.declared.design.Design.{Design}
use Rattle.lx_fhdl.specs.declared.design.Domain.{Domain}
use Rattle.lx_fhdl.specs.declared.design.Port.{Port}
use Rattle.lx_fhdl.specs.declared.design.SyncPart.{SyncPart}
use Rattle.lx_fhdl.specs.declared.stmts.Stmt.{Stmt}
use Rattle.lx_fhdl.specs.declared.stmts.Stmt.TheVariants as stmt
use Rattle.lx_fhdl.proofs.Drafts.{stmt_is}
use Rattle.lx_fhdl.proofs.StmtTrees.{block_same}
use Rattle.lx_lower.proofs.FromKeeps.{sync_below}
use Rattle.lx_lowering.specs.Flat.{append}
use Rattle.lx_plain.proofs.Puts.{block_append}
use Rattle.lx_reads.specs.Drivings.{Driving, assign_drivings, driving, drivings_at, drivings_of, node_drivings}
use Rattle.lx_reads.proofs.Driven.{block_drives, some_drive}
use Rattle.lx_reads.proofs.Drivings.{drivings_at-is}
use Rattle.lx_memory.specs.Alone.{is_shown}
use Rattle.lx_memory.specs.Lowers.{ArePast, line_of}
use Rattle.lx_memory.specs.Ports.{lowered}
use Rattle.lx_memory.proofs.FromDesign.{domains_length, signals_length}
use Rattle.lx_memory.proofs.Standing.{block_stays}
use Rattle.lx_accepted.specs.Accepted.{IsLoweredFrom}
use Rattle.lx_accepted.proofs.Stayed.{HaveDriver, have_driver, in_both, stayed}
use Rattle.lx_accepted.proofs.Tails.{Shown, Tails, assigns, lowered_tails, shows_on}

-- a statement of generated hardware, in comb
abbrev pub IsMade : Driving → Type 0
IsMade a = (a.driver ≡ 0) × (a.line ≡ 0)

-- p drives what d does, and then: signals that ports show, in comb, on no line; and past the signals of d each in one domain
pub record Grown (d p : Design) : Type 0 where
  pub shown : List Driving
  pub taken : ℕ → List Driving
  pub comb : drivings_of p 0 p.comb ≡ drivings_of d 0 d.comb ++ shown
  pub sync : (k : ℕ) → k < length d.domains → drivings_of p (k + 1) (stmts_of k p.sync) ≡ drivings_of d (k + 1) (stmts_of k d.sync) ++ taken k
  pub made : EachOf IsMade shown
  pub readers : (x : ℕ) → some_drive x shown ≡ true → is_shown x d.ports ≡ true
  pub drivers : (k : ℕ) → HaveDriver (k + 1) (taken k)
  pub fresh : (k x : ℕ) → k < length d.domains → some_drive x (taken k) ≡ true → length d.signals ≤ x
  pub once : (j k x : ℕ) → j < length d.domains → k < length d.domains → some_drive x (taken j) ≡ true → some_drive x (taken k) ≡ true → j ≡ k

-- ---- lists of statements

stmts_both : (k : ℕ) (ps qs : List SyncPart) → stmts_of k (ps ++ qs) ≡ stmts_of k ps ++ stmts_of k qs
stmts_both k [] qs = refl
stmts_both k (p ∷ ps) qs = by_answer (nat_eq p.domain k) (stmts_both k ps qs)
  where
    by_answer : (t : Bool) → stmts_of k (ps ++ qs) ≡ stmts_of k ps ++ stmts_of k qs
        → cond t (p.stmts ++ stmts_of k (ps ++ qs)) (stmts_of k (ps ++ qs)) ≡ cond t (p.stmts ++ stmts_of k ps) (stmts_of k ps) ++ stmts_of k qs
    by_answer true e = ap (λ (l : List StmtId). p.stmts ++ l) e ∙ sym (append_assoc p.stmts (stmts_of k ps) (stmts_of k qs))
    by_answer false e = e

below_last : (n : ℕ) (is js : List StmtId) → all_stmts_below n (is ++ js) ≡ true → all_stmts_below n js ≡ true
below_last n [] js e = e
below_last n (i ∷ is) js e = below_last n is js (and_parts (nat_lt i.place n) (all_stmts_below n (is ++ js)) e).1

each_last : (d : Design) (ps qs : List SyncPart) → EachOf (PartStands d) (ps ++ qs) → EachOf (PartStands d) qs
each_last d [] qs h = h
each_last d (p ∷ ps) qs h = each_last d ps qs h.1

same_tail : (a b c : Block) → append a b ≡ append a c → b ≡ c
same_tail tree.Done b c e = e
same_tail (tree.Then s ss) b c e = same_tail ss b c (let z : append ss b ≡ append ss c = cc in z)

-- ---- domains

-- the statements of a domain of the circuit
block_from : (d : Design) (k j : ℕ) (xs : List Domain) → j < length xs → (slice_index_or (domains_from d k xs) j no_domain).stmts ≡ block d (stmts_of (k + j) d.sync)
block_from d k j [] l = absurd (omega arith)
block_from d k zero (x ∷ xs) l = ap (λ (i : ℕ). block d (stmts_of i d.sync)) (let z : k ≡ k + 0 = omega arith in z)
block_from d k (suc j) (x ∷ xs) l = block_from d (k + 1) j xs (omega (arith, l)) ∙ ap (λ (i : ℕ). block d (stmts_of i d.sync)) (let z : k + 1 + j ≡ k + suc j = omega arith in z)

domain_block : (d : Design) (k : ℕ) → k < length d.domains → (domain_at (circuit_of d) k).stmts ≡ block d (stmts_of k d.sync)
unfolding circuit_of
domain_block d k l = block_from d 0 k d.domains l ∙ ap (λ (i : ℕ). block d (stmts_of i d.sync)) (let z : 0 + k ≡ k = omega arith in z)

comb_block : (d : Design) → (circuit_of d).comb ≡ block d d.comb
unfolding circuit_of
comb_block d = refl

-- ---- what is added

abbrev tails_of : (d : Design) → Tails (circuit_of d) (lowered (circuit_of d)) (circuit_of d).ports
tails_of d = lowered_tails (circuit_of d)

-- the combinatorial statements that are added
more_comb : (d p : Design) (h : IsLoweredFrom d p) → block p h.ports.added.comb ≡ assigns (tails_of d).shown
more_comb d p h =
    let more = h.ports.added.comb in
    same_tail (circuit_of d).comb (block p more) (assigns (tails_of d).shown)
    (ap (λ (b : Block). append b (block p more)) (comb_block d ∙ sym (block_stays d p d.comb h.ports.stays h.keeps.comb))
    ∙ sym (block_append (design.stmt p) d.comb more)
    ∙ ap (block p) (sym h.ports.added.comb_are)
    ∙ sym (comb_block p)
    ∙ ap (λ (c : Circuit). c.comb) h.ports.circuit
    ∙ (tails_of d).comb)

-- those of a domain
more_sync : (d p : Design) (h : IsLoweredFrom d p) (k : ℕ) → k < length d.domains → block p (stmts_of k h.ports.added.sync) ≡ (tails_of d).taken k
more_sync d p h k l =
    let ps = h.ports.added.sync in
    let m = stmts_of k d.sync in
    let many = ap (λ (ds : List Domain). length ds) h.ports.domains in
    same_tail (domain_at (circuit_of d) k).stmts (block p (stmts_of k ps)) ((tails_of d).taken k)
    (ap (λ (b : Block). append b (block p (stmts_of k ps))) (domain_block d k l ∙ sym (block_same (design.stmt p) (design.stmt d) (length d.stmts) m h.ports.stays.stmt_trees (sync_below d k d.sync h.keeps.sync)))
    ∙ sym (block_append (design.stmt p) m (stmts_of k ps))
    ∙ ap (block p) (sym (stmts_both k d.sync ps))
    ∙ ap (λ (qs : List SyncPart). block p (stmts_of k qs)) (sym h.ports.added.sync_are)
    ∙ sym (domain_block p k (omega (arith, l, many)))
    ∙ ap (λ (c : Circuit). (domain_at c k).stmts) h.ports.circuit
    ∙ (tails_of d).sync k (omega (arith, l, domains_length d)))

comb_below : (d p : Design) (h : IsLoweredFrom d p) → all_stmts_below (length p.stmts) h.ports.added.comb ≡ true
comb_below d p h = below_last (length p.stmts) d.comb h.ports.added.comb (subst (λ (ids : List StmtId). all_stmts_below (length p.stmts) ids ≡ true) h.ports.added.comb_are (search h.ports.keeps.comb.there))

parts_below : (d p : Design) (h : IsLoweredFrom d p) (k : ℕ) → all_stmts_below (length p.stmts) (stmts_of k h.ports.added.sync) ≡ true
parts_below d p h k = sync_below p k h.ports.added.sync (each_last p d.sync h.ports.added.sync (subst (EachOf (PartStands p)) h.ports.added.sync_are h.ports.keeps.sync))

-- ---- what assignments drive

-- an assignment of a whole signal at this place is of line 0
made_node : (p : Design) (x : Stmt) (r : ℕ) (e : Term) → node_stmt (design.term p) (design.target p) (design.stmt p) x ≡ tree.Assign (tree.Whole r) e → line_of x ≡ 0
    → (f : ℕ → List Driving) → node_drivings p 0 f x ≡ driving 0 0 r ∷ []
made_node p (stmt.Assign t value line) r e is on f =
    let z : design.target p t.place ≡ tree.Whole r = cc in
    ap (assign_drivings 0 line) z ∙ ap (λ (k : ℕ). driving 0 k r ∷ []) on
made_node p (stmt.If branches rest line) r e is on f = absurd cc
made_node p (stmt.Case scrutinee arms rest line) r e is on f = absurd cc

made_list : (d p : Design) (ids : List StmtId) (shown : List Shown) → Keeps p → ((k : ℕ) (x : Stmt) → length d.stmts ≤ k → slice_get p.stmts k ≡ Some x → line_of x ≡ 0)
    → ArePast (length d.stmts) ids → all_stmts_below (length p.stmts) ids ≡ true → block p ids ≡ assigns shown → EachOf IsMade (drivings_of p 0 ids)
made_list d p [] shown keeps lines past low e = tt
made_list d p (i ∷ is) [] keeps lines past low e = absurd cc
made_list d p (i ∷ is) (a ∷ as_) keeps lines past low e =
    let both = and_parts (nat_lt i.place (length p.stmts)) (all_stmts_below (length p.stmts) is) low in
    let (x, at) = node_there p.stmts i.place (ltb-true i.place (length p.stmts) both.0) in
    let head : design.stmt p i.place ≡ tree.Assign (tree.Whole a.signal) a.value = cc in
    let rest : block p is ≡ assigns as_ = cc in
    let node = sym (stmt_is p i.place x keeps.arenas.stmts_lower at) ∙ head in
    let here : drivings_at p 0 i.place ≡ driving 0 0 a.signal ∷ [] =
    drivings_at-is p 0 i.place x keeps.arenas.stmts_lower at ∙ made_node p x a.signal a.value node (lines i.place x past.0 at) (drivings_at p 0) in
    subst (λ (l : List Driving). EachOf IsMade (l ++ drivings_of p 0 is)) (sym here) ((refl, refl), made_list d p is as_ keeps lines past.1 both.1 rest)

-- assignments of signals that ports show drive no others
assigns_drive : (x : ℕ) (test : ℕ → Bool) (shown : List Shown) → EachOf (λ (a : Shown). test a.signal ≡ true) shown → drives_block x (assigns shown) ≡ true → test x ≡ true
assigns_drive x test [] h e = absurd cc
assigns_drive x test (a ∷ as_) h e =
    elim (or_cases (nat_eq a.signal x) (drives_block x (assigns as_)) e) [
      | inl s ↦ subst (λ (k : ℕ). test k ≡ true) (eqb-true a.signal x s) h.0
      | inr s ↦ assigns_drive x test as_ h.1 s
    ]

shown_is : (x : ℕ) (qs : List Port) → shows_on x (map port_of qs) ≡ is_shown x qs
shown_is x [] = refl
shown_is x (q ∷ qs) = ap (λ (t : Bool). is_named x (option_map signal_number q.dat_r) || t) (shown_is x qs)

ports_shown : (d : Design) (x : ℕ) → shows_on x (circuit_of d).ports ≡ is_shown x d.ports
unfolding circuit_of
ports_shown d x = shown_is x d.ports

-- ---- all of it

pub grown : (d p : Design) → IsLoweredFrom d p → Grown d p
grown d p h =
    let t = tails_of d in
    let more = h.ports.added.comb in
    let ps = h.ports.added.sync in
    let of_part : (k x : ℕ) → k < length d.domains → some_drive x (drivings_of p (k + 1) (stmts_of k ps)) ≡ drives_block x (t.taken k) =
    λ k x l. block_drives p (k + 1) x (stmts_of k ps) h.ports.keeps (parts_below d p h k) ∙ ap (drives_block x) (more_sync d p h k l) in
    record {
      shown = drivings_of p 0 more;
      taken = λ k. drivings_of p (k + 1) (stmts_of k ps);
      comb =
          ap (drivings_of p 0) h.ports.added.comb_are
          ∙ in_both (drivings_at p 0) d.comb more
          ∙ ap (λ (l : List Driving). l ++ drivings_of p 0 more) (stayed d p 0 d.comb h.keeps h.ports.keeps h.ports.stays (search h.keeps.comb.there));
      sync = λ k l.
          ap (λ (qs : List SyncPart). drivings_of p (k + 1) (stmts_of k qs)) h.ports.added.sync_are
          ∙ ap (drivings_of p (k + 1)) (stmts_both k d.sync ps)
          ∙ in_both (drivings_at p (k + 1)) (stmts_of k d.sync) (stmts_of k ps)
          ∙ ap (λ (m : List Driving). m ++ drivings_of p (k + 1) (stmts_of k ps)) (stayed d p (k + 1) (stmts_of k d.sync) h.keeps h.ports.keeps h.ports.stays (sync_below d k d.sync h.keeps.sync));
      made = made_list d p more t.shown h.ports.keeps h.ports.added.lines h.ports.added.past (comb_below d p h) (more_comb d p h);
      readers = λ x e.
          sym (ports_shown d x) ∙ assigns_drive x (λ (y : ℕ). shows_on y (circuit_of d).ports) t.shown t.readers
          (ap (drives_block x) (sym (more_comb d p h)) ∙ sym (block_drives p 0 x more h.ports.keeps (comb_below d p h)) ∙ e);
      drivers = λ k. have_driver p (k + 1) (stmts_of k ps) h.ports.keeps (parts_below d p h k);
      fresh = λ k x l e. (let z = t.fresh k x (sym (of_part k x l) ∙ e) in omega (arith, z, signals_length d));
      once = λ j k x l m e f. t.once j k x (sym (of_part j x l) ∙ e) (sym (of_part k x m) ∙ f);
    }
