-- What is known of flat statements makes lowering keep every run.
use Rattle.std.proofs.Common.{◌≡◌, ℕ, ℤ, zero, suc, ◌%◌, ◌^◌, ◌<◌, ◌≤◌, true, false, ◌&&◌, List, [], ◌∷◌, length, map, refl, sym, ◌∙◌, ap, arith, eq-eqb, ne_eqb}
use Rattle.std.specs.Prelude.{slice_index_or, nat_lt}
use Rattle.std.proofs.lemmas.Bool.{or_from, ltb-true, ltb-false}
use Rattle.lx_num.specs.Ints.{Fits, modulo, read_bits}
use Rattle.lx_circuit.specs.Places.{Place, Values, At}
use Rattle.lx_circuit.specs.Shapes.{Shapes}
use Rattle.lx_circuit.specs.Statements.{Target, Targets, Whole, Part, CatTarget, PickTarget, NoTarget, MoreTargets, Stmt, Assign, If, Case, Branches, NoBranch, Branch, Arms, NoArm, Arm, Block, Done, Then, Piece, taken_block, after_pieces, result, is_target, some_target, drives, drives_branch, drives_arm, drives_block}
use Rattle.lx_circuit.specs.Circuit.{Circuit, Domain, shapes, made, no_domain, domain_at}
use Rattle.lx_circuit.specs.Fitting.{KeepsShapes}
use Rattle.lx_circuit.specs.Reads.{reads_block}
use Rattle.lx_circuit.proofs.Cases.{by_test}
use Rattle.lx_circuit.proofs.Frames.{block_leaves}
use Rattle.lx_fhdl.specs.Nodes.{IsSmall}
use Rattle.lx_fhdl.specs.Keeping.{EachOf, block_depth}
use Rattle.lx_fhdl.specs.Lowered.{ArePlain}
use Rattle.lx_lowering.specs.Flat.{flat_block}
use Rattle.lx_lowering.specs.Split.{split_block}
use Rattle.lx_lowering.specs.Constants.{folded}
use Rattle.lx_lowering.specs.Lowering.{TargetKeeps, TargetsKeep, StmtKeeps, BranchesKeep, ArmsKeep, BlockKeeps, CanBeLowered, lowered_comb, lowered_sync, lowered_domain, lowered, SameParts, Lowers}
use Rattle.lx_lowering.proofs.SplitFacts.{is_flat_block, split_pieces, split_for, split_drives, split_reads, split_keeps, split_depth}
use Rattle.lx_lowering.proofs.Folded.{lists_folded}
use Rattle.lx_lowering.proofs.FoldFacts.{folded_result, folded_for, folded_drives, folded_reads, folded_keeps, folded_depth}
use Rattle.lx_lowering.proofs.ListFacts.{EachFor, lists_pieces, lists_drive, lists_end, lists_read, lists_plain, lists_keep, lists_depth}
use Rattle.lx_lowering.proofs.SameRuns.{AllFit, IsAlike, SameDomains, same_domain, same_roles, same_runs, order_beside}

-- What is known of flat statements, over n signals.
pub record FlatLaws (s : Shapes) (n : ℕ) : Type 0 where
  pub taken : (v : Values) → ((x : ℕ) → x < n → Fits (s x) (v (At x))) → (b : Block) → BlockKeeps s n b → taken_block s v (flat_block s b) ≡ taken_block s v b
  pub drives : (b : Block) → BlockKeeps s n b → (x : ℕ) → drives_block x (flat_block s b) ≡ drives_block x b
  pub reads : (b : Block) → BlockKeeps s n b → (x : ℕ) (y : Place) → reads_block x y (flat_block s b) ≡ true → reads_block x y b ≡ true
  pub flat : (b : Block) → BlockKeeps s n b → is_flat_block (flat_block s b) ≡ true

-- ---- statements drive no signal past the end

mutual
  target_past : (s : Shapes) (n x : ℕ) (t : Target) → TargetKeeps s n t → n ≤ x → is_target x t ≡ false
  target_past s n x (Whole y) k le = ne_eqb y x (λ e. omega arith)
  target_past s n x (Part y low len) k le = ne_eqb y x (λ e. omega (arith, k.0))
  target_past s n x (CatTarget parts) k le = targets_past s n x parts k.1 le
  target_past s n x (PickTarget items index) k le = targets_past s n x items k.1 le

  targets_past : (s : Shapes) (n x : ℕ) (ts : Targets) → TargetsKeep s n ts → n ≤ x → some_target x ts ≡ false
  targets_past s n x NoTarget k le = refl
  targets_past s n x (MoreTargets t ts) k le = or_from (is_target x t) (some_target x ts) (target_past s n x t k.0 le) (targets_past s n x ts k.1 le)

mutual
  stmt_past : (s : Shapes) (n x : ℕ) (st : Stmt) → StmtKeeps s n st → n ≤ x → drives x st ≡ false
  stmt_past s n x (Assign t e) k le = target_past s n x t k.0 le
  stmt_past s n x (If bs rest) k le = or_from (drives_branch x bs) (drives_block x rest) (branch_past s n x bs k.0 le) (drives_past s n x rest k.1 le)
  stmt_past s n x (Case on arms rest) k le = or_from (drives_arm x arms) (drives_block x rest) (arm_past s n x arms k.1 le) (drives_past s n x rest k.2 le)

  branch_past : (s : Shapes) (n x : ℕ) (bs : Branches) → BranchesKeep s n bs → n ≤ x → drives_branch x bs ≡ false
  branch_past s n x NoBranch k le = refl
  branch_past s n x (Branch c b more) k le = or_from (drives_block x b) (drives_branch x more) (drives_past s n x b k.1 le) (branch_past s n x more k.2 le)

  arm_past : (s : Shapes) (n x : ℕ) (arms : Arms) → ArmsKeep s n arms → n ≤ x → drives_arm x arms ≡ false
  arm_past s n x NoArm k le = refl
  arm_past s n x (Arm key b more) k le = or_from (drives_block x b) (drives_arm x more) (drives_past s n x b k.0 le) (arm_past s n x more k.1 le)

  pub drives_past : (s : Shapes) (n x : ℕ) (b : Block) → BlockKeeps s n b → n ≤ x → drives_block x b ≡ false
  drives_past s n x Done k le = refl
  drives_past s n x (Then st ss) k le = or_from (drives x st) (drives_block x ss) (stmt_past s n x st k.0 le) (drives_past s n x ss k.1 le)

-- by whether a signal is there
by_place : {P : Type 0} (x n : ℕ) → (x < n → P) → (n ≤ x → P) → P
by_place x n f g = by_test (nat_lt x n) (λ e. f (ltb-true x n e)) (λ e. g (ltb-false x n e))

-- ---- the lists of registers' statements

abbrev sync_of : Circuit → Block → ℕ → Block
sync_of c b x = split_block x (flat_block (shapes c) b)

abbrev Keeps : Circuit → Block → Type 0
Keeps c b = BlockKeeps (shapes c) (length c.signals) b

abbrev Laws : Circuit → Type 0
Laws c = FlatLaws (shapes c) (length c.signals)

sync_own : (c : Circuit) → Laws c → (b : Block) → Keeps c b → EachFor (sync_of c b)
sync_own c l b k = record { each = λ x. split_for x (flat_block (shapes c) b) (l.flat b k) }

own_drives : (c : Circuit) → Laws c → (b : Block) → Keeps c b → (x : ℕ) → drives_block x (sync_of c b x) ≡ drives_block x b
own_drives c l b k x =
    split_drives x x (flat_block (shapes c) b) (l.flat b k)
    ∙ (ap (λ z. z && drives_block x (flat_block (shapes c) b)) (eq-eqb x x refl) ∙ l.drives b k x)

sync_drives : (c : Circuit) → Laws c → (b : Block) → Keeps c b → (x : ℕ) → drives_block x b ≡ drives_block x (lowered_sync c b)
sync_drives c l b k x =
    by_place x (length c.signals)
    (λ lt. sym (lists_drive (sync_of c b) c.signals (sync_own c l b k) x lt ∙ own_drives c l b k x))
    (λ le. drives_past (shapes c) (length c.signals) x b k le ∙ sym (lists_end (sync_of c b) c.signals (sync_own c l b k) x le))

own_pieces : (c : Circuit) → Laws c → (v : Values) → AllFit c v → (b : Block) → Keeps c b → (x p : ℕ) → after_pieces x p (taken_block (shapes c) v (sync_of c b x)) ≡ after_pieces x p (taken_block (shapes c) v b)
own_pieces c l v f b k x p =
    split_pieces (shapes c) v x (flat_block (shapes c) b) (l.flat b k) p
    ∙ ap (λ qs. after_pieces x p qs) (l.taken v (λ y lt. f.each y) b k)

sync_pieces : (c : Circuit) → Laws c → (v : Values) → AllFit c v → (b : Block) → Keeps c b → (x p : ℕ) → after_pieces x p (taken_block (shapes c) v b) ≡ after_pieces x p (taken_block (shapes c) v (lowered_sync c b))
sync_pieces c l v f b k x p =
    by_place x (length c.signals)
    (λ lt. sym (lists_pieces (shapes c) v (sync_of c b) c.signals (sync_own c l b k) x p lt ∙ own_pieces c l v f b k x p))
    (λ le. block_leaves (shapes c) v x b (drives_past (shapes c) (length c.signals) x b k le) p
    ∙ sym (block_leaves (shapes c) v x (lowered_sync c b) (lists_end (sync_of c b) c.signals (sync_own c l b k) x le) p))

-- ---- the lists of combinatorial statements

abbrev comb_of : Circuit → ℕ → Block
comb_of c x = folded (shapes c) x (made c x).reset (sync_of c c.comb x)

comb_own : (c : Circuit) → Laws c → Keeps c c.comb → EachFor (comb_of c)
comb_own c l k = record { each = λ x. folded_for (shapes c) x (made c x).reset (sync_of c c.comb x) ((sync_own c l c.comb k).each x) }

comb_drives : (c : Circuit) → Laws c → Keeps c c.comb → (x : ℕ) → drives_block x c.comb ≡ drives_block x (lowered_comb c)
comb_drives c l k x =
    by_place x (length c.signals)
    (λ lt. sym (lists_drive (comb_of c) c.signals (comb_own c l k) x lt ∙ (folded_drives (shapes c) x x (made c x).reset (sync_of c c.comb x) ((sync_own c l c.comb k).each x) ∙ own_drives c l c.comb k x)))
    (λ le. drives_past (shapes c) (length c.signals) x c.comb k le ∙ sym (lists_end (comb_of c) c.signals (comb_own c l k) x le))

-- the same pattern gives the same result
same_read : (s : Shapes) (x : ℕ) (start : ℤ) (ps qs : List Piece) → ((p : ℕ) → after_pieces x p ps ≡ after_pieces x p qs) → result s x start ps ≡ result s x start qs
same_read s x start ps qs h = ap (λ (p : ℕ). read_bits (s x).bits (s x).signed (p % 2 ^ (s x).bits)) (h (modulo start (2 ^ (s x).bits)))

comb_result : (c : Circuit) → KeepsShapes c → Laws c → (v : Values) → AllFit c v → Keeps c c.comb → (x : ℕ) → result (shapes c) x (made c x).reset (taken_block (shapes c) v c.comb) ≡ result (shapes c) x (made c x).reset (taken_block (shapes c) v (lowered_comb c))
comb_result c made_so l v f k x =
    let s = shapes c in
    let start = (made c x).reset in
    by_place x (length c.signals)
    (λ lt. sym (
    same_read s x start (taken_block s v (lowered_comb c)) (taken_block s v (comb_of c x)) (λ p. lists_pieces s v (comb_of c) c.signals (comb_own c l k) x p lt)
    ∙ (folded_result s v x start (sync_of c c.comb x) (made_so.each x).some ((sync_own c l c.comb k).each x)
    ∙ same_read s x start (taken_block s v (sync_of c c.comb x)) (taken_block s v c.comb) (own_pieces c l v f c.comb k x))))
    (λ le. same_read s x start (taken_block s v c.comb) (taken_block s v (lowered_comb c)) (λ p. block_leaves s v x c.comb (drives_past s (length c.signals) x c.comb k le) p
    ∙ sym (block_leaves s v x (lowered_comb c) (lists_end (comb_of c) c.signals (comb_own c l k) x le) p)))

comb_reads : (c : Circuit) → Laws c → Keeps c c.comb → (x : ℕ) (y : Place) → reads_block x y (lowered_comb c) ≡ true → reads_block x y c.comb ≡ true
comb_reads c l k x y r =
    let own = lists_read (comb_of c) c.signals (comb_own c l k) x y r in
    let split = folded_reads (shapes c) x x y (made c x).reset (sync_of c c.comb x) own in
    l.reads c.comb k x y (split_reads x y (flat_block (shapes c) c.comb) (l.flat c.comb k) split)

-- ---- domains

abbrev DomainsKeep : Circuit → List Domain → Type 0
DomainsKeep c ds = EachOf (λ (d : Domain). Keeps c d.stmts) ds

same_domains : (c : Circuit) → Laws c → (ds : List Domain) → DomainsKeep c ds → SameDomains ds (map (lowered_domain c) ds)
same_domains c l [] k = tt
same_domains c l (d ∷ ds) k = (record { reset = refl; drives = sync_drives c l d.stmts k.0 }, same_domains c l ds k.1)

domain_pieces : (c : Circuit) → Laws c → (v : Values) → AllFit c v → (ds : List Domain) → DomainsKeep c ds → (d x p : ℕ)
    → after_pieces x p (taken_block (shapes c) v (slice_index_or ds d no_domain).stmts) ≡ after_pieces x p (taken_block (shapes c) v (slice_index_or (map (lowered_domain c) ds) d no_domain).stmts)
domain_pieces c l v f [] k d x p = refl
domain_pieces c l v f (e ∷ es) k zero x p = sync_pieces c l v f e.stmts k.0 x p
domain_pieces c l v f (e ∷ es) k (suc d) x p = domain_pieces c l v f es k.1 d x p

domains_plain : (c : Circuit) → Laws c → (ds : List Domain) → DomainsKeep c ds → EachOf (λ (d : Domain). ArePlain d.stmts) (map (lowered_domain c) ds)
domains_plain c l [] k = tt
domains_plain c l (d ∷ ds) k = (lists_plain (sync_of c d.stmts) c.signals (sync_own c l d.stmts k.0), domains_plain c l ds k.1)

-- ---- the lowered circuit

alike : (c : Circuit) → CanBeLowered c → Laws c → IsAlike c (lowered c)
unfolding lowered
alike c k l =
    let domains = same_domains c l c.domains k.domains in
    record {
      roles = same_roles c (lowered_comb c) (map (lowered_domain c) c.domains) (comb_drives c l k.comb) domains;
      resets = λ d. (same_domain c (lowered c) domains d).reset;
      comb = λ v f x r. comb_result c k.signals l v f k.comb x;
      sync = λ v f x d r. same_read (shapes c) x (v (At x)) (taken_block (shapes c) v (domain_at c d).stmts) (taken_block (shapes c) v (domain_at (lowered c) d).stmts) (domain_pieces c l v f c.domains k.domains d x);
    }

same_names : (c : Circuit) (ds : List Domain) → map (λ (d : Domain). d.name) (map (lowered_domain c) ds) ≡ map (λ (d : Domain). d.name) ds
same_names c [] = refl
same_names c (d ∷ ds) = ap (λ ns. d.name ∷ ns) (same_names c ds)

same_resets : (c : Circuit) (ds : List Domain) → map (λ (d : Domain). d.reset) (map (lowered_domain c) ds) ≡ map (λ (d : Domain). d.reset) ds
same_resets c [] = refl
same_resets c (d ∷ ds) = ap (λ rs. d.reset ∷ rs) (same_resets c ds)

same_parts : (c : Circuit) → SameParts c (lowered c)
unfolding lowered
same_parts c = record { signals = refl; memories = refl; ports = refl; ios = refl; names = same_names c c.domains; resets = same_resets c c.domains }

-- where flat statements are as they should be, the lowered circuit has the same runs, plain statements, constants where it reads nothing, and an order
pub lowers : (c : Circuit) → CanBeLowered c → FlatLaws (shapes c) (length c.signals) → Lowers c (lowered c)
unfolding lowered
lowers c k l = record {
  runs = same_runs c (lowered_comb c) (map (lowered_domain c) c.domains) c.ios k.signals (alike c k l);
  parts = same_parts c;
  roles = (alike c k l).roles;
  drivers = record {
    comb = λ x. sym (comb_drives c l k.comb x);
    sync = λ x d. sym ((same_domain c (lowered c) (same_domains c l c.domains k.domains) d).drives x);
  };
  comb = lists_plain (comb_of c) c.signals (comb_own c l k.comb);
  sync = domains_plain c l c.domains k.domains;
  folded = record { each = λ x. lists_folded (shapes c) (λ y. (made c y).reset) (sync_of c c.comb) c.signals (comb_own c l k.comb) x };
  order = λ o. order_beside c (lowered_comb c) (map (lowered_domain c) c.domains) c.ios o (alike c k l).roles (comb_reads c l k.comb);
}

-- ---- the lists keep what flat statements keep, and nest no deeper

pub sync_keeps : (c : Circuit) (b : Block) → is_flat_block (flat_block (shapes c) b) ≡ true → BlockKeeps (shapes c) (length c.signals) (flat_block (shapes c) b) → BlockKeeps (shapes c) (length c.signals) (lowered_sync c b)
sync_keeps c b f k = lists_keep (shapes c) (length c.signals) (sync_of c b) c.signals (λ x lt. split_keeps (shapes c) (length c.signals) x (flat_block (shapes c) b) k f)

pub comb_keeps : (c : Circuit) → ((x : ℕ) → x < length c.signals → IsSmall (shapes c x)) → is_flat_block (flat_block (shapes c) c.comb) ≡ true → BlockKeeps (shapes c) (length c.signals) (flat_block (shapes c) c.comb) → BlockKeeps (shapes c) (length c.signals) (lowered_comb c)
comb_keeps c small f k =
    lists_keep (shapes c) (length c.signals) (comb_of c) c.signals
    (λ x lt. folded_keeps (shapes c) (length c.signals) x (made c x).reset (sync_of c c.comb x) lt (small x lt) (split_keeps (shapes c) (length c.signals) x (flat_block (shapes c) c.comb) k f))

pub sync_depth : (c : Circuit) (b : Block) → block_depth (lowered_sync c b) ≤ block_depth (flat_block (shapes c) b)
sync_depth c b = lists_depth (block_depth (flat_block (shapes c) b)) (sync_of c b) c.signals (λ x lt. split_depth x (flat_block (shapes c) b))

pub comb_depth : (c : Circuit) → block_depth (lowered_comb c) ≤ block_depth (flat_block (shapes c) c.comb)
comb_depth c =
    lists_depth (block_depth (flat_block (shapes c) c.comb)) (comb_of c) c.signals
    (λ x lt. omega (arith, folded_depth (shapes c) x (made c x).reset (sync_of c c.comb x), split_depth x (flat_block (shapes c) c.comb)))
