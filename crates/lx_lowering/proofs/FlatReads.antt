-- Flat statements drive the same signals, and read no others.
use Rattle.std.proofs.Common.{◌≡◌, ℕ, ℤ, Bool, true, false, ◌&&◌, ◌||◌, not, cond, List, [], ◌∷◌, Option, Some, None, ◌+◌, refl, sym, ◌∙◌, ap, arith, inl, inr}
use Rattle.std.specs.Prelude.{nat_eq, nat_lt, ◌^◌, pos}
use Rattle.std.proofs.lemmas.Bool.{or_cases, or_left, or_right, false≢true}
use Rattle.std.proofs.lemmas.Bool.Decides.{nat_tests}
use Rattle.std.proofs.Math.Bool.{or_assoc, or-false}
use Rattle.lx_tables.specs.declared.operators.Op.TheVariants as op
use Rattle.lx_circuit.specs.Places.{Place}
use Rattle.lx_circuit.specs.Terms.{Term, Constant, Binary}
use Rattle.lx_circuit.specs.Shapes.{Shapes, shape_of}
use Rattle.lx_circuit.specs.Statements.{Target, Targets, Whole, Part, CatTarget, PickTarget, NoTarget, MoreTargets, Stmt, Assign, If, Case, Branches, NoBranch, Branch, Arms, NoArm, Arm, Block, Done, Then, is_target, some_target, drives, drives_branch, drives_arm, drives_block, target_bits}
use Rattle.lx_circuit.specs.Reads.{names, target_names, targets_name, reads, reads_branch, reads_arm, reads_block}
use Rattle.lx_lowering.specs.Terms.{never, is_item, lower_term}
use Rattle.lx_lowering.specs.Flat.{append, when, some_when, holds, fails, without_low, is_last, item_assigns, assigns, parts_assigns, items_assigns, first_branch, is_among_keys, is_value, key_of, is_key, and_none, no_key, otherwise, flat, flat_if, flat_chain, flat_arms, flat_block}
use Rattle.lx_lowering.specs.Lowering.{TargetKeeps, TargetsKeep, StmtKeeps, BranchesKeep, ArmsKeep, BlockKeeps}
use Rattle.lx_lowering.proofs.Appends.{drives_append, reads_append}
use Rattle.lx_lowering.proofs.Targets.{ShapeLaws}

-- ---- what is driven

drives_when : (y : ℕ) (c : Term) (so : Block) → drives_block y (when c so) ≡ drives_block y so
drives_when y c so = same (drives_block y so)
  where
    same : (b : Bool) → (((b || false) || false) || false) ≡ b
    same true = refl
    same false = refl

drives_some_when : (y : ℕ) (c : Term) (so : Block) → drives_block y (some_when c so) ≡ drives_block y so
drives_some_when y c Done = refl
drives_some_when y c (Then x xs) = drives_when y c (Then x xs)

-- each of two blocks drives what it should
both_drive : (y : ℕ) (a b : Block) (p q : Bool) → drives_block y a ≡ p → drives_block y b ≡ q → drives_block y (append a b) ≡ (p || q)
both_drive y a b p q e f = drives_append y a b ∙ ap (λ d. d || drives_block y b) e ∙ ap (λ d. p || d) f

drives_item : (s : Shapes) (y k : ℕ) (own more : Block) (i : Term) → drives_block y (item_assigns s k own NoTarget more i) ≡ drives_block y own
drives_item s y k own more i = by_number (nat_eq k 0)
  where
    by_number : (b : Bool) → drives_block y (cond b own (when (is_last s i k) own)) ≡ drives_block y own
    by_number true = refl
    by_number false = drives_when y (is_last s i k) own

mutual
  pub assigns_drive : (s : Shapes) (y : ℕ) (t : Target) (e : Term) → drives_block y (assigns s t e) ≡ is_target y t
  assigns_drive s y (Whole x) e = or-false (nat_eq x y)
  assigns_drive s y (Part x low len) e = or-false (nat_eq x y)
  assigns_drive s y (CatTarget parts) e = parts_drive s y parts e
  assigns_drive s y (PickTarget items index) e = items_drive s y 0 items (lower_term s index) e

  parts_drive : (s : Shapes) (y : ℕ) (ts : Targets) (e : Term) → drives_block y (parts_assigns s ts e) ≡ some_target y ts
  parts_drive s y NoTarget e = refl
  parts_drive s y (MoreTargets t ts) e =
      both_drive y (assigns s t e) (parts_assigns s ts (without_low s (target_bits s t) e)) (is_target y t) (some_target y ts) (assigns_drive s y t e) (parts_drive s y ts (without_low s (target_bits s t) e))

  items_drive : (s : Shapes) (y k : ℕ) (ts : Targets) (i e : Term) → drives_block y (items_assigns s k ts i e) ≡ some_target y ts
  items_drive s y k NoTarget i e = refl
  items_drive s y k (MoreTargets t NoTarget) i e = drives_item s y k (assigns s t e) (items_assigns s (k + 1) NoTarget i e) i ∙ assigns_drive s y t e ∙ sym (or-false (is_target y t))
  items_drive s y k (MoreTargets t (MoreTargets u us)) i e =
      both_drive y (when (is_item s i k) (assigns s t e)) (items_assigns s (k + 1) (MoreTargets u us) i e) (is_target y t) (some_target y (MoreTargets u us))
      (drives_when y (is_item s i k) (assigns s t e) ∙ assigns_drive s y t e) (items_drive s y (k + 1) (MoreTargets u us) i e)

lone_drives : (y : ℕ) (c : Term) (b chained rest : Block) → drives_block y (first_branch c b NoBranch chained rest) ≡ (drives_block y b || drives_block y rest)
lone_drives y c Done chained Done = refl
lone_drives y c Done chained (Then x xs) = or-false (drives_block y (Then x xs))
lone_drives y c (Then z zs) chained rest = same (drives_block y (Then z zs)) (drives_block y rest)
  where
    same : (b d : Bool) → (((b || false) || d) || false) ≡ (b || d)
    same true d = refl
    same false d = or-false d

otherwise_drives : (y : ℕ) (none : Option Term) (rest : Block) → drives_block y (otherwise none rest) ≡ drives_block y rest
otherwise_drives y None rest = refl
otherwise_drives y (Some c) rest = drives_some_when y c rest

mutual
  pub flat_drives : (s : Shapes) (y : ℕ) (x : Stmt) → drives_block y (flat s x) ≡ drives y x
  flat_drives s y (Assign t e) = assigns_drive s y t (lower_term s e)
  flat_drives s y (If bs rest) = if_drives s y bs (flat_block s rest) ∙ ap (λ d. drives_branch y bs || d) (flat_block_drives s y rest)
  flat_drives s y (Case on arms rest) = arms_drive s y (lower_term s on) [] None arms (flat_block s rest) ∙ ap (λ d. drives_arm y arms || d) (flat_block_drives s y rest)

  if_drives : (s : Shapes) (y : ℕ) (bs : Branches) (rest : Block) → drives_block y (flat_if s bs rest) ≡ (drives_branch y bs || drives_block y rest)
  if_drives s y NoBranch rest = refl
  if_drives s y (Branch c b NoBranch) rest =
      lone_drives y (lower_term s c) (flat_block s b) (flat_chain s (fails s (lower_term s c)) NoBranch rest) rest
      ∙ ap (λ d. d || drives_block y rest) (flat_block_drives s y b ∙ sym (or-false (drives_block y b)))
  if_drives s y (Branch c b (Branch d e more)) rest =
      both_drive y (some_when (lower_term s c) (flat_block s b)) (flat_chain s (fails s (lower_term s c)) (Branch d e more) rest) (drives_block y b) (drives_branch y (Branch d e more) || drives_block y rest)
      (drives_some_when y (lower_term s c) (flat_block s b) ∙ flat_block_drives s y b)
      (chain_drives s y (fails s (lower_term s c)) (Branch d e more) rest)
      ∙ sym (or_assoc (drives_block y b) (drives_branch y (Branch d e more)) (drives_block y rest))

  chain_drives : (s : Shapes) (y : ℕ) (none : Term) (bs : Branches) (rest : Block) → drives_block y (flat_chain s none bs rest) ≡ (drives_branch y bs || drives_block y rest)
  chain_drives s y none NoBranch rest = drives_some_when y none rest
  chain_drives s y none (Branch c b more) rest =
      let holding = Binary op.And none (holds s (lower_term s c)) in
      let failing = Binary op.And none (fails s (lower_term s c)) in
      both_drive y (some_when holding (flat_block s b)) (flat_chain s failing more rest) (drives_block y b) (drives_branch y more || drives_block y rest)
      (drives_some_when y holding (flat_block s b) ∙ flat_block_drives s y b)
      (chain_drives s y failing more rest)
      ∙ sym (or_assoc (drives_block y b) (drives_branch y more) (drives_block y rest))

  arms_drive : (s : Shapes) (y : ℕ) (on : Term) (seen : List ℤ) (none : Option Term) (arms : Arms) (rest : Block) → drives_block y (flat_arms s on seen none arms rest) ≡ (drives_arm y arms || drives_block y rest)
  arms_drive s y on seen none NoArm rest = otherwise_drives y none rest
  arms_drive s y on seen none (Arm key b more) rest =
      both_drive y (some_when (is_key s on seen key) (flat_block s b)) (flat_arms s on (key ∷ seen) (no_key s on seen none key) more rest) (drives_block y b) (drives_arm y more || drives_block y rest)
      (drives_some_when y (is_key s on seen key) (flat_block s b) ∙ flat_block_drives s y b)
      (arms_drive s y on (key ∷ seen) (no_key s on seen none key) more rest)
      ∙ sym (or_assoc (drives_block y b) (drives_arm y more) (drives_block y rest))

  pub flat_block_drives : (s : Shapes) (y : ℕ) (b : Block) → drives_block y (flat_block s b) ≡ drives_block y b
  flat_block_drives s y Done = refl
  flat_block_drives s y (Then x xs) = both_drive y (flat s x) (flat_block s xs) (drives y x) (drives_block y xs) (flat_drives s y x) (flat_block_drives s y xs)

-- ---- what is read

-- the conditions name what the expressions in them name
item_names : (s : Shapes) (y : Place) (k : ℕ) (i : Term) → names y (is_item s i k) ≡ true → names y i ≡ true
item_names s y k i = by_number (nat_lt k (2 ^ (shape_of s i).bits))
  where
    by_number : (b : Bool) → names y (cond b (Binary op.Eq i (Constant (pos k) (shape_of s i))) never) ≡ true → names y i ≡ true
    by_number true h = sym (or-false (names y i)) ∙ h
    by_number false h = absurd (false≢true h)

last_names : (s : Shapes) (y : Place) (k : ℕ) (i : Term) → names y (is_last s i k) ≡ true → names y i ≡ true
last_names s y k i = by_number (nat_lt k (2 ^ (shape_of s i).bits))
  where
    by_number : (b : Bool) → names y (cond b (Binary op.Ge i (Constant (pos k) (shape_of s i))) never) ≡ true → names y i ≡ true
    by_number true h = sym (or-false (names y i)) ∙ h
    by_number false h = absurd (false≢true h)

-- what is read under a condition: m says that it names the signal, or what it is made of
under : (m c d r : Bool) → (c ≡ true → m ≡ true) → (((c && (d || (false || false))) || (r || false)) || false) ≡ true → ((m && d) || r) ≡ true
under m c d r f h = grind (arith, nat_tests)

reads_when : (x : ℕ) (y : Place) (c : Term) (so : Block) (m : Bool) → (names y c ≡ true → m ≡ true) → reads_block x y (when c so) ≡ true → ((m && drives_block x so) || reads_block x y so) ≡ true
reads_when x y c so m f h = under m (names y c) (drives_block x so) (reads_block x y so) f h

reads_some_when : (x : ℕ) (y : Place) (c : Term) (so : Block) (m : Bool) → (names y c ≡ true → m ≡ true) → reads_block x y (some_when c so) ≡ true → ((m && drives_block x so) || reads_block x y so) ≡ true
reads_some_when x y c Done m f h = absurd (false≢true h)
reads_some_when x y c (Then t ts) m f h = reads_when x y c (Then t ts) m f h

-- what one of two blocks reads
either_reads : (x : ℕ) (y : Place) (a b : Block) (g : Bool) → (reads_block x y a ≡ true → g ≡ true) → (reads_block x y b ≡ true → g ≡ true) → reads_block x y (append a b) ≡ true → g ≡ true
either_reads x y a b g f k h = elim (or_cases (reads_block x y a) (reads_block x y b) (sym (reads_append x y a b) ∙ h)) [ inl p ↦ f p | inr p ↦ k p ]

whole_reads : (d e : Bool) → ((d && (e || false)) || false) ≡ true → (d && (e || false)) ≡ true
whole_reads d e h = sym (or-false (d && (e || false))) ∙ h

part_first : (d ds e n ns : Bool) → (d && (e || n)) ≡ true → ((d || ds) && (e || (n || ns))) ≡ true
part_first d ds e n ns h = grind (arith, nat_tests)

part_later : (d ds e n ns : Bool) → (ds && ((e || false) || ns)) ≡ true → ((d || ds) && (e || (n || ns))) ≡ true
part_later d ds e n ns h = grind (arith, nat_tests)

-- an item: i says that the index names the signal, r that the item's assignments read it
item_first : (d ds e n ns i r : Bool) → (r ≡ true → (d && (e || n)) ≡ true) → ((i && d) || r) ≡ true → ((d || ds) && (e || ((n || ns) || i))) ≡ true
item_first d ds e n ns i r f h = grind (arith, nat_tests)

item_later : (d ds e n ns i : Bool) → (ds && (e || (ns || i))) ≡ true → ((d || ds) && (e || ((n || ns) || i))) ≡ true
item_later d ds e n ns i h = grind (arith, nat_tests)

-- a lone item reads under its condition or without
own_reads : (s : Shapes) (x : ℕ) (y : Place) (k : ℕ) (own more : Block) (i : Term) → reads_block x y (item_assigns s k own NoTarget more i) ≡ true → ((names y i && drives_block x own) || reads_block x y own) ≡ true
own_reads s x y k own more i = by_number (nat_eq k 0)
  where
    by_number : (b : Bool) → reads_block x y (cond b own (when (is_last s i k) own)) ≡ true → ((names y i && drives_block x own) || reads_block x y own) ≡ true
    by_number true h = or_right (names y i && drives_block x own) (reads_block x y own) h
    by_number false h = reads_when x y (is_last s i k) own (names y i) (last_names s y k i) h

item_with : (s : Shapes) (x : ℕ) (y : Place) (own : Block) (t : Target) (e : Term) (i : Bool) → drives_block x own ≡ is_target x t → ((i && drives_block x own) || reads_block x y own) ≡ true → ((i && is_target x t) || reads_block x y own) ≡ true
item_with s x y own t e i d h = sym (ap (λ b. (i && b) || reads_block x y own) d) ∙ h

mutual
  assigns_read : (s : Shapes) (n x : ℕ) (y : Place) → ShapeLaws s n → (t : Target) → TargetKeeps s n t → (e : Term) → reads_block x y (assigns s t e) ≡ true → (is_target x t && (names y e || target_names y t)) ≡ true
  assigns_read s n x y laws (Whole z) p e h = whole_reads (nat_eq z x) (names y e) h
  assigns_read s n x y laws (Part z low len) p e h = whole_reads (nat_eq z x) (names y e) h
  assigns_read s n x y laws (CatTarget parts) p e h = parts_read s n x y laws parts p.1 e h
  assigns_read s n x y laws (PickTarget items index) p e h =
      picked (some_target x items) (names y e) (targets_name y items) (names y (lower_term s index)) (names y index) (laws.lower_names y index p.2) (items_read s n x y laws 0 items p.1 (lower_term s index) e h)
    where
      picked : (d e n i j : Bool) → (i ≡ true → j ≡ true) → (d && (e || (n || i))) ≡ true → (d && (e || (n || j))) ≡ true
      picked d e n i j f h = grind (arith, nat_tests)

  parts_read : (s : Shapes) (n x : ℕ) (y : Place) → ShapeLaws s n → (ts : Targets) → TargetsKeep s n ts → (e : Term) → reads_block x y (parts_assigns s ts e) ≡ true → (some_target x ts && (names y e || targets_name y ts)) ≡ true
  parts_read s n x y laws NoTarget p e h = absurd (false≢true h)
  parts_read s n x y laws (MoreTargets t ts) p e h =
      either_reads x y (assigns s t e) (parts_assigns s ts (without_low s (target_bits s t) e)) (some_target x (MoreTargets t ts) && (names y e || targets_name y (MoreTargets t ts)))
      (λ q. part_first (is_target x t) (some_target x ts) (names y e) (target_names y t) (targets_name y ts) (assigns_read s n x y laws t p.0 e q))
      (λ q. part_later (is_target x t) (some_target x ts) (names y e) (target_names y t) (targets_name y ts) (parts_read s n x y laws ts p.1 (without_low s (target_bits s t) e) q))
      h

  items_read : (s : Shapes) (n x : ℕ) (y : Place) → ShapeLaws s n → (k : ℕ) (ts : Targets) → TargetsKeep s n ts → (i e : Term) → reads_block x y (items_assigns s k ts i e) ≡ true → (some_target x ts && (names y e || (targets_name y ts || names y i))) ≡ true
  items_read s n x y laws k NoTarget p i e h = absurd (false≢true h)
  items_read s n x y laws k (MoreTargets t NoTarget) p i e h =
      let own = assigns s t e in
      item_first (is_target x t) false (names y e) (target_names y t) false (names y i) (reads_block x y own) (λ q. assigns_read s n x y laws t p.0 e q)
      (item_with s x y own t e (names y i) (assigns_drive s x t e) (own_reads s x y k own (items_assigns s (k + 1) NoTarget i e) i h))
  items_read s n x y laws k (MoreTargets t (MoreTargets u us)) p i e h =
      let own = assigns s t e in
      let ts = MoreTargets u us in
      either_reads x y (when (is_item s i k) own) (items_assigns s (k + 1) ts i e) (some_target x (MoreTargets t ts) && (names y e || (targets_name y (MoreTargets t ts) || names y i)))
      (λ q. item_first (is_target x t) (some_target x ts) (names y e) (target_names y t) (targets_name y ts) (names y i) (reads_block x y own) (λ w. assigns_read s n x y laws t p.0 e w)
      (item_with s x y own t e (names y i) (assigns_drive s x t e) (reads_when x y (is_item s i k) own (names y i) (item_names s y k i) q)))
      (λ q. item_later (is_target x t) (some_target x ts) (names y e) (target_names y t) (targets_name y ts) (names y i) (items_read s n x y laws (k + 1) (MoreTargets u us) p.1 i e q))
      h

-- ---- branches

lone_reads : (x : ℕ) (y : Place) (c : Term) (b chained rest : Block) → reads_block x y (first_branch c b NoBranch chained rest) ≡ true
    → ((names y c && (drives_block x b || (false || drives_block x rest))) || (reads_block x y b || reads_block x y rest)) ≡ true
lone_reads x y c Done chained Done h = absurd (false≢true h)
lone_reads x y c Done chained (Then t ts) h = sym (or-false ((names y c && (false || (false || drives_block x (Then t ts)))) || (false || reads_block x y (Then t ts)))) ∙ h
lone_reads x y c (Then u us) chained rest h = sym (or-false ((names y c && (drives_block x (Then u us) || (false || drives_block x rest))) || (reads_block x y (Then u us) || reads_block x y rest))) ∙ h

-- c: the condition names the signal, d: the branch drives x, ds: further branches do, dr: the rest does, and r, rs, q: they read it; with a prime in the flat statements
lone_step : (c c' d d' dr r r' q q' : Bool) → (c' ≡ true → c ≡ true) → d' ≡ d → (r' ≡ true → r ≡ true) → (q' ≡ true → q ≡ true)
    → ((c' && (d' || (false || dr))) || (r' || q')) ≡ true → ((c && (d || (false || dr))) || (r || q)) ≡ true
lone_step c c' d d' dr r r' q q' f e g k h = grind (arith, nat_tests)

first_step : (c d d' ds dr r r' rs : Bool) → d' ≡ d → (r' ≡ true → r ≡ true) → ((c && d') || r') ≡ true → ((c && (d || (ds || dr))) || (r || rs)) ≡ true
first_step c d d' ds dr r r' rs e f h = grind (arith, nat_tests)

later_step : (c c' d ds dr r rs : Bool) → (c' ≡ true → c ≡ true) → (((c' || false) && (ds || dr)) || rs) ≡ true → ((c && (d || (ds || dr))) || (r || rs)) ≡ true
later_step c c' d ds dr r rs f h = grind (arith, nat_tests)

-- o: the condition that no branch before was taken names the signal
further_step : (o c d d' ds dr r r' rs : Bool) → d' ≡ d → (r' ≡ true → r ≡ true) → (((o || c) && d') || r') ≡ true → ((o && ((d || ds) || dr)) || ((c && (d || (ds || dr))) || (r || rs))) ≡ true
further_step o c d d' ds dr r r' rs e f h = grind (arith, nat_tests)

after_step : (o c c' d ds dr r rs : Bool) → (c' ≡ true → c ≡ true) → (((o || (c' || false)) && (ds || dr)) || rs) ≡ true → ((o && ((d || ds) || dr)) || ((c && (d || (ds || dr))) || (r || rs))) ≡ true
after_step o c c' d ds dr r rs f h = grind (arith, nat_tests)

either_names : (o c c' : Bool) → (c' ≡ true → c ≡ true) → (o || (c' || false)) ≡ true → (o || c) ≡ true
either_names o c c' f h = grind (arith, nat_tests)

rest_step : (o dr r r' : Bool) → (r' ≡ true → r ≡ true) → ((o && dr) || r') ≡ true → ((o && (false || dr)) || r) ≡ true
rest_step o dr r r' f h = grind (arith, nat_tests)

-- ---- arms

arm_step : (o d d' ds dr r r' rs q : Bool) → d' ≡ d → (r' ≡ true → r ≡ true) → ((o && d') || r') ≡ true → ((o && ((d || ds) || dr)) || ((r || rs) || q)) ≡ true
arm_step o d d' ds dr r r' rs q e f h = grind (arith, nat_tests)

arms_step : (o d ds dr r rs q : Bool) → ((o && (ds || dr)) || (rs || q)) ≡ true → ((o && ((d || ds) || dr)) || ((r || rs) || q)) ≡ true
arms_step o d ds dr r rs q h = grind (arith, nat_tests)

key_names : (s : Shapes) (y : Place) (on : Term) (seen : List ℤ) (key : ℤ) → names y (is_key s on seen key) ≡ true → names y on ≡ true
key_names s y on seen key = by_test (is_value s on key && not (is_among_keys key seen))
  where
    by_test : (b : Bool) → names y (cond b (Binary op.Eq on (key_of s on key)) never) ≡ true → names y on ≡ true
    by_test true h = sym (or-false (names y on)) ∙ h
    by_test false h = absurd (false≢true h)

abbrev some_names_it : Place → Option Term → Bool
some_names_it y None = false
some_names_it y (Some c) = names y c

no_key_names : (s : Shapes) (y : Place) (on : Term) (seen : List ℤ) (none : Option Term) (key : ℤ) → (some_names_it y none ≡ true → names y on ≡ true) → some_names_it y (no_key s on seen none key) ≡ true → names y on ≡ true
no_key_names s y on seen none key f = by_test (is_value s on key && not (is_among_keys key seen)) none f
  where
    by_test : (b : Bool) (before : Option Term) → (some_names_it y before ≡ true → names y on ≡ true) → some_names_it y (cond b (and_none before (Binary op.Ne on (key_of s on key))) before) ≡ true → names y on ≡ true
    by_test true None f h = sym (or-false (names y on)) ∙ h
    by_test true (Some c) f h = elim (or_cases (names y c) (names y on || false) h) [ inl p ↦ f p | inr p ↦ sym (or-false (names y on)) ∙ p ]
    by_test false before f h = f h

otherwise_reads : (x : ℕ) (y : Place) (none : Option Term) (rest : Block) (o : Bool) → (some_names_it y none ≡ true → o ≡ true) → reads_block x y (otherwise none rest) ≡ true → ((o && drives_block x rest) || reads_block x y rest) ≡ true
otherwise_reads x y None rest o f h = or_right (o && drives_block x rest) (reads_block x y rest) h
otherwise_reads x y (Some c) rest o f h = reads_some_when x y c rest o f h

mutual
  pub flat_reads : (s : Shapes) (n x : ℕ) (y : Place) → ShapeLaws s n → (t : Stmt) → StmtKeeps s n t → reads_block x y (flat s t) ≡ true → reads x y t ≡ true
  flat_reads s n x y laws (Assign t e) p h =
      assigned (is_target x t) (names y (lower_term s e)) (names y e) (target_names y t) (laws.lower_names y e p.2) (assigns_read s n x y laws t p.0 (lower_term s e) h)
    where
      assigned : (d e' e k : Bool) → (e' ≡ true → e ≡ true) → (d && (e' || k)) ≡ true → (d && (e || k)) ≡ true
      assigned d e' e k f h = grind (arith, nat_tests)
  flat_reads s n x y laws (If bs rest) p h =
      ap (λ d. reads_branch x y bs d (reads_block x y rest)) (sym (flat_block_drives s x rest))
      ∙ if_read s n x y laws bs p.0 (flat_block s rest) (reads_block x y rest) (λ q. flat_block_reads s n x y laws rest p.1 q) h
  flat_reads s n x y laws (Case on arms rest) p h =
      cased (names y (lower_term s on)) (names y on) (drives_arm x arms) (drives_block x (flat_block s rest)) (drives_block x rest) (reads_arm x y arms || reads_block x y rest) (laws.lower_names y on p.0) (flat_block_drives s x rest)
      (arms_read s n x y laws (lower_term s on) [] None (λ q. absurd (false≢true q)) arms p.1 (flat_block s rest) (reads_block x y rest) (λ q. flat_block_reads s n x y laws rest p.2 q) h)
    where
      cased : (o' o d r' r k : Bool) → (o' ≡ true → o ≡ true) → r' ≡ r → ((o' && (d || r')) || k) ≡ true → ((o && (d || r)) || k) ≡ true
      cased o' o d r' r k f e h = grind (arith, nat_tests)

  if_read : (s : Shapes) (n x : ℕ) (y : Place) → ShapeLaws s n → (bs : Branches) → BranchesKeep s n bs → (rest : Block) (q : Bool) → (reads_block x y rest ≡ true → q ≡ true)
      → reads_block x y (flat_if s bs rest) ≡ true → reads_branch x y bs (drives_block x rest) q ≡ true
  if_read s n x y laws NoBranch p rest q f h = f h
  if_read s n x y laws (Branch c b NoBranch) p rest q f h =
      lone_step (names y c) (names y (lower_term s c)) (drives_block x b) (drives_block x (flat_block s b)) (drives_block x rest) (reads_block x y b) (reads_block x y (flat_block s b)) q (reads_block x y rest)
      (laws.lower_names y c p.0) (flat_block_drives s x b) (λ w. flat_block_reads s n x y laws b p.1 w) f
      (lone_reads x y (lower_term s c) (flat_block s b) (flat_chain s (fails s (lower_term s c)) NoBranch rest) rest h)
  if_read s n x y laws (Branch c b (Branch d e more)) p rest q f h =
      let c' = lower_term s c in
      let b' = flat_block s b in
      let ds = drives_branch x (Branch d e more) in
      let rs = reads_branch x y (Branch d e more) (drives_block x rest) q in
      either_reads x y (some_when c' b') (flat_chain s (fails s c') (Branch d e more) rest) (reads_branch x y (Branch c b (Branch d e more)) (drives_block x rest) q)
      (λ w. first_step (names y c) (drives_block x b) (drives_block x b') ds (drives_block x rest) (reads_block x y b) (reads_block x y b') rs (flat_block_drives s x b) (λ z. flat_block_reads s n x y laws b p.1 z)
      (reads_some_when x y c' b' (names y c) (laws.lower_names y c p.0) w))
      (λ w. later_step (names y c) (names y c') (drives_block x b) ds (drives_block x rest) (reads_block x y b) rs (laws.lower_names y c p.0) (chain_read s n x y laws (fails s c') (Branch d e more) p.2 rest q f w))
      h

  chain_read : (s : Shapes) (n x : ℕ) (y : Place) → ShapeLaws s n → (none : Term) (bs : Branches) → BranchesKeep s n bs → (rest : Block) (q : Bool) → (reads_block x y rest ≡ true → q ≡ true)
      → reads_block x y (flat_chain s none bs rest) ≡ true → ((names y none && (drives_branch x bs || drives_block x rest)) || reads_branch x y bs (drives_block x rest) q) ≡ true
  chain_read s n x y laws none NoBranch p rest q f h = rest_step (names y none) (drives_block x rest) q (reads_block x y rest) f (reads_some_when x y none rest (names y none) (λ w. w) h)
  chain_read s n x y laws none (Branch c b more) p rest q f h =
      let c' = lower_term s c in
      let b' = flat_block s b in
      let holding = Binary op.And none (holds s c') in
      let failing = Binary op.And none (fails s c') in
      let rs = reads_branch x y more (drives_block x rest) q in
      either_reads x y (some_when holding b') (flat_chain s failing more rest) ((names y none && (drives_branch x (Branch c b more) || drives_block x rest)) || reads_branch x y (Branch c b more) (drives_block x rest) q)
      (λ w. further_step (names y none) (names y c) (drives_block x b) (drives_block x b') (drives_branch x more) (drives_block x rest) (reads_block x y b) (reads_block x y b') rs (flat_block_drives s x b) (λ z. flat_block_reads s n x y laws b p.1 z)
      (reads_some_when x y holding b' (names y none || names y c) (either_names (names y none) (names y c) (names y c') (laws.lower_names y c p.0)) w))
      (λ w. after_step (names y none) (names y c) (names y c') (drives_block x b) (drives_branch x more) (drives_block x rest) (reads_block x y b) rs (laws.lower_names y c p.0) (chain_read s n x y laws failing more p.2 rest q f w))
      h

  arms_read : (s : Shapes) (n x : ℕ) (y : Place) → ShapeLaws s n → (on : Term) (seen : List ℤ) (none : Option Term) → (some_names_it y none ≡ true → names y on ≡ true) → (arms : Arms) → ArmsKeep s n arms → (rest : Block) (q : Bool) → (reads_block x y rest ≡ true → q ≡ true)
      → reads_block x y (flat_arms s on seen none arms rest) ≡ true → ((names y on && (drives_arm x arms || drives_block x rest)) || (reads_arm x y arms || q)) ≡ true
  arms_read s n x y laws on seen none o NoArm p rest q f h = rest_step (names y on) (drives_block x rest) q (reads_block x y rest) f (otherwise_reads x y none rest (names y on) o h)
  arms_read s n x y laws on seen none o (Arm key b more) p rest q f h =
      let b' = flat_block s b in
      either_reads x y (some_when (is_key s on seen key) b') (flat_arms s on (key ∷ seen) (no_key s on seen none key) more rest) ((names y on && (drives_arm x (Arm key b more) || drives_block x rest)) || (reads_arm x y (Arm key b more) || q))
      (λ w. arm_step (names y on) (drives_block x b) (drives_block x b') (drives_arm x more) (drives_block x rest) (reads_block x y b) (reads_block x y b') (reads_arm x y more) q (flat_block_drives s x b) (λ z. flat_block_reads s n x y laws b p.0 z)
      (reads_some_when x y (is_key s on seen key) b' (names y on) (key_names s y on seen key) w))
      (λ w. arms_step (names y on) (drives_block x b) (drives_arm x more) (drives_block x rest) (reads_block x y b) (reads_arm x y more) q
      (arms_read s n x y laws on (key ∷ seen) (no_key s on seen none key) (no_key_names s y on seen none key o) more p.1 rest q f w))
      h

  pub flat_block_reads : (s : Shapes) (n x : ℕ) (y : Place) → ShapeLaws s n → (b : Block) → BlockKeeps s n b → reads_block x y (flat_block s b) ≡ true → reads_block x y b ≡ true
  flat_block_reads s n x y laws Done p h = absurd (false≢true h)
  flat_block_reads s n x y laws (Then t ts) p h =
      either_reads x y (flat s t) (flat_block s ts) (reads x y t || reads_block x y ts)
      (λ w. or_left (reads x y t) (reads_block x y ts) (flat_reads s n x y laws t p.0 w))
      (λ w. or_right (reads x y t) (reads_block x y ts) (flat_block_reads s n x y laws ts p.1 w))
      h
