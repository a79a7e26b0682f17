-- Statements that keep to n signals mention no others, and assign no others.
use Rattle.std.proofs.Common.{◌≡◌, ℕ, ◌<◌, ◌||◌, ◌&&◌, true, refl, sym, ap, ◌∙◌, arith, nat_eq, inl, inr}
use Rattle.std.proofs.Math.Bool.{or_assoc}
use Rattle.std.proofs.lemmas.Bool.{and_parts, eqb-true, ltb-true, or_cases, or_left, or_right}
use Rattle.lx_circuit.specs.Locality.{target_mentions, targets_mention, mentions, branches_mention, arms_mention, block_mentions}
use Rattle.lx_circuit.specs.Places.{Place, At}
use Rattle.lx_circuit.specs.Reads.{names, some_names}
use Rattle.lx_circuit.specs.Shapes.{Shapes}
use Rattle.lx_circuit.specs.Statements.{Target, Targets, Whole, Part, CatTarget, PickTarget, NoTarget, MoreTargets, Stmt, Assign, If, Case, Branches, NoBranch, Branch, Arms, NoArm, Arm, Block, Done, Then, is_target, some_target, drives, drives_branch, drives_arm, drives_block}
use Rattle.lx_circuit.specs.Terms.{Term, Terms, Constant, Signal, Unary, Binary, Mux, Cat, Replicate, Slice, Pick, Fetch, NoTerm, MoreTerms}
use Rattle.lx_lowering.specs.Flat.{append}
use Rattle.lx_lowering.specs.Lowering.{is_sound, are_sound, has_some, TargetKeeps, TargetsKeep, StmtKeeps, BranchesKeep, ArmsKeep, BlockKeeps}

below : (n x y : ℕ) → y < n → nat_eq y x ≡ true → x < n
below n x y l e = let same = eqb-true y x e in omega arith

mutual
  sound_names : (n x : ℕ) (t : Term) → is_sound n t ≡ true → names (At x) t ≡ true → x < n
  sound_names n x (Constant value a) h e = absurd cc
  sound_names n x (Signal y) h e = below n x y (ltb-true y n h) e
  sound_names n x (Unary o a) h e = sound_names n x a h e
  sound_names n x (Binary o a b) h e =
      let p = and_parts (is_sound n a) (is_sound n b) h in
      elim (or_cases (names (At x) a) (names (At x) b) e) [
        | inl q ↦ sound_names n x a p.0 q
        | inr q ↦ sound_names n x b p.1 q
      ]
  sound_names n x (Mux c a b) h e =
      let p = and_parts (is_sound n c) (is_sound n a && is_sound n b) h in
      let r = and_parts (is_sound n a) (is_sound n b) p.1 in
      elim (or_cases (names (At x) c) (names (At x) a || names (At x) b) e) [
        | inl q ↦ sound_names n x c p.0 q
        | inr q ↦ elim (or_cases (names (At x) a) (names (At x) b) q) [
          | inl k ↦ sound_names n x a r.0 k
          | inr k ↦ sound_names n x b r.1 k
        ]
      ]
  sound_names n x (Cat parts) h e = some_sound n x parts (and_parts (has_some parts) (are_sound n parts) h).1 e
  sound_names n x (Replicate a count) h e = sound_names n x a h e
  sound_names n x (Slice a low high) h e = sound_names n x a h e
  sound_names n x (Pick items index) h e =
      let p = and_parts (has_some items) (are_sound n items && is_sound n index) h in
      let r = and_parts (are_sound n items) (is_sound n index) p.1 in
      elim (or_cases (some_names (At x) items) (names (At x) index) e) [
        | inl q ↦ some_sound n x items r.0 q
        | inr q ↦ sound_names n x index r.1 q
      ]
  sound_names n x (Fetch m width at) h e = sound_names n x at h e

  some_sound : (n x : ℕ) (ts : Terms) → are_sound n ts ≡ true → some_names (At x) ts ≡ true → x < n
  some_sound n x NoTerm h e = absurd cc
  some_sound n x (MoreTerms t ts) h e =
      let p = and_parts (is_sound n t) (are_sound n ts) h in
      elim (or_cases (names (At x) t) (some_names (At x) ts) e) [
        | inl q ↦ sound_names n x t p.0 q
        | inr q ↦ some_sound n x ts p.1 q
      ]

mutual
  target_below : (s : Shapes) (n x : ℕ) (t : Target) → TargetKeeps s n t → target_mentions (At x) t ≡ true → x < n
  target_below s n x (Whole y) h e = below n x y h e
  target_below s n x (Part y low len) h e = below n x y h.0 e
  target_below s n x (CatTarget parts) h e = targets_below s n x parts h.1 e
  target_below s n x (PickTarget items index) h e =
      elim (or_cases (targets_mention (At x) items) (names (At x) index) e) [
        | inl q ↦ targets_below s n x items h.1 q
        | inr q ↦ sound_names n x index h.2.sound q
      ]

  targets_below : (s : Shapes) (n x : ℕ) (ts : Targets) → TargetsKeep s n ts → targets_mention (At x) ts ≡ true → x < n
  targets_below s n x NoTarget h e = absurd cc
  targets_below s n x (MoreTargets t ts) h e =
      elim (or_cases (target_mentions (At x) t) (targets_mention (At x) ts) e) [
        | inl q ↦ target_below s n x t h.0 q
        | inr q ↦ targets_below s n x ts h.1 q
      ]

mutual
  stmt_below : (s : Shapes) (n x : ℕ) (st : Stmt) → StmtKeeps s n st → mentions (At x) st ≡ true → x < n
  stmt_below s n x (Assign t a) h e =
      elim (or_cases (target_mentions (At x) t) (names (At x) a) e) [
        | inl q ↦ target_below s n x t h.0 q
        | inr q ↦ sound_names n x a h.2.sound q
      ]
  stmt_below s n x (If bs rest) h e =
      elim (or_cases (branches_mention (At x) bs) (block_mentions (At x) rest) e) [
        | inl q ↦ branches_below s n x bs h.0 q
        | inr q ↦ block_below s n x rest h.1 q
      ]
  stmt_below s n x (Case on arms rest) h e =
      elim (or_cases (names (At x) on) (arms_mention (At x) arms || block_mentions (At x) rest) e) [
        | inl q ↦ sound_names n x on h.0.sound q
        | inr q ↦ elim (or_cases (arms_mention (At x) arms) (block_mentions (At x) rest) q) [
          | inl k ↦ arms_below s n x arms h.1 k
          | inr k ↦ block_below s n x rest h.2 k
        ]
      ]

  branches_below : (s : Shapes) (n x : ℕ) (bs : Branches) → BranchesKeep s n bs → branches_mention (At x) bs ≡ true → x < n
  branches_below s n x NoBranch h e = absurd cc
  branches_below s n x (Branch c b more) h e =
      elim (or_cases (names (At x) c) (block_mentions (At x) b || branches_mention (At x) more) e) [
        | inl q ↦ sound_names n x c h.0.sound q
        | inr q ↦ elim (or_cases (block_mentions (At x) b) (branches_mention (At x) more) q) [
          | inl k ↦ block_below s n x b h.1 k
          | inr k ↦ branches_below s n x more h.2 k
        ]
      ]

  arms_below : (s : Shapes) (n x : ℕ) (arms : Arms) → ArmsKeep s n arms → arms_mention (At x) arms ≡ true → x < n
  arms_below s n x NoArm h e = absurd cc
  arms_below s n x (Arm key b more) h e =
      elim (or_cases (block_mentions (At x) b) (arms_mention (At x) more) e) [
        | inl q ↦ block_below s n x b h.0 q
        | inr q ↦ arms_below s n x more h.1 q
      ]

  -- a block mentions signals below n alone
  pub block_below : (s : Shapes) (n x : ℕ) (b : Block) → BlockKeeps s n b → block_mentions (At x) b ≡ true → x < n
  block_below s n x Done h e = absurd cc
  block_below s n x (Then st ss) h e =
      elim (or_cases (mentions (At x) st) (block_mentions (At x) ss) e) [
        | inl q ↦ stmt_below s n x st h.0 q
        | inr q ↦ block_below s n x ss h.1 q
      ]

-- ---- what is assigned is mentioned

mutual
  target_mentioned : (x : ℕ) (t : Target) → is_target x t ≡ true → target_mentions (At x) t ≡ true
  target_mentioned x (Whole y) e = e
  target_mentioned x (Part y low len) e = e
  target_mentioned x (CatTarget parts) e = targets_mentioned x parts e
  target_mentioned x (PickTarget items index) e = or_left (targets_mention (At x) items) (names (At x) index) (targets_mentioned x items e)

  targets_mentioned : (x : ℕ) (ts : Targets) → some_target x ts ≡ true → targets_mention (At x) ts ≡ true
  targets_mentioned x NoTarget e = absurd cc
  targets_mentioned x (MoreTargets t ts) e =
      elim (or_cases (is_target x t) (some_target x ts) e) [
        | inl q ↦ or_left (target_mentions (At x) t) (targets_mention (At x) ts) (target_mentioned x t q)
        | inr q ↦ or_right (target_mentions (At x) t) (targets_mention (At x) ts) (targets_mentioned x ts q)
      ]

mutual
  stmt_mentioned : (x : ℕ) (st : Stmt) → drives x st ≡ true → mentions (At x) st ≡ true
  stmt_mentioned x (Assign t a) e = or_left (target_mentions (At x) t) (names (At x) a) (target_mentioned x t e)
  stmt_mentioned x (If bs rest) e =
      elim (or_cases (drives_branch x bs) (drives_block x rest) e) [
        | inl q ↦ or_left (branches_mention (At x) bs) (block_mentions (At x) rest) (branches_mentioned x bs q)
        | inr q ↦ or_right (branches_mention (At x) bs) (block_mentions (At x) rest) (block_mentioned x rest q)
      ]
  stmt_mentioned x (Case on arms rest) e =
      or_right (names (At x) on) (arms_mention (At x) arms || block_mentions (At x) rest)
      (elim (or_cases (drives_arm x arms) (drives_block x rest) e) [
        | inl q ↦ or_left (arms_mention (At x) arms) (block_mentions (At x) rest) (arms_mentioned x arms q)
        | inr q ↦ or_right (arms_mention (At x) arms) (block_mentions (At x) rest) (block_mentioned x rest q)
      ])

  branches_mentioned : (x : ℕ) (bs : Branches) → drives_branch x bs ≡ true → branches_mention (At x) bs ≡ true
  branches_mentioned x NoBranch e = absurd cc
  branches_mentioned x (Branch c b more) e =
      or_right (names (At x) c) (block_mentions (At x) b || branches_mention (At x) more)
      (elim (or_cases (drives_block x b) (drives_branch x more) e) [
        | inl q ↦ or_left (block_mentions (At x) b) (branches_mention (At x) more) (block_mentioned x b q)
        | inr q ↦ or_right (block_mentions (At x) b) (branches_mention (At x) more) (branches_mentioned x more q)
      ])

  arms_mentioned : (x : ℕ) (arms : Arms) → drives_arm x arms ≡ true → arms_mention (At x) arms ≡ true
  arms_mentioned x NoArm e = absurd cc
  arms_mentioned x (Arm key b more) e =
      elim (or_cases (drives_block x b) (drives_arm x more) e) [
        | inl q ↦ or_left (block_mentions (At x) b) (arms_mention (At x) more) (block_mentioned x b q)
        | inr q ↦ or_right (block_mentions (At x) b) (arms_mention (At x) more) (arms_mentioned x more q)
      ]

  -- a signal that a block assigns is one that it mentions
  pub block_mentioned : (x : ℕ) (b : Block) → drives_block x b ≡ true → block_mentions (At x) b ≡ true
  block_mentioned x Done e = absurd cc
  block_mentioned x (Then st ss) e =
      elim (or_cases (drives x st) (drives_block x ss) e) [
        | inl q ↦ or_left (mentions (At x) st) (block_mentions (At x) ss) (stmt_mentioned x st q)
        | inr q ↦ or_right (mentions (At x) st) (block_mentions (At x) ss) (block_mentioned x ss q)
      ]

-- ---- blocks one after the other

pub mentions_append : (y : Place) (a b : Block) → block_mentions y (append a b) ≡ (block_mentions y a || block_mentions y b)
mentions_append y Done b = refl
mentions_append y (Then x xs) b = ap (λ d. mentions y x || d) (mentions_append y xs b) ∙ sym (or_assoc (mentions y x) (block_mentions y xs) (block_mentions y b))
