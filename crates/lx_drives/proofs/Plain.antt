-- A statement for one signal drives that signal and no other.
use Rattle.std.proofs.Common.{◌≡◌, ℕ, Bool, true, false, not, ◌&&◌, ◌||◌, refl, sym, ◌∙◌, ap, nat_eq}
use Rattle.std.proofs.lemmas.Bool.{and_parts, eqb-true, eq-eqb, true≢false}
use Rattle.lx_circuit.specs.Statements.{Target, Whole, Part, CatTarget, PickTarget, Stmt, Assign, If, Case, Branches, NoBranch, Branch, Block, Done, Then, is_target, drives, drives_branch, drives_block}
use Rattle.lx_fhdl.specs.Lowered.{is_plain_target, is_done, is_lone, is_for, branches_are_for, are_for}

pub target_drives : (x y : ℕ) (t : Target) → is_plain_target x t ≡ true → is_target y t ≡ nat_eq x y
target_drives x y (Whole z) e = ap (λ k. nat_eq k y) (eqb-true z x e)
target_drives x y (Part z low len) e = ap (λ k. nat_eq k y) (eqb-true z x e)
target_drives x y (CatTarget parts) e = absurd (true≢false (sym e))
target_drives x y (PickTarget items index) e = absurd (true≢false (sym e))

-- no branch has a statement
abbrev is_idle : Branches → Bool
is_idle NoBranch = true
is_idle (Branch c b more) = is_done b && is_idle more

first_or_later : (d t : Bool) → (t || (not d && t)) ≡ t
first_or_later d true = refl
first_or_later true false = refl
first_or_later false false = refl

either_drives : (a b t : Bool) → ((not a && t) || (not b && t)) ≡ (not (a && b) && t)
either_drives true b t = refl
either_drives false true true = refl
either_drives false true false = refl
either_drives false false true = refl
either_drives false false false = refl

-- what has one branch alone has a statement
lone_acts : (bs : Branches) (rest : Block) → is_lone bs rest ≡ true → not (is_idle bs && is_done rest) ≡ true
lone_acts NoBranch rest e = absurd (true≢false (sym e))
lone_acts (Branch c b NoBranch) rest e = at_end (is_done b) (is_done rest) e
  where
    at_end : (p q : Bool) → not (p && q) ≡ true → not ((p && true) && q) ≡ true
    at_end true q h = h
    at_end false q h = h
lone_acts (Branch c b (Branch d a more)) rest e = absurd (true≢false (sym e))

mutual
  pub for_drives : (x y : ℕ) (s : Stmt) → is_for x s ≡ true → drives y s ≡ nat_eq x y
  for_drives x y (Assign t e) h = target_drives x y t h
  for_drives x y (If bs rest) h =
      let p = and_parts (is_lone bs rest) (branches_are_for x bs && are_for x rest) h in
      let q = and_parts (branches_are_for x bs) (are_for x rest) p.1 in
      ap (λ z. z || drives_block y rest) (branches_drive x y bs q.0)
      ∙ ap (λ z. (not (is_idle bs) && nat_eq x y) || z) (block_drives x y rest q.1)
      ∙ either_drives (is_idle bs) (is_done rest) (nat_eq x y)
      ∙ ap (λ z. z && nat_eq x y) (lone_acts bs rest p.0)
  for_drives x y (Case on arms rest) h = absurd (true≢false (sym h))

  branches_drive : (x y : ℕ) (bs : Branches) → branches_are_for x bs ≡ true → drives_branch y bs ≡ (not (is_idle bs) && nat_eq x y)
  branches_drive x y NoBranch h = refl
  branches_drive x y (Branch c b more) h =
      let p = and_parts (are_for x b) (branches_are_for x more) h in
      ap (λ z. z || drives_branch y more) (block_drives x y b p.0)
      ∙ ap (λ z. (not (is_done b) && nat_eq x y) || z) (branches_drive x y more p.1)
      ∙ either_drives (is_done b) (is_idle more) (nat_eq x y)

  pub block_drives : (x y : ℕ) (b : Block) → are_for x b ≡ true → drives_block y b ≡ (not (is_done b) && nat_eq x y)
  block_drives x y Done h = refl
  block_drives x y (Then s ss) h =
      let p = and_parts (is_for x s) (are_for x ss) h in
      ap (λ z. z || drives_block y ss) (for_drives x y s p.0)
      ∙ ap (λ z. nat_eq x y || z) (block_drives x y ss p.1)
      ∙ first_or_later (is_done ss) (nat_eq x y)

-- so it is for no other
pub for_same : (x y : ℕ) (s : Stmt) → is_for x s ≡ true → is_for y s ≡ true → x ≡ y
for_same x y s h k = eqb-true x y (sym (for_drives x y s h) ∙ for_drives y y s k ∙ eq-eqb y y refl)
