-- Flat statements keep what their statements kept, each has one branch, and they are no deeper.
use Rattle.std.proofs.Common.{◌≡◌, ℕ, ℤ, pos, Bool, true, false, ◌&&◌, not, cond, List, [], ◌∷◌, Option, Some, None, ◌+◌, ◌^◌, ◌≤◌, max, refl, sym, ◌∙◌, ap, arith}
use Rattle.std.specs.Prelude.{nat_eq, nat_lt}
use Rattle.std.proofs.lemmas.Bool.{and_from, and_parts, true≢false}
use Rattle.std.proofs.lemmas.Bool.Decides.{nat_tests}
use Rattle.lx_num.specs.declared.Shape.{Shape}
use Rattle.lx_num.specs.Ints.{unsigned, shape}
use Rattle.lx_tables.specs.declared.operators.Op.TheVariants as op
use Rattle.lx_circuit.specs.Terms.{Term, Constant, Binary}
use Rattle.lx_circuit.specs.Shapes.{Shapes, shape_of, fault_of, or_else, constant_fault, joined, joined_fault, binary_fault}
use Rattle.lx_circuit.specs.Statements.{Target, Targets, Whole, Part, CatTarget, PickTarget, NoTarget, MoreTargets, Stmt, Assign, If, Case, Branches, NoBranch, Branch, Arms, NoArm, Arm, Block, Done, Then, target_bits, sum_bits, most_bits}
use Rattle.lx_fhdl.specs.Nodes.{IsSmall}
use Rattle.lx_fhdl.specs.Keeping.{target_depth, targets_depth, stmt_depth, branches_depth, arms_depth, block_depth}
use Rattle.lx_fhdl.specs.Lowered.{is_done}
use Rattle.lx_fhdl.proofs.Meanings.{after_none}
use Rattle.lx_lowering.specs.Terms.{never, is_item, lower_term}
use Rattle.lx_lowering.specs.Flat.{append, when, some_when, holds, fails, without_low, is_last, item_assigns, assigns, parts_assigns, items_assigns, first_branch, is_among_keys, is_value, key_of, is_key, and_none, no_key, otherwise, flat, flat_if, flat_chain, flat_arms, flat_block}
use Rattle.lx_lowering.specs.Lowering.{is_sound, some_targets, TargetKeeps, TargetsKeep, TermKeeps, StmtKeeps, BranchesKeep, ArmsKeep, BlockKeeps}
use Rattle.lx_lowering.proofs.SplitFacts.{is_flat, is_flat_block as are_flat}
use Rattle.lx_lowering.proofs.Appends.{keeps_append, depth_append}
use Rattle.lx_lowering.proofs.Targets.{ShapeLaws, without_low_keeps}
use Rattle.lx_lowering.proofs.Picks.{small_constant, compared}

-- ---- conditions keep what their expressions kept

joined_same : (a : Shape) → (joined a a).bits ≡ a.bits
joined_same a = same a.bits a.signed
  where
    same : (n : ℕ) (g : Bool) → (joined (shape n g) (shape n g)).bits ≡ n
    same n true = omega arith
    same n false = omega arith

-- a condition: one unsigned bit
pub record IsCondition (s : Shapes) (n : ℕ) (c : Term) : Type 0 where
  pub keeps : TermKeeps s n c
  pub bit : shape_of s c ≡ unsigned 1

pub never_condition : (s : Shapes) (n : ℕ) → IsCondition s n never
never_condition s n = record { keeps = record { sound = refl; fault = refl }; bit = refl }

-- an expression compared with a constant
pub equals_condition : (s : Shapes) (n : ℕ) (c : Term) (k : ℤ) → IsSmall (shape_of s c) → TermKeeps s n c → IsCondition s n (Binary op.Eq c (Constant k (shape_of s c)))
equals_condition s n c k p q = record {
  keeps = record {
    sound = and_from (is_sound n c) true q.sound refl;
    fault = after_none (fault_of s c) (or_else (constant_fault (shape_of s c)) (joined_fault (shape_of s c) (shape_of s c) (unsigned 1))) q.fault
        (after_none (constant_fault (shape_of s c)) (joined_fault (shape_of s c) (shape_of s c) (unsigned 1)) (small_constant (shape_of s c) p) (compared (shape_of s c) p));
  };
  bit = refl;
}

pub differs_condition : (s : Shapes) (n : ℕ) (c : Term) (k : ℤ) → IsSmall (shape_of s c) → TermKeeps s n c → IsCondition s n (Binary op.Ne c (Constant k (shape_of s c)))
differs_condition s n c k p q = let e = equals_condition s n c k p q in record { keeps = record { sound = e.keeps.sound; fault = e.keeps.fault }; bit = refl }

pub least_condition : (s : Shapes) (n : ℕ) (c : Term) (k : ℤ) → IsSmall (shape_of s c) → TermKeeps s n c → IsCondition s n (Binary op.Ge c (Constant k (shape_of s c)))
least_condition s n c k p q = let e = equals_condition s n c k p q in record { keeps = record { sound = e.keeps.sound; fault = e.keeps.fault }; bit = refl }

pub and_condition : (s : Shapes) (n : ℕ) (a b : Term) → IsCondition s n a → IsCondition s n b → IsCondition s n (Binary op.And a b)
and_condition s n a b p q = record {
  keeps = record {
    sound = and_from (is_sound n a) (is_sound n b) p.keeps.sound q.keeps.sound;
    fault = after_none (fault_of s a) (or_else (fault_of s b) (binary_fault op.And (shape_of s a) (shape_of s b))) p.keeps.fault
        (after_none (fault_of s b) (binary_fault op.And (shape_of s a) (shape_of s b)) q.keeps.fault
        (ap (λ x. binary_fault op.And x (shape_of s b)) p.bit ∙ ap (λ x. binary_fault op.And (unsigned 1) x) q.bit));
  };
  bit = ap (λ x. joined x (shape_of s b)) p.bit ∙ ap (λ x. joined (unsigned 1) x) q.bit;
}

-- ---- statements keep what their statements kept

when_keeps : (s : Shapes) (n : ℕ) (c : Term) (so : Block) → TermKeeps s n c → BlockKeeps s n so → BlockKeeps s n (when c so)
when_keeps s n c so p q = (((p, q, tt), tt), tt)

some_when_keeps : (s : Shapes) (n : ℕ) (c : Term) (so : Block) → TermKeeps s n c → BlockKeeps s n so → BlockKeeps s n (some_when c so)
some_when_keeps s n c Done p q = tt
some_when_keeps s n c (Then x xs) p q = when_keeps s n c (Then x xs) p q

item_condition : (s : Shapes) (n k : ℕ) (i : Term) → IsSmall (shape_of s i) → TermKeeps s n i → IsCondition s n (is_item s i k)
item_condition s n k i p q = by_number (nat_lt k (2 ^ (shape_of s i).bits))
  where
    by_number : (b : Bool) → IsCondition s n (cond b (Binary op.Eq i (Constant (pos k) (shape_of s i))) never)
    by_number true = equals_condition s n i (pos k) p q
    by_number false = never_condition s n

last_condition : (s : Shapes) (n k : ℕ) (i : Term) → IsSmall (shape_of s i) → TermKeeps s n i → IsCondition s n (is_last s i k)
last_condition s n k i p q = by_number (nat_lt k (2 ^ (shape_of s i).bits))
  where
    by_number : (b : Bool) → IsCondition s n (cond b (Binary op.Ge i (Constant (pos k) (shape_of s i))) never)
    by_number true = least_condition s n i (pos k) p q
    by_number false = never_condition s n

item_keeps : (s : Shapes) (n k : ℕ) (own more : Block) (i : Term) → IsSmall (shape_of s i) → TermKeeps s n i → BlockKeeps s n own → BlockKeeps s n (item_assigns s k own NoTarget more i)
item_keeps s n k own more i p q h = by_number (nat_eq k 0)
  where
    by_number : (b : Bool) → BlockKeeps s n (cond b own (when (is_last s i k) own))
    by_number true = h
    by_number false = when_keeps s n (is_last s i k) own (last_condition s n k i p q).keeps h

mutual
  assigns_keep : (s : Shapes) (n : ℕ) → ShapeLaws s n → (t : Target) → TargetKeeps s n t → target_bits s t ≤ 127 → (e : Term) → TermKeeps s n e → BlockKeeps s n (assigns s t e)
  assigns_keep s n laws (Whole x) p h e q = ((p, h, q), tt)
  assigns_keep s n laws (Part x low len) p h e q = ((p, h, q), tt)
  assigns_keep s n laws (CatTarget parts) p h e q = parts_keep s n laws parts p.1 h e q
  assigns_keep s n laws (PickTarget items index) p h e q =
      let k = laws.lower_keeps index p.2 in
      items_keep s n laws 0 items p.1 h (lower_term s index) (laws.term_small (lower_term s index) k) k e q

  parts_keep : (s : Shapes) (n : ℕ) → ShapeLaws s n → (ts : Targets) → TargetsKeep s n ts → sum_bits s ts ≤ 127 → (e : Term) → TermKeeps s n e → BlockKeeps s n (parts_assigns s ts e)
  parts_keep s n laws NoTarget p h e q = tt
  parts_keep s n laws (MoreTargets t ts) p h e q =
      keeps_append s n (assigns s t e) (parts_assigns s ts (without_low s (target_bits s t) e)) (assigns_keep s n laws t p.0 (omega arith) e q)
      (parts_keep s n laws ts p.1 (omega arith) (without_low s (target_bits s t) e) (without_low_keeps s n (target_bits s t) e q))

  items_keep : (s : Shapes) (n : ℕ) → ShapeLaws s n → (k : ℕ) (ts : Targets) → TargetsKeep s n ts → most_bits s ts ≤ 127 → (i : Term) → IsSmall (shape_of s i) → TermKeeps s n i → (e : Term) → TermKeeps s n e → BlockKeeps s n (items_assigns s k ts i e)
  items_keep s n laws k NoTarget p h i small r e q = tt
  items_keep s n laws k (MoreTargets t NoTarget) p h i small r e q =
      item_keeps s n k (assigns s t e) (items_assigns s (k + 1) NoTarget i e) i small r (assigns_keep s n laws t p.0 (omega arith) e q)
  items_keep s n laws k (MoreTargets t (MoreTargets u us)) p h i small r e q =
      keeps_append s n (when (is_item s i k) (assigns s t e)) (items_assigns s (k + 1) (MoreTargets u us) i e)
      (when_keeps s n (is_item s i k) (assigns s t e) (item_condition s n k i small r).keeps (assigns_keep s n laws t p.0 (omega arith) e q))
      (items_keep s n laws (k + 1) (MoreTargets u us) p.1 (omega arith) i small r e q)

lone_keeps : (s : Shapes) (n : ℕ) (c : Term) (b chained rest : Block) → TermKeeps s n c → BlockKeeps s n b → BlockKeeps s n rest → BlockKeeps s n (first_branch c b NoBranch chained rest)
lone_keeps s n c Done chained Done p q r = tt
lone_keeps s n c Done chained (Then x xs) p q r = (((p, q, tt), r), tt)
lone_keeps s n c (Then y ys) chained rest p q r = (((p, q, tt), r), tt)

-- the condition that no arm was taken, where there is one
abbrev NoneKeeps : Shapes → ℕ → Option Term → Type 0
NoneKeeps s n None = Unit {0}
NoneKeeps s n (Some c) = IsCondition s n c

key_condition : (s : Shapes) (n : ℕ) (on : Term) (seen : List ℤ) (key : ℤ) → IsSmall (shape_of s on) → TermKeeps s n on → IsCondition s n (is_key s on seen key)
key_condition s n on seen key p q = by_test (is_value s on key && not (is_among_keys key seen))
  where
    by_test : (b : Bool) → IsCondition s n (cond b (Binary op.Eq on (key_of s on key)) never)
    by_test true = equals_condition s n on key p q
    by_test false = never_condition s n

no_key_keeps : (s : Shapes) (n : ℕ) (on : Term) (seen : List ℤ) (none : Option Term) (key : ℤ) → IsSmall (shape_of s on) → TermKeeps s n on → NoneKeeps s n none → NoneKeeps s n (no_key s on seen none key)
no_key_keeps s n on seen none key p q h = by_test (is_value s on key && not (is_among_keys key seen)) none h
  where
    by_test : (b : Bool) (before : Option Term) → NoneKeeps s n before → NoneKeeps s n (cond b (and_none before (Binary op.Ne on (key_of s on key))) before)
    by_test true None h = differs_condition s n on key p q
    by_test true (Some c) h = and_condition s n c (Binary op.Ne on (key_of s on key)) h (differs_condition s n on key p q)
    by_test false before h = h

otherwise_keeps : (s : Shapes) (n : ℕ) (none : Option Term) (rest : Block) → NoneKeeps s n none → BlockKeeps s n rest → BlockKeeps s n (otherwise none rest)
otherwise_keeps s n None rest h r = r
otherwise_keeps s n (Some c) rest h r = some_when_keeps s n c rest h.keeps r

mutual
  pub flat_keeps : (s : Shapes) (n : ℕ) → ShapeLaws s n → (x : Stmt) → StmtKeeps s n x → BlockKeeps s n (flat s x)
  flat_keeps s n laws (Assign t e) p = assigns_keep s n laws t p.0 p.1 (lower_term s e) (laws.lower_keeps e p.2)
  flat_keeps s n laws (If bs rest) p = if_keeps s n laws bs p.0 (flat_block s rest) (flat_block_keeps s n laws rest p.1)
  flat_keeps s n laws (Case on arms rest) p =
      let k = laws.lower_keeps on p.0 in
      arms_keep s n laws (lower_term s on) (laws.term_small (lower_term s on) k) k [] None tt arms p.1 (flat_block s rest) (flat_block_keeps s n laws rest p.2)

  if_keeps : (s : Shapes) (n : ℕ) → ShapeLaws s n → (bs : Branches) → BranchesKeep s n bs → (rest : Block) → BlockKeeps s n rest → BlockKeeps s n (flat_if s bs rest)
  if_keeps s n laws NoBranch p rest r = r
  if_keeps s n laws (Branch c b NoBranch) p rest r =
      lone_keeps s n (lower_term s c) (flat_block s b) (flat_chain s (fails s (lower_term s c)) NoBranch rest) rest (laws.lower_keeps c p.0) (flat_block_keeps s n laws b p.1) r
  if_keeps s n laws (Branch c b (Branch d e more)) p rest r =
      let x = lower_term s c in
      let k = laws.lower_keeps c p.0 in
      keeps_append s n (some_when x (flat_block s b)) (flat_chain s (fails s x) (Branch d e more) rest) (some_when_keeps s n x (flat_block s b) k (flat_block_keeps s n laws b p.1))
      (chain_keeps s n laws (fails s x) (equals_condition s n x (pos 0) (laws.term_small x k) k) (Branch d e more) p.2 rest r)

  chain_keeps : (s : Shapes) (n : ℕ) → ShapeLaws s n → (none : Term) → IsCondition s n none → (bs : Branches) → BranchesKeep s n bs → (rest : Block) → BlockKeeps s n rest → BlockKeeps s n (flat_chain s none bs rest)
  chain_keeps s n laws none h NoBranch p rest r = some_when_keeps s n none rest h.keeps r
  chain_keeps s n laws none h (Branch c b more) p rest r =
      let x = lower_term s c in
      let k = laws.lower_keeps c p.0 in
      let small = laws.term_small x k in
      keeps_append s n (some_when (Binary op.And none (holds s x)) (flat_block s b)) (flat_chain s (Binary op.And none (fails s x)) more rest)
      (some_when_keeps s n (Binary op.And none (holds s x)) (flat_block s b) (and_condition s n none (holds s x) h (differs_condition s n x (pos 0) small k)).keeps (flat_block_keeps s n laws b p.1))
      (chain_keeps s n laws (Binary op.And none (fails s x)) (and_condition s n none (fails s x) h (equals_condition s n x (pos 0) small k)) more p.2 rest r)

  arms_keep : (s : Shapes) (n : ℕ) → ShapeLaws s n → (on : Term) → IsSmall (shape_of s on) → TermKeeps s n on → (seen : List ℤ) (none : Option Term) → NoneKeeps s n none → (arms : Arms) → ArmsKeep s n arms → (rest : Block) → BlockKeeps s n rest
      → BlockKeeps s n (flat_arms s on seen none arms rest)
  arms_keep s n laws on small k seen none h NoArm p rest r = otherwise_keeps s n none rest h r
  arms_keep s n laws on small k seen none h (Arm key b more) p rest r =
      keeps_append s n (some_when (is_key s on seen key) (flat_block s b)) (flat_arms s on (key ∷ seen) (no_key s on seen none key) more rest)
      (some_when_keeps s n (is_key s on seen key) (flat_block s b) (key_condition s n on seen key small k).keeps (flat_block_keeps s n laws b p.0))
      (arms_keep s n laws on small k (key ∷ seen) (no_key s on seen none key) (no_key_keeps s n on seen none key small k h) more p.1 rest r)

  pub flat_block_keeps : (s : Shapes) (n : ℕ) → ShapeLaws s n → (b : Block) → BlockKeeps s n b → BlockKeeps s n (flat_block s b)
  flat_block_keeps s n laws Done p = tt
  flat_block_keeps s n laws (Then x xs) p = keeps_append s n (flat s x) (flat_block s xs) (flat_keeps s n laws x p.0) (flat_block_keeps s n laws xs p.1)

-- ---- flat statements

flat_append : (a b : Block) → are_flat a ≡ true → are_flat b ≡ true → are_flat (append a b) ≡ true
flat_append Done b p q = q
flat_append (Then x xs) b p q = let h = and_parts (is_flat x) (are_flat xs) p in and_from (is_flat x) (are_flat (append xs b)) h.0 (flat_append xs b h.1 q)

some_append : (a b : Block) → is_done a ≡ false → is_done (append a b) ≡ false
some_append Done b h = absurd (true≢false h)
some_append (Then x xs) b h = refl

when_is_flat : (c : Term) (so : Block) → is_done so ≡ false → are_flat so ≡ true → are_flat (when c so) ≡ true
when_is_flat c Done h p = absurd (true≢false h)
when_is_flat c (Then x xs) h p = same (are_flat (Then x xs)) p
  where
    same : (b : Bool) → b ≡ true → (((b && true) && true) && true) ≡ true
    same b p = grind (arith, nat_tests)

some_when_is_flat : (c : Term) (so : Block) → are_flat so ≡ true → are_flat (some_when c so) ≡ true
some_when_is_flat c Done p = refl
some_when_is_flat c (Then x xs) p = when_is_flat c (Then x xs) refl p

item_some : (s : Shapes) (k : ℕ) (own more : Block) (i : Term) → is_done own ≡ false → is_done (item_assigns s k own NoTarget more i) ≡ false
item_some s k own more i h = by_number (nat_eq k 0)
  where
    by_number : (b : Bool) → is_done (cond b own (when (is_last s i k) own)) ≡ false
    by_number true = h
    by_number false = refl

item_is_flat : (s : Shapes) (k : ℕ) (own more : Block) (i : Term) → is_done own ≡ false → are_flat own ≡ true → are_flat (item_assigns s k own NoTarget more i) ≡ true
item_is_flat s k own more i h p = by_number (nat_eq k 0)
  where
    by_number : (b : Bool) → are_flat (cond b own (when (is_last s i k) own)) ≡ true
    by_number true = p
    by_number false = when_is_flat (is_last s i k) own h p

mutual
  -- a target has assignments
  assigns_some : (s : Shapes) (n : ℕ) (t : Target) → TargetKeeps s n t → (e : Term) → is_done (assigns s t e) ≡ false
  assigns_some s n (Whole x) p e = refl
  assigns_some s n (Part x low len) p e = refl
  assigns_some s n (CatTarget parts) p e = parts_some s n parts p.0 p.1 e
  assigns_some s n (PickTarget items index) p e = items_some s n 0 items p.0 p.1 (lower_term s index) e

  parts_some : (s : Shapes) (n : ℕ) (ts : Targets) → some_targets ts ≡ true → TargetsKeep s n ts → (e : Term) → is_done (parts_assigns s ts e) ≡ false
  parts_some s n NoTarget h p e = absurd (true≢false (sym h))
  parts_some s n (MoreTargets t ts) h p e = some_append (assigns s t e) (parts_assigns s ts (without_low s (target_bits s t) e)) (assigns_some s n t p.0 e)

  items_some : (s : Shapes) (n k : ℕ) (ts : Targets) → some_targets ts ≡ true → TargetsKeep s n ts → (i e : Term) → is_done (items_assigns s k ts i e) ≡ false
  items_some s n k NoTarget h p i e = absurd (true≢false (sym h))
  items_some s n k (MoreTargets t NoTarget) h p i e = item_some s k (assigns s t e) (items_assigns s (k + 1) NoTarget i e) i (assigns_some s n t p.0 e)
  items_some s n k (MoreTargets t (MoreTargets u us)) h p i e = some_append (when (is_item s i k) (assigns s t e)) (items_assigns s (k + 1) (MoreTargets u us) i e) refl

mutual
  assigns_are_flat : (s : Shapes) (n : ℕ) (t : Target) → TargetKeeps s n t → (e : Term) → are_flat (assigns s t e) ≡ true
  assigns_are_flat s n (Whole x) p e = refl
  assigns_are_flat s n (Part x low len) p e = refl
  assigns_are_flat s n (CatTarget parts) p e = parts_are_flat s n parts p.1 e
  assigns_are_flat s n (PickTarget items index) p e = items_are_flat s n 0 items p.1 (lower_term s index) e

  parts_are_flat : (s : Shapes) (n : ℕ) (ts : Targets) → TargetsKeep s n ts → (e : Term) → are_flat (parts_assigns s ts e) ≡ true
  parts_are_flat s n NoTarget p e = refl
  parts_are_flat s n (MoreTargets t ts) p e =
      flat_append (assigns s t e) (parts_assigns s ts (without_low s (target_bits s t) e)) (assigns_are_flat s n t p.0 e) (parts_are_flat s n ts p.1 (without_low s (target_bits s t) e))

  items_are_flat : (s : Shapes) (n k : ℕ) (ts : Targets) → TargetsKeep s n ts → (i e : Term) → are_flat (items_assigns s k ts i e) ≡ true
  items_are_flat s n k NoTarget p i e = refl
  items_are_flat s n k (MoreTargets t NoTarget) p i e =
      item_is_flat s k (assigns s t e) (items_assigns s (k + 1) NoTarget i e) i (assigns_some s n t p.0 e) (assigns_are_flat s n t p.0 e)
  items_are_flat s n k (MoreTargets t (MoreTargets u us)) p i e =
      flat_append (when (is_item s i k) (assigns s t e)) (items_assigns s (k + 1) (MoreTargets u us) i e)
      (when_is_flat (is_item s i k) (assigns s t e) (assigns_some s n t p.0 e) (assigns_are_flat s n t p.0 e)) (items_are_flat s n (k + 1) (MoreTargets u us) p.1 i e)

lone_is_flat : (c : Term) (b chained rest : Block) → are_flat b ≡ true → are_flat rest ≡ true → are_flat (first_branch c b NoBranch chained rest) ≡ true
lone_is_flat c Done chained Done p q = refl
lone_is_flat c Done chained (Then x xs) p q = same (are_flat (Then x xs)) q
  where
    same : (b : Bool) → b ≡ true → (b && true) ≡ true
    same b p = grind (arith, nat_tests)
lone_is_flat c (Then y ys) chained rest p q = same (are_flat (Then y ys)) (are_flat rest) p q
  where
    same : (b d : Bool) → b ≡ true → d ≡ true → (((b && true) && d) && true) ≡ true
    same b d p q = grind (arith, nat_tests)

otherwise_is_flat : (none : Option Term) (rest : Block) → are_flat rest ≡ true → are_flat (otherwise none rest) ≡ true
otherwise_is_flat None rest p = p
otherwise_is_flat (Some c) rest p = some_when_is_flat c rest p

mutual
  pub flat_is_flat : (s : Shapes) (n : ℕ) (x : Stmt) → StmtKeeps s n x → are_flat (flat s x) ≡ true
  flat_is_flat s n (Assign t e) p = assigns_are_flat s n t p.0 (lower_term s e)
  flat_is_flat s n (If bs rest) p = if_is_flat s n bs p.0 (flat_block s rest) (flat_block_is_flat s n rest p.1)
  flat_is_flat s n (Case on arms rest) p = arms_are_flat s n (lower_term s on) [] None arms p.1 (flat_block s rest) (flat_block_is_flat s n rest p.2)

  if_is_flat : (s : Shapes) (n : ℕ) (bs : Branches) → BranchesKeep s n bs → (rest : Block) → are_flat rest ≡ true → are_flat (flat_if s bs rest) ≡ true
  if_is_flat s n NoBranch p rest r = r
  if_is_flat s n (Branch c b NoBranch) p rest r =
      lone_is_flat (lower_term s c) (flat_block s b) (flat_chain s (fails s (lower_term s c)) NoBranch rest) rest (flat_block_is_flat s n b p.1) r
  if_is_flat s n (Branch c b (Branch d e more)) p rest r =
      let x = lower_term s c in
      flat_append (some_when x (flat_block s b)) (flat_chain s (fails s x) (Branch d e more) rest) (some_when_is_flat x (flat_block s b) (flat_block_is_flat s n b p.1)) (chain_is_flat s n (fails s x) (Branch d e more) p.2 rest r)

  chain_is_flat : (s : Shapes) (n : ℕ) (none : Term) (bs : Branches) → BranchesKeep s n bs → (rest : Block) → are_flat rest ≡ true → are_flat (flat_chain s none bs rest) ≡ true
  chain_is_flat s n none NoBranch p rest r = some_when_is_flat none rest r
  chain_is_flat s n none (Branch c b more) p rest r =
      let x = lower_term s c in
      flat_append (some_when (Binary op.And none (holds s x)) (flat_block s b)) (flat_chain s (Binary op.And none (fails s x)) more rest)
      (some_when_is_flat (Binary op.And none (holds s x)) (flat_block s b) (flat_block_is_flat s n b p.1)) (chain_is_flat s n (Binary op.And none (fails s x)) more p.2 rest r)

  arms_are_flat : (s : Shapes) (n : ℕ) (on : Term) (seen : List ℤ) (none : Option Term) (arms : Arms) → ArmsKeep s n arms → (rest : Block) → are_flat rest ≡ true → are_flat (flat_arms s on seen none arms rest) ≡ true
  arms_are_flat s n on seen none NoArm p rest r = otherwise_is_flat none rest r
  arms_are_flat s n on seen none (Arm key b more) p rest r =
      flat_append (some_when (is_key s on seen key) (flat_block s b)) (flat_arms s on (key ∷ seen) (no_key s on seen none key) more rest)
      (some_when_is_flat (is_key s on seen key) (flat_block s b) (flat_block_is_flat s n b p.0)) (arms_are_flat s n on (key ∷ seen) (no_key s on seen none key) more p.1 rest r)

  pub flat_block_is_flat : (s : Shapes) (n : ℕ) (b : Block) → BlockKeeps s n b → are_flat (flat_block s b) ≡ true
  flat_block_is_flat s n Done p = refl
  flat_block_is_flat s n (Then x xs) p = flat_append (flat s x) (flat_block s xs) (flat_is_flat s n x p.0) (flat_block_is_flat s n xs p.1)

-- ---- how deep flat statements nest

append_depth : (a b : Block) (n : ℕ) → block_depth a ≤ n → block_depth b ≤ n → block_depth (append a b) ≤ n
append_depth a b n p q = omega (arith, depth_append a b)

when_depth : (c : Term) (so : Block) (n : ℕ) → 1 + block_depth so ≤ n → block_depth (when c so) ≤ n
when_depth c so n p = omega arith

some_when_depth : (c : Term) (so : Block) (n : ℕ) → 1 + block_depth so ≤ n → block_depth (some_when c so) ≤ n
some_when_depth c Done n p = omega arith
some_when_depth c (Then x xs) n p = when_depth c (Then x xs) n p

item_depth : (s : Shapes) (k : ℕ) (own more : Block) (i : Term) (n : ℕ) → 1 + block_depth own ≤ n → block_depth (item_assigns s k own NoTarget more i) ≤ n
item_depth s k own more i n p = by_number (nat_eq k 0)
  where
    by_number : (b : Bool) → block_depth (cond b own (when (is_last s i k) own)) ≤ n
    by_number true = omega arith
    by_number false = when_depth (is_last s i k) own n p

mutual
  assigns_depth : (s : Shapes) (t : Target) (e : Term) → block_depth (assigns s t e) ≤ 1 + target_depth t
  assigns_depth s (Whole x) e = omega arith
  assigns_depth s (Part x low len) e = omega arith
  assigns_depth s (CatTarget parts) e = parts_depth s parts e
  assigns_depth s (PickTarget items index) e = omega (arith, items_depth s 0 items (lower_term s index) e)

  parts_depth : (s : Shapes) (ts : Targets) (e : Term) → block_depth (parts_assigns s ts e) ≤ 1 + targets_depth ts
  parts_depth s NoTarget e = omega arith
  parts_depth s (MoreTargets t ts) e =
      let later = without_low s (target_bits s t) e in
      let p = assigns_depth s t e in
      let q = parts_depth s ts later in
      append_depth (assigns s t e) (parts_assigns s ts later) (1 + targets_depth (MoreTargets t ts)) (omega arith) (omega arith)

  items_depth : (s : Shapes) (k : ℕ) (ts : Targets) (i e : Term) → block_depth (items_assigns s k ts i e) ≤ 2 + targets_depth ts
  items_depth s k NoTarget i e = omega arith
  items_depth s k (MoreTargets t NoTarget) i e =
      let p = assigns_depth s t e in
      item_depth s k (assigns s t e) (items_assigns s (k + 1) NoTarget i e) i (2 + targets_depth (MoreTargets t NoTarget)) (omega arith)
  items_depth s k (MoreTargets t (MoreTargets u us)) i e =
      let p = assigns_depth s t e in
      let q = items_depth s (k + 1) (MoreTargets u us) i e in
      append_depth (when (is_item s i k) (assigns s t e)) (items_assigns s (k + 1) (MoreTargets u us) i e) (2 + targets_depth (MoreTargets t (MoreTargets u us)))
      (when_depth (is_item s i k) (assigns s t e) (2 + targets_depth (MoreTargets t (MoreTargets u us))) (omega arith)) (omega arith)

lone_depth : (c : Term) (b chained rest : Block) (n : ℕ) → 1 + max (block_depth b) (block_depth rest) ≤ n → block_depth (first_branch c b NoBranch chained rest) ≤ n
lone_depth c Done chained Done n p = omega arith
lone_depth c Done chained (Then x xs) n p = omega arith
lone_depth c (Then y ys) chained rest n p = omega arith

otherwise_depth : (none : Option Term) (rest : Block) (n : ℕ) → 1 + block_depth rest ≤ n → block_depth (otherwise none rest) ≤ n
otherwise_depth None rest n p = omega arith
otherwise_depth (Some c) rest n p = some_when_depth c rest n p

mutual
  pub flat_depth : (s : Shapes) (x : Stmt) → block_depth (flat s x) ≤ stmt_depth x
  flat_depth s (Assign t e) = assigns_depth s t (lower_term s e)
  flat_depth s (If bs rest) = let p = flat_block_depth s rest in if_depth s bs (flat_block s rest) (stmt_depth (If bs rest)) (omega arith) (omega arith)
  flat_depth s (Case on arms rest) = let p = flat_block_depth s rest in flat_arms_depth s (lower_term s on) [] None arms (flat_block s rest) (stmt_depth (Case on arms rest)) (omega arith) (omega arith)

  if_depth : (s : Shapes) (bs : Branches) (rest : Block) (n : ℕ) → 1 + branches_depth bs ≤ n → 1 + block_depth rest ≤ n → block_depth (flat_if s bs rest) ≤ n
  if_depth s NoBranch rest n p q = omega arith
  if_depth s (Branch c b NoBranch) rest n p q =
      let r = flat_block_depth s b in
      lone_depth (lower_term s c) (flat_block s b) (flat_chain s (fails s (lower_term s c)) NoBranch rest) rest n (omega arith)
  if_depth s (Branch c b (Branch d e more)) rest n p q =
      let x = lower_term s c in
      let r = flat_block_depth s b in
      append_depth (some_when x (flat_block s b)) (flat_chain s (fails s x) (Branch d e more) rest) n (some_when_depth x (flat_block s b) n (omega arith)) (chain_depth s (fails s x) (Branch d e more) rest n (omega arith) q)

  chain_depth : (s : Shapes) (none : Term) (bs : Branches) (rest : Block) (n : ℕ) → 1 + branches_depth bs ≤ n → 1 + block_depth rest ≤ n → block_depth (flat_chain s none bs rest) ≤ n
  chain_depth s none NoBranch rest n p q = some_when_depth none rest n q
  chain_depth s none (Branch c b more) rest n p q =
      let x = lower_term s c in
      let r = flat_block_depth s b in
      append_depth (some_when (Binary op.And none (holds s x)) (flat_block s b)) (flat_chain s (Binary op.And none (fails s x)) more rest) n
      (some_when_depth (Binary op.And none (holds s x)) (flat_block s b) n (omega arith)) (chain_depth s (Binary op.And none (fails s x)) more rest n (omega arith) q)

  flat_arms_depth : (s : Shapes) (on : Term) (seen : List ℤ) (none : Option Term) (arms : Arms) (rest : Block) (n : ℕ) → 1 + arms_depth arms ≤ n → 1 + block_depth rest ≤ n → block_depth (flat_arms s on seen none arms rest) ≤ n
  flat_arms_depth s on seen none NoArm rest n p q = otherwise_depth none rest n q
  flat_arms_depth s on seen none (Arm key b more) rest n p q =
      let r = flat_block_depth s b in
      append_depth (some_when (is_key s on seen key) (flat_block s b)) (flat_arms s on (key ∷ seen) (no_key s on seen none key) more rest) n
      (some_when_depth (is_key s on seen key) (flat_block s b) n (omega arith)) (flat_arms_depth s on (key ∷ seen) (no_key s on seen none key) more rest n (omega arith) q)

  pub flat_block_depth : (s : Shapes) (b : Block) → block_depth (flat_block s b) ≤ block_depth b
  flat_block_depth s Done = omega arith
  flat_block_depth s (Then x xs) =
      let p = flat_depth s x in
      let q = flat_block_depth s xs in
      append_depth (flat s x) (flat_block s xs) (block_depth (Then x xs)) (omega arith) (omega arith)
