-- What a signal is after statements hangs on what it reads alone.
use Rattle.std.proofs.Common.{◌≡◌, ℕ, ℤ, Bool, true, false, List, [], ◌∷◌, ◌++◌, ◌||◌, ◌&&◌, ◌^◌, cond, refl, sym, ◌∙◌, ap, nat_eq, zero, suc}
use Rattle.std.proofs.lemmas.Bool.{or_parts, or_left, or_right, and_from}
use Rattle.std.specs.Ordering.{int_eq}
use Rattle.lx_num.specs.Ints.{floor_div}
use Rattle.lx_circuit.specs.Terms.{Term}
use Rattle.lx_circuit.specs.Shapes.{Shapes}
use Rattle.lx_circuit.specs.Places.{Place, Values, At, Word}
use Rattle.lx_circuit.specs.Values.{value_of, is_zero, count_of, nth_or_last}
use Rattle.lx_circuit.specs.Statements.{Target, Targets, Whole, Part, CatTarget, PickTarget, NoTarget, MoreTargets, Stmt, Assign, If, Case, Branches, NoBranch, Branch, Arms, NoArm, Arm, Block, Done, Then, Piece, pieces, parts_pieces, items_pieces, target_bits, taken, taken_branch, taken_arm, taken_block, after_pieces, laid_over, is_target, some_target, drives, drives_branch, drives_arm, drives_block}
use Rattle.lx_circuit.specs.Reads.{names, target_names, targets_name, reads, reads_branch, reads_arm, reads_block}
use Rattle.lx_circuit.specs.Locality.{Alike}
use Rattle.lx_circuit.proofs.Locality.{term_same}
use Rattle.lx_circuit.proofs.Cases.{by_test, after_append, same_choice, same_result}

-- two valuations agree where a test holds
abbrev pub AgreeOn : Values → Values → (Place → Bool) → Type 0
AgreeOn v w p = (y : Place) → p y ≡ true → v y ≡ w y

-- they agree on fewer signals too
pub left_of : (v w : Values) (p q : Place → Bool) → AgreeOn v w (λ y. p y || q y) → AgreeOn v w p
left_of v w p q h y e = h y (or_left (p y) (q y) e)

pub right_of : (v w : Values) (p q : Place → Bool) → AgreeOn v w (λ y. p y || q y) → AgreeOn v w q
right_of v w p q h y e = h y (or_right (p y) (q y) e)

alike_from : (s : Shapes) (v w : Values) (p : Place → Bool) → AgreeOn v w p → Alike s s v w p
alike_from s v w p h = record { shapes = λ x e. refl; signals = λ x e. h (At x) e; words = λ m k e. h (Word m k) e }

-- an expression's value hangs on the places that it names
pub value_same : (s : Shapes) (v w : Values) (t : Term) → AgreeOn v w (λ y. names y t) → value_of s v t ≡ value_of s w t
value_same s v w t h = (term_same s s v w t (alike_from s v w (λ y. names y t) h)).value

mutual
  -- what a target takes hangs on its indices
  pub pieces_same : (s : Shapes) (v w : Values) (t : Target) (z : ℤ) → AgreeOn v w (λ y. target_names y t) → pieces s v t z ≡ pieces s w t z
  pieces_same s v w (Whole x) z h = refl
  pieces_same s v w (Part x low len) z h = refl
  pieces_same s v w (CatTarget ts) z h = parts_same s v w ts z h
  pieces_same s v w (PickTarget ts i) z h =
      ap (λ ps. nth_or_last [] ps (count_of (value_of s v i))) (items_same s v w ts z (left_of v w (λ y. targets_name y ts) (λ y. names y i) h))
      ∙ ap (λ k. nth_or_last [] (items_pieces s w ts z) (count_of k)) (value_same s v w i (right_of v w (λ y. targets_name y ts) (λ y. names y i) h))

  pub parts_same : (s : Shapes) (v w : Values) (ts : Targets) (z : ℤ) → AgreeOn v w (λ y. targets_name y ts) → parts_pieces s v ts z ≡ parts_pieces s w ts z
  parts_same s v w NoTarget z h = refl
  parts_same s v w (MoreTargets t ts) z h =
      ap (λ ps. ps ++ parts_pieces s v ts (floor_div z (2 ^ target_bits s t))) (pieces_same s v w t z (left_of v w (λ y. target_names y t) (λ y. targets_name y ts) h))
      ∙ ap (λ ps. pieces s w t z ++ ps) (parts_same s v w ts (floor_div z (2 ^ target_bits s t)) (right_of v w (λ y. target_names y t) (λ y. targets_name y ts) h))

  pub items_same : (s : Shapes) (v w : Values) (ts : Targets) (z : ℤ) → AgreeOn v w (λ y. targets_name y ts) → items_pieces s v ts z ≡ items_pieces s w ts z
  items_same s v w NoTarget z h = refl
  items_same s v w (MoreTargets t ts) z h =
      ap (λ ps. ps ∷ items_pieces s v ts z) (pieces_same s v w t z (left_of v w (λ y. target_names y t) (λ y. targets_name y ts) h))
      ∙ ap (λ ps. pieces s w t z ∷ ps) (items_same s v w ts z (right_of v w (λ y. target_names y t) (λ y. targets_name y ts) h))

-- each list of pieces leaves the signal as it was
abbrev LeaveAll : ℕ → List (List Piece) → Type 0
LeaveAll x [] = Unit {0}
LeaveAll x (ps ∷ pss) = ((p : ℕ) → after_pieces x p ps ≡ p) × LeaveAll x pss

chosen_leaves : (x : ℕ) (last : List Piece) (pss : List (List Piece)) (k : ℕ) → ((p : ℕ) → after_pieces x p last ≡ p) → LeaveAll x pss → (p : ℕ) → after_pieces x p (nth_or_last last pss k) ≡ p
chosen_leaves x last [] k h all p = h p
chosen_leaves x last (ps ∷ pss) zero h all p = all.0 p
chosen_leaves x last (ps ∷ pss) (suc k) h all p = chosen_leaves x ps pss k all.0 all.1 p

-- one after the other
then_leaves : (x : ℕ) (as_ bs : List Piece) → ((p : ℕ) → after_pieces x p as_ ≡ p) → ((p : ℕ) → after_pieces x p bs ≡ p) → (p : ℕ) → after_pieces x p (as_ ++ bs) ≡ p
then_leaves x as_ bs h k p = after_append x p as_ bs ∙ k (after_pieces x p as_) ∙ h p

skips : (x y p low len : ℕ) (z : ℤ) → nat_eq y x ≡ false → cond (nat_eq y x) (laid_over p low len z) p ≡ p
skips x y p low len z e = ap (λ b. cond b (laid_over p low len z) p) e

mutual
  -- a target that isn't the signal leaves it
  pub target_leaves : (s : Shapes) (v : Values) (x : ℕ) (t : Target) (z : ℤ) → is_target x t ≡ false → (p : ℕ) → after_pieces x p (pieces s v t z) ≡ p
  target_leaves s v x (Whole y) z e p = skips x y p 0 (s y).bits z e
  target_leaves s v x (Part y low len) z e p = skips x y p low len z e
  target_leaves s v x (CatTarget ts) z e p = parts_leave s v x ts z e p
  target_leaves s v x (PickTarget ts i) z e p = chosen_leaves x [] (items_pieces s v ts z) (count_of (value_of s v i)) (λ q. refl) (items_leave s v x ts z e) p

  parts_leave : (s : Shapes) (v : Values) (x : ℕ) (ts : Targets) (z : ℤ) → some_target x ts ≡ false → (p : ℕ) → after_pieces x p (parts_pieces s v ts z) ≡ p
  parts_leave s v x NoTarget z e p = refl
  parts_leave s v x (MoreTargets t ts) z e p =
      let both = or_parts (is_target x t) (some_target x ts) e in
      then_leaves x (pieces s v t z) (parts_pieces s v ts (floor_div z (2 ^ target_bits s t))) (target_leaves s v x t z both.0) (parts_leave s v x ts (floor_div z (2 ^ target_bits s t)) both.1) p

  items_leave : (s : Shapes) (v : Values) (x : ℕ) (ts : Targets) (z : ℤ) → some_target x ts ≡ false → LeaveAll x (items_pieces s v ts z)
  items_leave s v x NoTarget z e = tt
  items_leave s v x (MoreTargets t ts) z e =
      let both = or_parts (is_target x t) (some_target x ts) e in
      (target_leaves s v x t z both.0, items_leave s v x ts z both.1)

mutual
  -- statements that don't drive the signal leave it
  pub stmt_leaves : (s : Shapes) (v : Values) (x : ℕ) (st : Stmt) → drives x st ≡ false → (p : ℕ) → after_pieces x p (taken s v st) ≡ p
  stmt_leaves s v x (Assign t e) d p = target_leaves s v x t (value_of s v e) d p
  stmt_leaves s v x (If bs rest) d p =
      let both = or_parts (drives_branch x bs) (drives_block x rest) d in
      branch_leaves s v x bs (taken_block s v rest) both.0 (block_leaves s v x rest both.1) p
  stmt_leaves s v x (Case on arms rest) d p =
      let both = or_parts (drives_arm x arms) (drives_block x rest) d in
      arm_leaves s v x (value_of s v on) arms (taken_block s v rest) both.0 (block_leaves s v x rest both.1) p

  pub branch_leaves : (s : Shapes) (v : Values) (x : ℕ) (bs : Branches) (rest : List Piece) → drives_branch x bs ≡ false → ((p : ℕ) → after_pieces x p rest ≡ p) → (p : ℕ) → after_pieces x p (taken_branch s v bs rest) ≡ p
  branch_leaves s v x NoBranch rest d h p = h p
  branch_leaves s v x (Branch c b more) rest d h p =
      let both = or_parts (drives_block x b) (drives_branch x more) d in
      same_result (λ qs. after_pieces x p qs) (is_zero (value_of s v c)) (taken_branch s v more rest) (taken_block s v b) p (branch_leaves s v x more rest both.1 h p) (block_leaves s v x b both.0 p)

  pub arm_leaves : (s : Shapes) (v : Values) (x : ℕ) (z : ℤ) (arms : Arms) (rest : List Piece) → drives_arm x arms ≡ false → ((p : ℕ) → after_pieces x p rest ≡ p) → (p : ℕ) → after_pieces x p (taken_arm s v z arms rest) ≡ p
  arm_leaves s v x z NoArm rest d h p = h p
  arm_leaves s v x z (Arm key b more) rest d h p =
      let both = or_parts (drives_block x b) (drives_arm x more) d in
      same_result (λ qs. after_pieces x p qs) (int_eq key z) (taken_block s v b) (taken_arm s v z more rest) p (block_leaves s v x b both.0 p) (arm_leaves s v x z more rest both.1 h p)

  pub block_leaves : (s : Shapes) (v : Values) (x : ℕ) (b : Block) → drives_block x b ≡ false → (p : ℕ) → after_pieces x p (taken_block s v b) ≡ p
  block_leaves s v x Done d p = refl
  block_leaves s v x (Then st ss) d p =
      let both = or_parts (drives x st) (drives_block x ss) d in
      then_leaves x (taken s v st) (taken_block s v ss) (stmt_leaves s v x st both.0) (block_leaves s v x ss both.1) p

-- one after the other, under two valuations
pub then_same : (x : ℕ) (as_ bs cs ds : List Piece) → ((p : ℕ) → after_pieces x p as_ ≡ after_pieces x p cs) → ((p : ℕ) → after_pieces x p bs ≡ after_pieces x p ds) → (p : ℕ) → after_pieces x p (as_ ++ bs) ≡ after_pieces x p (cs ++ ds)
then_same x as_ bs cs ds h k p =
    after_append x p as_ bs ∙ (k (after_pieces x p as_) ∙ (ap (λ q. after_pieces x q ds) (h p) ∙ sym (after_append x p cs ds)))

mutual
  -- what a signal is after statements hangs on what it reads
  pub stmt_same : (s : Shapes) (v w : Values) (x : ℕ) (st : Stmt) → AgreeOn v w (λ y. reads x y st) → (p : ℕ) → after_pieces x p (taken s v st) ≡ after_pieces x p (taken s w st)
  stmt_same s v w x (Assign t e) h p =
      by_test (is_target x t)
      (λ d. let k : AgreeOn v w (λ y. names y e || target_names y t) = λ y q. h y (and_from (is_target x t) (names y e || target_names y t) d q) in
      ap (λ z. after_pieces x p (pieces s v t z)) (value_same s v w e (left_of v w (λ y. names y e) (λ y. target_names y t) k))
      ∙ ap (λ qs. after_pieces x p qs) (pieces_same s v w t (value_of s w e) (right_of v w (λ y. names y e) (λ y. target_names y t) k)))
      (λ d. target_leaves s v x t (value_of s v e) d p ∙ sym (target_leaves s w x t (value_of s w e) d p))
  stmt_same s v w x (If bs rest) h p =
      branch_same s v w x bs (taken_block s v rest) (taken_block s w rest) (drives_block x rest) (λ y. reads_block x y rest)
      (block_leaves s v x rest) (block_leaves s w x rest) (block_same s v w x rest) h p
  stmt_same s v w x (Case on arms rest) h p =
      let k = right_of v w (λ y. names y on && (drives_arm x arms || drives_block x rest)) (λ y. reads_arm x y arms || reads_block x y rest) h in
      by_test (drives_arm x arms || drives_block x rest)
      (λ d. let n : AgreeOn v w (λ y. names y on) = λ y q. h y (or_left (names y on && (drives_arm x arms || drives_block x rest)) (reads_arm x y arms || reads_block x y rest) (and_from (names y on) (drives_arm x arms || drives_block x rest) q d)) in
      ap (λ z. after_pieces x p (taken_arm s v z arms (taken_block s v rest))) (value_same s v w on n)
      ∙ arm_same s v w x (value_of s w on) arms (taken_block s v rest) (taken_block s w rest)
      (left_of v w (λ y. reads_arm x y arms) (λ y. reads_block x y rest) k)
      (block_same s v w x rest (right_of v w (λ y. reads_arm x y arms) (λ y. reads_block x y rest) k)) p)
      (λ d. let both = or_parts (drives_arm x arms) (drives_block x rest) d in
      arm_leaves s v x (value_of s v on) arms (taken_block s v rest) both.0 (block_leaves s v x rest both.1) p
      ∙ sym (arm_leaves s w x (value_of s w on) arms (taken_block s w rest) both.0 (block_leaves s w x rest both.1) p))

  pub branch_same : (s : Shapes) (v w : Values) (x : ℕ) (bs : Branches) (rv rw : List Piece) (driven : Bool) (read : Place → Bool)
      → (driven ≡ false → (p : ℕ) → after_pieces x p rv ≡ p) → (driven ≡ false → (p : ℕ) → after_pieces x p rw ≡ p)
      → (AgreeOn v w read → (p : ℕ) → after_pieces x p rv ≡ after_pieces x p rw)
      → AgreeOn v w (λ y. reads_branch x y bs driven (read y)) → (p : ℕ) → after_pieces x p (taken_branch s v bs rv) ≡ after_pieces x p (taken_branch s w bs rw)
  branch_same s v w x NoBranch rv rw driven read lv lw same h p = same h p
  branch_same s v w x (Branch c b more) rv rw driven read lv lw same h p =
      let here = drives_block x b || (drives_branch x more || driven) in
      let k = right_of v w (λ y. names y c && (drives_block x b || (drives_branch x more || driven))) (λ y. reads_block x y b || reads_branch x y more driven (read y)) h in
      let inner = block_same s v w x b (left_of v w (λ y. reads_block x y b) (λ y. reads_branch x y more driven (read y)) k) p in
      let later = branch_same s v w x more rv rw driven read lv lw same (right_of v w (λ y. reads_block x y b) (λ y. reads_branch x y more driven (read y)) k) p in
      by_test here
      (λ d. let n : AgreeOn v w (λ y. names y c) = λ y q. h y (or_left (names y c && here) (reads_block x y b || reads_branch x y more driven (read y)) (and_from (names y c) here q d)) in
      ap (λ z. after_pieces x p (cond (is_zero z) (taken_branch s v more rv) (taken_block s v b))) (value_same s v w c n)
      ∙ same_choice (λ qs. after_pieces x p qs) (is_zero (value_of s w c)) (taken_branch s v more rv) (taken_branch s w more rw) (taken_block s v b) (taken_block s w b) later inner)
      (λ d. let first = or_parts (drives_block x b) (drives_branch x more || driven) d in
      let second = or_parts (drives_branch x more) driven first.1 in
      same_result (λ qs. after_pieces x p qs) (is_zero (value_of s v c)) (taken_branch s v more rv) (taken_block s v b) p (branch_leaves s v x more rv second.0 (lv second.1) p) (block_leaves s v x b first.0 p)
      ∙ sym (same_result (λ qs. after_pieces x p qs) (is_zero (value_of s w c)) (taken_branch s w more rw) (taken_block s w b) p (branch_leaves s w x more rw second.0 (lw second.1) p) (block_leaves s w x b first.0 p)))

  pub arm_same : (s : Shapes) (v w : Values) (x : ℕ) (z : ℤ) (arms : Arms) (rv rw : List Piece) → AgreeOn v w (λ y. reads_arm x y arms) → ((p : ℕ) → after_pieces x p rv ≡ after_pieces x p rw) → (p : ℕ) → after_pieces x p (taken_arm s v z arms rv) ≡ after_pieces x p (taken_arm s w z arms rw)
  arm_same s v w x z NoArm rv rw h same p = same p
  arm_same s v w x z (Arm key b more) rv rw h same p =
      same_choice (λ qs. after_pieces x p qs) (int_eq key z) (taken_block s v b) (taken_block s w b) (taken_arm s v z more rv) (taken_arm s w z more rw)
      (block_same s v w x b (left_of v w (λ y. reads_block x y b) (λ y. reads_arm x y more) h) p)
      (arm_same s v w x z more rv rw (right_of v w (λ y. reads_block x y b) (λ y. reads_arm x y more) h) same p)

  pub block_same : (s : Shapes) (v w : Values) (x : ℕ) (b : Block) → AgreeOn v w (λ y. reads_block x y b) → (p : ℕ) → after_pieces x p (taken_block s v b) ≡ after_pieces x p (taken_block s w b)
  block_same s v w x Done h p = refl
  block_same s v w x (Then st ss) h p =
      then_same x (taken s v st) (taken_block s v ss) (taken s w st) (taken_block s w ss)
      (stmt_same s v w x st (left_of v w (λ y. reads x y st) (λ y. reads_block x y ss) h))
      (block_same s v w x ss (right_of v w (λ y. reads x y st) (λ y. reads_block x y ss) h)) p
