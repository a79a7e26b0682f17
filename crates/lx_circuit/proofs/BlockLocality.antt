-- The assignments that a block takes hang on the places that it mentions.
use Rattle.std.proofs.Common.{◌≡◌, ℕ, ℤ, Bool, true, List, [], ◌∷◌, ◌++◌, ◌+◌, ◌^◌, ◌%◌, ◌||◌, ◌<◌, max, cond, refl, ◌∙◌, ap, ap₂, eq-eqb}
use Rattle.std.specs.Ordering.{int_eq}
use Rattle.lx_num.specs.declared.Shape.{Shape}
use Rattle.lx_num.specs.Ints.{floor_div, read_bits, modulo}
use Rattle.lx_circuit.specs.Places.{Place, Values, At}
use Rattle.lx_circuit.specs.Shapes.{Shapes}
use Rattle.lx_circuit.specs.Values.{value_of, is_zero, count_of, nth_or_last}
use Rattle.lx_circuit.specs.Statements.{Target, Targets, Whole, Part, CatTarget, PickTarget, NoTarget, MoreTargets, Stmt, Assign, If, Case, Branches, NoBranch, Branch, Arms, NoArm, Arm, Block, Done, Then, Piece, piece, target_bits, sum_bits, most_bits, pieces, parts_pieces, items_pieces, taken, taken_branch, taken_arm, taken_block, result, after_pieces}
use Rattle.lx_circuit.specs.Reads.{names}
use Rattle.lx_circuit.specs.Locality.{Alike, target_mentions, targets_mention, mentions, branches_mention, arms_mention, block_mentions}
use Rattle.lx_circuit.specs.Runs.{Same}
use Rattle.lx_circuit.proofs.Locality.{alike_left, alike_right, term_same, ap3}

-- a target has the same bits, and takes the same
pub record TargetSame (s t : Shapes) (v w : Values) (e : Target) : Type 0 where
  pub bits : target_bits s e ≡ target_bits t e
  pub pieces : (z : ℤ) → pieces s v e z ≡ pieces t w e z

pub record TargetsSame (s t : Shapes) (v w : Values) (es : Targets) : Type 0 where
  pub sum : sum_bits s es ≡ sum_bits t es
  pub most : most_bits s es ≡ most_bits t es
  pub parts : (z : ℤ) → parts_pieces s v es z ≡ parts_pieces t w es z
  pub items : (z : ℤ) → items_pieces s v es z ≡ items_pieces t w es z

mutual
  pub target_alike : (s t : Shapes) (v w : Values) (e : Target) → Alike s t v w (λ y. target_mentions y e) → TargetSame s t v w e
  target_alike s t v w (Whole x) h =
      let k : s x ≡ t x = h.shapes x (eq-eqb x x refl) in
      record { bits = ap (λ (a : Shape). a.bits) k; pieces = λ z. ap (λ (a : Shape). piece x 0 a.bits z ∷ []) k }
  target_alike s t v w (Part x low len) h = record { bits = refl; pieces = λ z. refl }
  target_alike s t v w (CatTarget es) h =
      let m = targets_alike s t v w es h in
      record { bits = m.sum; pieces = m.parts }
  target_alike s t v w (PickTarget es i) h =
      let m = targets_alike s t v w es (alike_left s t v w (λ y. targets_mention y es) (λ y. names y i) h) in
      let k = term_same s t v w i (alike_right s t v w (λ y. targets_mention y es) (λ y. names y i) h) in
      record { bits = m.most; pieces = λ z. ap₂ (λ (ps : List (List Piece)) (j : ℤ). nth_or_last [] ps (count_of j)) (m.items z) k.value }

  pub targets_alike : (s t : Shapes) (v w : Values) (es : Targets) → Alike s t v w (λ y. targets_mention y es) → TargetsSame s t v w es
  targets_alike s t v w NoTarget h = record { sum = refl; most = refl; parts = λ z. refl; items = λ z. refl }
  targets_alike s t v w (MoreTargets e es) h =
      let m = target_alike s t v w e (alike_left s t v w (λ y. target_mentions y e) (λ y. targets_mention y es) h) in
      let n = targets_alike s t v w es (alike_right s t v w (λ y. target_mentions y e) (λ y. targets_mention y es) h) in
      record {
        sum = ap₂ (λ (a b : ℕ). a + b) m.bits n.sum;
        most = ap₂ max m.bits n.most;
        parts = λ z. ap₂ (λ (a b : List Piece). a ++ b) (m.pieces z) (ap (λ (k : ℕ). parts_pieces s v es (floor_div z (2 ^ k))) m.bits ∙ n.parts (floor_div z (2 ^ target_bits t e)));
        items = λ z. ap₂ (λ (a : List Piece) (b : List (List Piece)). a ∷ b) (m.pieces z) (n.items z);
      }

mutual
  pub stmt_alike : (s t : Shapes) (v w : Values) (x : Stmt) → Alike s t v w (λ y. mentions y x) → taken s v x ≡ taken t w x
  stmt_alike s t v w (Assign g e) h =
      let m = target_alike s t v w g (alike_left s t v w (λ y. target_mentions y g) (λ y. names y e) h) in
      let k = term_same s t v w e (alike_right s t v w (λ y. target_mentions y g) (λ y. names y e) h) in
      m.pieces (value_of s v e) ∙ ap (λ z. pieces t w g z) k.value
  stmt_alike s t v w (If bs rest) h =
      ap (λ ps. taken_branch s v bs ps) (block_alike s t v w rest (alike_right s t v w (λ y. branches_mention y bs) (λ y. block_mentions y rest) h))
      ∙ branches_alike s t v w bs (taken_block t w rest) (alike_left s t v w (λ y. branches_mention y bs) (λ y. block_mentions y rest) h)
  stmt_alike s t v w (Case on arms rest) h =
      let k = alike_right s t v w (λ y. names y on) (λ y. arms_mention y arms || block_mentions y rest) h in
      let z = (term_same s t v w on (alike_left s t v w (λ y. names y on) (λ y. arms_mention y arms || block_mentions y rest) h)).value in
      ap₂ (λ y ps. taken_arm s v y arms ps) z (block_alike s t v w rest (alike_right s t v w (λ y. arms_mention y arms) (λ y. block_mentions y rest) k))
      ∙ arms_alike s t v w (value_of t w on) arms (taken_block t w rest) (alike_left s t v w (λ y. arms_mention y arms) (λ y. block_mentions y rest) k)

  branches_alike : (s t : Shapes) (v w : Values) (bs : Branches) (ps : List Piece) → Alike s t v w (λ y. branches_mention y bs) → taken_branch s v bs ps ≡ taken_branch t w bs ps
  branches_alike s t v w NoBranch ps h = refl
  branches_alike s t v w (Branch c b more) ps h =
      let k = alike_right s t v w (λ y. names y c) (λ y. block_mentions y b || branches_mention y more) h in
      ap3 (λ (z : ℤ) (qs rs : List Piece). cond (is_zero z) qs rs)
      (term_same s t v w c (alike_left s t v w (λ y. names y c) (λ y. block_mentions y b || branches_mention y more) h)).value
      (branches_alike s t v w more ps (alike_right s t v w (λ y. block_mentions y b) (λ y. branches_mention y more) k))
      (block_alike s t v w b (alike_left s t v w (λ y. block_mentions y b) (λ y. branches_mention y more) k))

  arms_alike : (s t : Shapes) (v w : Values) (z : ℤ) (arms : Arms) (ps : List Piece) → Alike s t v w (λ y. arms_mention y arms) → taken_arm s v z arms ps ≡ taken_arm t w z arms ps
  arms_alike s t v w z NoArm ps h = refl
  arms_alike s t v w z (Arm key b more) ps h =
      ap₂ (λ (qs rs : List Piece). cond (int_eq key z) qs rs)
      (block_alike s t v w b (alike_left s t v w (λ y. block_mentions y b) (λ y. arms_mention y more) h))
      (arms_alike s t v w z more ps (alike_right s t v w (λ y. block_mentions y b) (λ y. arms_mention y more) h))

  pub block_alike : (s t : Shapes) (v w : Values) (b : Block) → Alike s t v w (λ y. block_mentions y b) → taken_block s v b ≡ taken_block t w b
  block_alike s t v w Done h = refl
  block_alike s t v w (Then x xs) h =
      ap₂ (λ (qs rs : List Piece). qs ++ rs)
      (stmt_alike s t v w x (alike_left s t v w (λ y. mentions y x) (λ y. block_mentions y xs) h))
      (block_alike s t v w xs (alike_right s t v w (λ y. mentions y x) (λ y. block_mentions y xs) h))

-- the same pieces leave a signal of the same shape with the same value
pub result_alike : (s t : Shapes) (x : ℕ) (start : ℤ) (ps : List Piece) → s x ≡ t x → result s x start ps ≡ result t x start ps
result_alike s t x start ps e = ap (λ (a : Shape). read_bits a.bits a.signed (after_pieces x (modulo start (2 ^ a.bits)) ps % 2 ^ a.bits)) e

-- what holds below n is alike where only signals below n are named
pub below_alike : (n : ℕ) (s t : Shapes) (v w : Values) (p : Place → Bool) → ((x : ℕ) → p (At x) ≡ true → x < n) → ((x : ℕ) → x < n → s x ≡ t x) → Same n v w → Alike s t v w p
below_alike n s t v w p b h m = record {
  shapes = λ x e. h x (b x e);
  signals = λ x e. m.signals x (b x e);
  words = λ a k e. m.words a k;
}
