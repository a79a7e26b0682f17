-- What a net is hangs on what its driver reads alone.
use Rattle.std.proofs.Common.{◌≡◌, ℕ, Bool, true, false, ◌∷◌, ◌||◌, ◌&&◌, ◌+◌, ◌-◌, ◌*◌, ◌^◌, ◌%◌, cond, refl, ◌∙◌, ap, max, not, nat_eq, ℤ, ◌/◌, ap₂}
use Rattle.std.specs.Str.{bytes_eq}
use Rattle.std.proofs.lemmas.Bool.{or_left, or_right}
use Rattle.std.proofs.lemmas.Slice.Eq.{bytes_eq-Decides}
use Rattle.lx_num.specs.Ints.{read_bits}
use Rattle.lx_vtext.specs.declared.operators.UnOp.{UnOp}
use Rattle.lx_vtext.specs.declared.operators.UnOp.TheVariants.{Negate, Invert}
use Rattle.lx_vtext.specs.declared.operators.BinOp.{BinOp}
use Rattle.lx_vtext.specs.declared.operators.BinOp.TheVariants as op
use Rattle.lx_vtext.specs.Tree.{Name, VExpr, VExprs, Net, Literal, PartSelect, Word, Unary, Binary, Conditional, Concatenation, Replication, ToSigned, ToUnsigned, NoMore, More, VTarget, Whole, Part, WholeWord, PartWord, VStmt, Assign, When, VElse, NoElse, Else, VBlock, EndBlock, InBlock, VModule}
use Rattle.lx_vmeaning.specs.Meaning.{Sizes, Valuation, Meaning, meaning, meanings, own, leaf, extend, compare, choose, concat_bits, width_sum, repeated, read_word, truth, unary, binary, assigned, holds, add_bits, sub_bits, mul_bits, and_bits, or_bits, xor_bits, less, less_equal, greater, greater_equal, equal, not_equal, fill_shift}
use Rattle.lx_vmeaning.specs.Runs.{Driver, Outside, ByAssign, ByBlock, Clocked, Nothing, by_driver, sizes, new_pattern, run_stmt, run_else, run_block, set_bits}
use Rattle.lx_vmeaning.specs.Loops.{reads, some_reads, stmt_reads, else_reads, block_reads, driver_reads}

-- two valuations agree on the nets where a test holds
abbrev pub AgreeOn : Valuation → Valuation → (Name → Bool) → Type 0
AgreeOn v u p = (k : Name) → p k ≡ true → v.nets k ≡ u.nets k

-- what follows from each of two tests follows where one of them holds
pub some_of : {P : Type 0} (a b : Bool) → (a || b) ≡ true → (a ≡ true → P) → (b ≡ true → P) → P
some_of true b h p q = p refl
some_of false b h p q = q h

left_of : (v u : Valuation) (p q : Name → Bool) → AgreeOn v u (λ k. p k || q k) → AgreeOn v u p
left_of v u p q h k e = h k (or_left (p k) (q k) e)

right_of : (v u : Valuation) (p q : Name → Bool) → AgreeOn v u (λ k. p k || q k) → AgreeOn v u q
right_of v u p q h k e = h k (or_right (p k) (q k) e)

-- a name is itself
pub same_name : (n : Name) → bytes_eq n n ≡ true
same_name n = (bytes_eq-Decides n n).1 refl

-- the same bits in every context
abbrev Same : Valuation → Valuation → Meaning → Type 0
Same v u a = (w : ℕ) (t : Bool) → a.bits v w t ≡ a.bits u w t

leaf_same : (v u : Valuation) (n : ℕ) (s : Bool) (f : Valuation → ℕ) → f v ≡ f u → Same v u (leaf n s f)
leaf_same v u n s f e w t = ap (λ p. extend n w t p) e

compare_same : (v u : Valuation) (test : ℤ → ℤ → Bool) (a b : Meaning) → Same v u a → Same v u b → Same v u (compare test a b)
compare_same v u test a b p q w t =
    let n = max a.width b.width in
    let s = a.signed && b.signed in
    ap₂ (λ (x y : ℕ). extend 1 w t (truth (test (read_bits n s x) (read_bits n s y)))) (p n s) (q n s)

binary_same : (v u : Valuation) (o : BinOp) (a b : Meaning) → Same v u a → Same v u b → Same v u (binary o a b)
binary_same v u op.Add a b p q w t = ap₂ (add_bits w) (p w t) (q w t)
binary_same v u op.Sub a b p q w t = ap₂ (sub_bits w) (p w t) (q w t)
binary_same v u op.Mul a b p q w t = ap₂ (mul_bits w) (p w t) (q w t)
binary_same v u op.And a b p q w t = ap₂ (and_bits w) (p w t) (q w t)
binary_same v u op.Or a b p q w t = ap₂ (or_bits w) (p w t) (q w t)
binary_same v u op.Xor a b p q w t = ap₂ (xor_bits w) (p w t) (q w t)
binary_same v u op.ShiftLeft a b p q w t = ap₂ (λ (x k : ℕ). x * 2 ^ k % 2 ^ w) (p w t) (q b.width b.signed)
binary_same v u op.ArithmeticLeft a b p q w t = ap₂ (λ (x k : ℕ). x * 2 ^ k % 2 ^ w) (p w t) (q b.width b.signed)
binary_same v u op.ShiftRight a b p q w t = ap₂ (λ (x k : ℕ). x / 2 ^ k) (p w t) (q b.width b.signed)
binary_same v u op.ArithmeticRight a b p q w t = ap₂ (λ (x k : ℕ). cond t (fill_shift w x k) (x / 2 ^ k)) (p w t) (q b.width b.signed)
binary_same v u op.Less a b p q w t = compare_same v u less a b p q w t
binary_same v u op.LessEqual a b p q w t = compare_same v u less_equal a b p q w t
binary_same v u op.Equal a b p q w t = compare_same v u equal a b p q w t
binary_same v u op.NotEqual a b p q w t = compare_same v u not_equal a b p q w t
binary_same v u op.Greater a b p q w t = compare_same v u greater a b p q w t
binary_same v u op.GreaterEqual a b p q w t = compare_same v u greater_equal a b p q w t

unary_same : (v u : Valuation) (o : UnOp) (a : Meaning) → Same v u a → Same v u (unary o a)
unary_same v u Negate a p w t = ap (λ (x : ℕ). (2 ^ w - x) % 2 ^ w) (p w t)
unary_same v u Invert a p w t = ap (λ (x : ℕ). 2 ^ w - 1 - x) (p w t)

choose_same : (v u : Valuation) (c a b : Meaning) → Same v u c → Same v u a → Same v u b → Same v u (choose c a b)
choose_same v u c a b r p q w t =
    ap (λ (k : ℕ). cond (nat_eq k 0) (b.bits v w t) (a.bits v w t)) (r c.width c.signed)
    ∙ ap₂ (λ (x y : ℕ). cond (nat_eq (own c u) 0) x y) (q w t) (p w t)

mutual
  -- an expression's bits hang on the nets that it reads, and on the memories
  pub meaning_same : (d : Sizes) (v u : Valuation) (e : VExpr) → AgreeOn v u (λ k. reads k e) → v.words ≡ u.words → Same v u (meaning d e)
  meaning_same d v u (Net n) h m w t = ap (λ p. extend (d n).bits w t p) (h n (same_name n))
  meaning_same d v u (Literal bits signed value) h m w t = refl
  meaning_same d v u (PartSelect n hi lo) h m w t = ap (λ (p : ℕ). extend (hi - lo + 1) w t (p / 2 ^ lo % 2 ^ (hi - lo + 1))) (h n (same_name n))
  meaning_same d v u (Word n index) h m w t =
      ap₂ (λ (f : Name → ℕ → ℕ) (k : ℕ). extend (d n).bits w t (read_word (d n).depth (f n) k)) m (meaning_same d v u index h m (meaning d index).width (meaning d index).signed)
  meaning_same d v u (Unary o a) h m w t = unary_same v u o (meaning d a) (meaning_same d v u a h m) w t
  meaning_same d v u (Binary a o b) h m w t =
      binary_same v u o (meaning d a) (meaning d b) (meaning_same d v u a (left_of v u (λ k. reads k a) (λ k. reads k b) h) m) (meaning_same d v u b (right_of v u (λ k. reads k a) (λ k. reads k b) h) m) w t
  meaning_same d v u (Conditional c a b) h m w t =
      let g = right_of v u (λ k. reads k c) (λ k. reads k a || reads k b) h in
      choose_same v u (meaning d c) (meaning d a) (meaning d b) (meaning_same d v u c (left_of v u (λ k. reads k c) (λ k. reads k a || reads k b) h) m)
      (meaning_same d v u a (left_of v u (λ k. reads k a) (λ k. reads k b) g) m) (meaning_same d v u b (right_of v u (λ k. reads k a) (λ k. reads k b) g) m) w t
  meaning_same d v u (Concatenation a as_) h m w t =
      ap (λ p. extend (width_sum (meaning d a ∷ meanings d as_)) w t p)
      (ap₂ (λ (x y : ℕ). x * 2 ^ width_sum (meanings d as_) + y) (meaning_same d v u a (left_of v u (λ k. reads k a) (λ k. some_reads k as_) h) m (meaning d a).width (meaning d a).signed) (parts_same d v u as_ (right_of v u (λ k. reads k a) (λ k. some_reads k as_) h) m))
  meaning_same d v u (Replication k a) h m w t =
      ap (λ p. extend (k * (meaning d a).width) w t (repeated k (meaning d a).width p)) (meaning_same d v u a h m (meaning d a).width (meaning d a).signed)
  meaning_same d v u (ToSigned a) h m w t = ap (λ p. extend (meaning d a).width w t p) (meaning_same d v u a h m (meaning d a).width (meaning d a).signed)
  meaning_same d v u (ToUnsigned a) h m w t = ap (λ p. extend (meaning d a).width w t p) (meaning_same d v u a h m (meaning d a).width (meaning d a).signed)

  parts_same : (d : Sizes) (v u : Valuation) (es : VExprs) → AgreeOn v u (λ k. some_reads k es) → v.words ≡ u.words → concat_bits (meanings d es) v ≡ concat_bits (meanings d es) u
  parts_same d v u NoMore h m = refl
  parts_same d v u (More a as_) h m =
      ap₂ (λ (x y : ℕ). x * 2 ^ width_sum (meanings d as_) + y) (meaning_same d v u a (left_of v u (λ k. reads k a) (λ k. some_reads k as_) h) m (meaning d a).width (meaning d a).signed) (parts_same d v u as_ (right_of v u (λ k. reads k a) (λ k. some_reads k as_) h) m)

pub assigned_same : (d : Sizes) (v u : Valuation) (n : ℕ) (e : VExpr) → AgreeOn v u (λ k. reads k e) → v.words ≡ u.words → assigned d v n e ≡ assigned d u n e
assigned_same d v u n e h m = ap (λ (p : ℕ). p % 2 ^ n) (meaning_same d v u e h m (max n (meaning d e).width) (meaning d e).signed)

pattern_same : (d : Sizes) (v u : Valuation) (t : VTarget) (e : VExpr) → AgreeOn v u (λ k. reads k e) → v.words ≡ u.words → (old : ℕ) → new_pattern d v t e old ≡ new_pattern d u t e old
pattern_same d v u (Whole n) e h m old = assigned_same d v u (d n).bits e h m
pattern_same d v u (Part n hi lo) e h m old = ap (λ p. set_bits old hi lo p) (assigned_same d v u (hi - lo + 1) e h m)
pattern_same d v u (WholeWord n index) e h m old = refl
pattern_same d v u (PartWord n index hi lo) e h m old = refl

same_branch : (a b : Bool) (m m' n n' : ℕ) → a ≡ b → m ≡ m' → n ≡ n' → cond a m n ≡ cond b m' n'
same_branch a b m m' n n' e h k = ap (λ z. cond z m n) e ∙ ap₂ (λ (x y : ℕ). cond b x y) h k

mutual
  pub stmt_same : (d : Sizes) (v u : Valuation) (s : VStmt) → AgreeOn v u (λ k. stmt_reads k s) → v.words ≡ u.words → (old : ℕ) → run_stmt d v s old ≡ run_stmt d u s old
  stmt_same d v u (Assign t now e) h m old = pattern_same d v u t e h m old
  stmt_same d v u (When c so other) h m old =
      let g = right_of v u (λ k. reads k c) (λ k. block_reads k so || else_reads k other) h in
      same_branch (holds d v c) (holds d u c) (run_block d v so old) (run_block d u so old) (run_else d v other old) (run_else d u other old)
      (ap (λ (p : ℕ). not (nat_eq p 0)) (meaning_same d v u c (left_of v u (λ k. reads k c) (λ k. block_reads k so || else_reads k other) h) m (meaning d c).width (meaning d c).signed))
      (block_same d v u so (left_of v u (λ k. block_reads k so) (λ k. else_reads k other) g) m old)
      (else_same d v u other (right_of v u (λ k. block_reads k so) (λ k. else_reads k other) g) m old)

  pub else_same : (d : Sizes) (v u : Valuation) (s : VElse) → AgreeOn v u (λ k. else_reads k s) → v.words ≡ u.words → (old : ℕ) → run_else d v s old ≡ run_else d u s old
  else_same d v u NoElse h m old = refl
  else_same d v u (Else b) h m old = block_same d v u b h m old

  pub block_same : (d : Sizes) (v u : Valuation) (b : VBlock) → AgreeOn v u (λ k. block_reads k b) → v.words ≡ u.words → (old : ℕ) → run_block d v b old ≡ run_block d u b old
  block_same d v u EndBlock h m old = refl
  block_same d v u (InBlock s ss) h m old =
      block_same d v u ss (right_of v u (λ k. stmt_reads k s) (λ k. block_reads k ss) h) m (run_stmt d v s old)
      ∙ ap (λ p. run_block d u ss p) (stmt_same d v u s (left_of v u (λ k. stmt_reads k s) (λ k. block_reads k ss) h) m old)

pub by_driver_same : (m : VModule) (state : Valuation) (inputs : Name → ℕ) (v u : Valuation) (n : Name) (r : Driver) → AgreeOn v u (λ k. driver_reads k r) → v.words ≡ u.words → by_driver m state inputs v n r ≡ by_driver m state inputs u n r
by_driver_same m state inputs v u n Outside h w = refl
by_driver_same m state inputs v u n (ByAssign e) h w = assigned_same (sizes m) v u (sizes m n).bits e h w
by_driver_same m state inputs v u n (ByBlock b) h w = block_same (sizes m) v u b h w 0
by_driver_same m state inputs v u n (Clocked c b) h w = refl
by_driver_same m state inputs v u n Nothing h w = refl
