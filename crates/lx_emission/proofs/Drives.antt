-- The text of each operator and slice gives its net the pattern of its value.
use Rattle.std.proofs.Common.{◌≡◌, ℕ, ℤ, pos, Bool, true, false, List, [], ◌∷◌, ◌+◌, ◌-◌, ◌*◌, ◌/◌, ◌%◌, ◌^◌, ◌<◌, ◌≤◌, ◌&&◌, cond, nat_eq, nat_le, length, refl, sym, ◌∙◌, ap, subst, arith}
use Rattle.std.specs.Prelude.{Option, Some, None, slice_get}
use Rattle.std.proofs.Math.Nat.{mod-eq_of_lt}
use Rattle.std.proofs.lemmas.Bool.{and_parts, cond_both, eqb-true, eqb-false}
use Rattle.std.proofs.lemmas.Nat.{pow_pos}
use Rattle.std.proofs.lemmas.Option.{slice_get_within}
use Rattle.lx_num.specs.declared.Shape.{Shape}
use Rattle.lx_num.specs.Ints.{modulo, floor_div, field_of, wrapped, unsigned}
use Rattle.lx_num.proofs.Ints.{modulo-small, modulo-below}
use Rattle.lx_num.proofs.Ranges.{fits_pos}
use Rattle.lx_tables.specs.declared.operators.Op.{Op}
use Rattle.lx_tables.specs.declared.operators.Op.TheVariants as op
use Rattle.lx_tables.specs.Operators.{row_of, mix_of}
use Rattle.lx_circuit.specs.Terms.{Term}
use Rattle.lx_circuit.specs.Shapes.{Shapes, shape_of, shapes_of, fault_of, or_else, bits_sum, unary_shape, binary_shape, joined, too_wide, index_fault, binary_fault, replicate_fault, slice_fault}
use Rattle.lx_circuit.specs.Places as Place
use Rattle.lx_circuit.specs.Places.{Values}
use Rattle.lx_circuit.specs.Values.{value_of, values_of, unary_value, binary_value, mux_value, cat_pattern, replicate_value, count_of}
use Rattle.lx_circuit.specs.declared.WidthFault.TheVariants.{BadWidth}
use Rattle.lx_vtext.specs.Tree.{Name, VExpr, VExprs, Net, Literal, PartSelect, Word, Replication, ToUnsigned, NoMore, More}
use Rattle.lx_vmeaning.specs.Meaning as verilog
use Rattle.lx_vmeaning.specs.Meaning.{Declared, Sizes, Valuation, Meaning, extend, meaning, meanings, own, leaf, assigned}
use Rattle.lx_tie.specs.Stands.{Exact, Drives}
use Rattle.lx_tie.specs.Rows as row
use Rattle.lx_tie.specs.Rows.{TakesRight, StandFor, reversed_onto}
use Rattle.lx_circuit.specs.Operands.{is_unary, is_binary}
use Rattle.lx_tie.proofs.Leaves.{exact_leaf, own_exact, drives_net, spreads_drives, exact_spreads}
use Rattle.lx_tie.proofs.Rows.{unary_drives, binary_drives, choice_drives}
use Rattle.lx_tie.proofs.Parts.{field_bits, exact_select, exact_cat, exact_repeat}
use Rattle.lx_fhdl.specs.Below.{ExprId, expr_below}
use Rattle.lx_fhdl.specs.Nodes.{EachPlace, EachChild, HasParts}
use Rattle.lx_fhdl.specs.Designs.{term, shapes, memory_at}
use Rattle.lx_fhdl.specs.Keeping.{HasPlainIndex, Keeps, TakesOperands}
use Rattle.lx_fhdl.specs.Lowered.{IsLowered, is_no_pick}
use Rattle.lx_fhdl.specs.Trees.{terms_at, node_term}
use Rattle.lx_fhdl.specs.declared.exprs.Expr.{Expr}
use Rattle.lx_fhdl.specs.declared.exprs.Expr.TheVariants.{Const, Sig, Unary, Binary, Mux, Cat, Pick, Replicate, Slice, Fetch}
use Rattle.lx_fhdl.specs.declared.design.Design.{Design}
use Rattle.lx_fhdl.proofs.Arena.{each_child, by_test_none, slice_inside}
use Rattle.lx_arena.proofs.Places.{lower_at}
use Rattle.lx_fhdl.proofs.Operators.{none_left, none_right, index_unsigned}
use Rattle.lx_fhdl.proofs.Trees.{term_at-is}
use Rattle.lx_emission.specs.Naming.{has_net, node_net, memory_name}
use Rattle.lx_emission.proofs.Reading.{fetch_at, shape_is}
use Rattle.lx_tie.proofs.Words.{word_exact}
use Rattle.lx_emission.specs.Nodes.{node_shape, operand_of, operand, wide_if, parts_onto, concat_of, cat_text, slice_text, unary_text, binary_text, choice_text, node_text_of, node_text}
use Rattle.lx_emission.proofs.Setting.{IsNetNode, DeclaresNets, HasPatterns, SignalsFit, TermsAreSmall, TermsFit}
use Rattle.lx_emission.proofs.Operands.{ExactTerm, operand_exact}

-- ---- operators

wide_meaning : (s : Sizes) (b : Bool) (e : VExpr) → meaning s (wide_if b e) ≡ row.wide_if b (meaning s e)
wide_meaning s true e = refl
wide_meaning s false e = refl

unary_text_drives : (w : Valuation) (s : Sizes) (o : Op) (a : Shape) (x : ℤ) (e : VExpr) → is_unary o ≡ true → Exact w a.bits a.signed x (meaning s e)
    → Drives w (unary_shape o a).bits (unary_value o a x) (meaning s (unary_text (row_of o (mix_of a.signed a.signed)) e))
unary_text_drives w s o a x e is p =
    let r = row_of o (mix_of a.signed a.signed) in
    let P : Meaning → Type 0 = λ m. Drives w (unary_shape o a).bits (unary_value o a x) (verilog.unary (row.unary_op r.text) m) in
    subst P (sym (wide_meaning s r.widen_left e)) (unary_drives w o a x (meaning s e) is p)

binary_text_drives : (w : Valuation) (s : Sizes) (o : Op) (a b : Shape) (x y : ℤ) (e f : VExpr) → is_binary o ≡ true → TakesRight o b.signed
    → Exact w a.bits a.signed x (meaning s e) → Exact w b.bits b.signed y (meaning s f)
    → Drives w (binary_shape o a b).bits (binary_value o x y) (meaning s (binary_text (row_of o (mix_of a.signed b.signed)) e f))
binary_text_drives w s o a b x y e f is t p q =
    let r = row_of o (mix_of a.signed b.signed) in
    let P : Meaning → Type 0 = λ m. Drives w (binary_shape o a b).bits (binary_value o x y) (verilog.binary (row.binary_op r.text) m (meaning s (wide_if r.widen_right f))) in
    let Q : Meaning → Type 0 = λ m. Drives w (binary_shape o a b).bits (binary_value o x y) (verilog.binary (row.binary_op r.text) (row.wide_if r.widen_left (meaning s e)) m) in
    subst P (sym (wide_meaning s r.widen_left e)) (subst Q (sym (wide_meaning s r.widen_right f)) (binary_drives w o a b x y (meaning s e) (meaning s f) is t p q))

choice_text_drives : (w : Valuation) (s : Sizes) (c a b : Shape) (z x y : ℤ) (g e f : VExpr)
    → Exact w c.bits c.signed z (meaning s g) → Exact w a.bits a.signed x (meaning s e) → Exact w b.bits b.signed y (meaning s f)
    → Drives w (joined a b).bits (mux_value z x y) (meaning s (choice_text (row_of op.Mux (mix_of a.signed b.signed)) g e f))
choice_text_drives w s c a b z x y g e f o p q =
    let r = row_of op.Mux (mix_of a.signed b.signed) in
    let P : Meaning → Type 0 = λ m. Drives w (joined a b).bits (mux_value z x y) (verilog.choose (meaning s g) m (meaning s (wide_if r.widen_right f))) in
    let Q : Meaning → Type 0 = λ m. Drives w (joined a b).bits (mux_value z x y) (verilog.choose (meaning s g) (row.wide_if r.widen_left (meaning s e)) m) in
    subst P (sym (wide_meaning s r.widen_left e)) (subst Q (sym (wide_meaning s r.widen_right f)) (choice_drives w c a b z x y (meaning s g) (meaning s e) (meaning s f) o p q))

-- an amount is unsigned where the operator has no fault
takes_right : (o : Op) (a b : Shape) → binary_fault o a b ≡ None → TakesRight o b.signed
takes_right op.Shl a b e = index_unsigned b (none_left (index_fault b) (too_wide (binary_shape op.Shl a b).bits) e)
takes_right op.Shr a b e = index_unsigned b e
takes_right _ a b e = tt

exact_drives : (w : Valuation) (n : ℕ) (s : Bool) (z : ℤ) (e : Meaning) → Exact w n s z e → Drives w n z e
exact_drives w n s z e x = spreads_drives w n z e (exact_spreads w n s z e x)

-- ---- concatenations

part_meanings : Sizes → (ℕ → VExpr) → List ExprId → List Meaning
part_meanings s o [] = []
part_meanings s o (i ∷ is) = meaning s (o i.place) ∷ part_meanings s o is

parts_meanings : (s : Sizes) (o : ℕ → VExpr) (is : List ExprId) (done : VExprs) → meanings s (parts_onto o is done) ≡ reversed_onto (part_meanings s o is) (meanings s done)
unfolding part_meanings
parts_meanings s o [] done = refl
parts_meanings s o (i ∷ is) done = parts_meanings s o is (More (o i.place) done)

concat_meaning : (s : Sizes) (o : ℕ → VExpr) (is : List ExprId) (e : VExpr) (done : VExprs) → meaning s (concat_of (parts_onto o is (More e done))) ≡ verilog.concat (meanings s (parts_onto o is (More e done)))
concat_meaning s o [] e done = refl
concat_meaning s o (i ∷ is) e done = concat_meaning s o is (o i.place) (More e done)

cat_meaning : (s : Sizes) (o : ℕ → VExpr) (is : List ExprId) → 0 < length is → meaning s (cat_text o is) ≡ verilog.concat (reversed_onto (part_meanings s o is) [])
cat_meaning s o [] h = absurd (omega arith)
cat_meaning s o (i ∷ is) h = concat_meaning s o is (o i.place) NoMore ∙ ap verilog.concat (parts_meanings s o (i ∷ is) NoMore)

parts_exact : (w : Valuation) (s : Sizes) (h : Shapes) (v : Values) (t : ℕ → Term) (o : ℕ → VExpr) (is : List ExprId) → EachPlace (λ j. ExactTerm w h v (t j) (meaning s (o j))) is
    → StandFor w (shapes_of h (terms_at t is)) (values_of h v (terms_at t is)) (part_meanings s o is)
unfolding part_meanings
parts_exact w s h v t o [] p = tt
parts_exact w s h v t o (i ∷ is) p = (p.0, parts_exact w s h v t o is p.1)

parts_some : (w : Valuation) (s : Sizes) (h : Shapes) (v : Values) (t : ℕ → Term) (o : ℕ → VExpr) (is : List ExprId) → 0 < length is → EachPlace (λ j. ExactTerm w h v (t j) (meaning s (o j))) is
    → 1 ≤ bits_sum (shapes_of h (terms_at t is))
parts_some w s h v t o [] l p = absurd (omega arith)
parts_some w s h v t o (i ∷ is) l p = omega (arith, p.0.some)

cat_exact : (w : Valuation) (s : Sizes) (h : Shapes) (v : Values) (t : ℕ → Term) (o : ℕ → VExpr) (is : List ExprId) → 0 < length is → EachPlace (λ j. ExactTerm w h v (t j) (meaning s (o j))) is
    → Exact w (bits_sum (shapes_of h (terms_at t is))) false (pos (cat_pattern (shapes_of h (terms_at t is)) (values_of h v (terms_at t is)))) (meaning s (cat_text o is))
cat_exact w s h v t o is l p =
    let P : Meaning → Type 0 = λ m. Exact w (bits_sum (shapes_of h (terms_at t is))) false (pos (cat_pattern (shapes_of h (terms_at t is)) (values_of h v (terms_at t is)))) m in
    subst P (sym (cat_meaning s o is l))
    (exact_cat w (shapes_of h (terms_at t is)) (values_of h v (terms_at t is)) (part_meanings s o is) (parts_exact w s h v t o is p) (parts_some w s h v t o is l p))

-- ---- slices

-- the text of an operand: a literal or a net
abbrev pub is_leaf : VExpr → Bool
is_leaf (Net n) = true
is_leaf (Literal bits signed value) = true
is_leaf _ = false

-- a pattern in its own width
extend_own : (n : ℕ) (s : Bool) (p : ℕ) → extend n n s p ≡ p
extend_own n false p = refl
extend_own n true p = cond_same (nat_le (2 ^ (n - 1)) p) (p + (2 ^ n - 2 ^ n)) p (omega arith)
  where
    cond_same : (b : Bool) (x y : ℕ) → x ≡ y → cond b x y ≡ y
    cond_same true x y e = e
    cond_same false x y e = refl

-- bits of an operand's pattern
field_exact : (w : Valuation) (n low high : ℕ) (z : ℤ) (f : Valuation → ℕ) → f w ≡ modulo z (2 ^ n) → low < high → high ≤ n
    → Exact w (high - low) false (pos (field_of z low (high - low))) (leaf (high - low) false (λ u. f u / 2 ^ low % 2 ^ (high - low)))
field_exact w n low high z f e h k =
    let len = high - low in
    let small = modulo-below (floor_div z (2 ^ low)) (2 ^ len) (pow_pos len) in
    exact_leaf w len len false (pos (field_of z low len)) (λ u. f u / 2 ^ low % 2 ^ len) refl (omega arith) (fits_pos len (field_of z low len) small)
    (ap (λ (p : ℕ). p / 2 ^ low % 2 ^ len) e ∙ field_bits z n low len (omega arith) ∙ sym (modulo-small (field_of z low len) (2 ^ len) small))

-- all bits of an operand, as an unsigned number
whole_exact : (w : Valuation) (n : ℕ) (s : Bool) (z : ℤ) (e : Meaning) → Exact w n s z e → Exact w n false (pos (field_of z 0 n)) (verilog.as_unsigned e)
whole_exact w n s z e x =
    let small = modulo-below (floor_div z (2 ^ 0)) (2 ^ n) (pow_pos n) in
    let below = modulo-below z (2 ^ n) (pow_pos n) in
    let same : modulo z (2 ^ n) / 2 ^ 0 % 2 ^ n ≡ modulo z (2 ^ n) = ap (λ (p : ℕ). p % 2 ^ n) (omega arith) ∙ mod-eq_of_lt below in
    exact_leaf w e.width n false (pos (field_of z 0 n)) (λ u. own e u) x.width x.some (fits_pos n (field_of z 0 n) small)
    (own_exact w n s z e x ∙ sym same ∙ field_bits z n 0 n (omega arith) ∙ sym (modulo-small (field_of z 0 n) (2 ^ n) small))

pattern_of : (w : Valuation) (n : ℕ) (s : Bool) (z : ℤ) (k : ℕ) (t : Bool) (f : Valuation → ℕ) → Exact w n s z (leaf k t f) → f w ≡ modulo z (2 ^ n)
pattern_of w n s z k t f x = sym (extend_own k t (f w)) ∙ own_exact w n s z (leaf k t f) x

slice_exact : (w : Valuation) (s : Sizes) (n low high : ℕ) (t : Bool) (z : ℤ) (e : VExpr) → is_leaf e ≡ true → Exact w n t z (meaning s e) → low < high → high ≤ n
    → Exact w (high - low) false (pos (field_of z low (high - low))) (meaning s (slice_text e n low high))
slice_exact w s n low high t z (Literal bits signed value) l x h k =
    field_exact w n low high z (λ u. value) (pattern_of w n t z bits signed (λ u. value) x) h k
slice_exact w s n low high t z (Net m) l x h k =
    let len = high - low in
    let P : VExpr → Type 0 = λ e. Exact w len false (pos (field_of z low len)) (meaning s e) in
    cond_both (nat_eq low 0 && nat_eq high n) (ToUnsigned (Net m)) (PartSelect m (high - 1) low) P
    (λ e.
    let p = and_parts (nat_eq low 0) (nat_eq high n) e in
    let zero : 0 ≡ low = sym (eqb-true low 0 p.0) in
    let all : n ≡ len = omega (arith, eqb-true high n p.1, zero) in
    let u = verilog.as_unsigned (meaning s (Net m)) in
    subst (λ (j : ℕ). Exact w j false (pos (field_of z low j)) u) all
    (subst (λ (j : ℕ). Exact w n false (pos (field_of z j n)) u) zero (whole_exact w n t z (meaning s (Net m)) x)))
    (λ e.
    let top : low + len - 1 ≡ high - 1 = omega arith in
    subst (λ (j : ℕ). Exact w len false (pos (field_of z low len)) (verilog.select m j low)) top
    (exact_select w m n low len z (pattern_of w n t z (s m).bits (s m).signed (λ u. u.nets m) x) (omega arith) (omega arith)))
slice_exact w s n low high t z e l x h k = absurd (cc)

-- ---- nodes

replicate_exact : (w : Valuation) (s : Sizes) (a : Shape) (count : ℕ) (z : ℤ) (e : VExpr) → replicate_fault a count ≡ None → Exact w a.bits a.signed z (meaning s e)
    → Exact w (count * a.bits) false (replicate_value a count z) (meaning s (Replication count e))
replicate_exact w s a count z e f x =
    let p = by_test_none (nat_eq count 0) BadWidth (too_wide (count * a.bits)) f in
    exact_repeat w a count z (meaning s e) x (omega (arith, eqb-false count 0 p.0))

-- ---- reads of memories

-- a read's text stands exactly for its word
abbrev ReadStands : Valuation → Sizes → Shapes → Values → (ℕ → Name) → (ℕ → Term) → (ℕ → VExpr) → Expr → Type 0
ReadStands w s h v m t o (Fetch memory width at) =
    Exact w width false (wrapped (unsigned width) (v (Place.Word memory (count_of (value_of h v (t at.place)))))) (meaning s (Word (m memory) (o at.place)))
ReadStands w s h v m t o _ = Unit {0}

read_stands : (d : Design) (names : List Name) (s : Sizes) (v : Values) (w : Valuation) → Keeps d → DeclaresNets d names s → HasPatterns d names v w → TermsAreSmall d
    → (k : ℕ) (x : Expr) → slice_get d.exprs k ≡ Some x → HasPlainIndex (shapes d) d.exprs x → EachChild (λ j. ExactTerm w (shapes d) v (term d j) (meaning s (operand d names j))) x
    → ReadStands w s (shapes d) v (memory_name d names) (term d) (operand d names) x
unfolding node_shape
read_stands d names s v w keeps declares has small k (Fetch memory width at) e plain c =
    let is = fetch_at d keeps k memory width at e in
    let n = memory_name d names memory in
    let own = memory_at d memory in
    let a = shape_of (shapes d) (term d at.place) in
    let z = value_of (shapes d) v (term d at.place) in
    let i = meaning s (operand d names at.place) in
    let index : Exact w a.bits false z i = subst (λ (t : Bool). Exact w a.bits t z i) plain c in
    let some : 1 ≤ own.width = omega (arith, is.width, (small.each k (slice_get_within d.exprs k (Fetch memory width at) e)).some, ap (λ (b : Shape). b.bits) (shape_is d keeps k (Fetch memory width at) e)) in
    let word = word_exact w n own.width own.depth a.bits (λ b. v (Place.Word memory b)) z i some (has.memories memory is.there) index in
    subst (λ (j : ℕ). Exact w j false (wrapped (unsigned j) (v (Place.Word memory (count_of z)))) (meaning s (Word n (operand d names at.place)))) is.width
    (subst (λ (b : Declared). Exact w own.width false (wrapped (unsigned own.width) (v (Place.Word memory (count_of z)))) (verilog.word b n i)) (sym (declares.memories memory is.there)) word)
read_stands d names s v w keeps declares has small k (Const value bits signed) e plain c = tt
read_stands d names s v w keeps declares has small k (Sig x) e plain c = tt
read_stands d names s v w keeps declares has small k (Unary op of) e plain c = tt
read_stands d names s v w keeps declares has small k (Binary op left right) e plain c = tt
read_stands d names s v w keeps declares has small k (Mux cond then_ else_) e plain c = tt
read_stands d names s v w keeps declares has small k (Cat parts) e plain c = tt
read_stands d names s v w keeps declares has small k (Pick items index) e plain c = tt
read_stands d names s v w keeps declares has small k (Replicate of count) e plain c = tt
read_stands d names s v w keeps declares has small k (Slice of low high) e plain c = tt

-- ---- every node with a net

-- the text of a node gives the node's net the bits of its value, where its operands stand exactly for theirs
node_drives : (w : Valuation) (s : Sizes) (h : Shapes) (v : Values) (m : ℕ → Name) (t : ℕ → Term) (o : ℕ → VExpr) (x : Expr)
    → ((j : ℕ) → is_leaf (o j) ≡ true) → has_net x ≡ true → is_no_pick x ≡ true → TakesOperands x → HasParts x → fault_of h (node_term t x) ≡ None
    → EachChild (λ j. ExactTerm w h v (t j) (meaning s (o j))) x → ReadStands w s h v m t o x
    → Drives w (shape_of h (node_term t x)).bits (value_of h v (node_term t x)) (meaning s (node_text_of m (λ j. shape_of h (t j)) o (Some x)))
node_drives w s h v m t o (Const value bits signed) leaf n l f p e c r = absurd (cc)
node_drives w s h v m t o (Sig x) leaf n l f p e c r = absurd (cc)
node_drives w s h v m t o (Pick items index) leaf n l f p e c r = absurd (cc)
node_drives w s h v m t o (Unary g of) leaf n l f p e c r =
    unary_text_drives w s g (shape_of h (t of.place)) (value_of h v (t of.place)) (o of.place) f c
node_drives w s h v m t o (Binary g left right) leaf n l f p e c r =
    let a = shape_of h (t left.place) in
    let b = shape_of h (t right.place) in
    let own_fault = none_right (fault_of h (t right.place)) (binary_fault g a b) (none_right (fault_of h (t left.place)) (or_else (fault_of h (t right.place)) (binary_fault g a b)) e) in
    binary_text_drives w s g a b (value_of h v (t left.place)) (value_of h v (t right.place)) (o left.place) (o right.place) f (takes_right g a b own_fault) c.0 c.1
node_drives w s h v m t o (Mux cond then_ else_) leaf n l f p e c r =
    choice_text_drives w s (shape_of h (t cond.place)) (shape_of h (t then_.place)) (shape_of h (t else_.place)) (value_of h v (t cond.place)) (value_of h v (t then_.place)) (value_of h v (t else_.place))
    (o cond.place) (o then_.place) (o else_.place) c.0 c.1.0 c.1.1
node_drives w s h v m t o (Cat parts) leaf n l f p e c r =
    exact_drives w (bits_sum (shapes_of h (terms_at t parts))) false (pos (cat_pattern (shapes_of h (terms_at t parts)) (values_of h v (terms_at t parts)))) (meaning s (cat_text o parts))
    (cat_exact w s h v t o parts p c)
node_drives w s h v m t o (Replicate of count) leaf n l f p e c r =
    let a = shape_of h (t of.place) in
    exact_drives w (count * a.bits) false (replicate_value a count (value_of h v (t of.place))) (meaning s (Replication count (o of.place)))
    (replicate_exact w s a count (value_of h v (t of.place)) (o of.place) (none_right (fault_of h (t of.place)) (replicate_fault a count) e) c)
node_drives w s h v m t o (Slice of low high) leaf n l f p e c r =
    let a = shape_of h (t of.place) in
    let z = value_of h v (t of.place) in
    let inside = slice_inside a low high (none_right (fault_of h (t of.place)) (slice_fault a low high) e) in
    exact_drives w (high - low) false (pos (field_of z low (high - low))) (meaning s (slice_text (o of.place) a.bits low high))
    (slice_exact w s a.bits low high a.signed z (o of.place) (leaf of.place) c inside.0 inside.1)
node_drives w s h v m t o (Fetch memory width at) leaf n l f p e c r =
    exact_drives w width false (wrapped (unsigned width) (v (Place.Word memory (count_of (value_of h v (t at.place)))))) (meaning s (Word (m memory) (o at.place))) r

operand_leaf : (names : List Name) (n : Name) (x : Option Expr) → is_leaf (operand_of names n x) ≡ true
operand_leaf names n None = refl
operand_leaf names n (Some (Const value bits signed)) = refl
operand_leaf names n (Some (Sig x)) = refl
operand_leaf names n (Some x) = refl

-- the text of the node at a place is a literal or a net
pub operand-is_leaf : (d : Design) (names : List Name) (k : ℕ) → is_leaf (operand d names k) ≡ true
unfolding operand
operand-is_leaf d names k = operand_leaf names (node_net d.exprs k) (slice_get d.exprs k)

-- The text of each operator and slice gives its net the bits of the node's value.
pub node_text_stands : (d : Design) (names : List Name) (s : Sizes) (v : Values) (w : Valuation)
    → Keeps d → IsLowered d → DeclaresNets d names s → HasPatterns d names v w → SignalsFit d v → TermsAreSmall d → TermsFit d v
    → (k : ℕ) → IsNetNode d k → Drives w (node_shape d k).bits (value_of (shapes d) v (term d k)) (meaning s (node_text d names k))
unfolding node_shape node_text
node_text_stands d names s v w keeps lowered declares has fits small fit k node =
    let x = node.node in
    let there = node.there in
    let h = shapes d in
    let within = slice_get_within d.exprs k x there in
    let is = term_at-is d.exprs keeps.arenas.exprs_lower k x there in
    let P : ℕ → Type 0 = λ j. ExactTerm w h v (term d j) (meaning s (operand d names j)) in
    let below : (j : ℕ) → j < k → P j = λ j l. operand_exact d names s v w keeps lowered declares has fits small fit j (omega arith) in
    let Q : Option Expr → Type 0 = λ o. Drives w (shape_of h (term d k)).bits (value_of h v (term d k)) (meaning s (node_text_of (memory_name d names) (λ j. shape_of h (term d j)) (operand d names) o)) in
    let R : Term → Type 0 = λ t. Drives w (shape_of h t).bits (value_of h v t) (meaning s (node_text_of (memory_name d names) (λ j. shape_of h (term d j)) (operand d names) (Some x))) in
    subst Q (sym there) (subst R (sym is)
    (let children = each_child P k x below (lower_at expr_below d.exprs keeps.arenas.exprs_lower k x there) in
    node_drives w s h v (memory_name d names) (term d) (operand d names) x (operand-is_leaf d names) node.net (lowered.exprs k x there) (keeps.arenas.operands k x there) (keeps.arenas.parts k x there)
    (ap (fault_of h) (sym is) ∙ keeps.arenas.shaped k within)
    children (read_stands d names s v w keeps declares has small k x there (keeps.arenas.indices k x there) children)))

-- The net of each operator and slice takes the pattern of the node's value.
pub node_text_drives : (d : Design) (names : List Name) (s : Sizes) (v : Values) (w : Valuation)
    → Keeps d → IsLowered d → DeclaresNets d names s → HasPatterns d names v w → SignalsFit d v → TermsAreSmall d → TermsFit d v
    → (k : ℕ) → IsNetNode d k → assigned s w (node_shape d k).bits (node_text d names k) ≡ modulo (value_of (shapes d) v (term d k)) (2 ^ (node_shape d k).bits)
node_text_drives d names s v w keeps lowered declares has fits small fit k node =
    drives_net w (node_shape d k).bits (value_of (shapes d) v (term d k)) (meaning s (node_text d names k)) (node_text_stands d names s v w keeps lowered declares has fits small fit k node)
