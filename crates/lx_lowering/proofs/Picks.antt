-- Nested choices in place of a pick: its shape, its value, no fault, and no further name.
use Rattle.std.proofs.Common.{◌≡◌, ℕ, ◌+◌, ◌-◌, ◌^◌, ◌<◌, ◌≤◌, Bool, true, false, ◌||◌, cond, List, [], ◌∷◌, refl, sym, ◌∙◌, ap, subst, arith, suc, zero, nat_lt, nat_eq, max}
use Rattle.std.specs.Prelude.{ℤ, pos, negsuc, Option, Some, None}
use Rattle.std.specs.Ordering.{int_eq}
use Rattle.std.proofs.lemmas.Bool.{cond_both, ltb-true, ltb-false, ne_eqb, eqb-true, eqb-false, or_parts, or_right, or_from}
use Rattle.std.proofs.Math.Bool.{or-false}
use Rattle.std.proofs.lemmas.Bool.Decides.{same_from_decides, Decides-eqb, Decides-int_eq, Decides-like}
use Rattle.lx_num.specs.declared.Shape.{Shape}
use Rattle.lx_num.specs.Ints.{FitsBits, shape, unsigned, wrapped}
use Rattle.lx_num.proofs.Ranges.{fits_pos, unsigned_fits, wrap_bits_same}
use Rattle.lx_tables.specs.declared.operators.Op.TheVariants as op
use Rattle.lx_circuit.specs.Places.{Place, Values}
use Rattle.lx_circuit.specs.declared.WidthFault.{WidthFault}
use Rattle.lx_circuit.specs.declared.WidthFault.TheVariants.{BadWidth}
use Rattle.lx_circuit.specs.Terms.{Term, Terms, Constant, Binary, Pick, NoTerm, MoreTerms}
use Rattle.lx_circuit.specs.Shapes.{Shapes, shape_of, shapes_of, joined, joined_bits, joined_fault, pick_shape, some_signed, widest, extra, too_wide, constant_fault, or_else}
use Rattle.lx_circuit.specs.Values.{value_of, values_of, flag, count_of, mux_value, nth_or_last}
use Rattle.lx_circuit.specs.Reads.{names, some_names}
use Rattle.lx_circuit.proofs.Cases.{by_test}
use Rattle.lx_fhdl.specs.Nodes.{IsSmall}
use Rattle.lx_fhdl.proofs.Fitting.{count_below}
use Rattle.lx_fhdl.proofs.Operators.{unsigned_operand, narrow}
use Rattle.lx_lowering.specs.Terms.{never, is_item, pick_from}
use Rattle.lx_lowering.specs.Lowering.{TermKeeps, has_some}
use Rattle.lx_lowering.proofs.TermFacts.{TermsKeep, AreSmall, AreFit, first_keeps, rest_keeps, keeps_constant, keeps_binary, keeps_mux, pick_some, pick_items, pick_index, pick_unsigned, term_small, term_fits}

-- ---- faults that aren't there

-- a small shape is one of a constant
pub small_constant : (a : Shape) → IsSmall a → constant_fault a ≡ None
small_constant a h = ap (λ (b : Bool). cond b (Some BadWidth) (too_wide a.bits)) (ne_eqb a.bits 0 (omega (arith, h.some))) ∙ narrow a.bits h.most

no_extra : (s : Bool) → extra s (s || s) ≡ 0
no_extra true = refl
no_extra false = refl

-- two operands of one small shape are compared
pub compared : (a : Shape) → IsSmall a → joined_fault a a (unsigned 1) ≡ None
compared a h = ap (λ (o : Option WidthFault). or_else o (too_wide 1)) (narrow (joined a a).bits (omega (arith, no_extra a.signed, h.most)))

-- ---- the condition of an item

pub same_test : (a b : ℕ) → int_eq (pos a) (pos b) ≡ nat_eq a b
same_test a b = same_from_decides (int_eq (pos a) (pos b)) (nat_eq a b) (Decides-int_eq (pos a) (pos b)) (Decides-like {P = a ≡ b} {Q = pos a ≡ pos b} (nat_eq a b) (λ e. ap (λ (k : ℕ). pos k) e) (λ e. cc) (Decides-eqb a b))

-- an unsigned value is a natural number
pub natural : (n : ℕ) (z : ℤ) → FitsBits n false z → z ≡ pos (count_of z)
natural n (pos a) f = refl
natural n (negsuc a) f = absurd (omega (arith, unsigned_fits n (negsuc a) f))

-- a number that an unsigned shape holds is wrapped to itself
pub held : (a : Shape) (k : ℕ) → 1 ≤ a.bits → a.signed ≡ false → k < 2 ^ a.bits → wrapped a (pos k) ≡ pos k
held a k h e l = wrap_bits_same a.bits a.signed (pos k) h (let P : Bool → Type 0 = λ s. FitsBits a.bits s (pos k) in subst P (sym e) (fits_pos a.bits k l))

-- the condition is 1 where the index is the item's number, and 0 elsewhere
pub item_value : (s : Shapes) (n : ℕ) (v : Values) (i : Term) (k : ℕ) → AreSmall s n → AreFit s n v → TermKeeps s n i → (shape_of s i).signed ≡ false → value_of s v (is_item s i k) ≡ flag (nat_eq (count_of (value_of s v i)) k)
item_value s n v i k h f keeps e =
    let m = count_of (value_of s v i) in
    let a = shape_of s i in
    let small = term_small s n i h keeps in
    let fit = unsigned_operand a (value_of s v i) e (term_fits s n v i h f keeps) in
    let whole = λ (b : Bool). value_of s v (cond b (Binary op.Eq i (Constant (pos k) a)) never) in
    by_test (nat_lt k (2 ^ a.bits))
    (λ t.
    ap whole t
    ∙ ap (λ (z : ℤ). flag (int_eq (value_of s v i) z)) (held a k small.some e (ltb-true k (2 ^ a.bits) t))
    ∙ ap (λ (z : ℤ). flag (int_eq z (pos k))) (natural a.bits (value_of s v i) fit)
    ∙ ap flag (same_test m k))
    (λ t.
    ap whole t
    ∙ sym (ap flag (ne_eqb m k (omega (arith, ltb-false k (2 ^ a.bits) t, count_below a.bits (value_of s v i) fit)))))

pub item_keeps : (s : Shapes) (n : ℕ) (i : Term) (k : ℕ) → AreSmall s n → TermKeeps s n i → TermKeeps s n (is_item s i k)
item_keeps s n i k h keeps =
    let a = shape_of s i in
    let small = term_small s n i h keeps in
    cond_both (nat_lt k (2 ^ a.bits)) (Binary op.Eq i (Constant (pos k) a)) never (λ t. TermKeeps s n t)
    (λ _. keeps_binary s n op.Eq i (Constant (pos k) a) keeps (keeps_constant s n (pos k) a (small_constant a small)) (compared a small))
    (λ _. keeps_constant s n (pos 0) (unsigned 1) refl)

pub item_no_name : (s : Shapes) (y : Place) (i : Term) (k : ℕ) → names y i ≡ false → names y (is_item s i k) ≡ false
item_no_name s y i k e =
    cond_both (nat_lt k (2 ^ (shape_of s i).bits)) (Binary op.Eq i (Constant (pos k) (shape_of s i))) never (λ t. names y t ≡ false)
    (λ _. or-false (names y i) ∙ e)
    (λ _. refl)

-- ---- shapes

unsigned_extra : (s : Bool) → s ≡ false → (extra s false ≡ 0) × (extra s true ≡ 1)
unsigned_extra true e = absurd (cc)
unsigned_extra false e = (refl, refl)

-- items of which none is signed have one bit more each beside a signed one
more_each : (a : Shape) (as_ : List Shape) → some_signed (a ∷ as_) ≡ false → widest false (a ∷ as_) + 1 ≡ widest true (a ∷ as_)
more_each a [] e = omega (arith, unsigned_extra a.signed (or_parts a.signed false e).0)
more_each a (b ∷ bs) e =
    let p = or_parts a.signed (some_signed (b ∷ bs)) e in
    let h = more_each b bs p.1 in
    omega (arith, unsigned_extra a.signed p.0)

-- the others among all items, of which some may be signed
widened : (s t : Bool) (a : Shape) (as_ : List Shape) → some_signed (a ∷ as_) ≡ s → (s ≡ true → t ≡ true) → widest s (a ∷ as_) + extra s t ≡ widest t (a ∷ as_)
widened true true a as_ e h = omega arith
widened true false a as_ e h = absurd (let f = h refl in cc)
widened false true a as_ e h = more_each a as_ e
widened false false a as_ e h = omega arith

-- a choice of the first item or the others, all joined
pub joined_pick : (a b : Shape) (bs : List Shape) → joined a (pick_shape (b ∷ bs)) ≡ pick_shape (a ∷ b ∷ bs)
joined_pick a b bs =
    let some = some_signed (b ∷ bs) in
    let all = a.signed || some in
    ap (λ (w : ℕ). shape (max (joined_bits all a) w) all) (widened some all b bs refl (λ e. or_right a.signed some e))

lone : (n : ℕ) (s : Bool) → shape n s ≡ pick_shape (shape n s ∷ [])
lone n true = ap (λ (k : ℕ). shape k true) (omega arith)
lone n false = ap (λ (k : ℕ). shape k false) (omega arith)

-- the others have no more bits than all
pub others_bits : (a b : Shape) (bs : List Shape) → (pick_shape (b ∷ bs)).bits ≤ (pick_shape (a ∷ b ∷ bs)).bits
others_bits a b bs =
    let some = some_signed (b ∷ bs) in
    let all = a.signed || some in
    omega (arith, widened some all b bs refl (λ e. or_right a.signed some e))

-- the shape of the choices is that of the pick
pub pick_from_shape : (s : Shapes) (k : ℕ) (t : Term) (ts : Terms) (i : Term) → shape_of s (pick_from s k (MoreTerms t ts) i) ≡ pick_shape (shapes_of s (MoreTerms t ts))
pick_from_shape s k t NoTerm i = lone (shape_of s t).bits (shape_of s t).signed
pick_from_shape s k t (MoreTerms u us) i =
    ap (joined (shape_of s t)) (pick_from_shape s (k + 1) u us i) ∙ joined_pick (shape_of s t) (shape_of s u) (shapes_of s us)

-- ---- values

last_item : (z x : ℤ) (j : ℕ) → nth_or_last z (x ∷ []) j ≡ x
last_item z x zero = refl
last_item z x (suc j) = refl

-- the choices from number k on give the item at the index, or the last one
pub pick_from_value : (s : Shapes) (n : ℕ) (v : Values) (k : ℕ) (t : Term) (ts : Terms) (i : Term) (z : ℤ) → AreSmall s n → AreFit s n v → TermKeeps s n i → (shape_of s i).signed ≡ false → k ≤ count_of (value_of s v i) → value_of s v (pick_from s k (MoreTerms t ts) i) ≡ nth_or_last z (values_of s v (MoreTerms t ts)) (count_of (value_of s v i) - k)
pick_from_value s n v k t NoTerm i z h f keeps e l = sym (last_item z (value_of s v t) (count_of (value_of s v i) - k))
pick_from_value s n v k t (MoreTerms u us) i z h f keeps e l =
    let m = count_of (value_of s v i) in
    let x = value_of s v t in
    let xs = values_of s v (MoreTerms u us) in
    let rest = value_of s v (pick_from s (k + 1) (MoreTerms u us) i) in
    ap (λ (c : ℤ). mux_value c x rest) (item_value s n v i k h f keeps e)
    ∙ by_test (nat_eq m k)
    (λ q.
    let here : m - k ≡ 0 = omega (arith, eqb-true m k q) in
    ap (λ (b : Bool). mux_value (flag b) x rest) q ∙ sym (ap (nth_or_last z (x ∷ xs)) here))
    (λ q.
    let past : m - k ≡ suc (m - (k + 1)) = omega (arith, eqb-false m k q) in
    ap (λ (b : Bool). mux_value (flag b) x rest) q
    ∙ pick_from_value s n v (k + 1) u us i x h f keeps e (omega (arith, eqb-false m k q))
    ∙ sym (ap (nth_or_last z (x ∷ xs)) past))

-- ---- what the choices keep

pub pick_from_keeps : (s : Shapes) (n k : ℕ) (t : Term) (ts : Terms) (i : Term) → AreSmall s n → TermKeeps s n i → TermsKeep s n (MoreTerms t ts) → (pick_shape (shapes_of s (MoreTerms t ts))).bits ≤ 127 → TermKeeps s n (pick_from s k (MoreTerms t ts) i)
pick_from_keeps s n k t NoTerm i h keeps m l = first_keeps s n t NoTerm m
pick_from_keeps s n k t (MoreTerms u us) i h keeps m l =
    let a = shape_of s t in
    let whole = pick_from_shape s k t (MoreTerms u us) i in
    keeps_mux s n (is_item s i k) t (pick_from s (k + 1) (MoreTerms u us) i)
    (item_keeps s n i k h keeps)
    (first_keeps s n t (MoreTerms u us) m)
    (pick_from_keeps s n (k + 1) u us i h keeps (rest_keeps s n t (MoreTerms u us) m) (omega (arith, others_bits a (shape_of s u) (shapes_of s us))))
    (ap (λ (b : Shape). too_wide b.bits) whole ∙ narrow (pick_shape (shapes_of s (MoreTerms t (MoreTerms u us)))).bits l)

-- the choices name no signal that the items and the index don't
pub pick_from_no_name : (s : Shapes) (y : Place) (k : ℕ) (ts : Terms) (i : Term) → some_names y ts ≡ false → names y i ≡ false → names y (pick_from s k ts i) ≡ false
pick_from_no_name s y k NoTerm i e f = refl
pick_from_no_name s y k (MoreTerms t NoTerm) i e f = (or_parts (names y t) false e).0
pick_from_no_name s y k (MoreTerms t (MoreTerms u us)) i e f =
    let p = or_parts (names y t) (some_names y (MoreTerms u us)) e in
    or_from (names y (is_item s i k)) (names y t || names y (pick_from s (k + 1) (MoreTerms u us) i)) (item_no_name s y i k f)
    (or_from (names y t) (names y (pick_from s (k + 1) (MoreTerms u us) i)) p.0 (pick_from_no_name s y (k + 1) (MoreTerms u us) i p.1 f))

-- ---- a pick that keeps, and its choices

pub picked_shape : (s : Shapes) (items : Terms) (i : Term) → has_some items ≡ true → shape_of s (pick_from s 0 items i) ≡ shape_of s (Pick items i)
picked_shape s NoTerm i e = absurd (cc)
picked_shape s (MoreTerms t ts) i e = pick_from_shape s 0 t ts i

pub picked_value : (s : Shapes) (n : ℕ) (v : Values) (items : Terms) (i : Term) → AreSmall s n → AreFit s n v → TermKeeps s n (Pick items i) → value_of s v (pick_from s 0 items i) ≡ value_of s v (Pick items i)
picked_value s n v NoTerm i h f k = absurd (let e = pick_some s n NoTerm i k in cc)
picked_value s n v (MoreTerms t ts) i h f k =
    let m = count_of (value_of s v i) in
    let whole : m - 0 ≡ m = omega arith in
    pick_from_value s n v 0 t ts i (pos 0) h f (pick_index s n (MoreTerms t ts) i k) (pick_unsigned s n (MoreTerms t ts) i k) (omega arith)
    ∙ ap (nth_or_last (pos 0) (values_of s v (MoreTerms t ts))) whole

pub picked_keeps : (s : Shapes) (n : ℕ) (items : Terms) (i : Term) → AreSmall s n → TermKeeps s n (Pick items i) → TermKeeps s n (pick_from s 0 items i)
picked_keeps s n NoTerm i h k = absurd (let e = pick_some s n NoTerm i k in cc)
picked_keeps s n (MoreTerms t ts) i h k =
    pick_from_keeps s n 0 t ts i h (pick_index s n (MoreTerms t ts) i k) (pick_items s n (MoreTerms t ts) i k)
    (term_small s n (Pick (MoreTerms t ts) i) h k).most
