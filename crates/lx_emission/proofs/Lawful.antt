-- The texts of a design have names that are names, literals in their bounds, and few brackets.
use Rattle.std.proofs.Common.{◌≡◌, ℕ, Bool, true, false, ◌&&◌, ◌||◌, not, cond, eqb, List, [], ◌∷◌, ◌++◌, ◌+◌, ◌-◌, ◌/◌, ◌%◌, ◌^◌, ◌<◌, ◌≤◌, length, zero, suc, refl, sym, ◌∙◌, ap, subst, arith, codes}
use Rattle.std.specs.Prelude.{Some, slice_get, slice_index, slice_index_or, IsTrue, nat_eq, nat_le, nat_lt, if◌then◌else◌}
use Rattle.std.specs.List.{list_all, list_any}
use Rattle.std.specs.Str.{bytes_eq}
use Rattle.std.proofs.lemmas.Bool.{and_parts, and_from, or_left, or_right, false≢true, le-leb, lt-ltb}
use Rattle.std.proofs.lemmas.Nat.{pow_pos, mod_below}
use Rattle.std.proofs.lemmas.Option.{slice_get_within}
use Rattle.std.proofs.lemmas.Slice.Eq.{bytes_eq-Decides}
use Rattle.lx_num.specs.declared.Shape.{Shape}
use Rattle.lx_num.specs.Ints.{modulo}
use Rattle.lx_num.proofs.Ints.{modulo-below}
use Rattle.lx_tables.specs.declared.operators.Op.TheVariants as op
use Rattle.lx_tables.specs.Operators.{row_of, mix_of}
use Rattle.lx_tables.specs.VerilogWords.{verilog_words, is_verilog_word}
use Rattle.lx_vtext.specs.Names.{is_digit, is_name_start, is_name_byte, is_spelled, is_name}
use Rattle.lx_vtext.specs.Tree as tree
use Rattle.lx_vtext.specs.Tree.{Name, VExpr, VExprs, NoMore, More, Net, Literal}
use Rattle.lx_vtext.specs.Printed.{number_text}
use Rattle.lx_vtext.specs.Fits.{is_literal, IsExpr, AreExprs, IsValue}
use Rattle.lx_vtext.proofs.Pieces.{number_back}
use Rattle.lx_fhdl.specs.Below.{ExprId, expr_below}
use Rattle.lx_fhdl.specs.Nodes.{IsSmall, EachPlace, EachChild}
use Rattle.lx_fhdl.specs.Keeping.{is_first, is_later, is_identifier, Keeps}
use Rattle.lx_fhdl.specs.Keeping as keeping
use Rattle.lx_fhdl.specs.Lowered.{IsLowered}
use Rattle.lx_fhdl.specs.declared.exprs.Expr.{Expr}
use Rattle.lx_fhdl.specs.declared.exprs.Expr.TheVariants.{Const, Sig, Unary, Binary, Mux, Cat, Pick, Replicate, Slice, Fetch}
use Rattle.lx_fhdl.specs.declared.design.Design.{Design}
use Rattle.lx_fhdl.proofs.Arena.{each_child}
use Rattle.lx_arena.proofs.Places.{lower_at, node_there}
use Rattle.lx_emission.specs.Naming.{net, has_net, nets_before, node_name, node_net, clock_name, memory_name, NamesFit}
use Rattle.lx_emission.specs.Nodes.{node_shape, operand, operand_of, wide_if, parts_onto, concat_of, cat_text, slice_text, node_text_of, node_text}
use Rattle.lx_emission.specs.Signals.{literal_of, reset_text, shape_of_signal, reset_of_signal}
use Rattle.lx_emission.proofs.Setting.{IsNetNode, TermsAreSmall, OperandsAreLawful}
use Rattle.lx_emission.proofs.Reading.{operand_is, node_text_is, shape_is, is_cat, fetch_at}
use Rattle.lx_emission.proofs.Fitting.{signal_bits}

-- ---- names

-- no keyword has `$` as its second byte
abbrev is_no_dollar : List ℕ → Bool
is_no_dollar word = not (nat_eq (slice_index word 1) 36)

no_dollars : list_all (λ w. is_no_dollar w) verilog_words ≡ true
unfolding verilog_words
no_dollars = refl

-- the word ends with `_clk`
abbrev ends_as_clock : List ℕ → Bool
ends_as_clock [] = false
ends_as_clock (b ∷ bs) = bytes_eq (b ∷ bs) (codes "_clk") || ends_as_clock bs

-- no keyword does
no_clocks : list_all (λ w. not (ends_as_clock w)) verilog_words ≡ true
unfolding verilog_words
no_clocks = refl

-- a word of a list has what each word of it has
word_has : (p : List ℕ → Bool) (word : List ℕ) (ws : List (List ℕ)) → list_all (λ w. p w) ws ≡ true → list_any (bytes_eq word) ws ≡ true → p word ≡ true
word_has p word [] h e = absurd cc
word_has p word (w ∷ ws) h e =
    let q = and_parts (p w) (list_all (λ v. p v) ws) h in
    by_first (bytes_eq word w) refl q.0 (word_has p word ws q.1) e
  where
    by_first : (t : Bool) → bytes_eq word w ≡ t → p w ≡ true → (list_any (bytes_eq word) ws ≡ true → p word ≡ true) → (t || list_any (bytes_eq word) ws) ≡ true → p word ≡ true
    by_first true same first rest e = ap (λ v. p v) ((bytes_eq-Decides word w).0 same) ∙ first
    by_first false same first rest e = rest e

-- a spelled word without what each keyword has is a name
no_word : (p : List ℕ → Bool) (word : List ℕ) → is_spelled word ≡ true → list_all (λ w. p w) verilog_words ≡ true → p word ≡ false → IsTrue (is_name word)
unfolding is_name
no_word p word s h e = and_from (is_spelled word) (not (is_verilog_word word)) s (by_word (is_verilog_word word) refl)
  where
    by_word : (t : Bool) → list_any (bytes_eq word) verilog_words ≡ t → not t ≡ true
    by_word true same = absurd (false≢true (sym e ∙ word_has p word verilog_words h same))
    by_word false same = refl

digits_are_bytes : (ds : List ℕ) → list_all is_digit ds ≡ true → list_all is_name_byte ds ≡ true
digits_are_bytes [] h = refl
digits_are_bytes (d ∷ ds) h =
    let p = and_parts (is_digit d) (list_all is_digit ds) h in
    and_from (is_name_byte d) (list_all is_name_byte ds) (or_left (is_name_start d || is_digit d) (eqb d 36) (or_right (is_name_start d) (is_digit d) p.0)) (digits_are_bytes ds p.1)

-- a letter, `$` and a number are a name
pub dollar_lawful : (b n : ℕ) → is_name_start b ≡ true → IsTrue (is_name (b ∷ (36 ∷ number_text n)))
dollar_lawful b n h =
    no_word is_no_dollar (b ∷ (36 ∷ number_text n)) (and_from (is_name_start b) (list_all is_name_byte (36 ∷ number_text n)) h (digits_are_bytes (number_text n) (number_back n).1)) no_dollars refl

-- `n$` and a number is a name
pub node_name_lawful : (n : ℕ) → IsTrue (is_name (node_name n))
unfolding node_name
node_name_lawful n = dollar_lawful 110 n refl

-- a first letter of Python is one of Verilog
first_is_start : (b : ℕ) → is_first b ≡ is_name_start b
first_is_start b = regroup (keeping.is_between 97 122 b) (keeping.is_between 65 90 b) (nat_eq b 95)
  where
    regroup : (x y z : Bool) → (x || (y || z)) ≡ (x || y || z)
    regroup true y z = refl
    regroup false y z = refl

later_are_bytes : (bs : List ℕ) → list_all is_later bs ≡ true → list_all is_name_byte (bs ++ codes "_clk") ≡ true
later_are_bytes [] h = refl
later_are_bytes (b ∷ bs) h =
    let p = and_parts (is_later b) (list_all is_later bs) h in
    let same : (is_name_start b || is_digit b) ≡ is_later b = ap (λ t. t || is_digit b) (sym (first_is_start b)) in
    and_from (is_name_byte b) (list_all is_name_byte (bs ++ codes "_clk")) (or_left (is_name_start b || is_digit b) (eqb b 36) (same ∙ p.0)) (later_are_bytes bs p.1)

clock_spelled : (name : List ℕ) → is_identifier name ≡ true → is_spelled (name ++ codes "_clk") ≡ true
clock_spelled [] h = absurd cc
clock_spelled (b ∷ bs) h =
    let p = and_parts (is_first b) (list_all is_later bs) h in
    and_from (is_name_start b) (list_all is_name_byte (bs ++ codes "_clk")) (sym (first_is_start b) ∙ p.0) (later_are_bytes bs p.1)

clock_ends : (name : List ℕ) → ends_as_clock (name ++ codes "_clk") ≡ true
clock_ends [] = refl
clock_ends (b ∷ bs) = or_right (bytes_eq (b ∷ (bs ++ codes "_clk")) (codes "_clk")) (ends_as_clock (bs ++ codes "_clk")) (clock_ends bs)

-- an identifier and `_clk` is a name
pub clock_name_lawful : (name : List ℕ) → IsTrue (is_identifier name) → IsTrue (is_name (clock_name name))
unfolding clock_name
clock_name_lawful name h =
    no_word (λ w. not (ends_as_clock w)) (name ++ codes "_clk") (clock_spelled name h) no_clocks (ap (λ t. not t) (clock_ends name))

all_at : (p : Name → Bool) (ns : List Name) (x : ℕ) → list_all (λ n. p n) ns ≡ true → x < length ns → p (slice_index_or ns x []) ≡ true
all_at p [] x h lt = absurd (omega arith)
all_at p (n ∷ ns) zero h lt = (and_parts (p n) (list_all (λ k. p k) ns) h).0
all_at p (n ∷ ns) (suc x) h lt = all_at p ns x (and_parts (p n) (list_all (λ k. p k) ns) h).1 (omega arith)

-- the net of a signal has a name
pub net_lawful : (d : Design) (names : List Name) → NamesFit d names → (x : ℕ) → x < length d.signals → IsTrue (is_name (net names x))
net_lawful d names fit x h = all_at is_name names x fit.lawful (omega (arith, fit.long))

-- so has a memory
pub memory_lawful : (d : Design) (names : List Name) → NamesFit d names → (k : ℕ) → k < length d.memories → IsTrue (is_name (memory_name d names k))
memory_lawful d names fit k h = all_at is_name names (length d.signals + k) fit.lawful (omega (arith, fit.long))

-- ---- operands

literal_lawful : (bits value : ℕ) → 1 ≤ bits → bits ≤ 127 → value < 2 ^ bits → is_literal bits value ≡ true
literal_lawful bits value p q r =
    and_from (nat_le 1 bits && nat_le bits 128) (nat_lt value (2 ^ bits)) (and_from (nat_le 1 bits) (nat_le bits 128) (le-leb 1 bits p) (le-leb bits 128 (omega arith))) (lt-ltb value (2 ^ bits) r)

net_is_expr : (b : ℕ) (n : Name) → IsTrue (is_name n) → IsExpr b (Net n)
net_is_expr b n h = h

literal_is_expr : (b bits value : ℕ) (signed : Bool) → is_literal bits value ≡ true → IsExpr b (Literal bits signed value)
literal_is_expr b bits value signed h = h

node_is_expr : (d : Design) (k b : ℕ) → IsExpr b (Net (node_net d.exprs k))
node_is_expr d k b = net_is_expr b (node_net d.exprs k) (node_name_lawful (nets_before d.exprs k))

operand_of_lawful : (d : Design) (names : List Name) → Keeps d → NamesFit d names → (k b : ℕ) (x : Expr) → slice_get d.exprs k ≡ Some x → IsSmall (node_shape d k) → IsExpr b (operand_of names (node_net d.exprs k) (Some x))
operand_of_lawful d names keeps fit k b (Const value bits signed) e small =
    let same : (node_shape d k).bits ≡ bits = ap (λ (a : Shape). a.bits) (shape_is d keeps k (Const value bits signed) e) in
    literal_is_expr b bits (modulo value (2 ^ bits)) signed (literal_lawful bits (modulo value (2 ^ bits)) (omega (arith, small.some)) (omega (arith, small.most)) (modulo-below value (2 ^ bits) (pow_pos bits)))
operand_of_lawful d names keeps fit k b (Sig x) e small = net_is_expr b (net names x.0) (net_lawful d names fit x.0 (keeps.arenas.named k (Sig x) e))
operand_of_lawful d names keeps fit k b x e small = node_is_expr d k b

operand_lawful : (d : Design) (names : List Name) → Keeps d → NamesFit d names → TermsAreSmall d → (k b : ℕ) → k < length d.exprs → IsExpr b (operand d names k)
operand_lawful d names keeps fit small k b within =
    let (x, e) = node_there d.exprs k within in
    subst (λ (v : VExpr). IsExpr b v) (sym (operand_is d names k x e)) (operand_of_lawful d names keeps fit k b x e (small.each k within))

-- operands have no brackets
pub operands_lawful : (d : Design) (names : List Name) → Keeps d → IsLowered d → NamesFit d names → TermsAreSmall d → OperandsAreLawful d names
operands_lawful d names keeps lowered fit small = record { each = λ k b within. operand_lawful d names keeps fit small k b within }

-- ---- nodes

-- an expression without brackets
abbrev IsBare : VExpr → Type 0
IsBare e = (b : ℕ) → IsExpr b e

wide_lawful : (b : ℕ) (wide : Bool) (e : VExpr) → IsBare e → IsExpr (suc (suc b)) (wide_if wide e)
wide_lawful b false e bare = bare (suc (suc b))
wide_lawful b true e bare = (refl, (bare b, tt))

slice_lawful : (e : VExpr) (bits low high : ℕ) → IsBare e → 1 ≤ high - low → high - low ≤ 127 → IsExpr 32 (slice_text e bits low high)
slice_lawful (tree.Literal b signed value) bits low high bare p q =
    literal_lawful (high - low) (value / 2 ^ low % 2 ^ (high - low)) p q (mod_below (value / 2 ^ low) (2 ^ (high - low)) (pow_pos (high - low)))
slice_lawful (tree.Net n) bits low high bare p q = by_cover (nat_eq low 0 && nat_eq high bits)
  where
    by_cover : (b : Bool) → IsExpr 32 (if b then tree.ToUnsigned (tree.Net n) else tree.PartSelect n (high - 1) low)
    by_cover true = bare 31
    by_cover false = bare 31
slice_lawful e bits low high bare p q = bare 31

parts_lawful : (b : ℕ) (o : ℕ → VExpr) (parts : List ExprId) (done : VExprs) → EachPlace (λ k. IsBare (o k)) parts → AreExprs b done → AreExprs b (parts_onto o parts done)
parts_lawful b o [] done each h = h
parts_lawful b o (i ∷ is) done each h = parts_lawful b o is (More (o i.place) done) each.1 (each.0 b, h)

cat_lawful : (o : ℕ → VExpr) (parts : List ExprId) → 0 < length parts → EachPlace (λ k. IsBare (o k)) parts → IsExpr 32 (cat_text o parts)
cat_lawful o parts some each =
    let cat = is_cat o parts some in
    subst (λ (es : VExprs). IsExpr 32 (concat_of es)) (sym cat.onto) (subst (λ (es : VExprs). AreExprs 31 es) cat.onto (parts_lawful 31 o parts NoMore each tt))

-- the text of a node, whose operands have no brackets
node_of_lawful : (d : Design) (names : List Name) → Keeps d → IsLowered d → (k : ℕ) (x : Expr) → slice_get d.exprs k ≡ Some x → has_net x ≡ true → IsSmall (node_shape d k) → EachChild (λ i. IsBare (operand d names i)) x
    → NamesFit d names → IsExpr 32 (node_text_of (memory_name d names) (node_shape d) (operand d names) (Some x))
node_of_lawful d names keeps lowered k (Const value bits signed) e has small each fit = absurd cc
node_of_lawful d names keeps lowered k (Sig x) e has small each fit = absurd cc
node_of_lawful d names keeps lowered k (Unary op of) e has small each fit = wide_lawful 29 (row_of op (mix_of (node_shape d of.place).signed (node_shape d of.place).signed)).widen_left (operand d names of.place) each
node_of_lawful d names keeps lowered k (Binary op left right) e has small each fit =
    let r = row_of op (mix_of (node_shape d left.place).signed (node_shape d right.place).signed) in
    (wide_lawful 29 r.widen_left (operand d names left.place) each.0, wide_lawful 29 r.widen_right (operand d names right.place) each.1)
node_of_lawful d names keeps lowered k (Mux cond then_ else_) e has small each fit =
    let r = row_of op.Mux (mix_of (node_shape d then_.place).signed (node_shape d else_.place).signed) in
    (each.0 31, wide_lawful 29 r.widen_left (operand d names then_.place) each.1.0, wide_lawful 29 r.widen_right (operand d names else_.place) each.1.1)
node_of_lawful d names keeps lowered k (Cat parts) e has small each fit = cat_lawful (operand d names) parts (keeps.arenas.parts k (Cat parts) e) each
node_of_lawful d names keeps lowered k (Pick items index) e has small each fit = let no = lowered.exprs k (Pick items index) e in absurd cc
node_of_lawful d names keeps lowered k (Replicate of count) e has small each fit = each 30
node_of_lawful d names keeps lowered k (Slice of low high) e has small each fit =
    let same : (node_shape d k).bits ≡ high - low = ap (λ (a : Shape). a.bits) (shape_is d keeps k (Slice of low high) e) in
    slice_lawful (operand d names of.place) (node_shape d of.place).bits low high each (omega (arith, small.some)) (omega (arith, small.most))
node_of_lawful d names keeps lowered k (Fetch memory width at) e has small each fit =
    (memory_lawful d names fit memory (fetch_at d keeps k memory width at e).there, each 31)

-- the text of each node has few brackets
pub node_text_lawful : (d : Design) (names : List Name) → Keeps d → IsLowered d → NamesFit d names → TermsAreSmall d → (k : ℕ) → IsNetNode d k → IsExpr 32 (node_text d names k)
node_text_lawful d names keeps lowered fit small k is_node =
    let x = is_node.node in
    let within = slice_get_within d.exprs k x is_node.there in
    subst (λ (v : VExpr). IsExpr 32 v) (sym (node_text_is d names k x is_node.there))
    (node_of_lawful d names keeps lowered k x is_node.there is_node.net (small.each k within)
    (each_child (λ i. IsBare (operand d names i)) k x (λ i below b. operand_lawful d names keeps fit small i b (let inside : i < length d.exprs = omega arith in inside)) (lower_at expr_below d.exprs keeps.arenas.exprs_lower k x is_node.there)) fit)

-- ---- reset values

-- a reset value is a literal in its bounds
pub reset_value_lawful : (d : Design) → Keeps d → (x : ℕ) → x < length d.signals → IsValue (literal_of (shape_of_signal d x) (reset_of_signal d x))
reset_value_lawful d keeps x h =
    let a = shape_of_signal d x in
    let bits = signal_bits d keeps x h in
    literal_lawful a.bits (modulo (reset_of_signal d x) (2 ^ a.bits)) bits.0 (omega (arith, bits.1)) (modulo-below (reset_of_signal d x) (2 ^ a.bits) (pow_pos a.bits))

pub reset_lawful : (d : Design) → Keeps d → (x : ℕ) → x < length d.signals → (b : ℕ) → IsExpr b (reset_text d x)
reset_lawful d keeps x h b =
    let a = shape_of_signal d x in
    literal_is_expr b a.bits (modulo (reset_of_signal d x) (2 ^ a.bits)) a.signed (reset_value_lawful d keeps x h)
