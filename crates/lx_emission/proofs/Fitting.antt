-- The texts of operands and of nodes may stand in a module: their names are declared, and all widths are 1 to 128.
use Rattle.std.proofs.Common.{◌≡◌, ℕ, Bool, true, false, List, [], ◌∷◌, ◌+◌, ◌-◌, ◌*◌, ◌<◌, ◌≤◌, length, map, suc, zero, refl, sym, ◌∙◌, ap, subst, arith}
use Rattle.std.specs.Prelude.{Some, None, slice_get, slice_index_or, nat_eq, nat_le, nat_lt, ◌&&◌, if◌then◌else◌}
use Rattle.std.proofs.lemmas.Bool.{and_from, le-leb, lt-ltb}
use Rattle.std.proofs.lemmas.Option.{slice_get_within}
use Rattle.lx_num.specs.declared.Shape.{Shape}
use Rattle.lx_tables.specs.declared.operators.Op.TheVariants as op
use Rattle.lx_tables.specs.declared.operators.OpRow.{OpRow}
use Rattle.lx_tables.specs.Operators.{row_of, mix_of}
use Rattle.lx_circuit.specs.Shapes.{shape_of, shapes_of, fault_of, slice_fault, bits_sum}
use Rattle.lx_circuit.specs.Circuit.{nothing}
use Rattle.lx_vtext.specs.Tree as tree
use Rattle.lx_vtext.specs.Tree.{Name, VExpr, VExprs, NoMore, More, VModule}
use Rattle.lx_vmeaning.specs.Meaning.{Sizes, meaning, meanings, width_sum}
use Rattle.lx_vmeaning.specs.Runs.{sizes}
use Rattle.lx_vmeaning.specs.Naming.{is_memory, is_readable, is_within, names_fit, all_names_fit}
use Rattle.lx_vmeaning.specs.Widths.{is_width}
use Rattle.lx_vmeaning.proofs.Owns.{owns_fit, all_owns_fit, is_width-of}
use Rattle.lx_fhdl.specs.Below.{ExprId, expr_below}
use Rattle.lx_fhdl.specs.Nodes.{IsSmall, EachPlace, EachChild}
use Rattle.lx_fhdl.specs.Trees.{terms_at, node_term}
use Rattle.lx_fhdl.specs.Designs.{term, shapes, made_of, circuit_of}
use Rattle.lx_fhdl.specs.Keeping.{Keeps, IsSignal, EachOf}
use Rattle.lx_fhdl.specs.Lowered.{IsLowered}
use Rattle.lx_fhdl.specs.declared.exprs.Expr.{Expr}
use Rattle.lx_fhdl.specs.declared.exprs.Expr.TheVariants.{Const, Sig, Unary, Binary, Mux, Cat, Pick, Replicate, Slice, Fetch}
use Rattle.lx_fhdl.specs.declared.design.Signal.{Signal}
use Rattle.lx_fhdl.specs.declared.design.Design.{Design}
use Rattle.lx_fhdl.proofs.Arena.{each_child, slice_inside}
use Rattle.lx_arena.proofs.Places.{lower_at, node_there}
use Rattle.lx_fhdl.proofs.Operators.{none_right}
use Rattle.lx_emission.specs.Naming.{net, has_net, node_net, memory_name}
use Rattle.lx_emission.specs.Nodes.{node_shape, operand, operand_of, wide_if, binary_text, choice_text, parts_onto, concat_of, cat_text, slice_text, node_text_of, node_text}
use Rattle.lx_emission.specs.Signals.{reset_text, shape_of_signal}
use Rattle.lx_emission.proofs.Setting.{declared, IsNetNode, DeclaresNets, LetsRead, TermsAreSmall, IsFit, OperandsFit}
use Rattle.lx_emission.proofs.Reading.{operand_is, node_text_is, term_is, shape_is, is_cat, fetch_at}

-- ---- widths

net_width : (s : Sizes) (n : Name) (bits : ℕ) (signed : Bool) → s n ≡ declared bits signed → (s n).bits ≡ bits
net_width s n bits signed e = ap (λ x. x.bits) e

operand_of_width : (d : Design) (names : List Name) (s : Sizes) → Keeps d → DeclaresNets d names s → (k : ℕ) (x : Expr) → slice_get d.exprs k ≡ Some x
    → (meaning s (operand_of names (node_net d.exprs k) (Some x))).width ≡ (node_shape d k).bits
operand_of_width d names s keeps declares k (Const value bits signed) e = ap (λ (a : Shape). a.bits) (sym (shape_is d keeps k (Const value bits signed) e))
operand_of_width d names s keeps declares k (Sig x) e =
    net_width s (net names x.0) (shapes d x.0).bits (shapes d x.0).signed (declares.signals x.0 (keeps.arenas.named k (Sig x) e))
    ∙ ap (λ (a : Shape). a.bits) (sym (shape_is d keeps k (Sig x) e))
operand_of_width d names s keeps declares k x e = net_width s _ _ _ (declares.nodes k (record { node = x; there = e; net = refl }))

-- the text of an operand has its node's bits
pub operand_width : (d : Design) (names : List Name) (s : Sizes) → Keeps d → DeclaresNets d names s → (k : ℕ) → k < length d.exprs → (meaning s (operand d names k)).width ≡ (node_shape d k).bits
operand_width d names s keeps declares k within =
    let (x, e) = node_there d.exprs k within in
    ap (λ (v : VExpr). (meaning s v).width) (operand_is d names k x e) ∙ operand_of_width d names s keeps declares k x e

-- ---- operands

operand_of_names : (d : Design) (names : List Name) (m : VModule) → Keeps d → LetsRead d names m → (k : ℕ) (x : Expr) → slice_get d.exprs k ≡ Some x → names_fit m (operand_of names (node_net d.exprs k) (Some x)) ≡ true
operand_of_names d names m keeps lets k (Const value bits signed) e = refl
operand_of_names d names m keeps lets k (Sig x) e = lets.signals x.0 (keeps.arenas.named k (Sig x) e)
operand_of_names d names m keeps lets k x e = lets.nodes k (record { node = x; there = e; net = refl })

-- an operand has no parts, so only its own width counts
operand_of_widths : (s : Sizes) (names : List Name) (own : Name) (x : Expr) → owns_fit s (operand_of names own (Some x)) ≡ is_width (meaning s (operand_of names own (Some x))).width
operand_of_widths s names own (Const value bits signed) = refl
operand_of_widths s names own (Sig x) = refl
operand_of_widths s names own x = refl

small_width : (a : Shape) → IsSmall a → is_width a.bits ≡ true
small_width a small = is_width-of a.bits small.some (omega (arith, small.most))

operand_fits : (d : Design) (names : List Name) (m : VModule) → Keeps d → LetsRead d names m → TermsAreSmall d → (k : ℕ) → k < length d.exprs → IsFit m (operand d names k)
operand_fits d names m keeps lets small k within =
    let (x, e) = node_there d.exprs k within in
    subst (λ (v : VExpr). IsFit m v) (sym (operand_is d names k x e))
    (record {
      names = operand_of_names d names m keeps lets k x e;
      widths =
          operand_of_widths (sizes m) names (node_net d.exprs k) x
          ∙ ap is_width (operand_of_width d names (sizes m) keeps lets.declares k x e)
          ∙ small_width (node_shape d k) (small.each k within);
    })

-- the text of each node may stand where it is read
pub operands_fit : (d : Design) (names : List Name) (m : VModule) → Keeps d → IsLowered d → LetsRead d names m → TermsAreSmall d → OperandsFit d names m
operands_fit d names m keeps lowered lets small = record { each = λ k within. operand_fits d names m keeps lets small k within }

-- ---- nodes

-- an operand that fits, of so many bits
record IsPart (d : Design) (names : List Name) (m : VModule) (k : ℕ) : Type 0 where
  fit : IsFit m (operand d names k)
  width : (meaning (sizes m) (operand d names k)).width ≡ (node_shape d k).bits
  small : IsSmall (node_shape d k)

part_fits : (d : Design) (names : List Name) (m : VModule) → Keeps d → LetsRead d names m → TermsAreSmall d → (k : ℕ) → k < length d.exprs → (i : ℕ) → i < k → IsPart d names m i
part_fits d names m keeps lets small k within i below =
    let inside : i < length d.exprs = omega arith in
    record { fit = operand_fits d names m keeps lets small i inside; width = operand_width d names (sizes m) keeps lets.declares i inside; small = small.each i inside }

-- a widened operand has one bit more
wide_fits : (m : VModule) (wide : Bool) (e : VExpr) → IsFit m e → (meaning (sizes m) e).width ≤ 127 → IsFit m (wide_if wide e)
wide_fits m false e f le = f
wide_fits m true e f le = record {
  names = and_from (names_fit m e) true f.names refl;
  widths = and_from (is_width (1 + ((meaning (sizes m) e).width + 0))) (owns_fit (sizes m) e && true)
      (is_width-of (1 + ((meaning (sizes m) e).width + 0)) (omega arith) (omega arith))
      (and_from (owns_fit (sizes m) e) true f.widths refl);
}

part_wide_fits : (d : Design) (names : List Name) (m : VModule) (wide : Bool) (k : ℕ) → IsPart d names m k → IsFit m (wide_if wide (operand d names k))
part_wide_fits d names m wide k p = wide_fits m wide (operand d names k) p.fit (omega (arith, p.width, p.small.most))

binary_fits : (m : VModule) (r : OpRow) (a b : VExpr) → IsFit m (wide_if r.widen_left a) → IsFit m (wide_if r.widen_right b) → IsFit m (binary_text r a b)
binary_fits m r a b p q = record {
  names = and_from (names_fit m (wide_if r.widen_left a)) (names_fit m (wide_if r.widen_right b)) p.names q.names;
  widths = and_from (owns_fit (sizes m) (wide_if r.widen_left a)) (owns_fit (sizes m) (wide_if r.widen_right b)) p.widths q.widths;
}

choice_fits : (m : VModule) (r : OpRow) (c a b : VExpr) → IsFit m c → IsFit m (wide_if r.widen_left a) → IsFit m (wide_if r.widen_right b) → IsFit m (choice_text r c a b)
choice_fits m r c a b f p q =
    let both = binary_fits m r a b p q in
    record {
      names = and_from (names_fit m c) (names_fit m (binary_text r a b)) f.names both.names;
      widths = and_from (owns_fit (sizes m) c) (owns_fit (sizes m) (binary_text r a b)) f.widths both.widths;
    }

-- a select lies inside its net
slice_fits : (m : VModule) (e : VExpr) (bits low high : ℕ) → IsFit m e → (meaning (sizes m) e).width ≡ bits → low < high → high ≤ bits → bits ≤ 127 → IsFit m (slice_text e bits low high)
slice_fits m (tree.Literal b signed value) bits low high f w p q r = record { names = refl; widths = is_width-of (high - low) (omega arith) (omega arith) }
slice_fits m (tree.Net n) bits low high f w p q r = by_cover (nat_eq low 0 && nat_eq high bits)
  where
    by_cover : (b : Bool) → IsFit m (if b then tree.ToUnsigned (tree.Net n) else tree.PartSelect n (high - 1) low)
    by_cover true = record { names = f.names; widths = f.widths }
    by_cover false = record {
      names = and_from (is_readable m n) (is_within m n (high - 1) low) f.names
          (and_from (nat_le low (high - 1)) (nat_lt (high - 1) (sizes m n).bits) (le-leb low (high - 1) (omega arith)) (lt-ltb (high - 1) (sizes m n).bits (omega (arith, w))));
      widths = is_width-of (high - 1 - low + 1) (omega arith) (omega arith);
    }
slice_fits m e bits low high f w p q r = record { names = f.names; widths = f.widths }

own_shape : (d : Design) (k : ℕ) → node_shape d k ≡ shape_of (shapes d) (term d k)
unfolding node_shape
own_shape d k = refl

-- the parts of a concatenation, and the sum of their bits
parts_names : (d : Design) (names : List Name) (m : VModule) (parts : List ExprId) (done : VExprs) → EachPlace (IsPart d names m) parts → all_names_fit m done ≡ true → all_names_fit m (parts_onto (operand d names) parts done) ≡ true
parts_names d names m [] done each h = h
parts_names d names m (i ∷ is) done each h =
    parts_names d names m is (More (operand d names i.place) done) each.1 (and_from (names_fit m (operand d names i.place)) (all_names_fit m done) each.0.fit.names h)

parts_widths : (d : Design) (names : List Name) (m : VModule) (parts : List ExprId) (done : VExprs) → EachPlace (IsPart d names m) parts → all_owns_fit (sizes m) done ≡ true → all_owns_fit (sizes m) (parts_onto (operand d names) parts done) ≡ true
parts_widths d names m [] done each h = h
parts_widths d names m (i ∷ is) done each h =
    parts_widths d names m is (More (operand d names i.place) done) each.1 (and_from (owns_fit (sizes m) (operand d names i.place)) (all_owns_fit (sizes m) done) each.0.fit.widths h)

parts_sum : (d : Design) (names : List Name) (m : VModule) (parts : List ExprId) (done : VExprs) → EachPlace (IsPart d names m) parts
    → width_sum (meanings (sizes m) (parts_onto (operand d names) parts done)) ≡ bits_sum (shapes_of (shapes d) (terms_at (term d) parts)) + width_sum (meanings (sizes m) done)
parts_sum d names m [] done each = omega arith
parts_sum d names m (i ∷ is) done each =
    omega (arith, parts_sum d names m is (More (operand d names i.place) done) each.1, each.0.width, ap (λ (a : Shape). a.bits) (own_shape d i.place))

cat_fits : (d : Design) (names : List Name) (m : VModule) (parts : List ExprId) → 0 < length parts → EachPlace (IsPart d names m) parts → 1 ≤ bits_sum (shapes_of (shapes d) (terms_at (term d) parts)) → bits_sum (shapes_of (shapes d) (terms_at (term d) parts)) ≤ 127
    → IsFit m (cat_text (operand d names) parts)
cat_fits d names m parts some each p q =
    let all = parts_onto (operand d names) parts NoMore in
    let cat = is_cat (operand d names) parts some in
    let sum = parts_sum d names m parts NoMore each in
    record {
      names = ap (λ (es : VExprs). names_fit m (concat_of es)) cat.onto ∙ (sym (ap (all_names_fit m) cat.onto) ∙ parts_names d names m parts NoMore each refl);
      widths =
          ap (λ (es : VExprs). owns_fit (sizes m) (concat_of es)) cat.onto
          ∙ (sym (ap (λ (es : VExprs). is_width (width_sum (meanings (sizes m) es)) && all_owns_fit (sizes m) es) cat.onto)
          ∙ and_from (is_width (width_sum (meanings (sizes m) all))) (all_owns_fit (sizes m) all) (is_width-of (width_sum (meanings (sizes m) all)) (omega arith) (omega arith)) (parts_widths d names m parts NoMore each refl));
    }

repeat_fits : (m : VModule) (count : ℕ) (e : VExpr) (bits : ℕ) → IsFit m e → (meaning (sizes m) e).width ≡ bits → 1 ≤ count * bits → count * bits ≤ 127 → IsFit m (tree.Replication count e)
repeat_fits m count e bits f w p q =
    let same : count * (meaning (sizes m) e).width ≡ count * bits = ap (λ (n : ℕ). count * n) w in
    record {
      names = f.names;
      widths = and_from (is_width (count * (meaning (sizes m) e).width)) (owns_fit (sizes m) e) (is_width-of (count * (meaning (sizes m) e).width) (omega arith) (omega arith)) f.widths;
    }

-- the text of a node fits, where its operands do
node_of_fits : (d : Design) (names : List Name) (m : VModule) → Keeps d → IsLowered d → LetsRead d names m → (k : ℕ) (x : Expr) → slice_get d.exprs k ≡ Some x → has_net x ≡ true → IsSmall (node_shape d k) → fault_of (shapes d) (node_term (term d) x) ≡ None → EachChild (IsPart d names m) x
    → IsFit m (node_text_of (memory_name d names) (node_shape d) (operand d names) (Some x))
node_of_fits d names m keeps lowered lets k (Const value bits signed) e has small sound each = absurd cc
node_of_fits d names m keeps lowered lets k (Sig x) e has small sound each = absurd cc
node_of_fits d names m keeps lowered lets k (Unary op of) e has small sound each =
    let r = row_of op (mix_of (node_shape d of.place).signed (node_shape d of.place).signed) in
    let p = part_wide_fits d names m r.widen_left of.place each in
    record { names = p.names; widths = p.widths }
node_of_fits d names m keeps lowered lets k (Binary op left right) e has small sound each =
    let r = row_of op (mix_of (node_shape d left.place).signed (node_shape d right.place).signed) in
    binary_fits m r (operand d names left.place) (operand d names right.place) (part_wide_fits d names m r.widen_left left.place each.0) (part_wide_fits d names m r.widen_right right.place each.1)
node_of_fits d names m keeps lowered lets k (Mux cond then_ else_) e has small sound each =
    let r = row_of op.Mux (mix_of (node_shape d then_.place).signed (node_shape d else_.place).signed) in
    choice_fits m r (operand d names cond.place) (operand d names then_.place) (operand d names else_.place) each.0.fit (part_wide_fits d names m r.widen_left then_.place each.1.0) (part_wide_fits d names m r.widen_right else_.place each.1.1)
node_of_fits d names m keeps lowered lets k (Cat parts) e has small sound each =
    let bits : (node_shape d k).bits ≡ bits_sum (shapes_of (shapes d) (terms_at (term d) parts)) = ap (λ (a : Shape). a.bits) (shape_is d keeps k (Cat parts) e) in
    cat_fits d names m parts (keeps.arenas.parts k (Cat parts) e) each (omega (arith, small.some)) (omega (arith, small.most))
node_of_fits d names m keeps lowered lets k (Pick items index) e has small sound each = let no = lowered.exprs k (Pick items index) e in absurd cc
node_of_fits d names m keeps lowered lets k (Replicate of count) e has small sound each =
    let bits : (node_shape d k).bits ≡ count * (shape_of (shapes d) (term d of.place)).bits = ap (λ (a : Shape). a.bits) (shape_is d keeps k (Replicate of count) e) in
    let own : (meaning (sizes m) (operand d names of.place)).width ≡ (shape_of (shapes d) (term d of.place)).bits = each.width ∙ ap (λ (a : Shape). a.bits) (own_shape d of.place) in
    repeat_fits m count (operand d names of.place) (shape_of (shapes d) (term d of.place)).bits each.fit own (omega (arith, small.some)) (omega (arith, small.most))
node_of_fits d names m keeps lowered lets k (Slice of low high) e has small sound each =
    let a = shape_of (shapes d) (term d of.place) in
    let inside = slice_inside a low high (none_right (fault_of (shapes d) (term d of.place)) (slice_fault a low high) sound) in
    let same : (node_shape d of.place).bits ≡ a.bits = ap (λ (b : Shape). b.bits) (own_shape d of.place) in
    slice_fits m (operand d names of.place) (node_shape d of.place).bits low high each.fit each.width inside.0 (omega (arith, inside.1)) each.small.most
node_of_fits d names m keeps lowered lets k (Fetch memory width at) e has small sound each =
    let is = fetch_at d keeps k memory width at e in
    let n = memory_name d names memory in
    let bits : (sizes m n).bits ≡ (node_shape d k).bits =
    ap (λ s. s.bits) (lets.declares.memories memory is.there) ∙ (is.width ∙ ap (λ (a : Shape). a.bits) (sym (shape_is d keeps k (Fetch memory width at) e))) in
    record {
      names = and_from (is_memory m n) (names_fit m (operand d names at.place)) (lets.memories memory is.there) each.fit.names;
      widths = and_from (is_width (sizes m n).bits) (owns_fit (sizes m) (operand d names at.place)) (is_width-of (sizes m n).bits (omega (arith, bits, small.some)) (omega (arith, bits, small.most))) each.fit.widths;
    }

-- the text of each node may stand where it drives its net
pub node_text_fits : (d : Design) (names : List Name) (m : VModule) → Keeps d → IsLowered d → LetsRead d names m → TermsAreSmall d → (k : ℕ) → IsNetNode d k → IsFit m (node_text d names k)
node_text_fits d names m keeps lowered lets small k is_node =
    let x = is_node.node in
    let within = slice_get_within d.exprs k x is_node.there in
    subst (λ (v : VExpr). IsFit m v) (sym (node_text_is d names k x is_node.there))
    (node_of_fits d names m keeps lowered lets k x is_node.there is_node.net (small.each k within)
    (ap (fault_of (shapes d)) (sym (term_is d keeps k x is_node.there)) ∙ keeps.arenas.shaped k within)
    (each_child (IsPart d names m) k x (part_fits d names m keeps lets small k within) (lower_at expr_below d.exprs keeps.arenas.exprs_lower k x is_node.there)))

-- ---- reset values

made_bits : (ss : List Signal) → EachOf IsSignal ss → (x : ℕ) → x < length ss → (1 ≤ (slice_index_or (map made_of ss) x nothing).shape.bits) × ((slice_index_or (map made_of ss) x nothing).shape.bits ≤ 64)
made_bits [] each x h = absurd (omega arith)
made_bits (s ∷ ss) each zero h = (each.0.some, each.0.most)
made_bits (s ∷ ss) each (suc x) h = made_bits ss each.1 x (omega arith)

-- a signal has 1 to 64 bits
pub signal_bits : (d : Design) → Keeps d → (x : ℕ) → x < length d.signals → (1 ≤ (shape_of_signal d x).bits) × ((shape_of_signal d x).bits ≤ 64)
unfolding circuit_of
signal_bits d keeps x h = made_bits d.signals keeps.signals x h

pub reset_text_fits : (d : Design) (names : List Name) (m : VModule) → Keeps d → (x : ℕ) → x < length d.signals → IsFit m (reset_text d x)
reset_text_fits d names m keeps x h =
    let bits = signal_bits d keeps x h in
    record { names = refl; widths = is_width-of (shape_of_signal d x).bits bits.0 (omega (arith, bits.1)) }
