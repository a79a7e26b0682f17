-- The texts of operands and of nodes read nets of the signals that they name, and of lower nodes.
use Rattle.std.proofs.Common.{◌≡◌, ℕ, Bool, true, false, ◌||◌, List, [], ◌∷◌, ◌<◌, ◌≤◌, length, ◌⊎◌, inl, inr, zero, suc, map, refl, sym, ◌∙◌, ap, subst, arith}
use Rattle.std.specs.Prelude.{Some, slice_get, slice_index_or, IsSomeAnd, nat_eq, ◌&&◌, ◌-◌, if◌then◌else◌}
use Rattle.std.specs.Str.{bytes_eq}
use Rattle.std.proofs.lemmas.Bool.{or_cases, or_left, or_right, eq-eqb}
use Rattle.std.proofs.lemmas.Option.{slice_get_within}
use Rattle.std.proofs.lemmas.Slice.Eq.{bytes_eq-Decides}
use Rattle.std.proofs.Math.Bool.{or-false}
use Rattle.lx_tables.specs.declared.operators.Op.TheVariants as op
use Rattle.lx_tables.specs.declared.operators.OpRow.{OpRow}
use Rattle.lx_tables.specs.Operators.{row_of, mix_of}
use Rattle.lx_circuit.specs.Places.{At}
use Rattle.lx_circuit.specs.Terms.{Term}
use Rattle.lx_circuit.specs.Shapes.{shape_of}
use Rattle.lx_circuit.specs.Reads as circuit
use Rattle.lx_vtext.specs.Tree as tree
use Rattle.lx_vtext.specs.Tree.{Name, VExpr, VExprs, NoMore, More}
use Rattle.lx_vmeaning.specs.Loops.{reads, some_reads}
use Rattle.lx_fhdl.specs.Below.{ExprId, expr_below}
use Rattle.lx_fhdl.specs.Nodes.{EachPlace, EachChild}
use Rattle.lx_fhdl.specs.Trees.{terms_at, node_term}
use Rattle.lx_circuit.specs.Circuit.{no_memory}
use Rattle.lx_fhdl.specs.Designs.{term, shapes, memory_of, memory_at, circuit_of}
use Rattle.lx_fhdl.specs.declared.design.Memory.{Memory}
use Rattle.lx_fhdl.specs.Keeping.{Keeps}
use Rattle.lx_fhdl.specs.Lowered.{IsLowered}
use Rattle.lx_fhdl.specs.declared.exprs.Expr.{Expr}
use Rattle.lx_fhdl.specs.declared.exprs.Expr.TheVariants.{Const, Sig, Unary, Binary, Mux, Cat, Pick, Replicate, Slice, Fetch}
use Rattle.lx_fhdl.specs.declared.design.Design.{Design}
use Rattle.lx_fhdl.proofs.Arena.{each_child}
use Rattle.lx_arena.proofs.Places.{lower_at, node_there}
use Rattle.lx_fhdl.proofs.Trees.{term_at-is}
use Rattle.lx_emission.specs.Naming.{net, has_net, node_net, memory_name}
use Rattle.lx_emission.specs.Nodes.{node_shape, operand, operand_of, wide_if, binary_text, choice_text, parts_onto, concat_of, cat_text, slice_text, node_text_of, node_text}
use Rattle.lx_emission.proofs.Setting.{IsNetNode, MayRead}

-- ---- the node at a place

pub operand_is : (d : Design) (names : List Name) (k : ℕ) (x : Expr) → slice_get d.exprs k ≡ Some x → operand d names k ≡ operand_of names (node_net d.exprs k) (Some x)
unfolding operand
operand_is d names k x e = ap (operand_of names (node_net d.exprs k)) e

pub node_text_is : (d : Design) (names : List Name) (k : ℕ) (x : Expr) → slice_get d.exprs k ≡ Some x → node_text d names k ≡ node_text_of (memory_name d names) (node_shape d) (operand d names) (Some x)
unfolding node_text
node_text_is d names k x e = ap (node_text_of (memory_name d names) (node_shape d) (operand d names)) e

pub term_is : (d : Design) → Keeps d → (k : ℕ) (x : Expr) → slice_get d.exprs k ≡ Some x → term d k ≡ node_term (term d) x
term_is d keeps k x e = term_at-is d.exprs keeps.arenas.exprs_lower k x e

pub shape_is : (d : Design) → Keeps d → (k : ℕ) (x : Expr) → slice_get d.exprs k ≡ Some x → node_shape d k ≡ shape_of (shapes d) (node_term (term d) x)
unfolding node_shape
shape_is d keeps k x e = ap (shape_of (shapes d)) (term_is d keeps k x e)

-- ---- reads of memories

-- a memory of the design, of so many bits
pub record IsMemoryOf (d : Design) (memory bits : ℕ) : Type 0 where
  pub there : memory < length d.memories
  pub width : (memory_at d memory).width ≡ bits

listed_width : (ms : List Memory) (k width : ℕ) → IsSomeAnd (slice_get ms k) (λ m. width ≡ m.width) → (k < length ms) × ((slice_index_or (map memory_of ms) k no_memory).width ≡ width)
listed_width [] k width h = absurd h
listed_width (m ∷ ms) zero width h = (omega arith, sym h)
listed_width (m ∷ ms) (suc k) width h = let rest = listed_width ms k width h in (omega (arith, rest.0), rest.1)

-- a read names a memory of its width
pub fetch_at : (d : Design) → Keeps d → (k memory width : ℕ) (at : ExprId) → slice_get d.exprs k ≡ Some (Fetch memory width at) → IsMemoryOf d memory width
unfolding circuit_of
fetch_at d keeps k memory width at e = let found = listed_width d.memories memory width (keeps.arenas.named k (Fetch memory width at) e) in record { there = found.0; width = found.1 }

-- ---- operands

signal_reads : (d : Design) (names : List Name) (x bound : ℕ) (t : Term) (n : Name) → x < length d.signals → circuit.names (At x) t ≡ true → bytes_eq (net names x) n ≡ true → MayRead d names bound t n
signal_reads d names x bound t n within named h = inl (record { signal = x; within = within; same = sym ((bytes_eq-Decides (net names x) n).0 h); named = named })

net_reads : (d : Design) (names : List Name) (k : ℕ) (n : Name) → k < length d.exprs → IsNetNode d k → bytes_eq (node_net d.exprs k) n ≡ true → MayRead d names (suc k) (term d k) n
net_reads d names k n within is_node h =
    inr (record { place = k; within = within; below = omega arith; is_node = is_node; same = sym ((bytes_eq-Decides (node_net d.exprs k) n).0 h); signals = λ y e. e })

operand_of_reads : (d : Design) (names : List Name) → Keeps d → (k : ℕ) (x : Expr) → k < length d.exprs → slice_get d.exprs k ≡ Some x → (n : Name) → reads n (operand_of names (node_net d.exprs k) (Some x)) ≡ true → MayRead d names (suc k) (term d k) n
operand_of_reads d names keeps k (Const value bits signed) within e n h = absurd cc
operand_of_reads d names keeps k (Sig x) within e n h =
    signal_reads d names x.0 (suc k) (term d k) n (keeps.arenas.named k (Sig x) e) (ap (circuit.names (At x.0)) (term_is d keeps k (Sig x) e) ∙ eq-eqb x.0 x.0 refl) h
operand_of_reads d names keeps k x within e n h = net_reads d names k n within (record { node = x; there = e; net = refl }) h

-- an operand reads the net of its signal, or its own
pub operand_reads : (d : Design) (names : List Name) → Keeps d → (k : ℕ) → k < length d.exprs → (n : Name) → reads n (operand d names k) ≡ true → MayRead d names (suc k) (term d k) n
operand_reads d names keeps k within n h =
    let (x, e) = node_there d.exprs k within in
    operand_of_reads d names keeps k x within e n (ap (reads n) (sym (operand_is d names k x e)) ∙ h)

-- ---- nodes

-- what may be read of a part may be read of the whole that names its signals
wider_reads : (d : Design) (names : List Name) (low bound : ℕ) (t u : Term) (n : Name) → low ≤ bound → ((y : ℕ) → circuit.names (At y) t ≡ true → circuit.names (At y) u ≡ true) → MayRead d names low t n → MayRead d names bound u n
wider_reads d names low bound t u n le f (inl p) = inl (record { signal = p.signal; within = p.within; same = p.same; named = f p.signal p.named })
wider_reads d names low bound t u n le f (inr p) = inr (record { place = p.place; within = p.within; below = omega (arith, p.below); is_node = p.is_node; same = p.same; signals = λ y e. f y (p.signals y e) })

-- what the operand at a place reads may be read of each term that names its signals
abbrev PartReads : Design → List Name → ℕ → Name → ℕ → Type 0
PartReads d names bound n i = (u : Term) → ((y : ℕ) → circuit.names (At y) (term d i) ≡ true → circuit.names (At y) u ≡ true) → reads n (operand d names i) ≡ true → MayRead d names bound u n

part_reads : (d : Design) (names : List Name) → Keeps d → (bound : ℕ) → bound < length d.exprs → (n : Name) (i : ℕ) → i < bound → PartReads d names bound n i
part_reads d names keeps bound within n i below u f h =
    let inside : i < length d.exprs = omega arith in
    let le : suc i ≤ bound = omega arith in
    wider_reads d names (suc i) bound (term d i) u n le f (operand_reads d names keeps i inside n h)

wide_if_reads : (n : Name) (wide : Bool) (e : VExpr) → reads n (wide_if wide e) ≡ true → reads n e ≡ true
wide_if_reads n false e h = h
wide_if_reads n true e h = sym (or-false (reads n e)) ∙ h

binary_text_reads : (n : Name) (r : OpRow) (a b : VExpr) → reads n (binary_text r a b) ≡ true → (reads n a ≡ true) ⊎ (reads n b ≡ true)
binary_text_reads n r a b h = elim (or_cases (reads n (wide_if r.widen_left a)) (reads n (wide_if r.widen_right b)) h) [
  | inl p ↦ inl (wide_if_reads n r.widen_left a p)
  | inr p ↦ inr (wide_if_reads n r.widen_right b p)
]

choice_text_reads : (n : Name) (r : OpRow) (c a b : VExpr) → reads n (choice_text r c a b) ≡ true → (reads n c ≡ true) ⊎ ((reads n a ≡ true) ⊎ (reads n b ≡ true))
choice_text_reads n r c a b h = elim (or_cases (reads n c) (reads n (wide_if r.widen_left a) || reads n (wide_if r.widen_right b)) h) [
  | inl p ↦ inl p
  | inr p ↦ inr (binary_text_reads n r a b p)
]

slice_text_reads : (n : Name) (e : VExpr) (bits low high : ℕ) → reads n (slice_text e bits low high) ≡ true → reads n e ≡ true
slice_text_reads n (tree.Net k) bits low high h = by_cover (nat_eq low 0 && nat_eq high bits) h
  where
    by_cover : (b : Bool) → reads n (if b then tree.ToUnsigned (tree.Net k) else tree.PartSelect k (high - 1) low) ≡ true → reads n (tree.Net k) ≡ true
    by_cover true p = p
    by_cover false p = p
slice_text_reads n (tree.Literal bits signed value) b low high h = h
slice_text_reads n e bits low high h = h

-- parts that are there make a concatenation
pub record IsCat (o : ℕ → VExpr) (parts : List ExprId) : Type 0 where
  pub first : VExpr
  pub more : VExprs
  pub onto : parts_onto o parts NoMore ≡ More first more

cat_onto : (o : ℕ → VExpr) (parts : List ExprId) (e : VExpr) (es : VExprs) → (first : VExpr) × (more : VExprs) × (parts_onto o parts (More e es) ≡ More first more)
cat_onto o [] e es = (e, es, refl)
cat_onto o (i ∷ is) e es = cat_onto o is (o i.place) (More e es)

pub is_cat : (o : ℕ → VExpr) (parts : List ExprId) → 0 < length parts → IsCat o parts
is_cat o [] h = absurd (omega arith)
is_cat o (i ∷ is) h = let (first, more, e) = cat_onto o is (o i.place) NoMore in record { first = first; more = more; onto = e }

parts_read : (d : Design) (names : List Name) (bound : ℕ) (n : Name) (u : Term) (parts : List ExprId) (done : VExprs) → EachPlace (PartReads d names bound n) parts
    → ((y : ℕ) → circuit.some_names (At y) (terms_at (term d) parts) ≡ true → circuit.names (At y) u ≡ true)
    → (some_reads n done ≡ true → MayRead d names bound u n)
    → some_reads n (parts_onto (operand d names) parts done) ≡ true → MayRead d names bound u n
parts_read d names bound n u [] done each f rest h = rest h
parts_read d names bound n u (i ∷ is) done each f rest h =
    parts_read d names bound n u is (More (operand d names i.place) done) each.1
    (λ y e. f y (or_right (circuit.names (At y) (term d i.place)) (circuit.some_names (At y) (terms_at (term d) is)) e))
    (λ e. elim (or_cases (reads n (operand d names i.place)) (some_reads n done) e) [
      | inl p ↦ each.0 u (λ y q. f y (or_left (circuit.names (At y) (term d i.place)) (circuit.some_names (At y) (terms_at (term d) is)) q)) p
      | inr p ↦ rest p
    ])
    h

cat_reads : (d : Design) (names : List Name) (bound : ℕ) (n : Name) (parts : List ExprId) → 0 < length parts → EachPlace (PartReads d names bound n) parts
    → reads n (cat_text (operand d names) parts) ≡ true → MayRead d names bound (node_term (term d) (Cat parts)) n
cat_reads d names bound n parts some each h =
    let cat = is_cat (operand d names) parts some in
    let same : some_reads n (parts_onto (operand d names) parts NoMore) ≡ reads n (cat_text (operand d names) parts) =
    ap (some_reads n) cat.onto ∙ sym (ap (λ (es : VExprs). reads n (concat_of es)) cat.onto) in
    parts_read d names bound n (node_term (term d) (Cat parts)) parts NoMore each (λ y e. e) (λ e. absurd cc) (same ∙ h)

-- the text of a node reads what its operands read
node_of_reads : (d : Design) (names : List Name) → Keeps d → IsLowered d → (k : ℕ) (x : Expr) → slice_get d.exprs k ≡ Some x → has_net x ≡ true → (n : Name) → EachChild (PartReads d names k n) x
    → reads n (node_text_of (memory_name d names) (node_shape d) (operand d names) (Some x)) ≡ true → MayRead d names k (node_term (term d) x) n
node_of_reads d names keeps lowered k (Const value bits signed) e has n each h = absurd cc
node_of_reads d names keeps lowered k (Sig x) e has n each h = absurd cc
node_of_reads d names keeps lowered k (Unary op of) e has n each h =
    each (node_term (term d) (Unary op of)) (λ y q. q) (wide_if_reads n _ (operand d names of.place) h)
node_of_reads d names keeps lowered k (Binary op left right) e has n each h =
    let u = node_term (term d) (Binary op left right) in
    elim (binary_text_reads n (row_of op (mix_of (node_shape d left.place).signed (node_shape d right.place).signed)) (operand d names left.place) (operand d names right.place) h) [
      | inl p ↦ each.0 u (λ y q. or_left (circuit.names (At y) (term d left.place)) (circuit.names (At y) (term d right.place)) q) p
      | inr p ↦ each.1 u (λ y q. or_right (circuit.names (At y) (term d left.place)) (circuit.names (At y) (term d right.place)) q) p
    ]
node_of_reads d names keeps lowered k (Mux cond then_ else_) e has n each h =
    let u = node_term (term d) (Mux cond then_ else_) in
    let both : ℕ → Bool = λ y. circuit.names (At y) (term d then_.place) || circuit.names (At y) (term d else_.place) in
    elim (choice_text_reads n (row_of op.Mux (mix_of (node_shape d then_.place).signed (node_shape d else_.place).signed)) (operand d names cond.place) (operand d names then_.place) (operand d names else_.place) h) [
      | inl p ↦ each.0 u (λ y q. or_left (circuit.names (At y) (term d cond.place)) (both y) q) p
      | inr p ↦ elim p [
        | inl q ↦ each.1.0 u (λ y r. or_right (circuit.names (At y) (term d cond.place)) (both y) (or_left (circuit.names (At y) (term d then_.place)) (circuit.names (At y) (term d else_.place)) r)) q
        | inr q ↦ each.1.1 u (λ y r. or_right (circuit.names (At y) (term d cond.place)) (both y) (or_right (circuit.names (At y) (term d then_.place)) (circuit.names (At y) (term d else_.place)) r)) q
      ]
    ]
node_of_reads d names keeps lowered k (Cat parts) e has n each h = cat_reads d names k n parts (keeps.arenas.parts k (Cat parts) e) each h
node_of_reads d names keeps lowered k (Pick items index) e has n each h = let no = lowered.exprs k (Pick items index) e in absurd cc
node_of_reads d names keeps lowered k (Replicate of count) e has n each h = each (node_term (term d) (Replicate of count)) (λ y q. q) h
node_of_reads d names keeps lowered k (Slice of low high) e has n each h =
    each (node_term (term d) (Slice of low high)) (λ y q. q) (slice_text_reads n (operand d names of.place) (node_shape d of.place).bits low high h)
node_of_reads d names keeps lowered k (Fetch memory width at) e has n each h = each (node_term (term d) (Fetch memory width at)) (λ y q. q) h

-- the text of a node reads nets of its signals and of lower nodes
pub node_text_reads : (d : Design) (names : List Name) → Keeps d → IsLowered d → (k : ℕ) → IsNetNode d k → (n : Name) → reads n (node_text d names k) ≡ true → MayRead d names k (term d k) n
node_text_reads d names keeps lowered k is_node n h =
    let x = is_node.node in
    let within = slice_get_within d.exprs k x is_node.there in
    subst (λ (t : Term). MayRead d names k t n) (sym (term_is d keeps k x is_node.there))
    (node_of_reads d names keeps lowered k x is_node.there is_node.net n
    (each_child (PartReads d names k n) k x (part_reads d names keeps k within n) (lower_at expr_below d.exprs keeps.arenas.exprs_lower k x is_node.there))
    (ap (reads n) (sym (node_text_is d names k x is_node.there)) ∙ h))
