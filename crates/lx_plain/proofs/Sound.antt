-- What a draft keeps of its expressions is kept of their trees, and how drafts grow.
use Rattle.std.proofs.Common.{◌≡◌, ℕ, ◌<◌, ◌≤◌, true, ◌&&◌, List, [], ◌∷◌, length, refl, sym, ap, subst, ◌∙◌, arith, nat_lt}
use Rattle.std.specs.Prelude.{None, Some, map, slice_get, slice_index_or, IsTrue}
use Rattle.lx_arena.specs.Lower.{EachLower}
use Rattle.lx_num.specs.declared.Shape.{Shape}
use Rattle.lx_circuit.specs.Circuit.{nothing}
use Rattle.lx_fhdl.specs.declared.design.Memory.{Memory}
use Rattle.lx_fhdl.specs.declared.design.Signal.{Signal}
use Rattle.std.proofs.lemmas.Bool.{lt-ltb, ltb-true, and_parts, and_from}
use Rattle.std.proofs.lemmas.Option.{slice_get_within}
use Rattle.lx_circuit.specs.Terms.{Term}
use Rattle.lx_circuit.specs.Shapes.{Shapes, shape_of, fault_of}
use Rattle.lx_fhdl.specs.Below.{ExprId, all_below, expr_below}
use Rattle.lx_fhdl.specs.Designs.{circuit_of, made_of, shapes, term}
use Rattle.lx_fhdl.specs.Drafts.{DraftKeeps}
use Rattle.lx_fhdl.specs.Keeping.{Keeps, NamesThere, TakesOperands}
use Rattle.lx_fhdl.specs.Nodes.{HasParts, IsSmall, EachPlace, EachChild}
use Rattle.lx_fhdl.specs.Trees.{terms_at, node_term, term_at}
use Rattle.lx_fhdl.specs.declared.design.Design.{Design}
use Rattle.lx_fhdl.specs.declared.exprs.Expr.{Expr}
use Rattle.lx_fhdl.specs.declared.exprs.Expr.TheVariants.{Const, Sig, Unary, Binary, Mux, Cat, Pick, Replicate, Slice, Fetch}
use Rattle.lx_arena.proofs.Places.{by_places, lower_at}
use Rattle.lx_fhdl.proofs.Arena.{each_child}
use Rattle.lx_fhdl.proofs.Drafts.{draft_small, stays_same, stays_then}
use Rattle.lx_fhdl.proofs.Trees.{term_at-is}
use Rattle.lx_lowering.specs.Lowering.{TermKeeps, is_sound, are_sound, has_some}
use Rattle.lx_lowering.proofs.TermFacts.{term_small}
use Rattle.lx_plain.specs.Operands.{HasShape}
use Rattle.lx_plain.specs.Plain.{Grows, IsBit, TermPut}
use Rattle.lx_plain.specs.declared.operands.Operand.{Operand}

-- signals are small, children stand before their nodes, and no expression has a fault
pub record ExprsAreSound (s : Shapes) (n : ℕ) (ms : List Memory) (xs : List Expr) : Type 0 where
  pub small : (x : ℕ) → x < n → IsSmall (s x)
  pub lower : EachLower expr_below xs
  pub shaped : (k : ℕ) → k < length xs → fault_of s (term_at xs k) ≡ None
  pub operands : (k : ℕ) (x : Expr) → slice_get xs k ≡ Some x → TakesOperands x
  pub parts : (k : ℕ) (x : Expr) → slice_get xs k ≡ Some x → HasParts x
  pub named : (k : ℕ) (x : Expr) → slice_get xs k ≡ Some x → NamesThere n ms x

-- a node that can stand beside them
pub record ExprIsSound (s : Shapes) (n : ℕ) (ms : List Memory) (xs : List Expr) (x : Expr) : Type 0 where
  pub below : IsTrue (expr_below x (length xs))
  pub shaped : fault_of s (node_term (term_at xs) x) ≡ None
  pub operands : TakesOperands x
  pub parts : HasParts x
  pub named : NamesThere n ms x

-- ---- children below a greater place

pub place_wider : (n m k : ℕ) → n ≤ m → nat_lt k n ≡ true → nat_lt k m ≡ true
place_wider n m k l e = let q = ltb-true k n e in lt-ltb k m (omega arith)

pub all_wider : (n m : ℕ) (is : List ExprId) → n ≤ m → all_below n is ≡ true → all_below m is ≡ true
all_wider n m [] l e = refl
all_wider n m (i ∷ is) l e =
    let p = and_parts (nat_lt i.place n) (all_below n is) e in
    and_from (nat_lt i.place m) (all_below m is) (place_wider n m i.place l p.0) (all_wider n m is l p.1)

pub node_wider : (n m : ℕ) (x : Expr) → n ≤ m → expr_below x n ≡ true → expr_below x m ≡ true
node_wider n m (Const value bits signed) l e = refl
node_wider n m (Sig x) l e = refl
node_wider n m (Unary op of) l e = place_wider n m of.place l e
node_wider n m (Binary op left right) l e =
    let p = and_parts (nat_lt left.place n) (nat_lt right.place n) e in
    and_from (nat_lt left.place m) (nat_lt right.place m) (place_wider n m left.place l p.0) (place_wider n m right.place l p.1)
node_wider n m (Mux cond then_ else_) l e =
    let p = and_parts (nat_lt cond.place n) (nat_lt then_.place n && nat_lt else_.place n) e in
    let q = and_parts (nat_lt then_.place n) (nat_lt else_.place n) p.1 in
    and_from (nat_lt cond.place m) (nat_lt then_.place m && nat_lt else_.place m) (place_wider n m cond.place l p.0)
    (and_from (nat_lt then_.place m) (nat_lt else_.place m) (place_wider n m then_.place l q.0) (place_wider n m else_.place l q.1))
node_wider n m (Cat parts) l e = all_wider n m parts l e
node_wider n m (Pick items index) l e =
    let p = and_parts (all_below n items) (nat_lt index.place n) e in
    and_from (all_below m items) (nat_lt index.place m) (all_wider n m items l p.0) (place_wider n m index.place l p.1)
node_wider n m (Replicate of count) l e = place_wider n m of.place l e
node_wider n m (Slice of low high) l e = place_wider n m of.place l e
node_wider n m (Fetch memory width at) l e = place_wider n m at.place l e

-- ---- signals that are there, and lists that aren't empty

all_sound : (n : ℕ) (t : ℕ → Term) (is : List ExprId) → EachPlace (λ j. is_sound n (t j) ≡ true) is → are_sound n (terms_at t is) ≡ true
all_sound n t [] h = refl
all_sound n t (i ∷ is) h = and_from (is_sound n (t i.place)) (are_sound n (terms_at t is)) h.0 (all_sound n t is h.1)

some_there : (t : ℕ → Term) (is : List ExprId) → 0 < length is → has_some (terms_at t is) ≡ true
some_there t [] h = absurd (omega arith)
some_there t (i ∷ is) h = refl

node_sound : (n : ℕ) (ms : List Memory) (t : ℕ → Term) (x : Expr) → HasParts x → NamesThere n ms x → EachChild (λ j. is_sound n (t j) ≡ true) x → is_sound n (node_term t x) ≡ true
node_sound n ms t (Const value bits signed) p b h = refl
node_sound n ms t (Sig x) p b h = lt-ltb x.0 n b
node_sound n ms t (Unary op of) p b h = h
node_sound n ms t (Binary op left right) p b h = and_from (is_sound n (t left.place)) (is_sound n (t right.place)) h.0 h.1
node_sound n ms t (Mux cond then_ else_) p b h =
    and_from (is_sound n (t cond.place)) (is_sound n (t then_.place) && is_sound n (t else_.place)) h.0
    (and_from (is_sound n (t then_.place)) (is_sound n (t else_.place)) h.1.0 h.1.1)
node_sound n ms t (Cat parts) p b h = and_from (has_some (terms_at t parts)) (are_sound n (terms_at t parts)) (some_there t parts p) (all_sound n t parts h)
node_sound n ms t (Pick items index) p b h =
    and_from (has_some (terms_at t items)) (are_sound n (terms_at t items) && is_sound n (t index.place)) (some_there t items p)
    (and_from (are_sound n (terms_at t items)) (is_sound n (t index.place)) (all_sound n t items h.0) h.1)
node_sound n ms t (Replicate of count) p b h = h
node_sound n ms t (Slice of low high) p b h = h
node_sound n ms t (Fetch memory width at) p b h = h

sound_below : (s : Shapes) (n : ℕ) (ms : List Memory) (xs : List Expr) → ExprsAreSound s n ms xs → (k : ℕ) → k < length xs → is_sound n (term_at xs k) ≡ true
sound_below s n ms xs keep = by_places (λ k. is_sound n (term_at xs k) ≡ true) xs (λ k x found below.
    ap (is_sound n) (term_at-is xs keep.lower k x found)
    ∙ node_sound n ms (term_at xs) x (keep.parts k x found) (keep.named k x found) (each_child (λ j. is_sound n (term_at xs j) ≡ true) k x below (lower_at expr_below xs keep.lower k x found)))

-- the tree at a place keeps to the signals, and has no fault
pub term_keeps : (s : Shapes) (n : ℕ) (ms : List Memory) (xs : List Expr) (k : ℕ) → ExprsAreSound s n ms xs → k < length xs → TermKeeps s n (term_at xs k)
term_keeps s n ms xs k keep l = record { sound = sound_below s n ms xs keep k l; fault = keep.shaped k l }

-- so it has 1 to 127 bits
pub shape_small : (s : Shapes) (n : ℕ) (ms : List Memory) (xs : List Expr) (k : ℕ) → ExprsAreSound s n ms xs → k < length xs → IsSmall (shape_of s (term_at xs k))
shape_small s n ms xs k keep l = term_small s n (term_at xs k) keep.small (term_keeps s n ms xs k keep l)

-- so does the tree of a node that can be added
pub node_keeps : (s : Shapes) (n : ℕ) (ms : List Memory) (xs : List Expr) (x : Expr) → ExprsAreSound s n ms xs → ExprIsSound s n ms xs x → TermKeeps s n (node_term (term_at xs) x)
node_keeps s n ms xs x keep node = record {
  sound = node_sound n ms (term_at xs) x node.parts node.named (each_child (λ j. is_sound n (term_at xs j) ≡ true) (length xs) x (λ j l. (term_keeps s n ms xs j keep l).sound) (search node.below));
  fault = node.shaped;
}

-- a node that is there could stand beside all of them
pub item_sound : (s : Shapes) (n : ℕ) (ms : List Memory) (xs : List Expr) (k : ℕ) (x : Expr) → ExprsAreSound s n ms xs → slice_get xs k ≡ Some x → ExprIsSound s n ms xs x
item_sound s n ms xs k x keep e =
    let l = slice_get_within xs k x e in
    record {
      below = node_wider k (length xs) x (omega arith) (lower_at expr_below xs keep.lower k x e);
      shaped = ap (fault_of s) (sym (term_at-is xs keep.lower k x e)) ∙ keep.shaped k l;
      operands = keep.operands k x e;
      parts = keep.parts k x e;
      named = keep.named k x e;
    }

-- ---- drafts

pub arenas : (d : Design) → Keeps d → DraftKeeps d
arenas d keep = record { arenas = keep.arenas; signals = keep.signals; memories = keep.memories }

pub sound : (d : Design) → DraftKeeps d → ExprsAreSound (shapes d) (length d.signals) d.memories d.exprs
sound d keep = record {
  small = λ x l. draft_small d keep x;
  lower = keep.arenas.exprs_lower;
  shaped = keep.arenas.shaped;
  operands = keep.arenas.operands;
  parts = keep.arenas.parts;
  named = keep.arenas.named;
}

-- the shape that stands for an expression is small
pub small_shape : (d : Design) (v : Operand) → DraftKeeps d → HasShape d v → IsSmall v.shape
small_shape d v keep h = subst (λ (b : Shape). IsSmall b) h.shape (shape_small (shapes d) (length d.signals) d.memories d.exprs v.id.place (sound d keep) h.there)

-- ---- growth

pub same_shapes : (d e : Design) → e.signals ≡ d.signals → shapes e ≡ shapes d
unfolding circuit_of
same_shapes d e h =
    let shapes_in : List Signal → Shapes = λ ss x. (slice_index_or (map made_of ss) x nothing).shape in
    ap shapes_in h

pub grows_same : (d : Design) → Grows d d
grows_same d = record { signals = refl; memories = refl; stays = stays_same d; lines = λ x k l. refl }

pub grows_then : {x y z : Design} → Grows x y → Grows y z → Grows x z
grows_then {x} {y} {z} g h = record { signals = h.signals ∙ g.signals; memories = h.memories ∙ g.memories; stays = stays_then x y z g.stays h.stays; lines = λ s k l. h.lines s k (omega (arith, l, g.stays.stmts)) ∙ g.lines s k l }

-- an expression that stands already
pub put_same : (d : Design) (k : ℕ) (t : Term) → k < length d.exprs → term d k ≡ t → TermPut d d k t
put_same d k t l e = record { grows = grows_same d; within = l; tree = e }

-- a tree that is put after others
pub put_after : (a b c : Design) (i : ℕ) (t : Term) → Grows a b → TermPut b c i t → TermPut a c i t
put_after a b c i t g p = record { grows = grows_then g p.grows; within = p.within; tree = p.tree }

pub put_is : (a b : Design) (i : ℕ) (t u : Term) → TermPut a b i t → t ≡ u → TermPut a b i u
put_is a b i t u p e = record { grows = p.grows; within = p.within; tree = p.tree ∙ e }

pub term_kept : {x y : Design} (k : ℕ) → Grows x y → k < length x.exprs → term y k ≡ term x k
term_kept k g l = g.stays.terms k l

pub shape_kept : {x y : Design} {v : Operand} → Grows x y → HasShape x v → HasShape y v
shape_kept {x} {y} {v} g h = record {
  there = omega (arith, h.there, g.stays.exprs);
  shape = ap (λ (s : Shapes). shape_of s (term y v.id.place)) (same_shapes x y g.signals) ∙ ap (shape_of (shapes x)) (term_kept v.id.place g h.there) ∙ h.shape;
}

pub bit_kept : {x y : Design} {k : ℕ} → Grows x y → IsBit x k → IsBit y k
bit_kept {x} {y} {k} g b = record {
  there = omega (arith, b.there, g.stays.exprs);
  bit = ap (λ (s : Shapes). shape_of s (term y k)) (same_shapes x y g.signals) ∙ ap (shape_of (shapes x)) (term_kept k g b.there) ∙ b.bit;
}
