-- Expressions that are evaluated one after another, lower ones first.
use Rattle.std.proofs.Common.{◌≡◌, ◌≢◌, ℕ, false, ◌+◌, ◌<◌, ◌≤◌, List, length, set, refl, sym, ◌∙◌, ap, subst, arith, inl, inr, get_or-set_same, get_or-set_other, length-set}
use Rattle.std.specs.Prelude.{ℤ, Option, None, Some, IsSomeAnd, slice_get}
use Rattle.std.proofs.lemmas.Bool.{cases_lt, cases_eq, ltb-true}
use Rattle.std.proofs.lemmas.Option.{slice_get_within}
use Rattle.lx_num.specs.declared.Shape.{Shape}
use Rattle.lx_num.specs.Ints.{Fits, unsigned, wrapped}
use Rattle.lx_num.proofs.Ranges.{FitsBits-wrap_bits}
use Rattle.lx_arena.proofs.Places.{lower_at, node_there}
use Rattle.lx_circuit.specs.Shapes.{Shapes, shape_of}
use Rattle.lx_circuit.specs.Values.{count_of}
use Rattle.lx_fhdl.specs.Below.{ExprId, expr_below}
use Rattle.lx_fhdl.specs.Designs.{shapes}
use Rattle.lx_fhdl.specs.Drafts.{DraftKeeps}
use Rattle.lx_fhdl.specs.Keeping.{IsMemory, Keeps, NamesThere}
use Rattle.lx_fhdl.specs.Nodes.{EachChild, FitsSignal, HasParts, IsFit, IsNode, IsShaped, is_fetch, listed, node_fault, node_shape, node_value, shape_at, value_at}
use Rattle.lx_fhdl.specs.Trees.{term_at}
use Rattle.lx_fhdl.specs.declared.design.Memory.{Memory}
use Rattle.lx_fhdl.specs.declared.design.Design.{Design}
use Rattle.lx_fhdl.specs.declared.exprs.Expr.{Expr}
use Rattle.lx_fhdl.specs.declared.exprs.Expr.TheVariants.{Const, Sig, Unary, Binary, Mux, Cat, Pick, Replicate, Slice, Fetch}
use Rattle.lx_fhdl.proofs.Arena.{each_child}
use Rattle.lx_fhdl.proofs.Designs.{signal_most, signal_some}
use Rattle.lx_fhdl.proofs.Resets.{each_of_at}
use Rattle.lx_fhdl.proofs.Frames.{value_same}
use Rattle.lx_fhdl.proofs.Trees.{term_at-is}
use Rattle.lx_width.proofs.Shaped.{children, node_sound, shape_is}
use Rattle.lx_sim.specs.Evaluating.{Evaluates, IsRising}
use Rattle.lx_sim.specs.Plans.{IsPlan}
use Rattle.lx_sim.specs.Settled.{AllFit}
use Rattle.lx_sim.specs.Words.{placed, without_words, word_at}
use Rattle.lx_sim.specs.declared.plan.Plan.{Plan}

pub draft_of : (d : Design) → Keeps d → DraftKeeps d
draft_of d keeps = record { arenas = keeps.arenas; signals = keeps.signals; memories = keeps.memories }

-- ---- the shapes of a plan are those of its nodes

own_shape : (s : Shapes) (hs : List Shape) (a : Shape) (x : Expr) → a ≡ node_shape s hs x → a ≡ node_shape (λ _. a) hs x
own_shape s hs a (Const value bits signed) e = e
own_shape s hs a (Sig y) e = refl
own_shape s hs a (Unary op of) e = e
own_shape s hs a (Binary op left right) e = e
own_shape s hs a (Mux cond then_ else_) e = e
own_shape s hs a (Cat parts) e = e
own_shape s hs a (Pick items index) e = e
own_shape s hs a (Replicate of count) e = e
own_shape s hs a (Slice of low high) e = e
own_shape s hs a (Fetch memory width at) e = e

signal_fits : (p : Plan) (vals known : List ℤ) (x : Expr) (a : Shape) → Keeps p.design → AllFit p vals known → a ≡ node_shape (shapes p.design) p.shapes x → NamesThere (length p.design.signals) p.design.memories x → FitsSignal vals a x
signal_fits p vals known (Sig y) a keeps fit e there = (
  subst (λ (s : Shape). 1 ≤ s.bits) (sym e) (signal_some p.design keeps y.0),
  subst (λ (s : Shape). s.bits ≤ 64) (sym e) (signal_most p.design keeps y.0),
  omega (arith, there, fit.signals),
  subst (λ (s : Shape). Fits s (value_at vals y.0)) (sym e) (fit.signals_fit y.0 there),
)
signal_fits p vals known (Const value bits signed) a keeps fit e there = tt
signal_fits p vals known (Unary op of) a keeps fit e there = tt
signal_fits p vals known (Binary op left right) a keeps fit e there = tt
signal_fits p vals known (Mux cond then_ else_) a keeps fit e there = tt
signal_fits p vals known (Cat parts) a keeps fit e there = tt
signal_fits p vals known (Pick items index) a keeps fit e there = tt
signal_fits p vals known (Replicate of count) a keeps fit e there = tt
signal_fits p vals known (Slice of low high) a keeps fit e there = tt
signal_fits p vals known (Fetch memory width at) a keeps fit e there = tt

-- the shape of an expression is that of its node
pub own_is : (p : Plan) (k : ℕ) (x : Expr) → IsPlan p → slice_get p.design.exprs k ≡ Some x → shape_at p.shapes k ≡ node_shape (shapes p.design) p.shapes x
own_is p k x plan found =
    let d = p.design in
    let kids = children d k p.shapes x (draft_of d plan.keeps) (λ j l. plan.shapes.each j (let q = slice_get_within d.exprs k x found in omega arith)) found in
    plan.shapes.each k (slice_get_within d.exprs k x found)
    ∙ (ap (shape_of (shapes d)) (term_at-is d.exprs plan.keeps.arenas.exprs_lower k x found) ∙ shape_is (shapes d) (term_at d.exprs) p.shapes x kids)

-- ---- expressions without words

-- a node that reads a word has the shape and no fault of the 0 in its place
node_without : (hs : List Shape) (vals : List ℤ) (k : ℕ) (x : Expr) → shape_at hs k ≡ node_shape (λ _. shape_at hs k) hs x → node_fault hs x ≡ None → HasParts x → FitsSignal vals (shape_at hs k) x → IsNode hs vals k (without_words x)
node_without hs vals k (Fetch memory width at) e f g h = record { shaped = e; sound = f; parts = tt; no_fetch = refl; signal = tt }
node_without hs vals k (Const value bits signed) e f g h = record { shaped = e; sound = f; parts = g; no_fetch = refl; signal = h }
node_without hs vals k (Sig y) e f g h = record { shaped = e; sound = f; parts = g; no_fetch = refl; signal = h }
node_without hs vals k (Unary op of) e f g h = record { shaped = e; sound = f; parts = g; no_fetch = refl; signal = h }
node_without hs vals k (Binary op left right) e f g h = record { shaped = e; sound = f; parts = g; no_fetch = refl; signal = h }
node_without hs vals k (Mux cond then_ else_) e f g h = record { shaped = e; sound = f; parts = g; no_fetch = refl; signal = h }
node_without hs vals k (Cat parts) e f g h = record { shaped = e; sound = f; parts = g; no_fetch = refl; signal = h }
node_without hs vals k (Pick items index) e f g h = record { shaped = e; sound = f; parts = g; no_fetch = refl; signal = h }
node_without hs vals k (Replicate of count) e f g h = record { shaped = e; sound = f; parts = g; no_fetch = refl; signal = h }
node_without hs vals k (Slice of low high) e f g h = record { shaped = e; sound = f; parts = g; no_fetch = refl; signal = h }

-- the node of the design at the place of one without words
node_behind : (p : Plan) (k : ℕ) (y : Expr) → IsPlan p → slice_get p.exprs k ≡ Some y → (x : Expr) × (slice_get p.design.exprs k ≡ Some x) × (without_words x ≡ y)
node_behind p k y plan e =
    let l : k < length p.design.exprs = omega (arith, slice_get_within p.exprs k y e, plan.exprs.long) in
    let (x, at) = node_there p.design.exprs k l in
    let same = plan.exprs.each k x l at in
    let is : without_words x ≡ y = cc in
    (x, at, is)

pub plan_shaped : (p : Plan) (vals known : List ℤ) → IsPlan p → AllFit p vals known → IsShaped p.exprs p.shapes vals
plan_shaped p vals known plan fit =
    let d = p.design in
    let keeps = draft_of d plan.keeps in
    record {
      long = plan.shapes.long ∙ sym plan.exprs.long;
      each = λ k y e.
          let (x, found, is) = node_behind p k y plan e in
          let kids = children d k p.shapes x keeps (λ j l. plan.shapes.each j (let q = slice_get_within d.exprs k x found in omega arith)) found in
          let own = own_is p k x plan found in
          subst (λ (z : Expr). IsNode p.shapes vals k z) is
          (node_without p.shapes vals k x (own_shape (shapes d) p.shapes (shape_at p.shapes k) x own) (node_sound d k p.shapes x keeps kids found) (plan.keeps.arenas.parts k x found)
          (signal_fits p vals known x (shape_at p.shapes k) plan.keeps fit own (plan.keeps.arenas.named k x found)));
    }

children_without : (P : ℕ → Type 0) (x : Expr) → EachChild P x → EachChild P (without_words x)
children_without P (Fetch memory width at) h = tt
children_without P (Const value bits signed) h = h
children_without P (Sig y) h = h
children_without P (Unary op of) h = h
children_without P (Binary op left right) h = h
children_without P (Mux cond then_ else_) h = h
children_without P (Cat parts) h = h
children_without P (Pick items index) h = h
children_without P (Replicate of count) h = h
children_without P (Slice of low high) h = h

pub children_fit : (p : Plan) (vals known : List ℤ) (k : ℕ) (y : Expr) → IsPlan p → AllFit p vals known → slice_get p.exprs k ≡ Some y → EachChild (IsFit p.shapes known) y
children_fit p vals known k y plan fit e =
    let (x, found, is) = node_behind p k y plan e in
    let within = slice_get_within p.design.exprs k x found in
    subst (EachChild (IsFit p.shapes known)) is
    (children_without (IsFit p.shapes known) x
    (each_child (IsFit p.shapes known) k x (λ j l. fit.exprs_fit j (omega arith)) (lower_at expr_below p.design.exprs plan.keeps.arenas.exprs_lower k x found)))

-- ---- values of nodes

-- one that reads no word
plain_value : (hs : List Shape) (vals : List ℤ) (words : List (List ℤ)) (known : List ℤ) (x : Expr) → is_fetch x ≡ false → node_value hs (listed vals) known (without_words x) ≡ node_value hs (placed vals words) known x
plain_value hs vals words known (Fetch memory width at) e = absurd cc
plain_value hs vals words known (Const value bits signed) e = refl
plain_value hs vals words known (Sig y) e = refl
plain_value hs vals words known (Unary op of) e = refl
plain_value hs vals words known (Binary op left right) e = refl
plain_value hs vals words known (Mux cond then_ else_) e = refl
plain_value hs vals words known (Cat parts) e = refl
plain_value hs vals words known (Pick items index) e = refl
plain_value hs vals words known (Replicate of count) e = refl
plain_value hs vals words known (Slice of low high) e = refl

no_fetch : (x : Expr) → ((memory width : ℕ) (at : ExprId) → x ≡ Fetch memory width at → ⊥) → is_fetch x ≡ false
no_fetch (Fetch memory width at) n = absurd (n memory width at refl)
no_fetch (Const value bits signed) n = refl
no_fetch (Sig y) n = refl
no_fetch (Unary op of) n = refl
no_fetch (Binary op left right) n = refl
no_fetch (Mux cond then_ else_) n = refl
no_fetch (Cat parts) n = refl
no_fetch (Pick items index) n = refl
no_fetch (Replicate of count) n = refl
no_fetch (Slice of low high) n = refl

pub plain_is : (p : Plan) (vals : List ℤ) (words : List (List ℤ)) (known : List ℤ) (k : ℕ) (node : Expr) (z : ℤ) → IsPlan p → slice_get p.design.exprs k ≡ Some node → ((memory width : ℕ) (at : ExprId) → node ≡ Fetch memory width at → ⊥)
    → ((y : Expr) → slice_get p.exprs k ≡ Some y → z ≡ node_value p.shapes (listed vals) known y) → (x : Expr) → slice_get p.design.exprs k ≡ Some x → z ≡ node_value p.shapes (placed vals words) known x
plain_is p vals words known k node z plan here none is x found =
    let same : node ≡ x = cc in
    is (without_words x) (plan.exprs.each k x (slice_get_within p.design.exprs k x found) found)
    ∙ plain_value p.shapes vals words known x (no_fetch x (λ m w at e. none m w at (same ∙ e)))

-- one that reads a word
pub fetch_is : (p : Plan) (vals : List ℤ) (words : List (List ℤ)) (known : List ℤ) (k memory width : ℕ) (at : ExprId) (y z : ℤ) → slice_get p.design.exprs k ≡ Some (Fetch memory width at) → y ≡ value_at known at.place
    → z ≡ wrapped (unsigned width) (word_at words memory (count_of y)) → (x : Expr) → slice_get p.design.exprs k ≡ Some x → z ≡ node_value p.shapes (placed vals words) known x
fetch_is p vals words known k memory width at y z here index is x found =
    let same : Fetch memory width at ≡ x = cc in
    subst (λ (e : Expr). z ≡ node_value p.shapes (placed vals words) known e) same (is ∙ ap (λ (i : ℤ). wrapped (unsigned width) (word_at words memory (count_of i))) index)

-- its memory is there, and has words of its width
memory_there : (d : Design) (memory width : ℕ) → Keeps d → IsSomeAnd (slice_get d.memories memory) (λ m. width ≡ m.width) → (memory < length d.memories) × (1 ≤ width) × (width ≤ 64)
memory_there d memory width keeps h =
    let (m, is) = some_of (slice_get d.memories memory) h in
    let has = each_of_at IsMemory d.memories keeps.memories memory m is.0 in
    (slice_get_within d.memories memory m is.0, subst (λ (w : ℕ). 1 ≤ w) (sym is.1) has.width_some, subst (λ (w : ℕ). w ≤ 64) (sym is.1) has.width_most)
  where
    some_of : (o : Option Memory) → IsSomeAnd o (λ m. width ≡ m.width) → (m : Memory) × ((o ≡ Some m) × (width ≡ m.width))
    some_of None h = absurd h
    some_of (Some m) h = (m, (refl, h))

pub fetch_there : (p : Plan) (k memory width : ℕ) (at : ExprId) → IsPlan p → slice_get p.design.exprs k ≡ Some (Fetch memory width at) → (memory < length p.design.memories) × (1 ≤ width) × (width ≤ 64)
fetch_there p k memory width at plan found = memory_there p.design memory width plan.keeps (plan.keeps.arenas.named k (Fetch memory width at) found)

pub index_there : (p : Plan) (vals known : List ℤ) (k memory width : ℕ) (at : ExprId) → IsPlan p → AllFit p vals known → slice_get p.design.exprs k ≡ Some (Fetch memory width at) → at.place < length known
index_there p vals known k memory width at plan fit found =
    let within = slice_get_within p.design.exprs k (Fetch memory width at) found in
    let low = ltb-true at.place k (lower_at expr_below p.design.exprs plan.keeps.arenas.exprs_lower k (Fetch memory width at) found) in
    omega (arith, within, low, fit.exprs)

pub fetch_fits : (p : Plan) (k memory width : ℕ) (at : ExprId) (y z : ℤ) → IsPlan p → slice_get p.design.exprs k ≡ Some (Fetch memory width at) → z ≡ wrapped (unsigned width) y → Fits (shape_at p.shapes k) z
fetch_fits p k memory width at y z plan found is =
    subst (λ (a : Shape). Fits a z) (sym (own_is p k (Fetch memory width at) plan found))
    (subst (λ (q : ℤ). Fits (unsigned width) q) (sym is) (FitsBits-wrap_bits width false y (fetch_there p k memory width at plan found).1))

-- ---- one after another

-- the first n of these places are evaluated
pub record EvaluatesTo (p : Plan) (places : List ℕ) (n : ℕ) (vals : List ℤ) (words : List (List ℤ)) (old known : List ℤ) : Type 0 where
  pub fit : AllFit p vals known
  pub others : (k : ℕ) → ((i : ℕ) → i < n → slice_get places i ≡ Some k → ⊥) → value_at known k ≡ value_at old k
  pub each : (i k : ℕ) → i < n → slice_get places i ≡ Some k → (x : Expr) → slice_get p.design.exprs k ≡ Some x → value_at known k ≡ node_value p.shapes (placed vals words) known x

pub evaluated_none : (p : Plan) (places : List ℕ) (vals : List ℤ) (words : List (List ℤ)) (known : List ℤ) → AllFit p vals known → EvaluatesTo p places 0 vals words known known
evaluated_none p places vals words known fit = record { fit = fit; others = λ k h. refl; each = λ i k l f x g. absurd (omega arith) }

-- what stands lower stays
lower_stays : (known : List ℤ) (k n : ℕ) (z : ℤ) → n ≤ k → (j : ℕ) → j < n → value_at known j ≡ value_at (set known k z) j
lower_stays known k n z h j l = sym (get_or-set_other known k j z _ (let q : j ≢ k = omega arith in q))

pub evaluated_more : (p : Plan) (places : List ℕ) (n k : ℕ) (vals : List ℤ) (words : List (List ℤ)) (old known : List ℤ) (z : ℤ) → IsPlan p → IsRising places → EvaluatesTo p places n vals words old known → slice_get places n ≡ Some k → k < length p.design.exprs
    → ((x : Expr) → slice_get p.design.exprs k ≡ Some x → z ≡ node_value p.shapes (placed vals words) known x) → Fits (shape_at p.shapes k) z → EvaluatesTo p places (n + 1) vals words old (set known k z)
evaluated_more p places n k vals words old known z plan rising to found within is fits =
    let room : k < length known = (let q = to.fit.exprs in omega arith) in
    record {
      fit = record {
        signals = to.fit.signals;
        signals_fit = to.fit.signals_fit;
        exprs = length-set known k z ∙ to.fit.exprs;
        exprs_fit = λ j l.
            elim (cases_eq j k) [
              | inl e ↦ subst (λ (i : ℕ). Fits (shape_at p.shapes i) (value_at (set known k z) i)) (sym e) (subst (λ (y : ℤ). Fits (shape_at p.shapes k) y) (sym (get_or-set_same known k z _ room)) fits)
              | inr e ↦ subst (λ (y : ℤ). Fits (shape_at p.shapes j) y) (sym (get_or-set_other known k j z _ e)) (to.fit.exprs_fit j l)
            ];
      };
      others = λ j none.
          let other : j ≢ k = λ e. none n (omega arith) (found ∙ ap Some (sym e)) in
          get_or-set_other known k j z _ other ∙ to.others j (λ i l f. none i (omega arith) f);
      each = λ i j l f x g.
          let low = lower_at expr_below p.design.exprs plan.keeps.arenas.exprs_lower j x g in
          elim (cases_lt i n) [
            | inl q ↦
                let less = rising.each i n j k q f found in
                get_or-set_other known k j z _ (let o : j ≢ k = omega arith in o)
                ∙ (to.each i j q f x g ∙ value_same p.shapes (placed vals words) known (set known k z) j x (lower_stays known k j z (omega arith)) low)
            | inr q ↦
                let here : i ≡ n = omega arith in
                let same : j ≡ k = same_item j k (slice_get places n) (ap (slice_get places) (sym here) ∙ f) found in
                ap (value_at (set known k z)) same
                ∙ (get_or-set_same known k z _ room
                ∙ (is x (ap (slice_get p.design.exprs) (sym same) ∙ g)
                ∙ value_same p.shapes (placed vals words) known (set known k z) j x (lower_stays known k j z (omega arith)) low))
          ];
    }
  where
    same_item : (a b : ℕ) (o : Option ℕ) → o ≡ Some a → o ≡ Some b → a ≡ b
    same_item a b o e f = cc

pub evaluated_all : (p : Plan) (places : List ℕ) (n : ℕ) (vals : List ℤ) (words : List (List ℤ)) (old known : List ℤ) → length places ≤ n → EvaluatesTo p places n vals words old known → Evaluates p places vals words old known
evaluated_all p places n vals words old known h to = record {
  fit = to.fit;
  others = λ k none. to.others k (λ i l f. none (i, f));
  each = λ k within at x g. to.each at.0 k (let q = slice_get_within places at.0 k at.1 in omega arith) at.1 x g;
}
