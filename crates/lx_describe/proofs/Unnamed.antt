-- Over signals of which some have other shapes, and over other memories, the arenas keep what they kept, where no expression
-- and no target names one of those signals, and no expression reads a memory.
use Rattle.std.proofs.Common.{◌≡◌, ℕ, zero, suc, pos, ◌<◌, Bool, true, false, not, ◌&&◌, ◌||◌, List, [], ◌∷◌, length, refl, sym, ap, subst, ◌∙◌, arith, inl, inr, nat_lt}
use Rattle.std.specs.Prelude.{None, Some, slice_get}
use Rattle.std.specs.List.{list_all}
use Rattle.std.proofs.lemmas.Bool.{and_parts, eqb-true, ltb-true, or_cases}
use Rattle.lx_num.specs.declared.Shape.{Shape}
use Rattle.lx_arena.specs.Lower.{EachLower}
use Rattle.lx_arena.proofs.Places.{by_places, lower_at}
use Rattle.lx_circuit.specs.Places.{Place, At, Values}
use Rattle.lx_circuit.specs.Terms.{Term}
use Rattle.lx_circuit.specs.Shapes.{Shapes, shape_of}
use Rattle.lx_circuit.specs.Statements as tree
use Rattle.lx_circuit.specs.Reads.{names, some_names}
use Rattle.lx_circuit.specs.Locality.{Alike, TermSame, target_mentions, targets_mention}
use Rattle.lx_circuit.proofs.Locality.{term_same}
use Rattle.lx_circuit.proofs.BlockLocality.{TargetSame, target_alike}
use Rattle.lx_fhdl.specs.Below.{ExprId, TargetId, expr_below, target_below, all_targets_below}
use Rattle.lx_fhdl.specs.Keeping.{ArenasKeep, NamesThere, TargetStands}
use Rattle.lx_fhdl.specs.Nodes.{EachChild, EachPlace}
use Rattle.lx_fhdl.specs.Stmts.{node_target, target_at, targets_at}
use Rattle.lx_fhdl.specs.Trees.{node_term, term_at, terms_at}
use Rattle.lx_fhdl.specs.declared.design.Memory.{Memory}
use Rattle.lx_fhdl.specs.declared.exprs.Expr.{Expr}
use Rattle.lx_fhdl.specs.declared.exprs.Expr.TheVariants.{Const, Sig, Unary, Binary, Mux, Cat, Pick, Replicate, Slice, Fetch}
use Rattle.lx_fhdl.specs.declared.stmts.Stmt.{Stmt}
use Rattle.lx_fhdl.specs.declared.stmts.Target.{Target}
use Rattle.lx_fhdl.specs.declared.stmts.Target.TheVariants as target
use Rattle.lx_fhdl.proofs.Designs.{children_of}
use Rattle.lx_fhdl.proofs.StmtTrees.{target_at-is}
use Rattle.lx_fhdl.proofs.Trees.{term_at-is}
use Rattle.lx_fhdl.proofs.Wider.{SameShapes, indices_kept}
use Rattle.lx_state.specs.declared.machine.Machine.{Machine}
use Rattle.lx_describe.specs.Apart.{expr_passes, is_late, target_passes}

either : (a b : Bool) (P : Type 0) → (a ≡ true → P) → (b ≡ true → P) → (a || b) ≡ true → P
either a b P f g e =
    elim (or_cases a b e) [
      | inl p ↦ f p
      | inr p ↦ g p
    ]

is_not : (b : Bool) → not b ≡ true → b ≡ false
is_not true e = absurd (cc)
is_not false e = refl

not_at : (m : Machine) (y x : ℕ) → not (is_late m y) ≡ true → y ≡ x → is_late m x ≡ false
not_at m y x a e = subst (λ (k : ℕ). is_late m k ≡ false) e (is_not (is_late m y) a)

passes_at : {T : Type 0} (f : T → Bool) (xs : List T) → list_all f xs ≡ true → (k : ℕ) (x : T) → slice_get xs k ≡ Some x → f x ≡ true
passes_at f [] all k x e = absurd (cc)
passes_at f (y ∷ ys) all zero x e = let p = and_parts (f y) (list_all f ys) all in let same : y ≡ x = cc in subst (λ z. f z ≡ true) same p.0
passes_at f (y ∷ ys) all (suc k) x e = passes_at f ys (and_parts (f y) (list_all f ys) all).1 k x e

-- ---- no expression names a signal whose bits are known late

abbrev NamesNone : Machine → Term → Type 0
NamesNone m t = (x : ℕ) → names (At x) t ≡ true → is_late m x ≡ false

terms_name : (m : Machine) (t : ℕ → Term) (is : List ExprId) → EachPlace (λ j. NamesNone m (t j)) is → (x : ℕ) → some_names (At x) (terms_at t is) ≡ true → is_late m x ≡ false
terms_name m t [] h x e = absurd (cc)
terms_name m t (i ∷ is) h x e = either (names (At x) (t i.place)) (some_names (At x) (terms_at t is)) (is_late m x ≡ false) (h.0 x) (terms_name m t is h.1 x) e

node_names : (m : Machine) (t : ℕ → Term) (y : Expr) → expr_passes m y ≡ true → EachChild (λ j. NamesNone m (t j)) y → NamesNone m (node_term t y)
node_names m t (Const value bits signed) a h x e = absurd (cc)
node_names m t (Sig y) a h x e = not_at m y.0 x a (eqb-true y.0 x e)
node_names m t (Unary op of) a h x e = h x e
node_names m t (Binary op left right) a h x e = either (names (At x) (t left.place)) (names (At x) (t right.place)) (is_late m x ≡ false) (h.0 x) (h.1 x) e
node_names m t (Mux cond then_ else_) a h x e =
    let both = names (At x) (t then_.place) || names (At x) (t else_.place) in
    either (names (At x) (t cond.place)) both (is_late m x ≡ false) (h.0 x) (λ p. either (names (At x) (t then_.place)) (names (At x) (t else_.place)) (is_late m x ≡ false) (h.1.0 x) (h.1.1 x) p) e
node_names m t (Cat parts) a h x e = terms_name m t parts h x e
node_names m t (Pick items index) a h x e = either (some_names (At x) (terms_at t items)) (names (At x) (t index.place)) (is_late m x ≡ false) (terms_name m t items h.0 x) (h.1 x) e
node_names m t (Replicate of count) a h x e = h x e
node_names m t (Slice of low high) a h x e = h x e
node_names m t (Fetch memory width at) a h x e = absurd (cc)

names_at : (m : Machine) (xs : List Expr) → EachLower expr_below xs → list_all (expr_passes m) xs ≡ true → (k : ℕ) → k < length xs → NamesNone m (term_at xs k)
names_at m xs low all = by_places (λ k. NamesNone m (term_at xs k)) xs (λ k x found below.
    subst (λ (t : Term). NamesNone m t) (sym (term_at-is xs low k x found))
    (node_names m (term_at xs) x (passes_at (expr_passes m) xs all k x found) (children_of (λ j. NamesNone m (term_at xs j)) xs low k x found below)))

-- ---- what an expression names is there whichever the memories are

named_apart : (m : Machine) (n : ℕ) (ms other : List Memory) (x : Expr) → expr_passes m x ≡ true → NamesThere n ms x → NamesThere n other x
named_apart m n ms other (Const value bits signed) a h = h
named_apart m n ms other (Sig y) a h = h
named_apart m n ms other (Unary op of) a h = h
named_apart m n ms other (Binary op left right) a h = h
named_apart m n ms other (Mux cond then_ else_) a h = h
named_apart m n ms other (Cat parts) a h = h
named_apart m n ms other (Pick items index) a h = h
named_apart m n ms other (Replicate of count) a h = h
named_apart m n ms other (Slice of low high) a h = h
named_apart m n ms other (Fetch memory width at) a h = absurd (cc)

-- ---- no target mentions one

abbrev MentionsNone : Machine → tree.Target → Type 0
MentionsNone m t = (x : ℕ) → target_mentions (At x) t ≡ true → is_late m x ≡ false

targets_none : (m : Machine) (k : ℕ) (g : ℕ → tree.Target) (is : List TargetId) → all_targets_below k is ≡ true → ((j : ℕ) → j < k → MentionsNone m (g j)) → (x : ℕ) → targets_mention (At x) (targets_at g is) ≡ true → is_late m x ≡ false
targets_none m k g [] l h x e = absurd (cc)
targets_none m k g (i ∷ is) l h x e =
    let p = and_parts (nat_lt i.place k) (all_targets_below k is) l in
    either (target_mentions (At x) (g i.place)) (targets_mention (At x) (targets_at g is)) (is_late m x ≡ false) (h i.place (ltb-true i.place k p.0) x) (targets_none m k g is p.1 h x) e

node_none : (m : Machine) (s : Shapes) (n k : ℕ) (xs : List Expr) (g : ℕ → tree.Target) (y : Target) → TargetStands s n xs y → target_passes m y ≡ true → ((j : ℕ) → j < length xs → NamesNone m (term_at xs j)) → target_below y k ≡ true
    → ((j : ℕ) → j < k → MentionsNone m (g j)) → MentionsNone m (node_target (term_at xs) g y)
node_none m s n k xs g (target.Whole y) a b f l h x e = not_at m y.0 x b (eqb-true y.0 x e)
node_none m s n k xs g (target.Part y low len) a b f l h x e = not_at m y.0 x b (eqb-true y.0 x e)
node_none m s n k xs g (target.Cat parts) a b f l h x e = targets_none m k g parts l h x e
node_none m s n k xs g (target.Pick items index) a b f l h x e =
    either (targets_mention (At x) (targets_at g items)) (names (At x) (term_at xs index.place)) (is_late m x ≡ false) (targets_none m k g items l h x) (f index.place a.1 x) e

-- ---- shapes that are the same elsewhere

no_values : Values
no_values p = pos 0

abbrev pub SameElsewhere : Machine → Shapes → Shapes → Type 0
SameElsewhere m s t = (x : ℕ) → is_late m x ≡ false → t x ≡ s x

alike : (m : Machine) (s t : Shapes) (p : Place → Bool) → SameElsewhere m s t → ((x : ℕ) → p (At x) ≡ true → is_late m x ≡ false) → Alike t s no_values no_values p
alike m s t p same none = record { shapes = λ x e. same x (none x e); signals = λ x e. refl; words = λ k j e. refl }

-- what is passed
pub record Passed (m : Machine) (s : Shapes) (n : ℕ) (ms : List Memory) (xs : List Expr) (ts : List Target) (ss : List Stmt) : Type 0 where
  pub keep : ArenasKeep s n ms xs ts ss
  pub exprs : list_all (expr_passes m) xs ≡ true
  pub targets : list_all (target_passes m) ts ≡ true

terms_kept : (m : Machine) (s t : Shapes) (n : ℕ) (ms : List Memory) (xs : List Expr) (ts : List Target) (ss : List Stmt) → Passed m s n ms xs ts ss → SameElsewhere m s t
    → (k : ℕ) → k < length xs → TermSame t s no_values no_values (term_at xs k)
terms_kept m s t n ms xs ts ss passed same k l =
    term_same t s no_values no_values (term_at xs k) (alike m s t (λ y. names y (term_at xs k)) same (names_at m xs passed.keep.exprs_lower passed.exprs k l))

mentions_at : (m : Machine) (s : Shapes) (n : ℕ) (ms : List Memory) (xs : List Expr) (ts : List Target) (ss : List Stmt) → Passed m s n ms xs ts ss → (k : ℕ) → k < length ts → MentionsNone m (target_at (term_at xs) ts k)
mentions_at m s n ms xs ts ss passed = by_places (λ k. MentionsNone m (target_at (term_at xs) ts k)) ts (λ k x found below.
    subst (λ (t : tree.Target). MentionsNone m t) (sym (target_at-is (term_at xs) ts passed.keep.targets_lower k x found))
    (node_none m s n k xs (target_at (term_at xs) ts) x (passed.keep.targets k x found) (passes_at (target_passes m) ts passed.targets k x found) (names_at m xs passed.keep.exprs_lower passed.exprs)
    (lower_at target_below ts passed.keep.targets_lower k x found) below))

targets_kept : (m : Machine) (s t : Shapes) (n : ℕ) (ms : List Memory) (xs : List Expr) (ts : List Target) (ss : List Stmt) → Passed m s n ms xs ts ss → SameElsewhere m s t
    → (k : ℕ) → k < length ts → TargetSame t s no_values no_values (target_at (term_at xs) ts k)
targets_kept m s t n ms xs ts ss passed same k l =
    target_alike t s no_values no_values (target_at (term_at xs) ts k) (alike m s t (λ y. target_mentions y (target_at (term_at xs) ts k)) same (mentions_at m s n ms xs ts ss passed k l))

stands : (m : Machine) (s t : Shapes) (n : ℕ) (xs : List Expr) (x : Target) → SameElsewhere m s t → SameShapes s t xs xs (length xs) → target_passes m x ≡ true → TargetStands s n xs x → TargetStands t n xs x
stands m s t n xs (target.Whole x) same e a h = h
stands m s t n xs (target.Part x low len) same e a h = (h.0, h.1, omega (arith, h.2, ap (λ (b : Shape). b.bits) (same x.0 (is_not (is_late m x.0) a))))
stands m s t n xs (target.Cat parts) same e a h = h
stands m s t n xs (target.Pick items index) same e a h = (h.0, h.1, ap (λ (b : Shape). b.signed) (e index.place h.1) ∙ h.2)

-- the arenas keep what they kept
pub arenas_kept : (m : Machine) (s t : Shapes) (n : ℕ) (ms other : List Memory) (xs : List Expr) (ts : List Target) (ss : List Stmt) → Passed m s n ms xs ts ss → SameElsewhere m s t → ArenasKeep t n other xs ts ss
arenas_kept m s t n ms other xs ts ss passed same =
    let keep = passed.keep in
    let terms = terms_kept m s t n ms xs ts ss passed same in
    let sizes : SameShapes s t xs xs (length xs) = λ k l. (terms k l).shape in
    record {
      exprs_lower = keep.exprs_lower;
      targets_lower = keep.targets_lower;
      stmts_lower = keep.stmts_lower;
      shaped = λ k l. (terms k l).fault ∙ keep.shaped k l;
      operands = keep.operands;
      parts = keep.parts;
      named = λ k x e. named_apart m n ms other x (passes_at (expr_passes m) xs passed.exprs k x e) (keep.named k x e);
      indices = indices_kept s t xs xs keep.exprs_lower sizes keep.indices;
      targets = λ k x e. stands m s t n xs x same sizes (passes_at (target_passes m) ts passed.targets k x e) (keep.targets k x e);
      target_bits = λ k l. omega (arith, (targets_kept m s t n ms xs ts ss passed same k l).bits, keep.target_bits k l);
      stmts = keep.stmts;
    }
