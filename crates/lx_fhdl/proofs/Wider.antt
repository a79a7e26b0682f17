-- Over more signals and memories everything keeps what it kept: expressions and targets name the old ones alone.
use Rattle.std.proofs.Common.{◌≡◌, ℕ, zero, suc, pos, ◌-◌, ◌/◌, ◌%◌, ◌<◌, ◌≤◌, Bool, true, false, ◌||◌, List, [], ◌∷◌, ◌++◌, length, refl, sym, ap, subst, ◌∙◌, arith, inl, inr, nat_lt}
use Rattle.std.specs.Prelude.{Option, None, Some, IfSome, IsSomeAnd, map, slice_get, slice_index_or}
use Rattle.std.proofs.lemmas.Bool.{and_parts, eqb-true, ltb-true, or_cases}
use Rattle.std.proofs.lemmas.Option.{slice_get_within}
use Rattle.std.proofs.lemmas.List.{length_push}
use Rattle.lx_num.specs.declared.Shape.{Shape}
use Rattle.lx_num.specs.Fewest.{IsFewestBits}
use Rattle.lx_arena.specs.Lower.{EachLower}
use Rattle.lx_arena.proofs.Places.{by_places, get_front, lower_at}
use Rattle.lx_circuit.specs.Places.{At, Values}
use Rattle.lx_circuit.specs.Terms.{Term}
use Rattle.lx_circuit.specs.Shapes.{Shapes, shape_of}
use Rattle.lx_circuit.specs.Statements as tree
use Rattle.lx_circuit.specs.Reads.{names, some_names}
use Rattle.lx_circuit.specs.Locality.{TermSame, target_mentions, targets_mention}
use Rattle.lx_circuit.specs.Memories as memory
use Rattle.lx_circuit.specs.Circuit as circuit
use Rattle.lx_circuit.proofs.Locality.{term_same}
use Rattle.lx_circuit.proofs.BlockLocality.{TargetSame, target_alike, below_alike}
use Rattle.lx_fhdl.specs.Below.{ExprId, TargetId, expr_below, target_below, all_targets_below}
use Rattle.lx_fhdl.specs.Designs as design
use Rattle.lx_fhdl.specs.Designs.{circuit_of, made_of, memory_at, memory_of, shapes}
use Rattle.lx_fhdl.specs.Keeping.{ArenasKeep, EachOf, HasDomain, HasPlainIndex, IsAddress, IsPort, IsUnsigned, NamesThere, PortStands, TargetStands, WriterStands, is_clocked}
use Rattle.lx_fhdl.specs.Drafts.{DraftKeeps, HaveDomains, IsDraftPort, PartsStay, Stays, domains_to}
use Rattle.lx_fhdl.specs.Nodes.{EachChild, EachPlace}
use Rattle.lx_fhdl.specs.Stmts.{node_target, target_at, targets_at}
use Rattle.lx_fhdl.specs.Trees.{node_term, term_at, terms_at}
use Rattle.lx_fhdl.specs.declared.design.Design.{Design}
use Rattle.lx_fhdl.specs.declared.design.Memory.{Memory}
use Rattle.lx_fhdl.specs.declared.design.Port.{Port}
use Rattle.lx_fhdl.specs.declared.design.Signal.{Signal}
use Rattle.lx_fhdl.specs.declared.exprs.Expr.{Expr}
use Rattle.lx_fhdl.specs.declared.exprs.Expr.TheVariants.{Const, Sig, Unary, Binary, Mux, Cat, Pick, Replicate, Slice, Fetch}
use Rattle.lx_fhdl.specs.declared.exprs.SigId.{SigId}
use Rattle.lx_fhdl.specs.declared.stmts.Stmt.{Stmt}
use Rattle.lx_fhdl.specs.declared.stmts.Target.{Target}
use Rattle.lx_fhdl.specs.declared.stmts.Target.TheVariants as target
use Rattle.lx_fhdl.proofs.Designs.{children_of}
use Rattle.lx_fhdl.proofs.StmtTrees.{target_at-is}
use Rattle.lx_fhdl.proofs.Trees.{term_at-is}

either : (a b : Bool) (P : Type 0) → (a ≡ true → P) → (b ≡ true → P) → (a || b) ≡ true → P
either a b P f g e =
    elim (or_cases a b e) [
      | inl p ↦ f p
      | inr p ↦ g p
    ]

-- ---- the signals that an expression names

-- they are among the first n
abbrev NamesOnly : ℕ → Term → Type 0
NamesOnly n t = (x : ℕ) → names (At x) t ≡ true → x < n

terms_name : (n : ℕ) (t : ℕ → Term) (is : List ExprId) → EachPlace (λ j. NamesOnly n (t j)) is → (x : ℕ) → some_names (At x) (terms_at t is) ≡ true → x < n
terms_name n t [] h x e = absurd (cc)
terms_name n t (i ∷ is) h x e = either (names (At x) (t i.place)) (some_names (At x) (terms_at t is)) (x < n) (h.0 x) (terms_name n t is h.1 x) e

node_names : (n : ℕ) (ms : List Memory) (t : ℕ → Term) (y : Expr) → NamesThere n ms y → EachChild (λ j. NamesOnly n (t j)) y → NamesOnly n (node_term t y)
node_names n ms t (Const value bits signed) a h x e = absurd (cc)
node_names n ms t (Sig y) a h x e = omega (arith, a, eqb-true y.0 x e)
node_names n ms t (Unary op of) a h x e = h x e
node_names n ms t (Binary op left right) a h x e = either (names (At x) (t left.place)) (names (At x) (t right.place)) (x < n) (h.0 x) (h.1 x) e
node_names n ms t (Mux cond then_ else_) a h x e =
    let both = names (At x) (t then_.place) || names (At x) (t else_.place) in
    either (names (At x) (t cond.place)) both (x < n) (h.0 x) (λ p. either (names (At x) (t then_.place)) (names (At x) (t else_.place)) (x < n) (h.1.0 x) (h.1.1 x) p) e
node_names n ms t (Cat parts) a h x e = terms_name n t parts h x e
node_names n ms t (Pick items index) a h x e = either (some_names (At x) (terms_at t items)) (names (At x) (t index.place)) (x < n) (terms_name n t items h.0 x) (h.1 x) e
node_names n ms t (Replicate of count) a h x e = h x e
node_names n ms t (Slice of low high) a h x e = h x e
node_names n ms t (Fetch memory width at) a h x e = h x e

names_at : (n : ℕ) (ms : List Memory) (xs : List Expr) → EachLower expr_below xs → ((k : ℕ) (x : Expr) → slice_get xs k ≡ Some x → NamesThere n ms x) → (k : ℕ) → k < length xs → NamesOnly n (term_at xs k)
names_at n ms xs low named = by_places (λ k. NamesOnly n (term_at xs k)) xs (λ k x found below.
    subst (λ (t : Term). NamesOnly n t) (sym (term_at-is xs low k x found))
    (node_names n ms (term_at xs) x (named k x found) (children_of (λ j. NamesOnly n (term_at xs j)) xs low k x found below)))

-- ---- the signals that a target mentions

abbrev MentionsOnly : ℕ → tree.Target → Type 0
MentionsOnly n t = (x : ℕ) → target_mentions (At x) t ≡ true → x < n

targets_only : (n k : ℕ) (g : ℕ → tree.Target) (is : List TargetId) → all_targets_below k is ≡ true → ((j : ℕ) → j < k → MentionsOnly n (g j)) → (x : ℕ) → targets_mention (At x) (targets_at g is) ≡ true → x < n
targets_only n k g [] l h x e = absurd (cc)
targets_only n k g (i ∷ is) l h x e =
    let p = and_parts (nat_lt i.place k) (all_targets_below k is) l in
    either (target_mentions (At x) (g i.place)) (targets_mention (At x) (targets_at g is)) (x < n) (h i.place (ltb-true i.place k p.0) x) (targets_only n k g is p.1 h x) e

node_only : (s : Shapes) (n k : ℕ) (xs : List Expr) (g : ℕ → tree.Target) (y : Target) → TargetStands s n xs y → ((j : ℕ) → j < length xs → NamesOnly n (term_at xs j)) → target_below y k ≡ true
    → ((j : ℕ) → j < k → MentionsOnly n (g j)) → MentionsOnly n (node_target (term_at xs) g y)
node_only s n k xs g (target.Whole y) a f l h x e = omega (arith, a, eqb-true y.0 x e)
node_only s n k xs g (target.Part y low len) a f l h x e = omega (arith, a.0, eqb-true y.0 x e)
node_only s n k xs g (target.Cat parts) a f l h x e = targets_only n k g parts l h x e
node_only s n k xs g (target.Pick items index) a f l h x e =
    either (targets_mention (At x) (targets_at g items)) (names (At x) (term_at xs index.place)) (x < n) (targets_only n k g items l h x) (f index.place a.1 x) e

mentions_at : (s : Shapes) (n : ℕ) (ms : List Memory) (xs : List Expr) (ts : List Target) → EachLower expr_below xs → EachLower target_below ts → ((k : ℕ) (x : Expr) → slice_get xs k ≡ Some x → NamesThere n ms x)
    → ((k : ℕ) (x : Target) → slice_get ts k ≡ Some x → TargetStands s n xs x) → (k : ℕ) → k < length ts → MentionsOnly n (target_at (term_at xs) ts k)
mentions_at s n ms xs ts low lower named stand = by_places (λ k. MentionsOnly n (target_at (term_at xs) ts k)) ts (λ k x found below.
    subst (λ (t : tree.Target). MentionsOnly n t) (sym (target_at-is (term_at xs) ts lower k x found))
    (node_only s n k xs (target_at (term_at xs) ts) x (stand k x found) (names_at n ms xs low named) (lower_at target_below ts lower k x found) below))

-- ---- sizes

no_values : Values
no_values p = pos 0

term_kept : (n : ℕ) (s t : Shapes) (e : Term) → ((x : ℕ) → x < n → t x ≡ s x) → NamesOnly n e → TermSame t s no_values no_values e
term_kept n s t e h only =
    term_same t s no_values no_values e (below_alike n t s no_values no_values (λ y. names y e) only h (record { signals = λ x l. refl; words = λ m k. refl }))

target_kept : (n : ℕ) (s t : Shapes) (e : tree.Target) → ((x : ℕ) → x < n → t x ≡ s x) → MentionsOnly n e → TargetSame t s no_values no_values e
target_kept n s t e h only =
    target_alike t s no_values no_values e (below_alike n t s no_values no_values (λ y. target_mentions y e) only h (record { signals = λ x l. refl; words = λ m k. refl }))

-- ---- arenas over more signals and memories

-- more signals and memories, of which the old ones are the same
pub record Wider (s t : Shapes) (n m : ℕ) (ms ns : List Memory) : Type 0 where
  pub longer : n ≤ m
  pub shapes : (x : ℕ) → x < n → t x ≡ s x
  pub memories : (k : ℕ) (y : Memory) → slice_get ms k ≡ Some y → slice_get ns k ≡ Some y

memory_there : (o p : Option Memory) (P : Memory → Type 0) → ((y : Memory) → o ≡ Some y → p ≡ Some y) → IsSomeAnd o P → IsSomeAnd p P
memory_there None p P f h = absurd h
memory_there (Some y) p P f h = subst (λ (q : Option Memory). IsSomeAnd q P) (sym (f y refl)) h

named_wider : (n m : ℕ) (ms ns : List Memory) (x : Expr) → n ≤ m → ((k : ℕ) (y : Memory) → slice_get ms k ≡ Some y → slice_get ns k ≡ Some y) → NamesThere n ms x → NamesThere m ns x
named_wider n m ms ns (Const value bits signed) l f h = tt
named_wider n m ms ns (Sig x) l f h = omega (arith, h)
named_wider n m ms ns (Unary op of) l f h = tt
named_wider n m ms ns (Binary op left right) l f h = tt
named_wider n m ms ns (Mux cond then_ else_) l f h = tt
named_wider n m ms ns (Cat parts) l f h = tt
named_wider n m ms ns (Pick items index) l f h = tt
named_wider n m ms ns (Replicate of count) l f h = tt
named_wider n m ms ns (Slice of low high) l f h = tt
named_wider n m ms ns (Fetch memory width at) l f h = memory_there (slice_get ms memory) (slice_get ns memory) (λ (y : Memory). width ≡ y.width) (f memory) h

-- the shapes at all places below n are the same
abbrev pub SameShapes : Shapes → Shapes → List Expr → List Expr → ℕ → Type 0
SameShapes s t xs ys n = (k : ℕ) → k < n → shape_of t (term_at ys k) ≡ shape_of s (term_at xs k)

pub index_kept : (s t : Shapes) (n : ℕ) (xs ys : List Expr) (x : Expr) → SameShapes s t xs ys n → EachChild (λ j. j < n) x → HasPlainIndex s xs x → HasPlainIndex t ys x
index_kept s t n xs ys (Const value bits signed) e c h = tt
index_kept s t n xs ys (Sig x) e c h = tt
index_kept s t n xs ys (Unary op of) e c h = tt
index_kept s t n xs ys (Binary op left right) e c h = tt
index_kept s t n xs ys (Mux cond then_ else_) e c h = tt
index_kept s t n xs ys (Cat parts) e c h = tt
index_kept s t n xs ys (Pick items index) e c h = tt
index_kept s t n xs ys (Replicate of count) e c h = tt
index_kept s t n xs ys (Slice of low high) e c h = tt
index_kept s t n xs ys (Fetch memory width at) e c h = ap (λ (a : Shape). a.signed) (e at.place c) ∙ h

-- the indices of all nodes, where the shapes at their places are the same
pub indices_kept : (s t : Shapes) (xs ys : List Expr) → EachLower expr_below xs → SameShapes s t xs ys (length xs) → ((k : ℕ) (x : Expr) → slice_get xs k ≡ Some x → HasPlainIndex s xs x)
    → (k : ℕ) (x : Expr) → slice_get xs k ≡ Some x → HasPlainIndex t ys x
indices_kept s t xs ys low same has k x e =
    let within = slice_get_within xs k x e in
    index_kept s t (length xs) xs ys x same (children_of (λ j. j < length xs) xs low k x e (λ j l. omega arith)) (has k x e)

pub stands_kept : (s t : Shapes) (n m : ℕ) (xs ys : List Expr) (x : Target) → n ≤ m → length xs ≤ length ys → ((y : ℕ) → y < n → t y ≡ s y) → SameShapes s t xs ys (length xs) → TargetStands s n xs x → TargetStands t m ys x
stands_kept s t n m xs ys (target.Whole x) l g f e h = omega (arith, l, h)
stands_kept s t n m xs ys (target.Part x low len) l g f e h = (omega (arith, l, h.0), h.1, omega (arith, h.2, ap (λ (a : Shape). a.bits) (f x.0 h.0)))
stands_kept s t n m xs ys (target.Cat parts) l g f e h = h
stands_kept s t n m xs ys (target.Pick items index) l g f e h = (h.0, omega (arith, g, h.1), ap (λ (a : Shape). a.signed) (e index.place h.1) ∙ h.2)

-- expressions and targets of an arena have the same sizes
same_terms : (s t : Shapes) (n m : ℕ) (ms ns : List Memory) (xs : List Expr) (ts : List Target) (ss : List Stmt) → Wider s t n m ms ns → ArenasKeep s n ms xs ts ss
    → (k : ℕ) → k < length xs → TermSame t s no_values no_values (term_at xs k)
same_terms s t n m ms ns xs ts ss w keep k l = term_kept n s t (term_at xs k) w.shapes (names_at n ms xs keep.exprs_lower keep.named k l)

same_targets : (s t : Shapes) (n m : ℕ) (ms ns : List Memory) (xs : List Expr) (ts : List Target) (ss : List Stmt) → Wider s t n m ms ns → ArenasKeep s n ms xs ts ss
    → (k : ℕ) → k < length ts → tree.target_bits t (target_at (term_at xs) ts k) ≡ tree.target_bits s (target_at (term_at xs) ts k)
same_targets s t n m ms ns xs ts ss w keep k l =
    (target_kept n s t (target_at (term_at xs) ts k) w.shapes (mentions_at s n ms xs ts keep.exprs_lower keep.targets_lower keep.named keep.targets k l)).bits

pub arenas_wider : (s t : Shapes) (n m : ℕ) (ms ns : List Memory) (xs : List Expr) (ts : List Target) (ss : List Stmt) → Wider s t n m ms ns → ArenasKeep s n ms xs ts ss → ArenasKeep t m ns xs ts ss
arenas_wider s t n m ms ns xs ts ss w keep =
    let same = same_terms s t n m ms ns xs ts ss w keep in
    let sizes : SameShapes s t xs xs (length xs) = λ k l. (same k l).shape in
    record {
      exprs_lower = keep.exprs_lower;
      targets_lower = keep.targets_lower;
      stmts_lower = keep.stmts_lower;
      shaped = λ k l. (same k l).fault ∙ keep.shaped k l;
      operands = keep.operands;
      parts = keep.parts;
      named = λ k x e. named_wider n m ms ns x w.longer w.memories (keep.named k x e);
      indices = indices_kept s t xs xs keep.exprs_lower sizes keep.indices;
      targets = λ k x e. stands_kept s t n m xs xs x w.longer (omega arith) w.shapes sizes (keep.targets k x e);
      target_bits = λ k l. omega (arith, same_targets s t n m ms ns xs ts ss w keep k l, keep.target_bits k l);
      stmts = keep.stmts;
    }

-- ---- designs over more signals and memories

pub record IsWider (d e : Design) : Type 0 where
  pub arenas : Wider (shapes d) (shapes e) (length d.signals) (length e.signals) d.memories e.memories
  pub memories_more : length d.memories ≤ length e.memories
  pub memories : (m : ℕ) → m < length d.memories → memory_at e m ≡ memory_at d m

-- with the same signals and memories
pub wider_same : (d e : Design) → e.signals ≡ d.signals → e.memories ≡ d.memories → IsWider d e
unfolding circuit_of
wider_same d e p q = record {
  arenas = record {
    longer = omega (arith, ap (λ (ss : List Signal). length ss) p);
    shapes = λ x l. ap (λ (ss : List Signal). (slice_index_or (map made_of ss) x circuit.nothing).shape) p;
    memories = λ k y h. ap (λ (ms : List Memory). slice_get ms k) q ∙ h;
  };
  memories_more = omega (arith, ap (λ (ms : List Memory). length ms) q);
  memories = λ m l. ap (λ (ms : List Memory). slice_index_or (map memory_of ms) m circuit.no_memory) q;
}

front : {X Y : Type 0} (f : X → Y) (xs ys : List X) (k : ℕ) (y : Y) → k < length xs → slice_index_or (map f (xs ++ ys)) k y ≡ slice_index_or (map f xs) k y
front f [] ys k y l = absurd (omega arith)
front f (x ∷ xs) ys zero y l = refl
front f (x ∷ xs) ys (suc k) y l = front f xs ys k y (omega arith)

pub wider_signal : (d : Design) (x : Signal) → IsWider d (record d { signals = d.signals ++ x ∷ [] })
unfolding circuit_of
wider_signal d x = record {
  arenas = record {
    longer = omega (arith, length_push d.signals x);
    shapes = λ y l. ap (λ (m : circuit.Made). m.shape) (front made_of d.signals (x ∷ []) y circuit.nothing l);
    memories = λ k y h. h;
  };
  memories_more = omega arith;
  memories = λ m l. refl;
}

pub wider_memory : (d : Design) (x : Memory) → IsWider d (record d { memories = d.memories ++ x ∷ [] })
unfolding circuit_of
wider_memory d x = record {
  arenas = record {
    longer = omega arith;
    shapes = λ y l. refl;
    memories = λ k y h. get_front d.memories (x ∷ []) k (slice_get_within d.memories k y h) ∙ h;
  };
  memories_more = omega (arith, length_push d.memories x);
  memories = λ m l. front memory_of d.memories (x ∷ []) m circuit.no_memory l;
}

-- ---- what stays

-- the second list begins with the first
abbrev pub Begins : {T : Type 0} → List T → List T → Type 0
Begins xs ys = (length xs ≤ length ys) × ((k : ℕ) → k < length xs → slice_get ys k ≡ slice_get xs k)

pub begins_same : {T : Type 0} (xs : List T) → Begins xs xs
begins_same xs = (omega arith, λ k l. refl)

pub begins_more : {T : Type 0} (xs : List T) (y : T) → Begins xs (xs ++ y ∷ [])
begins_more xs y = (omega (arith, length_push xs y), λ k l. get_front xs (y ∷ []) k l)

pub parts_stay : (d e : Design) → IsWider d e → ArenasKeep (shapes d) (length d.signals) d.memories d.exprs d.targets d.stmts → Stays d e → Begins d.memories e.memories → Begins d.ports e.ports → PartsStay d e
parts_stay d e w keep stays f g = record {
  memories_more = f.0;
  memories = f.1;
  ports_more = g.0;
  ports = g.1;
  signal_shapes = w.arenas.shapes;
  expr_shapes = λ k l.
      ap (shape_of (shapes e)) (stays.terms k l)
      ∙ (same_terms (shapes d) (shapes e) (length d.signals) (length e.signals) d.memories e.memories d.exprs d.targets d.stmts w.arenas keep k l).shape;
  target_bits = λ k l.
      ap (tree.target_bits (shapes e)) (stays.target_trees k l)
      ∙ same_targets (shapes d) (shapes e) (length d.signals) (length e.signals) d.memories e.memories d.exprs d.targets d.stmts w.arenas keep k l;
}

-- a draft that grows by nodes alone keeps all of this
pub parts_same : (d e : Design) → DraftKeeps d → Stays d e → e.signals ≡ d.signals → e.memories ≡ d.memories → e.ports ≡ d.ports → PartsStay d e
parts_same d e keep stays p q r =
    parts_stay d e (wider_same d e p q) keep.arenas stays
    (subst (λ (ms : List Memory). Begins d.memories ms) (sym q) (begins_same d.memories))
    (subst (λ (qs : List Port). Begins d.ports qs) (sym r) (begins_same d.ports))

pub parts_then : (x y z : Design) → Stays x y → PartsStay x y → PartsStay y z → PartsStay x z
parts_then x y z s g h = record {
  memories_more = omega (arith, g.memories_more, h.memories_more);
  memories = λ k l. h.memories k (omega (arith, l, g.memories_more)) ∙ g.memories k l;
  ports_more = omega (arith, g.ports_more, h.ports_more);
  ports = λ k l. h.ports k (omega (arith, l, g.ports_more)) ∙ g.ports k l;
  signal_shapes = λ k l. h.signal_shapes k (omega (arith, l, s.signals_more)) ∙ g.signal_shapes k l;
  expr_shapes = λ k l. h.expr_shapes k (omega (arith, l, s.exprs)) ∙ g.expr_shapes k l;
  target_bits = λ k l. h.target_bits k (omega (arith, l, s.targets)) ∙ g.target_bits k l;
}

-- ---- ports

unsigned_wider : (d e : Design) (n : ℕ) (x : SigId) → IsWider d e → IsUnsigned d n x → IsUnsigned e n x
unsigned_wider d e n x w h = record { there = omega (arith, h.there, w.arenas.longer); shape = w.arenas.shapes x.0 h.there ∙ h.shape }

some_wider : (d e : Design) (n : ℕ) (o : Option SigId) → IsWider d e → IfSome o (IsUnsigned d n) → IfSome o (IsUnsigned e n)
some_wider d e n None w h = tt
some_wider d e n (Some x) w h = unsigned_wider d e n x w h

address_wider : (d e : Design) (depth : ℕ) (x : SigId) → IsWider d e → IsAddress d depth x → IsAddress e depth x
address_wider d e depth x w h =
    let same = w.arenas.shapes x.0 h.there in
    record {
      there = omega (arith, h.there, w.arenas.longer);
      plain = ap (λ (a : Shape). a.signed) same ∙ h.plain;
      fewest = subst (λ (a : Shape). IsFewestBits (pos (depth - 1)) a.bits) (sym same) h.fewest;
    }

writer_wider : (d e : Design) (width part : ℕ) (o p : Option SigId) → IsWider d e → WriterStands d width part o p → WriterStands e width part o p
writer_wider d e width part (Some x) (Some y) w h = (unsigned_wider d e width x w h.0, unsigned_wider d e (width / part) y w h.1)
writer_wider d e width part (Some x) None w h = absurd h
writer_wider d e width part None (Some y) w h = absurd h
writer_wider d e width part None None w h = tt

port_wider : (n : ℕ) (d e : Design) (q : Port) → IsWider d e → PortStands n d q → PortStands n e q
port_wider n d e q w h =
    let same = sym (w.memories q.memory h.memory) in
    record {
      memory = omega (arith, h.memory, w.memories_more);
      domain = h.domain;
      adr = subst (λ (m : memory.Memory). IsAddress e m.depth q.adr) same (address_wider d e (memory_at d q.memory).depth q.adr w h.adr);
      dat_r = subst (λ (m : memory.Memory). IfSome q.dat_r (IsUnsigned e m.width)) same (some_wider d e (memory_at d q.memory).width q.dat_r w h.dat_r);
      writer = subst (λ (m : memory.Memory). WriterStands e m.width q.part q.dat_w q.we) same (writer_wider d e (memory_at d q.memory).width q.part q.dat_w q.we w h.writer);
      part_some = h.part_some;
      parts = subst (λ (m : memory.Memory). m.width % q.part ≡ 0) same h.parts;
    }

pub ports_wider : (d e : Design) (qs : List Port) → IsWider d e → EachOf (IsDraftPort d) qs → EachOf (IsDraftPort e) qs
ports_wider d e [] w h = tt
ports_wider d e (q ∷ qs) w h = (port_wider (domains_to q.domain) d e q w h.0, ports_wider d e qs w h.1)

-- a port's domain is there
named_domain : (n : ℕ) (b : Bool) (o : Option ℕ) → domains_to o ≤ n → HasDomain (domains_to o) b o → HasDomain n b o
named_domain n true None l h = absurd h
named_domain n true (Some k) l h = omega (arith, l, h)
named_domain n false o l h = h

pub ports_stand : (d : Design) (qs : List Port) → EachOf (IsDraftPort d) qs → HaveDomains (length d.domains) qs → EachOf (IsPort d) qs
ports_stand d [] h l = tt
ports_stand d (q ∷ qs) h l = (
  record {
    memory = h.0.memory;
    domain = named_domain (length d.domains) (is_clocked q.mode q.we) q.domain l.0 h.0.domain;
    adr = h.0.adr;
    dat_r = h.0.dat_r;
    writer = h.0.writer;
    part_some = h.0.part_some;
    parts = h.0.parts;
  },
  ports_stand d qs h.1 l.1,
)

-- ---- lists

pub one_of : {T : Type 0} (P : T → Type 0) (xs : List T) (y : T) → EachOf P xs → P y → EachOf P (xs ++ y ∷ [])
one_of P [] y h p = (p, tt)
one_of P (x ∷ xs) y h p = (h.0, one_of P xs y h.1 p)
