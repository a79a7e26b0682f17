-- The rows of expressions name what the expressions do.
use Rattle.std.proofs.Common.{◌≡◌, ℕ, ◌+◌, ◌<◌, Bool, true, ◌||◌, ◌&&◌, List, [], ◌∷◌, ◌++◌, length, map, Some, refl, sym, ap, subst, ◌∙◌, arith, nat_lt}
use Rattle.std.specs.Prelude.{slice_get}
use Rattle.std.proofs.lemmas.Bool.{and_from, and_parts, ltb-true, lt-ltb}
use Rattle.std.proofs.lemmas.List.{length_push}
use Rattle.lx_arena.proofs.Places.{lower_at, lower_more, places_more}
use Rattle.lx_circuit.specs.Places.{At}
use Rattle.lx_circuit.specs.Reads.{names, some_names}
use Rattle.lx_circuit.specs.Terms.{Term}
use Rattle.lx_fhdl.specs.Below.{ExprId, all_below, expr_below}
use Rattle.lx_fhdl.specs.Designs.{term}
use Rattle.lx_fhdl.specs.Keeping.{Keeps, NamesThere}
use Rattle.lx_fhdl.specs.Trees.{node_term, terms_at}
use Rattle.lx_fhdl.specs.declared.design.Design.{Design}
use Rattle.lx_fhdl.specs.declared.design.Memory.{Memory}
use Rattle.lx_fhdl.specs.declared.exprs.Expr.{Expr}
use Rattle.lx_fhdl.specs.declared.exprs.Expr.TheVariants.{Const, Sig, Unary, Binary, Mux, Cat, Pick, Replicate, Slice, Fetch}
use Rattle.lx_fhdl.proofs.Trees.{term_at-is}
use Rattle.lx_reads.specs.Net.{AreExprRows, expr_row, hits, inner, link_hits, row_below, row_hits}
use Rattle.lx_reads.proofs.Hits.{below_append, below_one, hits_front, hits_last, link_inner, link_signal, row_append, row_one}

-- what is named so far: f says it by rows, t has the trees
abbrev Names : ℕ → (ℕ → Bool) → (ℕ → Term) → ℕ → Type 0
Names y f t k = (j : ℕ) → j < k → f j ≡ names (At y) (t j)

one_names : (n y : ℕ) (f : ℕ → Bool) (t : ℕ → Term) (k : ℕ) (id : ExprId) → Names y f t k → nat_lt id.place k ≡ true → link_hits n y f (inner n id) ≡ names (At y) (t id.place)
one_names n y f t k id h l = link_inner n y f id.place ∙ h id.place (ltb-true id.place k l)

last_names : (n y : ℕ) (f : ℕ → Bool) (t : ℕ → Term) (k : ℕ) (id : ExprId) → Names y f t k → nat_lt id.place k ≡ true → row_hits n y f (inner n id ∷ []) ≡ names (At y) (t id.place)
last_names n y f t k id h l = row_one n y f (inner n id) ∙ one_names n y f t k id h l

all_names : (n y : ℕ) (f : ℕ → Bool) (t : ℕ → Term) (k : ℕ) (ids : List ExprId) → Names y f t k → all_below k ids ≡ true → row_hits n y f (map (inner n) ids) ≡ some_names (At y) (terms_at t ids)
all_names n y f t k [] h l = refl
all_names n y f t k (i ∷ is) h l =
    let p = and_parts (nat_lt i.place k) (all_below k is) l in
    ap (λ (b : Bool). b || row_hits n y f (map (inner n) is)) (one_names n y f t k i h p.0)
    ∙ ap (λ (b : Bool). names (At y) (t i.place) || b) (all_names n y f t k is h p.1)

node_names : (n y : ℕ) (memories : List Memory) (f : ℕ → Bool) (t : ℕ → Term) (k : ℕ) (x : Expr) → Names y f t k → expr_below x k ≡ true → NamesThere n memories x
    → row_hits n y f (expr_row n x) ≡ names (At y) (node_term t x)
node_names n y ms f t k (Const value bits signed) h l e = refl
node_names n y ms f t k (Sig x) h l e = row_one n y f x.0 ∙ link_signal n y f x.0 e
node_names n y ms f t k (Unary op of) h l e = last_names n y f t k of h l
node_names n y ms f t k (Binary op left right) h l e =
    let p = and_parts (nat_lt left.place k) (nat_lt right.place k) l in
    ap (λ (b : Bool). b || row_hits n y f (inner n right ∷ [])) (one_names n y f t k left h p.0)
    ∙ ap (λ (b : Bool). names (At y) (t left.place) || b) (last_names n y f t k right h p.1)
node_names n y ms f t k (Mux cond then_ else_) h l e =
    let p = and_parts (nat_lt cond.place k) (nat_lt then_.place k && nat_lt else_.place k) l in
    let q = and_parts (nat_lt then_.place k) (nat_lt else_.place k) p.1 in
    ap (λ (b : Bool). b || row_hits n y f (inner n then_ ∷ inner n else_ ∷ [])) (one_names n y f t k cond h p.0)
    ∙ ap (λ (b : Bool). names (At y) (t cond.place) || (b || row_hits n y f (inner n else_ ∷ []))) (one_names n y f t k then_ h q.0)
    ∙ ap (λ (b : Bool). names (At y) (t cond.place) || (names (At y) (t then_.place) || b)) (last_names n y f t k else_ h q.1)
node_names n y ms f t k (Cat parts) h l e = all_names n y f t k parts h l
node_names n y ms f t k (Pick items index) h l e =
    let p = and_parts (all_below k items) (nat_lt index.place k) l in
    row_append n y f (map (inner n) items) (inner n index ∷ [])
    ∙ ap (λ (b : Bool). b || row_hits n y f (inner n index ∷ [])) (all_names n y f t k items h p.0)
    ∙ ap (λ (b : Bool). some_names (At y) (terms_at t items) || b) (last_names n y f t k index h p.1)
node_names n y ms f t k (Replicate of count) h l e = last_names n y f t k of h l
node_names n y ms f t k (Slice of low high) h l e = last_names n y f t k of h l
node_names n y ms f t k (Fetch memory width at) h l e = last_names n y f t k at h l

-- ---- rows are lower

pub inner_below : (n : ℕ) (id : ExprId) (k : ℕ) → nat_lt id.place k ≡ true → nat_lt (inner n id) (n + k) ≡ true
inner_below n id k l = let h = ltb-true id.place k l in lt-ltb (n + id.place) (n + k) (omega arith)

last_below : (n : ℕ) (id : ExprId) (k : ℕ) → nat_lt id.place k ≡ true → row_below n (inner n id ∷ []) k ≡ true
last_below n id k l = and_from (nat_lt (inner n id) (n + k)) true (inner_below n id k l) refl

all_inner_below : (n : ℕ) (ids : List ExprId) (k : ℕ) → all_below k ids ≡ true → row_below n (map (inner n) ids) k ≡ true
all_inner_below n [] k l = refl
all_inner_below n (i ∷ is) k l =
    let p = and_parts (nat_lt i.place k) (all_below k is) l in
    and_from (nat_lt (inner n i) (n + k)) (row_below n (map (inner n) is) k) (inner_below n i k p.0) (all_inner_below n is k p.1)

node_lower : (n : ℕ) (memories : List Memory) (k : ℕ) (x : Expr) → expr_below x k ≡ true → NamesThere n memories x → row_below n (expr_row n x) k ≡ true
node_lower n ms k (Const value bits signed) l e = refl
node_lower n ms k (Sig x) l e = let h : x.0 < n = e in below_one n x.0 k (omega arith)
node_lower n ms k (Unary op of) l e = last_below n of k l
node_lower n ms k (Binary op left right) l e =
    let p = and_parts (nat_lt left.place k) (nat_lt right.place k) l in
    and_from (nat_lt (inner n left) (n + k)) (row_below n (inner n right ∷ []) k) (inner_below n left k p.0) (last_below n right k p.1)
node_lower n ms k (Mux cond then_ else_) l e =
    let p = and_parts (nat_lt cond.place k) (nat_lt then_.place k && nat_lt else_.place k) l in
    let q = and_parts (nat_lt then_.place k) (nat_lt else_.place k) p.1 in
    and_from (nat_lt (inner n cond) (n + k)) (row_below n (inner n then_ ∷ inner n else_ ∷ []) k) (inner_below n cond k p.0)
    (and_from (nat_lt (inner n then_) (n + k)) (row_below n (inner n else_ ∷ []) k) (inner_below n then_ k q.0) (last_below n else_ k q.1))
node_lower n ms k (Cat parts) l e = all_inner_below n parts k l
node_lower n ms k (Pick items index) l e =
    let p = and_parts (all_below k items) (nat_lt index.place k) l in
    below_append n (map (inner n) items) (inner n index ∷ []) k (all_inner_below n items k p.0) (last_below n index k p.1)
node_lower n ms k (Replicate of count) l e = last_below n of k l
node_lower n ms k (Slice of low high) l e = last_below n of k l
node_lower n ms k (Fetch memory width at) l e = last_below n at k l

-- ---- all rows

pub rows_none : (d : Design) → AreExprRows d 0 []
rows_none d = record { long = refl; lower = λ k. tt; names = λ y j l. absurd (omega arith) }

-- the row of one expression more
pub rows_more : (d : Design) (k : ℕ) (rows : List (List ℕ)) (row : List ℕ) (x : Expr) → Keeps d → AreExprRows d k rows → slice_get d.exprs k ≡ Some x → row ≡ expr_row (length d.signals) x → AreExprRows d (k + 1) (rows ++ row ∷ [])
rows_more d k rows row x keeps r e is =
    let n = length d.signals in
    let below : expr_below x k ≡ true = lower_at expr_below d.exprs keeps.arenas.exprs_lower k x e in
    let there : NamesThere n d.memories x = keeps.arenas.named k x e in
    let row_is : row_below n row (length rows) ≡ true = subst (λ (z : List ℕ). row_below n z (length rows) ≡ true) (sym is) (subst (λ (m : ℕ). row_below n (expr_row n x) m ≡ true) (sym r.long) (node_lower n d.memories k x below there)) in
    let low = lower_more (row_below n) rows row r.lower row_is in
    record {
      long = length_push rows row ∙ ap (λ (m : ℕ). m + 1) r.long;
      lower = low;
      names = λ y j l.
          places_more (λ j. hits n (rows ++ row ∷ []) y j ≡ names (At y) (term d j)) k (k + 1) refl
          (λ j i. hits_front n rows row y j low (omega (arith, r.long)) ∙ r.names y j i)
          (subst (λ (m : ℕ). hits n (rows ++ row ∷ []) y m ≡ names (At y) (term d k)) r.long
          (hits_last n rows row y low row_is ∙ ap (row_hits n y (hits n rows y)) is
          ∙ node_names n y d.memories (hits n rows y) (term d) k x (r.names y) below there
          ∙ ap (names (At y)) (sym (term_at-is d.exprs keeps.arenas.exprs_lower k x e))))
          j l;
    }
