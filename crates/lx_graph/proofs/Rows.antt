-- The rows of a graph: empty ones, one more, one longer.
use Rattle.std.proofs.Common.{◌≡◌, ℕ, zero, suc, ◌<◌, ◌⊎◌, inl, inr, List, [], ◌∷◌, ◌++◌, length, get_or, set, replicate, sym, subst, arith}
use Rattle.std.specs.List.{All, Contains}
use Rattle.std.proofs.lemmas.Bool.{cases_lt, cases_eq}
use Rattle.std.proofs.lemmas.List.{get_or-replicate, get_or_past, get_or_append_left, get_or_push, length_push, length-set, length-replicate, get_or-set_same, get_or-set_other}
use Rattle.std.proofs.lemmas.List.Elements.{All-contains, Contains-push_cases}
use Rattle.lx_graph.specs.Graph.{Nodes, row, Reads, IsGraph}

pub none_in : (b : ℕ) → Contains {X = ℕ} [] b → ⊥
none_in b h = absurd (omega (arith, h.1))

pub contains_cons : (x : ℕ) (xs : List ℕ) (b : ℕ) → Contains (x ∷ xs) b → (x ≡ b) ⊎ Contains xs b
contains_cons x xs b (zero, l, e) = inl e
contains_cons x xs b (suc k, l, e) = inr (k, omega arith, e)

pub along_row : (xs ys : List ℕ) (b : ℕ) → xs ≡ ys → Contains xs b → Contains ys b
along_row xs ys b e h = subst (λ (r : List ℕ). Contains r b) e h

-- where a is no node it reads nothing
pub reads_node : (g : Nodes) (a b : ℕ) → Reads g a b → a < length g.rows
reads_node g a b h = elim (cases_lt a (length g.rows)) [
  | inl l ↦ l
  | inr past ↦ absurd (none_in b (along_row (row g a) [] b (get_or_past g.rows a [] past) h))
]

abbrev pub nothing : List ℕ
nothing = []

pub empty_row : (n a : ℕ) → get_or (replicate n nothing) a [] ≡ []
empty_row n a = elim (cases_lt a n) [
  | inl l ↦ get_or-replicate n a nothing [] l
  | inr past ↦ get_or_past (replicate n nothing) a [] (omega (arith, length-replicate n nothing))
]

pub graph_new : (n : ℕ) → IsGraph (record { plain = n; rows = replicate n [] })
graph_new n = record {
  plain = omega (arith, length-replicate n nothing);
  nodes = λ a b h. absurd (none_in b (along_row _ [] b (empty_row n a) h));
  lower = λ a b _ h. absurd (none_in b (along_row _ [] b (empty_row n a) h));
}

pub graph_pushed : (g : Nodes) (reads : List ℕ) → IsGraph g → All (λ b. b < length g.rows) reads →
    IsGraph (record { plain = g.plain; rows = g.rows ++ reads ∷ [] })
graph_pushed g reads is below =
    let more = length_push g.rows reads in
    let cases : (a b : ℕ) → Contains (get_or (g.rows ++ reads ∷ []) a []) b → Reads g a b ⊎ ((a ≡ length g.rows) × (b < length g.rows)) =
    λ a b h. elim (cases_lt a (length g.rows)) [
      | inl l ↦ inl (along_row _ _ b (get_or_append_left g.rows (reads ∷ []) [] a l) h)
      | inr past ↦ elim (cases_eq a (length g.rows)) [
        | inl e ↦ inr (e, All-contains (λ x. x < length g.rows) reads b below (along_row _ _ b (get_or_push g.rows reads [] a (sym e)) h))
        | inr ne ↦ absurd (none_in b (along_row _ [] b (get_or_past (g.rows ++ reads ∷ []) a [] (omega arith)) h))
      ]
    ] in
    record {
      plain = omega (arith, is.plain);
      nodes = λ a b h. elim (cases a b h) [ inl old ↦ omega (arith, is.nodes a b old) | inr new ↦ omega arith ];
      lower = λ a b l h. elim (cases a b h) [ inl old ↦ is.lower a b l old | inr new ↦ omega arith ];
    }

pub graph_read : (g : Nodes) (node read : ℕ) → IsGraph g → node < g.plain → read < length g.rows →
    IsGraph (record { plain = g.plain; rows = set g.rows node (row g node ++ read ∷ []) })
graph_read g node read is l m =
    let new = row g node ++ read ∷ [] in
    let here : node < length g.rows = omega (arith, is.plain) in
    let same = length-set g.rows node new in
    let cases : (a b : ℕ) → Contains (get_or (set g.rows node new) a []) b → Reads g a b ⊎ ((a ≡ node) × (b ≡ read)) =
    λ a b h. elim (cases_eq a node) [
      | inl e ↦
          let at : get_or (set g.rows node new) a [] ≡ new = rw e (get_or-set_same g.rows node new [] here) in
          elim (Contains-push_cases (row g node) read b (along_row _ _ b at h)) [
            | inl old ↦ inl (subst (λ (v : ℕ). Reads g v b) (sym e) old)
            | inr is_new ↦ inr (e, sym is_new)
          ]
      | inr ne ↦ inl (along_row _ _ b (get_or-set_other g.rows node a new [] ne) h)
    ] in
    record {
      plain = omega (arith, is.plain);
      nodes = λ a b h. elim (cases a b h) [ inl old ↦ omega (arith, is.nodes a b old) | inr added ↦ omega arith ];
      lower = λ a b inner h. elim (cases a b h) [ inl old ↦ is.lower a b inner old | inr added ↦ omega arith ];
    }
