-- Rows that are turned round.
use Rattle.std.proofs.Common.{◌≡◌, ℕ, ◌+◌, ◌<◌, ◌≤◌, ◌⊎◌, inl, inr, List, [], ◌∷◌, ◌++◌, length, get_or, set, take, replicate, sym, ◌∙◌, subst, arith}
use Rattle.std.specs.List.{All, Contains}
use Rattle.std.proofs.lemmas.Bool.{cases_lt, cases_eq}
use Rattle.std.proofs.lemmas.List.{take_more, take_all, length-set, length-replicate, get_or-set_same, get_or-set_other, get_or_default, get_or_read}
use Rattle.std.proofs.lemmas.List.Elements.{Contains-get_or, Contains-push, Contains-push_cases, Contains-append_left}
use Rattle.lx_graph.specs.Graph.{Nodes, row, Reads, IsGraph}
use Rattle.lx_graph.specs.Levels.{AreReaders, ArePartly}
use Rattle.lx_graph.proofs.Rows.{none_in, along_row, empty_row, nothing, reads_node}

abbrev with_reader : List (List ℕ) → ℕ → ℕ → List (List ℕ)
with_reader rows r a = set rows r (get_or rows r [] ++ a ∷ [])

added_old : (rows : List (List ℕ)) (r a s b : ℕ) → r < length rows → Contains (get_or rows s []) b → Contains (get_or (with_reader rows r a) s []) b
added_old rows r a s b l h = elim (cases_eq s r) [
  | inl e ↦
      let old : Contains (get_or rows r []) b = subst (λ (v : ℕ). Contains (get_or rows v []) b) e h in
      let at : get_or (with_reader rows r a) s [] ≡ get_or rows r [] ++ a ∷ [] = rw e (get_or-set_same rows r (get_or rows r [] ++ a ∷ []) [] l) in
      rw at (Contains-append_left (get_or rows r []) (a ∷ []) b old)
  | inr ne ↦ along_row _ _ b (sym (get_or-set_other rows r s (get_or rows r [] ++ a ∷ []) [] ne)) h
]

added_new : (rows : List (List ℕ)) (r a : ℕ) → r < length rows → Contains (get_or (with_reader rows r a) r []) a
added_new rows r a l = along_row _ _ a (sym (get_or-set_same rows r (get_or rows r [] ++ a ∷ []) [] l)) (Contains-push (get_or rows r []) a)

added_cases : (rows : List (List ℕ)) (r a s b : ℕ) → r < length rows → Contains (get_or (with_reader rows r a) s []) b →
    Contains (get_or rows s []) b ⊎ ((s ≡ r) × (a ≡ b))
added_cases rows r a s b l h = elim (cases_eq s r) [
  | inl e ↦
      let at : get_or (with_reader rows r a) s [] ≡ get_or rows r [] ++ a ∷ [] = rw e (get_or-set_same rows r (get_or rows r [] ++ a ∷ []) [] l) in
      elim (Contains-push_cases (get_or rows r []) a b (along_row _ _ b at h)) [
        | inl old ↦ inl (subst (λ (v : ℕ). Contains (get_or rows v []) b) (sym e) old)
        | inr same ↦ inr (e, same)
      ]
  | inr ne ↦ inl (along_row _ _ b (get_or-set_other rows r s (get_or rows r [] ++ a ∷ []) [] ne) h)
]

pub readers_blank : (g : Nodes) (n : ℕ) → n ≡ length g.rows → ArePartly g 0 0 (replicate n nothing)
readers_blank g n same = record {
  size = length-replicate n nothing ∙ same;
  from = λ r b h. absurd (none_in b (along_row _ [] b (empty_row n r) h));
  before = λ r b less reads. absurd (omega arith);
  here = λ r h. absurd (none_in r h);
}

-- the node at this place of the row of a
pub read_at : (g : Nodes) (a count : ℕ) → count < length (row g a) → Reads g a (get_or (row g a) count 0)
read_at g a count l = (count, l, get_or_default (row g a) count _ 0 l)

pub reader_added : (g : Nodes) (a count : ℕ) (readers : List (List ℕ)) → IsGraph g → count < length (row g a) → ArePartly g a count readers →
    ArePartly g a (count + 1) (set readers (get_or (row g a) count 0) (get_or readers (get_or (row g a) count 0) [] ++ a ∷ []))
reader_added g a count readers graph l are =
    let r = get_or (row g a) count 0 in
    let reads = read_at g a count l in
    let here : r < length readers = omega (arith, graph.nodes a r reads, are.size) in
    record {
      size = length-set readers r (get_or readers r [] ++ a ∷ []) ∙ are.size;
      from = λ s b h. elim (added_cases readers r a s b here h) [
        | inl old ↦ are.from s b old
        | inr new ↦ subst (λ (v : ℕ). Reads g b v) (sym new.0) (subst (λ (v : ℕ). Reads g v r) new.1 reads)
      ];
      before = λ s b less h. added_old readers r a s b here (are.before s b less h);
      here = λ s h. elim (Contains-push_cases (take count (row g a)) r s (along_row _ _ s (take_more (row g a) count 0 l) h)) [
        | inl old ↦ added_old readers r a s a here (are.here s old)
        | inr same ↦ subst (λ (v : ℕ). Contains (get_or (with_reader readers r a) v []) a) same (added_new readers r a here)
      ];
    }

pub readers_next : (g : Nodes) (a count : ℕ) (readers : List (List ℕ)) → length (row g a) ≤ count → ArePartly g a count readers → ArePartly g (a + 1) 0 readers
readers_next g a count readers whole are = record {
  size = are.size;
  from = are.from;
  before = λ r b less reads. elim (cases_lt b a) [
    | inl before ↦ are.before r b before reads
    | inr last ↦
        let e : b ≡ a = omega arith in
        let h : Reads g a r = subst (λ (v : ℕ). Reads g v r) e reads in
        subst (λ (v : ℕ). Contains (get_or readers r []) v) (sym e) (are.here r (along_row _ _ r (sym (take_all count (row g a) whole)) h))
  ];
  here = λ r h. absurd (none_in r h);
}

pub readers_all : (g : Nodes) (n : ℕ) (readers : List (List ℕ)) → length g.rows ≤ n → ArePartly g n 0 readers → AreReaders g readers
readers_all g n readers whole are = record {
  size = are.size;
  from = are.from;
  all = λ r a reads. are.before r a (omega (arith, reads_node g a r reads)) reads;
}

-- as the code has them

pub partly_node : (g : Nodes) (a count : ℕ) (readers : List (List ℕ)) (all : List ℕ) → IsGraph g → ArePartly g a count readers → all ≡ row g a → count < length all →
    get_or all count 0 < length readers
partly_node g a count readers all graph are e l =
    let reads = subst (λ (xs : List ℕ). Contains xs (get_or all count 0)) e (Contains-get_or all count 0 l) in
    omega (arith, graph.nodes a (get_or all count 0) reads, are.size)

pub reader_step : (g : Nodes) (a count : ℕ) (readers : List (List ℕ)) (all new : List ℕ) → IsGraph g → ArePartly g a count readers → all ≡ row g a → count < length all →
    new ≡ get_or readers (get_or all count 0) [] ++ a ∷ [] → ArePartly g a (count + 1) (set readers (get_or all count 0) new)
reader_step g a count readers all new graph are e l is =
    rw (is, e) (reader_added g a count readers graph (rw (← e) l) are)

pub readers_end : (g : Nodes) (a count : ℕ) (readers : List (List ℕ)) (all : List ℕ) → all ≡ row g a → length all ≤ count → ArePartly g a count readers → ArePartly g (a + 1) 0 readers
readers_end g a count readers all e whole are = readers_next g a count readers (rw (← e) whole) are

pub readers_at : (readers : List (List ℕ)) (read : ℕ) (x nodes : List ℕ) → read < length readers → x ≡ get_or readers read x → nodes ≡ x → nodes ≡ get_or readers read []
readers_at readers read x nodes l e same = same ∙ get_or_read readers read x l e []

pub reader_reads : (g : Nodes) (readers : List (List ℕ)) (read k : ℕ) (nodes : List ℕ) → AreReaders g readers → nodes ≡ get_or readers read [] → k < length nodes →
    Reads g (get_or nodes k 0) read
reader_reads g readers read k nodes are e l =
    are.from read (get_or nodes k 0) (along_row _ _ (get_or nodes k 0) e (Contains-get_or nodes k 0 l))

pub reader_among : (g : Nodes) (readers : List (List ℕ)) (read k : ℕ) (nodes : List ℕ) → AreReaders g readers → nodes ≡ get_or readers read [] → length nodes ≤ k →
    (a : ℕ) → Reads g a read → Contains (take k nodes) a
reader_among g readers read k nodes are e whole a reads =
    along_row _ _ a (sym (take_all k nodes whole)) (along_row _ _ a (sym e) (are.all read a reads))

pub row_below : (g : Nodes) (a : ℕ) → IsGraph g → g.plain ≤ a → All (λ r. r < a) (row g a)
row_below g a graph inner k d l = graph.lower a (get_or (row g a) k d) inner (Contains-get_or (row g a) k d l)

pub row_nodes : (g : Nodes) (a n : ℕ) → IsGraph g → n ≡ length g.rows → All (λ r. r < n) (row g a)
row_nodes g a n graph same k d l = omega (arith, graph.nodes a (get_or (row g a) k d) (Contains-get_or (row g a) k d l))
