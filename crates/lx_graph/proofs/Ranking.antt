-- Ranks of nodes, and the searches that find them.
use Rattle.std.proofs.Common.{◌≡◌, ℕ, zero, suc, ◌+◌, ◌<◌, ◌≤◌, inl, inr, Bool, true, false, List, [], ◌∷◌, ◌++◌, Option, Some, None, length, get_or, set, take, replicate, refl, sym, ◌∙◌, ap, subst, arith}
use Rattle.std.specs.Bool.{OnTrue}
use Rattle.std.specs.List.{All, Contains}
use Rattle.std.proofs.lemmas.Option.{same_Some}
use Rattle.std.proofs.lemmas.List.{length-set, length_push, length-replicate, take_all}
use Rattle.std.proofs.lemmas.List.Sums.{sum_by_push}
use Rattle.std.proofs.lemmas.List.Elements.{All-push, All-pop, All-nil, Contains-get_or, Contains-push_cases}
use Rattle.lx_graph.specs.Graph.{Nodes, row, Reads, IsGraph}
use Rattle.lx_graph.specs.Cycle.{Walk, OnCycle}
use Rattle.lx_graph.specs.Through.{Links}
use Rattle.lx_graph.specs.Levels.{level_of}
use Rattle.lx_graph.specs.Search.{mark_of, left, steps_left}
use Rattle.lx_graph.specs.Ranks.{Rises, AllRise, AreRanks, IsLoose, Wanders, IsMet, IsOn, IsFlood, WentFlood, flood_left}
use Rattle.lx_graph.specs.declared.search.Mark.{Mark}
use Rattle.lx_graph.specs.declared.search.Mark.TheVariants.{Unseen, Open}
use Rattle.lx_graph.specs.declared.search.Frame.{Frame}
use Rattle.lx_graph.specs.declared.search.Search.{Search}
use Rattle.lx_graph.specs.declared.ranks.Flood.{Flood}
use Rattle.lx_graph.proofs.Rows.{reads_node, along_row}
use Rattle.lx_graph.proofs.Orders.{link_leads}
use Rattle.lx_graph.proofs.Searching.{down_less, along_less}
use Rattle.lx_graph.proofs.Waves.{unset_set, unlevelled}

-- no walk leads to a lower rank
walk_rises : (g : Nodes) (ranks : List (Option ℕ)) (a b n low : ℕ) → AreRanks g ranks → level_of ranks a ≡ Some low → Walk (Reads g) a b n →
    (high : ℕ) × (level_of ranks b ≡ Some high) × (low ≤ high)
walk_rises g ranks a b zero low are at e = (low, ap (λ (v : ℕ). level_of ranks v) (sym e) ∙ at, omega arith)
walk_rises g ranks a b (suc n) low are at (c, reads, w) =
    let r = are a (reads_node g a c reads) c reads in
    let h = walk_rises g ranks c b n r.high are r.above w in
    (h.0, h.1, omega (arith, h.2, r.rises, same_Some low r.low (sym at ∙ r.below)))

-- who reads nodes of higher ranks alone lies on no cycle
pub off_cycles : (g : Nodes) (ranks : List (Option ℕ)) (a : ℕ) → AreRanks g ranks → AllRise g ranks true a → OnCycle (Links g) a → ⊥
off_cycles g ranks a are rise (n, w) =
    let leads = link_leads g a a n w in
    let r = rise leads.1.0 leads.1.1 in
    let h = walk_rises g ranks leads.1.0 a leads.0 r.high are r.above leads.1.2 in
    absurd (omega (arith, r.lower refl, h.2, same_Some h.0 r.low (sym h.1 ∙ r.below)))

-- a node that was not met is put on the stack
pub met : (g : Nodes) (s t : Search) (a : ℕ) → Wanders g s → a < length g.rows → mark_of s.marks.items a ≡ Unseen →
    t.marks.items ≡ set s.marks.items a Open → t.stack.items ≡ s.stack.items ++ record { node = a; next = 0 } ∷ [] → t.order ≡ s.order → IsMet g s t
met g s t a is l new marks stack order = record {
  wanders = record {
    size = rw marks (length-set s.marks.items a Open ∙ is.size);
    frames = rw stack (All-push (λ (f : Frame). f.node < length g.rows) s.stack.items (record { node = a; next = 0 }) is.frames l);
    nodes = rw order is.nodes;
  };
  left = rw (marks, stack) (let h = down_less g s.marks.items s.stack.items a is.size l new in omega arith);
}

pub met_itself : (g : Nodes) (s : Search) → Wanders g s → IsMet g s s
met_itself g s is = record { wanders = is; left = omega arith }

frame_top : (g : Nodes) (rest : List Frame) (f : Frame) → All (λ (x : Frame). x.node < length g.rows) (rest ++ f ∷ []) →
    All (λ (x : Frame). x.node < length g.rows) rest × (f.node < length g.rows)
frame_top g rest f all = All-pop (λ (x : Frame). x.node < length g.rows) (rest ++ f ∷ []) rest (Some f) refl all

-- the node that the top reads
pub next_read : (g : Nodes) (f : Frame) (all : List ℕ) → IsGraph g → all ≡ row g f.node → f.next < length all → get_or all f.next 0 < length g.rows
next_read g f all graph e l = graph.nodes f.node (get_or all f.next 0) (subst (λ (xs : List ℕ). Contains xs (get_or all f.next 0)) e (Contains-get_or all f.next 0 l))

-- the top goes on to its next read
pub wandered : (g : Nodes) (s t : Search) (f : Frame) → IsLoose g s.marks.items (s.stack.items ++ f ∷ []) s.order →
    t.marks.items ≡ s.marks.items → t.stack.items ≡ s.stack.items ++ record { node = f.node; next = f.next + 1 } ∷ [] → t.order ≡ s.order → Wanders g t
wandered g s t f is marks stack order =
    let parts = frame_top g s.stack.items f is.frames in
    record {
      size = rw marks is.size;
      frames = rw stack (All-push (λ (x : Frame). x.node < length g.rows) s.stack.items (record { node = f.node; next = f.next + 1 }) parts.0 parts.1);
      nodes = rw order is.nodes;
    }

pub went_on : (g : Nodes) (s t u : Search) (f : Frame) (all : List ℕ) → all ≡ row g f.node → f.next < length all →
    t.marks.items ≡ s.marks.items → t.stack.items ≡ s.stack.items ++ record { node = f.node; next = f.next + 1 } ∷ [] → IsMet g t u →
    IsOn g s.marks.items (s.stack.items ++ f ∷ []) u
went_on g s t u f all e l marks stack is = record {
  wanders = is.wanders;
  less =
      let h = along_less g s.marks.items s.stack.items f (rw (← e) l) in
      let k : steps_left g t.marks.items t.stack.items ≡ steps_left g s.marks.items (s.stack.items ++ record { node = f.node; next = f.next + 1 } ∷ []) = rw (marks, stack) refl in
      omega (arith, is.left, h, k);
}

-- the top is done with
pub left_top : (g : Nodes) (s t : Search) (f : Frame) → IsLoose g s.marks.items (s.stack.items ++ f ∷ []) s.order →
    t.marks.items ≡ s.marks.items → t.stack.items ≡ s.stack.items → t.order ≡ s.order ++ f.node ∷ [] →
    IsOn g s.marks.items (s.stack.items ++ f ∷ []) t
left_top g s t f is marks stack order =
    let parts = frame_top g s.stack.items f is.frames in
    record {
      wanders = record {
        size = rw marks is.size;
        frames = rw stack parts.0;
        nodes = rw order (All-push (λ a. a < length g.rows) s.order f.node is.nodes parts.1);
      };
      less = rw (marks, stack) (omega (arith, sum_by_push (left g) s.stack.items f));
    }

pub wander_begun : (g : Nodes) (n : ℕ) → n ≡ length g.rows → IsLoose g (replicate n Unseen) [] []
wander_begun g n same = record {
  size = length-replicate {A = Mark} n Unseen ∙ same;
  frames = All-nil (λ (f : Frame). f.node < length g.rows);
  nodes = All-nil (λ a. a < length g.rows);
}

-- floods

pub flood_itself : (g : Nodes) (f : Flood) → IsFlood g f → WentFlood g f f
flood_itself g f is = record { flood = is; left = omega arith }

pub flood_on : (g : Nodes) (e f h : Flood) → WentFlood g e f → WentFlood g f h → WentFlood g e h
flood_on g e f h first second = record { flood = second.flood; left = omega (arith, first.left, second.left) }

pub touched : (g : Nodes) (e f : Flood) (a rank : ℕ) → IsFlood g e → a < length g.rows → level_of e.ranks.items a ≡ None →
    f.ranks.items ≡ set e.ranks.items a (Some rank) → f.stack ≡ e.stack ++ a ∷ [] → WentFlood g e f
touched g e f a rank is l new ranks stack = record {
  flood = record {
    size = rw ranks (length-set e.ranks.items a (Some rank) ∙ is.size);
    stack = rw stack (All-push (λ b. b < length g.rows) e.stack a is.stack l);
  };
  left = rw (ranks, stack) (omega (arith, unset_set e.ranks.items a rank (omega (arith, is.size)) new, length_push e.stack a));
}

-- a node is taken off the stack
pub flood_popped : (g : Nodes) (e f : Flood) (a : ℕ) → IsFlood g e → e.stack ≡ f.stack ++ a ∷ [] → f.ranks.items ≡ e.ranks.items →
    IsFlood g f × (a < length g.rows) × (flood_left f < flood_left e)
flood_popped g e f a is top ranks =
    let parts = All-pop (λ b. b < length g.rows) e.stack f.stack (Some a) top is.stack in
    (record { size = rw ranks is.size; stack = parts.0 }, parts.1, rw (ranks, top) (omega (arith, length_push f.stack a)))

pub flood_begun : (g : Nodes) (f : Flood) (n : ℕ) → n ≡ length g.rows → f.ranks.items ≡ replicate n unlevelled → f.stack ≡ [] → IsFlood g f
flood_begun g f n same ranks stack = record {
  size = rw ranks (length-replicate n unlevelled ∙ same);
  stack = rw stack (All-nil (λ a. a < length g.rows));
}

-- the tests

pub rises_from : (ranks : List (Option ℕ)) (strictly : Bool) (a b low high : ℕ) → level_of ranks a ≡ Some low → level_of ranks b ≡ Some high →
    low ≤ high → (strictly ≡ true → low < high) → Rises ranks strictly a b
rises_from ranks strictly a b low high at there le lt = record { low = low; high = high; below = at; above = there; rises = le; lower = lt }

-- the reads of a node looked at so far rise
pub rise_more : (ranks : List (Option ℕ)) (strictly : Bool) (a b : ℕ) (nodes : List ℕ) → ((c : ℕ) → Contains nodes c → Rises ranks strictly a c) →
    Rises ranks strictly a b → (c : ℕ) → Contains (nodes ++ b ∷ []) c → Rises ranks strictly a c
rise_more ranks strictly a b nodes before here c h = elim (Contains-push_cases nodes b c h) [
  | inl old ↦ before c old
  | inr e ↦ subst (λ (v : ℕ). Rises ranks strictly a v) e here
]

pub rise_all : (g : Nodes) (ranks : List (Option ℕ)) (strictly : Bool) (a k : ℕ) (nodes : List ℕ) → nodes ≡ row g a → length nodes ≤ k →
    ((c : ℕ) → Contains (take k nodes) c → Rises ranks strictly a c) → AllRise g ranks strictly a
rise_all g ranks strictly a k nodes e whole all b reads =
    all b (along_row _ _ b (sym (take_all k nodes whole)) (along_row _ _ b (sym e) reads))

pub told_off : (g : Nodes) (ranks : List (Option ℕ)) (a : ℕ) (higher : Bool) → AreRanks g ranks → OnTrue higher (AllRise g ranks true a) →
    OnTrue higher (OnCycle (Links g) a → ⊥)
told_off g ranks a true are rise = off_cycles g ranks a are rise
told_off g ranks a false are rise = tt
