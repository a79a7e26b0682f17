-- Orders of a graph, and that there is no cycle beside one.
use Rattle.std.proofs.Common.{◌≡◌, ℕ, zero, suc, ◌+◌, inl, inr, List, [], ◌∷◌, ◌++◌, refl, sym, subst, append_assoc, arith}
use Rattle.std.specs.List.{Contains}
use Rattle.std.proofs.lemmas.List.{append-nil}
use Rattle.std.proofs.lemmas.List.Elements.{Contains-push_cases, Contains-append_left}
use Rattle.lx_graph.specs.Graph.{Nodes, Reads}
use Rattle.lx_graph.specs.Order.{MayFollow, AreInTurn, IsOrder}
use Rattle.lx_graph.specs.Cycle.{Walk, OnCycle}
use Rattle.lx_graph.specs.Through.{Within, Links}
use Rattle.lx_graph.proofs.Rows.{none_in, contains_cons, reads_node}

pub turn_push : (g : Nodes) (before nodes : List ℕ) (a : ℕ) → AreInTurn g before nodes → MayFollow g (before ++ nodes) a → AreInTurn g before (nodes ++ a ∷ [])
turn_push g before [] a turns may = (rw (← append-nil before) may, tt)
turn_push g before (b ∷ nodes) a turns may =
    (turns.0, turn_push g (before ++ b ∷ []) nodes a turns.1 (rw append_assoc may))

pub walk_join : (R : ℕ → ℕ → Type 0) (a b c m n : ℕ) → Walk R a b m → Walk R b c n → (k : ℕ) × (m + n ≡ k) × Walk R a c k
walk_join R a b c zero n e w = (n, omega arith, subst (λ (v : ℕ). Walk R v c n) (sym e) w)
walk_join R a b c (suc m) n (d, l, v) w = let j = walk_join R d b c m n v w in (suc j.0, omega (arith, j.1), (d, l, j.2))

-- a walk leads from nodes that stand to nodes that stand
stands_along : (g : Nodes) (before : List ℕ) → ((a b : ℕ) → Contains before a → Reads g a b → Contains before b) →
    (a b n : ℕ) → Contains before a → Walk (Reads g) a b n → Contains before b
stands_along g before closed a b zero h e = subst (λ (v : ℕ). Contains before v) e h
stands_along g before closed a b (suc n) h (c, l, w) = stands_along g before closed c b n (closed a c h l) w

-- nodes in turn are on no cycle, where those before them are closed under reading
acyclic_after : (g : Nodes) (before nodes : List ℕ) → ((a b : ℕ) → Contains before a → Reads g a b → Contains before b) →
    AreInTurn g before nodes → (a : ℕ) → Contains nodes a → OnCycle (Reads g) a → ⊥
acyclic_after g before [] closed turns a h cycle = none_in a h
acyclic_after g before (x ∷ nodes) closed turns a h cycle =
    elim (contains_cons x nodes a h) [
      | inl e ↦
          let c = cycle.1.0 in
          let first : Contains before c = turns.0.reads c (subst (λ (v : ℕ). Reads g v c) (sym e) cycle.1.1) in
          turns.0.once (subst (λ (v : ℕ). Contains before v) (sym e) (stands_along g before closed c a cycle.0 first cycle.1.2))
      | inr later ↦
          acyclic_after g (before ++ x ∷ []) nodes
          (λ b d here reads. elim (Contains-push_cases before x b here) [
            | inl old ↦ Contains-append_left before (x ∷ []) d (closed b d old reads)
            | inr e ↦ Contains-append_left before (x ∷ []) d (turns.0.reads d (subst (λ (v : ℕ). Reads g v d) (sym e) reads))
          ])
          turns.1 a later cycle
    ]

pub no_cycle : (g : Nodes) (nodes : List ℕ) (a : ℕ) → IsOrder g nodes → OnCycle (Reads g) a → ⊥
no_cycle g nodes a order cycle =
    acyclic_after g [] nodes (λ b d h reads. absurd (none_in b h)) order.turns a
    (order.all a (reads_node g a cycle.1.0 cycle.1.1)) cycle

-- a walk by what nodes read, of at least one link
abbrev pub Leads : Nodes → ℕ → ℕ → Type 0
Leads g a b = (n : ℕ) × Walk (Reads g) a b (suc n)

pub within_leads : (g : Nodes) (a b between : ℕ) → Within g a b between → Leads g a b
within_leads g a b zero h = (0, (b, h, refl))
within_leads g a b (suc between) (c, l, reads, h) = let w = within_leads g c b between h in (suc w.0, (c, reads, w.1))

pub link_leads : (g : Nodes) (a b n : ℕ) → Walk (Links g) a b (suc n) → Leads g a b
link_leads g a b zero (c, l, e) = within_leads g a b l.2.0 (subst (λ (v : ℕ). Within g a v l.2.0) e l.2.1)
link_leads g a b (suc n) (c, l, w) =
    let v = within_leads g a c l.2.0 l.2.1 in
    let u = link_leads g c b n w in
    let j = walk_join (Reads g) a c b (suc v.0) (suc u.0) v.1 u.1 in
    let k : (k : ℕ) × (j.0 ≡ suc k) = (v.0 + suc u.0, omega (arith, j.1)) in
    (k.0, subst (λ (x : ℕ). Walk (Reads g) a b x) k.1 j.2)

pub acyclic : (g : Nodes) (nodes : List ℕ) (a : ℕ) → IsOrder g nodes → OnCycle (Links g) a → ⊥
acyclic g nodes a order cycle = no_cycle g nodes a order (link_leads g a a cycle.0 cycle.1)
