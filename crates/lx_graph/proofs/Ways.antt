-- Links through inner nodes, and cycles of them.
use Rattle.std.proofs.Common.{◌≡◌, ℕ, zero, suc, ◌+◌, ◌<◌, ◌≤◌, ◌⊎◌, inl, inr, refl, subst, arith}
use Rattle.std.proofs.lemmas.Bool.{cases_lt}
use Rattle.lx_graph.specs.Graph.{Nodes, Reads, IsGraph}
use Rattle.lx_graph.specs.Cycle.{Walk, OnCycle}
use Rattle.lx_graph.specs.Through.{Through, Links}
use Rattle.lx_graph.specs.Levels.{StandsFor}
use Rattle.lx_graph.proofs.Orders.{walk_join}

-- a plain node on the walk from a to b
abbrev PlainOn : Nodes → ℕ → ℕ → Type 0
PlainOn g a b = (p : ℕ) × (p < g.plain) × ((m : ℕ) × Walk (Reads g) a p m) × ((n : ℕ) × Walk (Reads g) p b n)

-- a walk from an inner node goes down, or meets a plain node
down_or_plain : (g : Nodes) (a b n : ℕ) → IsGraph g → g.plain ≤ a → Walk (Reads g) a b n → (b ≤ a) ⊎ PlainOn g a b
down_or_plain g a b zero graph inner e = inl (omega arith)
down_or_plain g a b (suc n) graph inner (c, reads, w) = elim (cases_lt c g.plain) [
  | inl plain ↦ inr (c, plain, (1, (c, reads, refl)), (n, w))
  | inr too ↦
      let less : c < a = graph.lower a c inner reads in
      elim (down_or_plain g c b n graph too w) [
        | inl down ↦ inl (omega arith)
        | inr found ↦ inr (found.0, found.1, (suc found.2.0, (c, reads, found.2.1)), found.3)
      ]
]

-- a plain node on a cycle
abbrev PlainCycle : Nodes → Type 0
PlainCycle g = (p : ℕ) × (p < g.plain) × OnCycle (Reads g) p

closed_walk : (g : Nodes) (p n k : ℕ) → n ≡ suc k → Walk (Reads g) p p n → OnCycle (Reads g) p
closed_walk g p n k e w = (k, subst (λ (v : ℕ). Walk (Reads g) p p v) e w)

-- of a walk from a plain node to an inner one the links are some
some_links : (g : Nodes) (p a n : ℕ) → p < g.plain → g.plain ≤ a → Walk (Reads g) p a n → (k : ℕ) × (n ≡ suc k)
some_links g p a zero plain inner e = absurd (omega arith)
some_links g p a (suc n) plain inner w = (n, refl)

-- round from a plain node that is on the walk
round : (g : Nodes) (a : ℕ) → g.plain ≤ a → PlainOn g a a → PlainCycle g
round g a inner found =
    let k = some_links g found.0 a found.3.0 found.1 inner found.3.1 in
    let j = walk_join (Reads g) found.0 a found.0 found.3.0 found.2.0 found.3.1 found.2.1 in
    (found.0, found.1, closed_walk g found.0 j.0 (k.0 + found.2.0) (omega (arith, k.1, j.1)) j.2)

plain_cycle : (g : Nodes) (a : ℕ) → IsGraph g → OnCycle (Reads g) a → PlainCycle g
plain_cycle g a graph (n, (c, reads, w)) = elim (cases_lt a g.plain) [
  | inl plain ↦ (a, plain, (n, (c, reads, w)))
  | inr inner ↦ elim (cases_lt c g.plain) [
    | inl plain ↦ round g a inner (c, plain, (1, (c, reads, refl)), (n, w))
    | inr too ↦
        let less : c < a = graph.lower a c inner reads in
        elim (down_or_plain g c a n graph too w) [
          | inl back ↦ absurd (omega arith)
          | inr found ↦ round g a inner (found.0, found.1, (suc found.2.0, (c, reads, found.2.1)), found.3)
        ]
  ]
]

-- what a walk to a plain node meets first of plain nodes, and the links from there
abbrev Met : Nodes → ℕ → ℕ → Type 0
Met g a b = (p : ℕ) × (p < g.plain) × Through g a p × ((m : ℕ) × Walk (Links g) p b m)

met_first : (g : Nodes) (a b n : ℕ) → b < g.plain → Walk (Reads g) a b (suc n) → Met g a b
met_first g a b zero plain (c, reads, e) = (b, plain, (0, subst (λ (v : ℕ). Reads g a v) e reads), (0, refl))
met_first g a b (suc n) plain (c, reads, w) =
    let m = met_first g c b n plain w in
    elim (cases_lt c g.plain) [
      | inl here ↦ (c, here, (0, reads), (suc m.3.0, (m.0, (here, m.1, m.2), m.3.1)))
      | inr inner ↦ (m.0, m.1, (suc m.2.0, (c, inner, reads, m.2.1)), m.3)
    ]

pub links_cycle : (g : Nodes) (a : ℕ) → IsGraph g → OnCycle (Reads g) a → (p : ℕ) × (p < g.plain) × OnCycle (Links g) p
links_cycle g a graph cycle =
    let c = plain_cycle g a graph cycle in
    let m = met_first g c.0 c.0 c.2.0 c.1 c.2.1 in
    (c.0, c.1, (m.3.0, (m.0, (c.1, m.1, m.2), m.3.1)))

-- what stands for plain nodes

pub plain_stands : (g : Nodes) (a : ℕ) → a < g.plain → StandsFor g a a
plain_stands g a plain = (plain, inl refl)

pub through_from : (g : Nodes) (a r b : ℕ) → Reads g a r → StandsFor g r b → Through g a b
through_from g a r b reads (plain, inl e) = (0, subst (λ (v : ℕ). Reads g a v) e reads)
through_from g a r b reads (plain, inr (inner, (k, within))) = (suc k, (r, inner, reads, within))

pub read_of : (g : Nodes) (a b : ℕ) → b < g.plain → Through g a b → (r : ℕ) × Reads g a r × StandsFor g r b
read_of g a b plain (zero, reads) = (b, reads, (plain, inl refl))
read_of g a b plain (suc k, (c, inner, reads, within)) = (c, reads, (plain, inr (inner, (k, within))))

pub stands_plain : (g : Nodes) (a b : ℕ) → a < g.plain → StandsFor g a b → a ≡ b
stands_plain g a b plain (there, inl e) = e
stands_plain g a b plain (there, inr (inner, t)) = absurd (omega arith)

pub stands_inner : (g : Nodes) (a b : ℕ) → g.plain ≤ a → StandsFor g a b → Through g a b
stands_inner g a b inner (there, inl e) = absurd (omega arith)
stands_inner g a b inner (there, inr (too, t)) = t

-- what holds below a number, and at it
pub one_more : (P : ℕ → Type 0) (n : ℕ) → ((a : ℕ) → a < n → P a) → P n → (a : ℕ) → a < n + 1 → P a
one_more P n below here a l = elim (cases_lt a n) [
  | inl less ↦ below a less
  | inr last ↦ let e : n ≡ a = omega arith in subst (λ (v : ℕ). P v) e here
]
