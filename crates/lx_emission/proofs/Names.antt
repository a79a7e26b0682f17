-- The names of nets: no two of them are alike.
use Rattle.std.proofs.Common.{◌≡◌, ℕ, zero, suc, ◌+◌, ◌<◌, Bool, true, false, cond, List, [], ◌∷◌, length, map, refl, sym, ap, ◌∙◌, arith, inl, inr}
use Rattle.std.specs.Prelude.{Some, slice_get, codes}
use Rattle.std.specs.List.{list_all}
use Rattle.std.proofs.lemmas.Bool.{and_parts, cases_lt}
use Rattle.std.proofs.lemmas.List.{append_cancel_right}
use Rattle.std.proofs.lemmas.Option.{slice_get-get_or, slice_get-map}
use Rattle.lx_vtext.specs.Tree.{Name}
use Rattle.lx_vtext.specs.Printed.{number_text}
use Rattle.lx_vtext.specs.Reading.{number_value}
use Rattle.lx_vtext.proofs.Pieces.{number_back}
use Rattle.lx_fhdl.specs.Keeping.{Keeps, IsDomain, is_identifier, is_first, is_later}
use Rattle.lx_arena.proofs.Places.{node_there}
use Rattle.lx_fhdl.specs.declared.exprs.Expr.{Expr}
use Rattle.lx_fhdl.specs.declared.design.Domain.{Domain}
use Rattle.lx_fhdl.specs.declared.design.Design.{Design}
use Rattle.lx_emission.specs.Naming.{net, has_net, nets_before, node_name, node_net, clock_name, clock, memory_name, NamesFit}
use Rattle.lx_emission.proofs.Setting.{IsNetNode}
use Rattle.lx_emission.proofs.Lists.{one_place, is_there}
use Rattle.lx_fhdl.proofs.Resets.{each_of_at}

-- ---- nodes

pub node_name_once : (a b : ℕ) → node_name a ≡ node_name b → a ≡ b
unfolding node_name
node_name_once a b e =
    let texts : number_text a ≡ number_text b = cc in
    sym (number_back a).0 ∙ ap number_value texts ∙ (number_back b).0

-- fewer nodes with nets stand before such a node than before a later place
pub before_less : (xs : List Expr) (j k : ℕ) (x : Expr) → slice_get xs j ≡ Some x → has_net x ≡ true → j < k → nets_before xs j < nets_before xs k
unfolding nets_before
before_less [] j k x e h lt = absurd cc
before_less (y ∷ ys) zero zero x e h lt = absurd (omega arith)
before_less (y ∷ ys) zero (suc k) x e h lt =
    let same : y ≡ x = cc in
    let has : has_net y ≡ true = ap has_net same ∙ h in
    rw has (omega arith)
before_less (y ∷ ys) (suc j) zero x e h lt = absurd (omega arith)
before_less (y ∷ ys) (suc j) (suc k) x e h lt = by (has_net y) (nets_before ys j) (nets_before ys k) (before_less ys j k x e h (omega arith))
  where
    by : (b : Bool) (m n : ℕ) → m < n → cond b (suc m) m < cond b (suc n) n
    by true m n p = omega arith
    by false m n p = p

-- a node's net is no other node's
pub node_net_once : (d : Design) (j k : ℕ) → IsNetNode d j → IsNetNode d k → node_net d.exprs j ≡ node_net d.exprs k → j ≡ k
node_net_once d j k p q e =
    let same = node_name_once (nets_before d.exprs j) (nets_before d.exprs k) e in
    elim (cases_lt j k) [
      | inl less ↦
          let before = before_less d.exprs j k p.node p.there p.net less in
          absurd (omega (arith, before, same))
      | inr most ↦ elim (cases_lt k j) [
        | inl less ↦
            let before = before_less d.exprs k j q.node q.there q.net less in
            absurd (omega (arith, before, same))
        | inr least ↦ omega arith
      ]
    ]

-- ---- clocks

-- a domain, and its name
pub record IsAt (d : Design) (k : ℕ) : Type 0 where
  pub domain : Domain
  pub there : slice_get d.domains k ≡ Some domain
  pub clock : clock d k ≡ clock_name domain.name

pub domain_at : (d : Design) (k : ℕ) → k < length d.domains → IsAt d k
domain_at d k lt =
    let found = node_there d.domains k lt in
    record { domain = found.0; there = found.1; clock = rw found.1 refl }

clock_name_once : (a b : List ℕ) → clock_name a ≡ clock_name b → a ≡ b
unfolding clock_name
clock_name_once a b e = append_cancel_right a b (codes "_clk") e

pub clock_once : (d : Design) → Keeps d → (j k : ℕ) → j < length d.domains → k < length d.domains → clock d j ≡ clock d k → j ≡ k
clock_once d keeps j k p q e =
    let a = domain_at d j p in
    let b = domain_at d k q in
    let same = clock_name_once a.domain.name b.domain.name (sym a.clock ∙ e ∙ b.clock) in
    let first : slice_get (map (λ (x : Domain). x.name) d.domains) j ≡ Some a.domain.name = rw (slice_get-map (λ (x : Domain). x.name) d.domains j, a.there) refl in
    let second : slice_get (map (λ (x : Domain). x.name) d.domains) k ≡ Some a.domain.name = rw (slice_get-map (λ (x : Domain). x.name) d.domains k, b.there) (ap Some (sym same)) in
    one_place (map (λ (x : Domain). x.name) d.domains) keeps.domains_distinct j k a.domain.name first second

-- an identifier has no `$`
later_other : (b : ℕ) → is_later b ≡ true → b ≡ 36 → ⊥
later_other b h e = let z : is_later 36 ≡ true = ap is_later (sym e) ∙ h in cc

identifier_clock : (name : List ℕ) (n : ℕ) → is_identifier name ≡ true → clock_name name ≡ node_name n → ⊥
unfolding clock_name node_name
identifier_clock [] n h e = absurd cc
identifier_clock (b ∷ []) n h e =
    let z : ◌≡◌ {A = ℕ} 95 36 = cc in
    absurd (omega (arith, z))
identifier_clock (b ∷ (c ∷ cs)) n h e =
    let z : c ≡ 36 = cc in
    later_other c (and_parts (is_later c) (list_all is_later cs) (and_parts (is_first b) (list_all is_later (c ∷ cs)) h).1).0 z

pub clock_not_node : (d : Design) → Keeps d → (k n : ℕ) → k < length d.domains → clock d k ≡ node_name n → ⊥
clock_not_node d keeps k n lt e =
    let a = domain_at d k lt in
    let is = each_of_at (IsDomain d) d.domains keeps.domains k a.domain a.there in
    identifier_clock a.domain.name n is.name (sym a.clock ∙ e)

-- ---- signals and memories

-- a name at a place of the list: a signal's, or a memory's
pub named_at : (d : Design) (names : List Name) → NamesFit d names → (i : ℕ) → i < length d.signals + length d.memories → slice_get names i ≡ Some (net names i)
named_at d names fit i lt = slice_get-get_or names i [] (omega (arith, fit.long, lt))

named_once : (d : Design) (names : List Name) → NamesFit d names → (i j : ℕ) → i < length d.signals + length d.memories → j < length d.signals + length d.memories → net names i ≡ net names j → i ≡ j
named_once d names fit i j p q e =
    one_place names fit.distinct i j (net names i) (named_at d names fit i p) (named_at d names fit j q ∙ ap Some (sym e))

named_not_clock : (d : Design) (names : List Name) → NamesFit d names → (i k : ℕ) → i < length d.signals + length d.memories → k < length d.domains → net names i ≡ clock d k → ⊥
named_not_clock d names fit i k p q e =
    let some = is_there (clock d k) names i (named_at d names fit i p ∙ ap Some e) in
    let none = fit.clocks k q in
    cc

named_not_node : (d : Design) (names : List Name) → NamesFit d names → (i n : ℕ) → i < length d.signals + length d.memories → net names i ≡ node_name n → ⊥
named_not_node d names fit i n p e =
    let some = is_there (node_name n) names i (named_at d names fit i p ∙ ap Some e) in
    let none = fit.nodes n in
    cc

pub net_once : (d : Design) (names : List Name) → NamesFit d names → (x y : ℕ) → x < length d.signals → y < length d.signals → net names x ≡ net names y → x ≡ y
net_once d names fit x y p q e = named_once d names fit x y (omega arith) (omega arith) e

pub net_not_clock : (d : Design) (names : List Name) → NamesFit d names → (x k : ℕ) → x < length d.signals → k < length d.domains → net names x ≡ clock d k → ⊥
net_not_clock d names fit x k p q e = named_not_clock d names fit x k (omega arith) q e

pub net_not_node : (d : Design) (names : List Name) → NamesFit d names → (x n : ℕ) → x < length d.signals → net names x ≡ node_name n → ⊥
net_not_node d names fit x n p e = named_not_node d names fit x n (omega arith) e

pub memory_once : (d : Design) (names : List Name) → NamesFit d names → (j k : ℕ) → j < length d.memories → k < length d.memories → memory_name d names j ≡ memory_name d names k → j ≡ k
memory_once d names fit j k p q e =
    let same = named_once d names fit (length d.signals + j) (length d.signals + k) (omega arith) (omega arith) e in
    omega (arith, same)

pub net_not_memory : (d : Design) (names : List Name) → NamesFit d names → (x k : ℕ) → x < length d.signals → k < length d.memories → net names x ≡ memory_name d names k → ⊥
net_not_memory d names fit x k p q e =
    let same = named_once d names fit x (length d.signals + k) (omega arith) (omega arith) e in
    omega (arith, same, p)

pub memory_not_clock : (d : Design) (names : List Name) → NamesFit d names → (j k : ℕ) → j < length d.memories → k < length d.domains → memory_name d names j ≡ clock d k → ⊥
memory_not_clock d names fit j k p q e = named_not_clock d names fit (length d.signals + j) k (omega arith) q e

pub memory_not_node : (d : Design) (names : List Name) → NamesFit d names → (j n : ℕ) → j < length d.memories → memory_name d names j ≡ node_name n → ⊥
memory_not_node d names fit j n p e = named_not_node d names fit (length d.signals + j) n (omega arith) e
