-- What levels say of links, and the way back along them.
use Rattle.std.proofs.Common.{◌≡◌, ℕ, zero, suc, ◌+◌, ◌<◌, ◌≤◌, inl, inr, List, [], ◌∷◌, ◌++◌, Option, Some, None, length, get_or, min, cond, eqb, refl, sym, ◌∙◌, ap, subst, arith}
use Rattle.std.proofs.lemmas.Bool.{cases_lt, eqb-true, eq-eqb}
use Rattle.std.proofs.lemmas.List.{get_or_push, get_or_append_left, length_push}
use Rattle.std.proofs.lemmas.List.Elements.{Contains-push, Contains-push_cases, Contains-append_left}
use Rattle.lx_graph.proofs.Rows.{none_in}
use Rattle.std.proofs.lemmas.Option.{same_Some, none-some, cond_some}
use Rattle.lx_graph.specs.Graph.{Nodes, row, Reads, IsGraph}
use Rattle.lx_graph.specs.Cycle.{Walk, OnCycle, IsLink}
use Rattle.lx_graph.specs.Through.{Within, Through, Links}
use Rattle.lx_graph.specs.Levels.{StandsFor, cost, level_of, IsAtMost, AreLevels, IsLeast, IsLowest, HaveNone, IsFound, lower, IsFirst, AreFirsts, first_at, is_level, IsNext, AreLevelsOf, AreAllFirsts, HaveFirsts}
use Rattle.lx_graph.specs.declared.levels.Levels.{Levels}
use Rattle.lx_graph.proofs.Ways.{through_from, read_of, stands_plain, stands_inner, plain_stands}
use Rattle.lx_graph.proofs.Waves.{cost_plain, cost_inner}

-- who reads a node of a level through inner nodes is one link further at most
through_level : (g : Nodes) (target : ℕ) (levels : List (Option ℕ)) (a b d between : ℕ) → AreLevels g target levels → level_of levels b ≡ Some d →
    Within g a b between → IsAtMost levels a (d + cost g a)
through_level g target levels a b d zero are at reads = are.closed b d at a reads
through_level g target levels a b d (suc between) are at (c, inner, reads, within) =
    let next = through_level g target levels c b d between are at within in
    let here = are.closed c next.0 next.1 a reads in
    (here.0, here.1, omega (arith, here.2, next.2, cost_inner g c inner))

-- who stands for a node of a level isn't further
stands_level : (g : Nodes) (target : ℕ) (levels : List (Option ℕ)) (a b d : ℕ) → AreLevels g target levels → level_of levels b ≡ Some d →
    StandsFor g a b → IsAtMost levels a d
stands_level g target levels a b d are at (plain, inl e) = (d, ap (level_of levels) e ∙ at, omega arith)
stands_level g target levels a b d are at (plain, inr (inner, (k, within))) =
    let h = through_level g target levels a b d k are at within in
    (h.0, h.1, omega (arith, h.2, cost_inner g a inner))

-- from where so many links lead to the target the level isn't greater
walk_level : (g : Nodes) (target : ℕ) (levels : List (Option ℕ)) (a n : ℕ) → AreLevels g target levels → Walk (Links g) a target n → IsAtMost levels a n
walk_level g target levels a zero are e = (0, ap (level_of levels) e ∙ are.start, omega arith)
walk_level g target levels a (suc n) are (c, (plain, there, (k, within)), w) =
    let next = walk_level g target levels c n are w in
    let h = through_level g target levels a c next.0 k are next.1 within in
    (h.0, h.1, omega (arith, h.2, next.2, cost_plain g a plain))

-- of the reads of who is linked to a node so far away some isn't further
read_level : (g : Nodes) (target : ℕ) (levels : List (Option ℕ)) (a c n : ℕ) → AreLevels g target levels → c < g.plain → Through g a c → Walk (Links g) c target n →
    (r : ℕ) × Reads g a r × StandsFor g r c × IsAtMost levels r n
read_level g target levels a c n are plain through w =
    let r = read_of g a c plain through in
    let at = walk_level g target levels c n are w in
    let h = stands_level g target levels r.0 c at.0 are at.1 r.2 in
    (r.0, r.1, r.2, (h.0, h.1, omega (arith, h.2, at.2)))

pub no_way : (g : Nodes) (target : ℕ) (levels : List (Option ℕ)) → AreLevels g target levels → HaveNone (level_of levels) (row g target) → OnCycle (Links g) target → ⊥
no_way g target levels are none (n, (c, (plain, there, through), w)) =
    let r = read_level g target levels target c n are there through w in
    none r.0 r.3.0 r.1 r.3.1

pub no_shorter : (g : Nodes) (target : ℕ) (levels : List (Option ℕ)) (level n : ℕ) → AreLevels g target levels → IsLeast levels (row g target) level →
    Walk (Links g) target target (suc n) → level ≤ n
no_shorter g target levels level n are least (c, (plain, there, through), w) =
    let r = read_level g target levels target c n are there through w in
    omega (arith, least.least r.0 r.3.0 r.1 r.3.1, r.3.2)

-- of the reads of a node of a level some are a link nearer, or as near for an inner node, and none nearer
least_read : (g : Nodes) (target : ℕ) (levels : List (Option ℕ)) (a level c : ℕ) → AreLevels g target levels → level_of levels a ≡ Some (level + cost g a) →
    c < g.plain → Through g a c → Walk (Links g) c target level → IsLeast levels (row g a) level
least_read g target levels a level c are at plain through w =
    let r = read_level g target levels a c level are plain through w in
    let least : (b d : ℕ) → Reads g a b → level_of levels b ≡ Some d → level ≤ d = λ b d reads h.
    let k = are.closed b d h a reads in
    omega (arith, k.2, same_Some (level + cost g a) k.0 (sym at ∙ k.1)) in
    let same : r.3.0 ≡ level = omega (arith, r.3.2, least r.0 r.3.0 r.1 r.3.1) in
    record { node = r.0; among = r.1; at = r.3.1 ∙ ap (λ (v : ℕ). Some v) same; least = least }

pub least_inner : (g : Nodes) (target : ℕ) (levels : List (Option ℕ)) (a level : ℕ) → AreLevels g target levels → g.plain ≤ a → level_of levels a ≡ Some level →
    IsLeast levels (row g a) level
least_inner g target levels a level are inner at =
    let away = are.away a level at in
    let e : level ≡ level + cost g a = omega (arith, cost_inner g a inner) in
    least_read g target levels a level away.0 are (at ∙ ap (λ (v : ℕ). Some v) e) away.1.0 (stands_inner g a away.0 inner away.1) away.2

pub least_plain : (g : Nodes) (target : ℕ) (levels : List (Option ℕ)) (a level : ℕ) → AreLevels g target levels → a < g.plain → level_of levels a ≡ Some (suc level) →
    IsLeast levels (row g a) level
least_plain g target levels a level are plain at =
    let away = are.away a (suc level) at in
    let e : suc level ≡ level + cost g a = omega (arith, cost_plain g a plain) in
    let w : Walk (Links g) a target (suc level) = subst (λ (v : ℕ). Walk (Links g) v target (suc level)) (sym (stands_plain g a away.0 plain away.1)) away.2 in
    least_read g target levels a level w.0 are (at ∙ ap (λ (v : ℕ). Some v) e) w.1.1 w.1.2 w.2

-- the first plain nodes

pub first_plain : (g : Nodes) (levels : List (Option ℕ)) (a : ℕ) → a < g.plain → IsFirst g levels a a
first_plain g levels a plain = record {
  stands = plain_stands g a plain;
  same = refl;
  lowest = λ b stands _. omega (arith, stands_plain g a b plain stands);
}

found_at : (o : Option ℕ) (level x f : ℕ) → cond (is_level level o) (Some x) None ≡ Some f → (o ≡ Some level) × (x ≡ f)
found_at None level x f e = absurd (none-some f e)
found_at (Some d) level x f e =
    let parts = cond_some (eqb d level) x f e in
    (ap (λ (v : ℕ). Some v) (eqb-true d level parts.0), parts.1)

first_at_is : (levels : List (Option ℕ)) (firsts : List ℕ) (level a f : ℕ) → first_at levels firsts level a ≡ Some f →
    (level_of levels a ≡ Some level) × (get_or firsts a 0 ≡ f)
first_at_is levels firsts level a f e = found_at (level_of levels a) level (get_or firsts a 0) f e

first_at_from : (levels : List (Option ℕ)) (firsts : List ℕ) (level a : ℕ) → level_of levels a ≡ Some level → first_at levels firsts level a ≡ Some (get_or firsts a 0)
first_at_from levels firsts level a e = rw (e, eq-eqb level level refl) refl

-- the least of the firsts of an inner node's reads is its own first
pub first_inner : (g : Nodes) (target : ℕ) (levels : List (Option ℕ)) (firsts : List ℕ) (a level f : ℕ) → IsGraph g → AreLevels g target levels → g.plain ≤ a →
    level_of levels a ≡ Some level → AreFirsts g levels firsts a → IsLowest (first_at levels firsts level) (row g a) f → IsFirst g levels a f
first_inner g target levels firsts a level f graph are inner at firsts_are is =
    let found = first_at_is levels firsts level is.node f is.at in
    let first = subst (λ (v : ℕ). IsFirst g levels is.node v) found.1 (firsts_are is.node level (graph.lower a is.node inner is.among) found.0) in
    record {
      stands = (first.stands.0, inr (inner, through_from g a is.node f is.among first.stands));
      same = first.same ∙ (found.0 ∙ sym at);
      lowest = λ b stands same.
          let r = read_of g a b stands.0 (stands_inner g a b inner stands) in
          let h = stands_level g target levels r.0 b level are (same ∙ at) r.2 in
          let k = are.closed r.0 h.0 h.1 a r.1 in
          let e : h.0 ≡ level = omega (arith, h.2, k.2, cost_inner g a inner, same_Some level k.0 (sym at ∙ k.1)) in
          let here : level_of levels r.0 ≡ Some level = h.1 ∙ ap (λ (v : ℕ). Some v) e in
          let low = (firsts_are r.0 level (graph.lower a r.0 inner r.1) here).lowest b r.2 (same ∙ (at ∙ sym here)) in
          omega (arith, is.least r.0 (get_or firsts r.0 0) r.1 (first_at_from levels firsts level r.0 here), low);
    }

-- who has a level has a read with a first
pub has_first : (levels : List (Option ℕ)) (firsts nodes : List ℕ) (level : ℕ) → IsLeast levels nodes level → HaveNone (first_at levels firsts level) nodes → ⊥
has_first levels firsts nodes level least none =
    none least.node (get_or firsts least.node 0) least.among (first_at_from levels firsts level least.node least.at)

pub firsts_more : (g : Nodes) (levels : List (Option ℕ)) (firsts : List ℕ) (f n : ℕ) → length firsts ≡ n → AreFirsts g levels firsts n →
    ((d : ℕ) → level_of levels n ≡ Some d → IsFirst g levels n f) → AreFirsts g levels (firsts ++ f ∷ []) (n + 1)
firsts_more g levels firsts f n size are new a d l at = elim (cases_lt a n) [
  | inl before ↦ rw (get_or_append_left firsts (f ∷ []) 0 a (omega arith)) (are a d before at)
  | inr here ↦
      let e : a ≡ n = omega arith in
      let put : get_or (firsts ++ f ∷ []) a 0 ≡ f = get_or_push firsts f 0 a (omega arith) in
      rw put (subst (λ (v : ℕ). IsFirst g levels v f) (sym e) (new d (ap (level_of levels) (sym e) ∙ at)))
]

-- the way back

-- the least of the firsts of a node's reads is the link to take
pub linked : (g : Nodes) (target : ℕ) (levels : List (Option ℕ)) (firsts : List ℕ) (a level f : ℕ) → IsGraph g → AreLevels g target levels → a < g.plain →
    AreFirsts g levels firsts (length g.rows) → IsLeast levels (row g a) level → IsLowest (first_at levels firsts level) (row g a) f →
    IsLink (Links g) target a f level × (level_of levels f ≡ Some level)
linked g target levels firsts a level f graph are plain firsts_are least is =
    let found = first_at_is levels firsts level is.node f is.at in
    let first = subst (λ (v : ℕ). IsFirst g levels is.node v) found.1 (firsts_are is.node level (graph.nodes a is.node is.among) found.0) in (
      record {
        link = (plain, first.stands.0, through_from g a is.node f is.among first.stands);
        lowest = λ b link w.
            let at = walk_level g target levels b level are w in
            let r = read_of g a b link.1 link.2 in
            let h = stands_level g target levels r.0 b at.0 are at.1 r.2 in
            let low = least.least r.0 h.0 r.1 h.1 in
            let e : h.0 ≡ level = omega (arith, h.2, at.2, low) in
            let d : at.0 ≡ level = omega (arith, h.2, at.2, low) in
            let here : level_of levels r.0 ≡ Some level = h.1 ∙ ap (λ (v : ℕ). Some v) e in
            let there : level_of levels b ≡ Some level = at.1 ∙ ap (λ (v : ℕ). Some v) d in
            let first_low = (firsts_are r.0 level (graph.nodes a r.0 r.1) here).lowest b r.2 (there ∙ sym here) in
            omega (arith, is.least r.0 (get_or firsts r.0 0) r.1 (first_at_from levels firsts level r.0 here), first_low);
      },
      first.same ∙ found.0,
    )

-- the last link
pub closed_way : (g : Nodes) (target : ℕ) (levels : List (Option ℕ)) (a : ℕ) → AreLevels g target levels → a < g.plain → target < g.plain → IsLeast levels (row g a) 0 →
    Links g a target
closed_way g target levels a are plain there least =
    let away = are.away least.node 0 least.at in
    (plain, there, through_from g a least.node target least.among (subst (λ (v : ℕ). StandsFor g least.node v) away.2 away.1))

-- the lowest number so far, and one more node

pub found_none : (number : ℕ → Option ℕ) → IsFound number [] None
found_none number r n h e = none_in r h

pub found_more : (number : ℕ → Option ℕ) (nodes : List ℕ) (a : ℕ) (found o : Option ℕ) → IsFound number nodes found → number a ≡ o → IsFound number (nodes ++ a ∷ []) (lower found o)
found_more number nodes a None None is at = λ r n h e. elim (Contains-push_cases nodes a r h) [
  | inl old ↦ is r n old e
  | inr same ↦ none-some n (sym at ∙ (ap number same ∙ e))
]
found_more number nodes a None (Some m) is at = record {
  node = a;
  among = Contains-push nodes a;
  at = at;
  least = λ r n h e. elim (Contains-push_cases nodes a r h) [
    | inl old ↦ absurd (is r n old e)
    | inr same ↦ omega (arith, same_Some m n (sym at ∙ (ap number same ∙ e)))
  ];
}
found_more number nodes a (Some l) None is at = record {
  node = is.node;
  among = Contains-append_left nodes (a ∷ []) is.node is.among;
  at = is.at;
  least = λ r n h e. elim (Contains-push_cases nodes a r h) [
    | inl old ↦ is.least r n old e
    | inr same ↦ absurd (none-some n (sym at ∙ (ap number same ∙ e)))
  ];
}
found_more number nodes a (Some l) (Some m) is at = elim (cases_lt l m) [
  | inl less ↦
      let e : min l m ≡ l = omega arith in
      rw e (record {
        node = is.node;
        among = Contains-append_left nodes (a ∷ []) is.node is.among;
        at = is.at;
        least = λ r n h f. elim (Contains-push_cases nodes a r h) [
          | inl old ↦ is.least r n old f
          | inr same ↦ omega (arith, same_Some m n (sym at ∙ (ap number same ∙ f)))
        ];
      })
  | inr more ↦
      let e : min l m ≡ m = omega arith in
      rw e (record {
        node = a;
        among = Contains-push nodes a;
        at = at;
        least = λ r n h f. elim (Contains-push_cases nodes a r h) [
          | inl old ↦ omega (arith, is.least r n old f)
          | inr same ↦ omega (arith, same_Some m n (sym at ∙ (ap number same ∙ f)))
        ];
      })
]

-- what stands for a node of no read that has a first, where the levels say that it has one
pub first_or : (g : Nodes) (target : ℕ) (levels : List (Option ℕ)) (firsts : List ℕ) (a level f : ℕ) → AreLevels g target levels → g.plain ≤ a → level_of levels a ≡ Some level →
    HaveNone (first_at levels firsts level) (row g a) → IsFirst g levels a f
first_or g target levels firsts a level f are inner at none =
    absurd (has_first levels firsts (row g a) level (least_inner g target levels a level are inner at) none)

-- the first plain nodes of the first nodes

pub have_none : (g : Nodes) (levels : Levels) (firsts : List ℕ) → firsts ≡ [] → HaveFirsts g levels firsts 0
have_none g levels firsts e = record { size = ap (λ (xs : List ℕ). length xs) e; are = λ a d l. absurd (omega arith) }

pub have_more : (g : Nodes) (levels : Levels) (firsts after : List ℕ) (f n : ℕ) → HaveFirsts g levels firsts n → after ≡ firsts ++ f ∷ [] →
    ((d : ℕ) → level_of levels.values.items n ≡ Some d → IsFirst g levels.values.items n f) → HaveFirsts g levels after (n + 1)
have_more g levels firsts after f n have e new = record {
  size = rw e (omega (arith, length_push firsts f, have.size));
  are = rw e (firsts_more g levels.values.items firsts f n have.size have.are new);
}

pub have_plain : (g : Nodes) (levels : Levels) (firsts after : List ℕ) (n : ℕ) → HaveFirsts g levels firsts n → n < g.plain → after ≡ firsts ++ n ∷ [] →
    HaveFirsts g levels after (n + 1)
have_plain g levels firsts after n have plain e = have_more g levels firsts after n n have e (λ d at. first_plain g levels.values.items n plain)

pub have_all : (g : Nodes) (levels : Levels) (firsts : List ℕ) (n : ℕ) → HaveFirsts g levels firsts n → n ≡ length g.rows → AreAllFirsts g levels firsts
have_all g levels firsts n have e = record {
  size = have.size ∙ e;
  are = subst (λ (v : ℕ). AreFirsts g levels.values.items firsts v) e have.are;
}

pub next_or : (g : Nodes) (levels : Levels) (firsts : List ℕ) (a level f : ℕ) → IsLeast levels.values.items (row g a) level →
    HaveNone (first_at levels.values.items firsts level) (row g a) → IsNext g levels a level f
next_or g levels firsts a level f least none = absurd (has_first levels.values.items firsts (row g a) level least none)

pub next_is : (g : Nodes) (levels : Levels) (firsts : List ℕ) (a level f : ℕ) → IsGraph g → AreLevelsOf g levels → a < g.plain → AreAllFirsts g levels firsts →
    IsLeast levels.values.items (row g a) level → IsLowest (first_at levels.values.items firsts level) (row g a) f → IsNext g levels a level f
next_is g levels firsts a level f graph are plain firsts_are least is =
    let l = linked g levels.target levels.values.items firsts a level f graph are.1 plain firsts_are.are least is in
    record { link = l.0; at = l.1 }
