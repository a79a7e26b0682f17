-- Levels that spread from a plain node.
use Rattle.std.proofs.Common.{◌≡◌, ◌≢◌, ℕ, zero, suc, ◌+◌, ◌<◌, ◌≤◌, ◌⊎◌, inl, inr, List, [], ◌∷◌, ◌++◌, Option, Some, None, length, get_or, set, replicate, refl, sym, ◌∙◌, ap, subst, arith}
use Rattle.std.specs.List.{Contains}
use Rattle.std.proofs.lemmas.Bool.{cases_lt, cases_eq, lt-ltb, le-ltb}
use Rattle.std.proofs.lemmas.Option.{none-some, same_Some}
use Rattle.std.proofs.lemmas.List.{length-set, length-replicate, length_push, get_or-replicate, get_or_past, get_or-set_same, get_or-set_other, get_or_read}
use Rattle.std.proofs.lemmas.List.Elements.{Contains-push, Contains-push_cases, Contains-append_left}
use Rattle.lx_graph.specs.Graph.{Nodes, Reads, IsGraph}
use Rattle.lx_graph.specs.Cycle.{Walk}
use Rattle.lx_graph.specs.Through.{Links}
use Rattle.lx_graph.specs.Levels.{StandsFor, cost, level_of, IsAtMost, IsClosed, AreLevels, unset, IsWave, Spreads, turns_left, KeepsWave, IsReached, IsSpread, IsRisen}
use Rattle.lx_graph.specs.declared.levels.Wave.{Wave}
use Rattle.lx_graph.proofs.Rows.{none_in, reads_node}
use Rattle.lx_graph.proofs.Ways.{through_from}

pub cost_plain : (g : Nodes) (a : ℕ) → a < g.plain → cost g a ≡ 1
cost_plain g a l = rw (lt-ltb a g.plain l) refl

pub cost_inner : (g : Nodes) (a : ℕ) → g.plain ≤ a → cost g a ≡ 0
cost_inner g a l = rw (le-ltb a g.plain l) refl

pub level_here : (levels : List (Option ℕ)) (a d : ℕ) → a < length levels → level_of (set levels a (Some d)) a ≡ Some d
level_here levels a d l = get_or-set_same levels a (Some d) None l

level_there : (levels : List (Option ℕ)) (a b d : ℕ) → a ≢ b → level_of (set levels b (Some d)) a ≡ level_of levels a
level_there levels a b d ne = get_or-set_other levels b a (Some d) None ne

set_cases : (levels : List (Option ℕ)) (a b d : ℕ) → b < length levels →
    ((a ≡ b) × (level_of (set levels b (Some d)) a ≡ Some d)) ⊎ ((a ≢ b) × (level_of (set levels b (Some d)) a ≡ level_of levels a))
set_cases levels a b d l = elim (cases_eq a b) [
  | inl e ↦ inl (e, rw e (level_here levels b d l))
  | inr ne ↦ inr (ne, level_there levels a b d ne)
]

-- levels stay where one without a level gets one
pub level_stays : (levels : List (Option ℕ)) (b d : ℕ) → level_of levels b ≡ None → (a e : ℕ) → level_of levels a ≡ Some e → level_of (set levels b (Some d)) a ≡ Some e
level_stays levels b d new a e h = elim (cases_eq a b) [
  | inl same ↦ absurd (none-some e (sym new ∙ (ap (level_of levels) (sym same) ∙ h)))
  | inr ne ↦ level_there levels a b d ne ∙ h
]

at_most_stays : (levels : List (Option ℕ)) (b d : ℕ) → level_of levels b ≡ None → (a most : ℕ) → IsAtMost levels a most → IsAtMost (set levels b (Some d)) a most
at_most_stays levels b d new a most (e, is, l) = (e, level_stays levels b d new a e is, l)

pub unset_set : (levels : List (Option ℕ)) (a d : ℕ) → a < length levels → level_of levels a ≡ None → unset (set levels a (Some d)) + 1 ≡ unset levels
unset_set [] a d l new = absurd (omega arith)
unset_set (None ∷ levels) zero d l new = omega arith
unset_set (Some e ∷ levels) zero d l new = absurd (none-some e (sym new))
unset_set (None ∷ levels) (suc a) d l new = let h = unset_set levels a d (omega arith) new in omega (arith, h)
unset_set (Some e ∷ levels) (suc a) d l new = unset_set levels a d (omega arith) new

abbrev pub unlevelled : Option ℕ
unlevelled = None

unset_all : (n : ℕ) → unset (replicate n unlevelled) ≡ n
unset_all zero = refl
unset_all (suc n) = ap (λ (v : ℕ). suc v) (unset_all n)

none_all : (n a : ℕ) → level_of (replicate n unlevelled) a ≡ None
none_all n a = elim (cases_lt a n) [
  | inl l ↦ get_or-replicate n a unlevelled None l
  | inr past ↦ get_or_past (replicate n unlevelled) a None (omega (arith, length-replicate n unlevelled))
]

pub begun : (g : Nodes) (target n : ℕ) → IsGraph g → target < g.plain → n ≡ length g.rows →
    IsWave g target [] (set (replicate n unlevelled) target (Some 0)) (target ∷ []) [] 0
begun g target n graph plain same =
    let blank = replicate n unlevelled in
    let size = length-replicate n unlevelled in
    let here : target < length blank = omega (arith, graph.plain) in
    let only : (a d : ℕ) → level_of (set blank target (Some 0)) a ≡ Some d → (a ≡ target) × (0 ≡ d) = λ a d h. elim (set_cases blank a target 0 here) [
      | inl is ↦ (is.0, same_Some 0 d (sym is.1 ∙ h))
      | inr other ↦ absurd (none-some d (sym (none_all n a) ∙ (sym other.1 ∙ h)))
    ] in
    record {
      size = length-set blank target (Some 0) ∙ (size ∙ same);
      start = level_here blank target 0 here;
      away = λ a d h. let is = only a d h in (target, (plain, inl is.0), subst (λ (v : ℕ). Walk (Links g) target target v) is.1 refl);
      near = λ a d h. let is = only a d h in omega (arith, is.1);
      at_now = λ a h. elim (Contains-push_cases [] target a h) [
        | inl none ↦ absurd (none_in a none)
        | inr e ↦ rw (← e) (level_here blank target 0 here)
      ];
      at_next = λ a h. absurd (none_in a h);
      closed = λ r d h _ now _. absurd (now (subst (λ (v : ℕ). Contains (target ∷ []) v) (sym (only r d h).0) (Contains-push [] target)));
      room = omega (arith, unset_set blank target 0 here (none_all n target), unset_all n, length-set blank target (Some 0));
    }

-- the node that is looked at is busy
pub popped : (g : Nodes) (target : ℕ) (levels : List (Option ℕ)) (now next : List ℕ) (level a : ℕ) → IsWave g target [] levels (now ++ a ∷ []) next level →
    IsWave g target (a ∷ []) levels now next level
popped g target levels now next level a is = record {
  size = is.size;
  start = is.start;
  away = is.away;
  near = is.near;
  at_now = λ b h. is.at_now b (Contains-append_left now (a ∷ []) b h);
  at_next = is.at_next;
  closed = λ r d h busy here there. is.closed r d h (none_in r)
      (λ in_now. elim (Contains-push_cases now a r in_now) [
        | inl old ↦ here old
        | inr e ↦ busy (subst (λ (v : ℕ). Contains (a ∷ []) v) e (Contains-push [] a))
      ])
      there;
  room = is.room;
}

-- where the readers of the busy node have their levels, it is busy no more
pub spread_done : (g : Nodes) (target : ℕ) (levels : List (Option ℕ)) (now next : List ℕ) (level a : ℕ) → IsWave g target (a ∷ []) levels now next level →
    level_of levels a ≡ Some level → IsClosed g levels a level → IsWave g target [] levels now next level
spread_done g target levels now next level a is at closed = record {
  size = is.size;
  start = is.start;
  away = is.away;
  near = is.near;
  at_now = is.at_now;
  at_next = is.at_next;
  closed = λ r d h _ here there. elim (cases_eq r a) [
    | inl e ↦
        let same : level ≡ d = same_Some level d (sym at ∙ (ap (level_of levels) (sym e) ∙ h)) in
        rw (e, ← same) closed
    | inr ne ↦ is.closed r d h (λ busy. elim (Contains-push_cases [] a r busy) [ inl none ↦ none_in r none | inr e ↦ ne (sym e) ]) here there
  ];
  room = is.room;
}

-- a plain reader of the busy node gets the next level
pub reached_plain : (g : Nodes) (target : ℕ) (levels : List (Option ℕ)) (now next : List ℕ) (level a r : ℕ) → IsWave g target (r ∷ []) levels now next level →
    Reads g a r → level_of levels r ≡ Some level → level_of levels a ≡ None → a < g.plain →
    IsWave g target (r ∷ []) (set levels a (Some (level + 1))) now (next ++ a ∷ []) level
reached_plain g target levels now next level a r is reads at new plain =
    let here : a < length levels = omega (arith, is.size, reads_node g a r reads) in
    let stays = level_stays levels a (level + 1) new in
    record {
      size = length-set levels a (Some (level + 1)) ∙ is.size;
      start = stays target 0 is.start;
      away = λ b d h. elim (set_cases levels b a (level + 1) here) [
        | inr other ↦ is.away b d (sym other.1 ∙ h)
        | inl same ↦
            let from = is.away r level at in
            let e : suc level ≡ d = omega (arith, same_Some (level + 1) d (sym same.1 ∙ h)) in
            (a, (plain, inl same.0), subst (λ (v : ℕ). Walk (Links g) a target v) e (from.0, (plain, from.1.0, through_from g a r from.0 reads from.1), from.2))
      ];
      near = λ b d h. elim (set_cases levels b a (level + 1) here) [
        | inr other ↦ is.near b d (sym other.1 ∙ h)
        | inl same ↦
            let c : cost g b ≡ 1 = ap (λ (v : ℕ). cost g v) same.0 ∙ cost_plain g a plain in
            omega (arith, same_Some (level + 1) d (sym same.1 ∙ h), c)
      ];
      at_now = λ b h. stays b level (is.at_now b h);
      at_next = λ b h. elim (Contains-push_cases next a b h) [
        | inl old ↦ stays b (level + 1) (is.at_next b old)
        | inr e ↦ rw (← e) (level_here levels a (level + 1) here)
      ];
      closed = λ b d h busy in_now in_next. elim (set_cases levels b a (level + 1) here) [
        | inl same ↦ absurd (in_next (subst (λ (v : ℕ). Contains (next ++ a ∷ []) v) (sym same.0) (Contains-push next a)))
        | inr other ↦ λ c l. at_most_stays levels a (level + 1) new c (d + cost g c)
            (is.closed b d (sym other.1 ∙ h) busy in_now (λ old. in_next (Contains-append_left next (a ∷ []) b old)) c l)
      ];
      room = omega (arith, is.room, unset_set levels a (level + 1) here new, length_push next a, length-set levels a (Some (level + 1)));
    }

-- an inner reader of the busy node gets its level
pub reached_inner : (g : Nodes) (target : ℕ) (levels : List (Option ℕ)) (now next : List ℕ) (level a r : ℕ) → IsWave g target (r ∷ []) levels now next level →
    Reads g a r → level_of levels r ≡ Some level → level_of levels a ≡ None → g.plain ≤ a →
    IsWave g target (r ∷ []) (set levels a (Some level)) (now ++ a ∷ []) next level
reached_inner g target levels now next level a r is reads at new inner =
    let here : a < length levels = omega (arith, is.size, reads_node g a r reads) in
    let stays = level_stays levels a level new in
    record {
      size = length-set levels a (Some level) ∙ is.size;
      start = stays target 0 is.start;
      away = λ b d h. elim (set_cases levels b a level here) [
        | inr other ↦ is.away b d (sym other.1 ∙ h)
        | inl same ↦
            let from = is.away r level at in
            let e : level ≡ d = same_Some level d (sym same.1 ∙ h) in
            let stands : StandsFor g a from.0 = (from.1.0, inr (inner, through_from g a r from.0 reads from.1)) in
            (from.0, subst (λ (v : ℕ). StandsFor g v from.0) (sym same.0) stands, subst (λ (v : ℕ). Walk (Links g) from.0 target v) e from.2)
      ];
      near = λ b d h. elim (set_cases levels b a level here) [
        | inr other ↦ is.near b d (sym other.1 ∙ h)
        | inl same ↦ omega (arith, same_Some level d (sym same.1 ∙ h))
      ];
      at_now = λ b h. elim (Contains-push_cases now a b h) [
        | inl old ↦ stays b level (is.at_now b old)
        | inr e ↦ rw (← e) (level_here levels a level here)
      ];
      at_next = λ b h. stays b (level + 1) (is.at_next b h);
      closed = λ b d h busy in_now in_next. elim (set_cases levels b a level here) [
        | inl same ↦ absurd (in_now (subst (λ (v : ℕ). Contains (now ++ a ∷ []) v) (sym same.0) (Contains-push now a)))
        | inr other ↦ λ c l. at_most_stays levels a level new c (d + cost g c)
            (is.closed b d (sym other.1 ∙ h) busy (λ old. in_now (Contains-append_left now (a ∷ []) b old)) in_next c l)
      ];
      room = omega (arith, is.room, unset_set levels a level here new, length-set levels a (Some level));
    }

some_length : (xs : List ℕ) → xs ≢ [] → 0 < length xs
some_length [] some = absurd (some refl)
some_length (x ∷ xs) some = omega arith

-- the next level
pub risen : (g : Nodes) (target : ℕ) (levels : List (Option ℕ)) (now next : List ℕ) (level : ℕ) → IsWave g target [] levels now next level →
    now ≡ [] → next ≢ [] → IsWave g target [] levels next now (level + 1)
risen g target levels now next level is none some = record {
  size = is.size;
  start = is.start;
  away = is.away;
  near = λ a d h. omega (arith, is.near a d h);
  at_now = is.at_next;
  at_next = λ a h. absurd (none_in a (subst (λ (xs : List ℕ). Contains xs a) none h));
  closed = λ r d h busy in_now in_next. is.closed r d h busy in_next in_now;
  room = omega (arith, is.room, some_length next some, ap (λ (xs : List ℕ). length xs) none);
}

pub finished : (g : Nodes) (target : ℕ) (levels : List (Option ℕ)) (now next : List ℕ) (level : ℕ) → IsWave g target [] levels now next level →
    now ≡ [] → next ≡ [] → AreLevels g target levels
finished g target levels now next level is none no_more = record {
  size = is.size;
  start = is.start;
  away = is.away;
  closed = λ r d h. is.closed r d h (none_in r)
      (λ h. none_in r (subst (λ (xs : List ℕ). Contains xs r) none h))
      (λ h. none_in r (subst (λ (xs : List ℕ). Contains xs r) no_more h));
}

-- what the code leaves after a step

pub level_is : (levels : List (Option ℕ)) (a : ℕ) (o : Option ℕ) → a < length levels → o ≡ get_or levels a o → level_of levels a ≡ o
level_is levels a o l e = sym (get_or_read levels a o l e None)

pub keeps_itself : (v : Wave) → KeepsWave v v
keeps_itself v = record { target = refl; levels = λ a d h. h; level = refl; turns = omega arith }

pub keeps_on : (u v w : Wave) → KeepsWave u v → KeepsWave v w → KeepsWave u w
keeps_on u v w first second = record {
  target = second.target ∙ first.target;
  levels = λ a d h. second.levels a d (first.levels a d h);
  level = second.level ∙ first.level;
  turns = omega (arith, first.turns, second.turns);
}

pub was_reached : (g : Nodes) (read node d : ℕ) (v : Wave) → Spreads g (read ∷ []) v → level_of v.levels.items node ≡ Some d → IsReached g read node v v
was_reached g read node d v is at = record { spreads = is; keeps = keeps_itself v; level = (d, at, is.near node d at) }

pub is_reached_plain : (g : Nodes) (read node : ℕ) (v w : Wave) → Spreads g (read ∷ []) v → Reads g node read → level_of v.levels.items read ≡ Some v.level →
    level_of v.levels.items node ≡ None → node < g.plain → w.target ≡ v.target → w.levels.items ≡ set v.levels.items node (Some (v.level + 1)) →
    w.now ≡ v.now → w.next ≡ v.next ++ node ∷ [] → w.level ≡ v.level → IsReached g read node v w
is_reached_plain g read node v w is reads at new plain target levels now next level =
    let here : node < length v.levels.items = omega (arith, is.size, reads_node g node read reads) in
    record {
      spreads = rw (target, levels, now, next, level) (reached_plain g v.target v.levels.items v.now v.next v.level node read is reads at new plain);
      keeps = record {
        target = target;
        levels = λ a d h. rw levels (level_stays v.levels.items node (v.level + 1) new a d h);
        level = level;
        turns = rw (levels, now, next) (omega (arith, unset_set v.levels.items node (v.level + 1) here new, length_push v.next node));
      };
      level = rw levels (v.level + 1, level_here v.levels.items node (v.level + 1) here, omega (arith, cost_plain g node plain));
    }

pub is_reached_inner : (g : Nodes) (read node : ℕ) (v w : Wave) → Spreads g (read ∷ []) v → Reads g node read → level_of v.levels.items read ≡ Some v.level →
    level_of v.levels.items node ≡ None → g.plain ≤ node → w.target ≡ v.target → w.levels.items ≡ set v.levels.items node (Some v.level) →
    w.now ≡ v.now ++ node ∷ [] → w.next ≡ v.next → w.level ≡ v.level → IsReached g read node v w
is_reached_inner g read node v w is reads at new inner target levels now next level =
    let here : node < length v.levels.items = omega (arith, is.size, reads_node g node read reads) in
    record {
      spreads = rw (target, levels, now, next, level) (reached_inner g v.target v.levels.items v.now v.next v.level node read is reads at new inner);
      keeps = record {
        target = target;
        levels = λ a d h. rw levels (level_stays v.levels.items node v.level new a d h);
        level = level;
        turns = rw (levels, now, next) (omega (arith, unset_set v.levels.items node v.level here new, length_push v.now node));
      };
      level = rw levels (v.level, level_here v.levels.items node v.level here, omega arith);
    }

-- what holds while the readers of a busy node are reached
pub record IsSpreading (g : Nodes) (read : ℕ) (nodes : List ℕ) (v w : Wave) : Type 0 where
  pub spreads : Spreads g (read ∷ []) w
  pub keeps : KeepsWave v w
  pub reached : (a : ℕ) → Contains nodes a → IsAtMost w.levels.items a (v.level + cost g a)

pub spreading : (g : Nodes) (read : ℕ) (v : Wave) → Spreads g (read ∷ []) v → IsSpreading g read [] v v
spreading g read v is = record { spreads = is; keeps = keeps_itself v; reached = λ a h. absurd (none_in a h) }

pub spreading_on : (g : Nodes) (read : ℕ) (nodes : List ℕ) (node : ℕ) (u v w : Wave) → IsSpreading g read nodes u v → IsReached g read node v w →
    IsSpreading g read (nodes ++ node ∷ []) u w
spreading_on g read nodes node u v w is more = record {
  spreads = more.spreads;
  keeps = keeps_on u v w is.keeps more.keeps;
  reached = λ a h. elim (Contains-push_cases nodes node a h) [
    | inl old ↦ let l = is.reached a old in (l.0, more.keeps.levels a l.0 l.1, l.2)
    | inr e ↦ let l = more.level in (l.0, ap (level_of w.levels.items) (sym e) ∙ l.1, omega (arith, l.2, is.keeps.level, ap (λ (x : ℕ). cost g x) e))
  ];
}

pub spread_all : (g : Nodes) (read : ℕ) (nodes : List ℕ) (v w : Wave) → IsSpreading g read nodes v w → ((a : ℕ) → Reads g a read → Contains nodes a) →
    level_of v.levels.items read ≡ Some v.level → IsSpread g v w
spread_all g read nodes v w is all at = record {
  spreads = spread_done g w.target w.levels.items w.now w.next w.level read is.spreads
      (is.keeps.levels read v.level at ∙ ap (λ (x : ℕ). Some x) (sym is.keeps.level))
      (λ a reads. rw is.keeps.level (is.reached a (all a reads)));
  keeps = is.keeps;
}

-- the level of a node that is looked at
pub record IsPopped (g : Nodes) (a : ℕ) (v w : Wave) : Type 0 where
  pub spreads : Spreads g (a ∷ []) w
  pub node : a < length g.rows
  pub at : level_of w.levels.items a ≡ Some w.level
  pub turns : turns_left w < turns_left v

level_within : (levels : List (Option ℕ)) (a d : ℕ) → level_of levels a ≡ Some d → a < length levels
level_within levels a d h = elim (cases_lt a (length levels)) [
  | inl l ↦ l
  | inr past ↦ absurd (none-some d (sym (get_or_past levels a None past) ∙ h))
]

pub is_popped : (g : Nodes) (a : ℕ) (v w : Wave) → Spreads g [] v → v.now ≡ w.now ++ a ∷ [] → w.target ≡ v.target → w.levels.items ≡ v.levels.items →
    w.next ≡ v.next → w.level ≡ v.level → IsPopped g a v w
is_popped g a v w is now target levels next level =
    let whole : IsWave g w.target [] w.levels.items (w.now ++ a ∷ []) w.next w.level = rw (target, levels, next, level, ← now) is in
    let at = whole.at_now a (Contains-push w.now a) in
    record {
      spreads = popped g w.target w.levels.items w.now w.next w.level a whole;
      node = omega (arith, level_within w.levels.items a w.level at, whole.size);
      at = at;
      turns = rw (levels, next, now) (omega (arith, length_push w.now a));
    }

pub is_risen : (g : Nodes) (v w : Wave) → Spreads g [] v → v.now ≡ [] → v.next ≢ [] → w.target ≡ v.target → w.levels.items ≡ v.levels.items →
    w.now ≡ v.next → w.next ≡ v.now → w.level ≡ v.level + 1 → IsRisen g v w
is_risen g v w is none some target levels now next level = record {
  spreads = rw (target, levels, now, next, level) (risen g v.target v.levels.items v.now v.next v.level is none some);
  target = target;
  turns = rw (levels, now, next) (omega (arith, some_length v.next some, ap (λ (xs : List ℕ). length xs) none));
}

pub wave_node : (g : Nodes) (read node : ℕ) (v : Wave) → Spreads g (read ∷ []) v → Reads g node read → node < length v.levels.items
wave_node g read node v is reads = omega (arith, is.size, reads_node g node read reads)

pub spreading_level : (g : Nodes) (read : ℕ) (nodes : List ℕ) (v w : Wave) → IsSpreading g read nodes v w → level_of v.levels.items read ≡ Some v.level →
    level_of w.levels.items read ≡ Some w.level
spreading_level g read nodes v w is at = is.keeps.levels read v.level at ∙ ap (λ (x : ℕ). Some x) (sym is.keeps.level)

-- nothing was taken off
pub none_popped : (g : Nodes) (v w : Wave) → Spreads g [] v → v.now ≡ [] → w.now ≡ [] → w.target ≡ v.target → w.levels.items ≡ v.levels.items →
    w.next ≡ v.next → w.level ≡ v.level → Spreads g [] w
none_popped g v w is none now target levels next level =
    rw (target, levels, now, next, level) (subst (λ (xs : List ℕ). IsWave g v.target [] v.levels.items xs v.next v.level) none is)
