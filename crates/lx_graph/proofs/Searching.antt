-- The steps of a search depth first.
use Rattle.std.proofs.Common.{◌≡◌, ◌≢◌, ℕ, zero, suc, ◌+◌, ◌<◌, ◌≤◌, ◌⊎◌, inl, inr, List, [], ◌∷◌, ◌++◌, length, get_or, set, replicate, Some, refl, sym, ◌∙◌, ap, subst, arith}
use Rattle.std.specs.List.{All, Contains}
use Rattle.std.proofs.lemmas.Bool.{cases_lt, cases_eq}
use Rattle.std.proofs.lemmas.List.{map_push, length-set, length-replicate, get_or-replicate, get_or_past, get_or-set_same, get_or-set_other, get_or_default, get_or_read}
use Rattle.std.proofs.lemmas.List.Sums.{sum_by_push}
use Rattle.std.proofs.lemmas.List.Elements.{All-push, All-pop, All-nil, All-weaker, Contains-push, Contains-push_cases, Contains-append_left}
use Rattle.lx_graph.specs.Graph.{Nodes, row, Reads, IsGraph}
use Rattle.lx_graph.specs.Order.{IsOrder}
use Rattle.lx_graph.specs.Cycle.{Walk, OnCycle}
use Rattle.lx_graph.specs.Search.{mark_of, nodes_of, IsPath, AreApart, IsFrame, IsSearch, weight, unseen, left, steps_left, KeepSeen, WentOn, IsLooking}
use Rattle.lx_graph.specs.declared.search.Mark.{Mark}
use Rattle.lx_graph.specs.declared.search.Mark.TheVariants.{Unseen, Open, Placed}
use Rattle.lx_graph.specs.declared.search.Frame.{Frame}
use Rattle.lx_graph.specs.declared.search.Search.{Search}
use Rattle.lx_graph.proofs.Rows.{none_in, contains_cons}
use Rattle.lx_graph.proofs.Orders.{turn_push}

-- paths

path_push : (g : Nodes) (nodes : List ℕ) (a b : ℕ) → IsPath g (nodes ++ a ∷ []) → Reads g a b → IsPath g ((nodes ++ a ∷ []) ++ b ∷ [])
path_push g [] a b path reads = (reads, (tt, tt))
path_push g (c ∷ []) a b path reads = (path.0, path_push g [] a b path.1 reads)
path_push g (c ∷ d ∷ nodes) a b path reads = (path.0, path_push g (d ∷ nodes) a b path.1 reads)

path_front : (g : Nodes) (nodes : List ℕ) (a : ℕ) → IsPath g (nodes ++ a ∷ []) → IsPath g nodes
path_front g [] a path = tt
path_front g (c ∷ []) a path = (tt, tt)
path_front g (c ∷ d ∷ nodes) a path = (path.0, path_front g (d ∷ nodes) a path.1)

walk_up : (g : Nodes) (c : ℕ) (nodes : List ℕ) (a : ℕ) → IsPath g (c ∷ (nodes ++ a ∷ [])) → (n : ℕ) × Walk (Reads g) c a (suc n)
walk_up g c [] a path = (0, (a, path.0, refl))
walk_up g c (d ∷ nodes) a path = let w = walk_up g d nodes a path.1 in (suc w.0, (d, path.0, w.1))

walk_top : (g : Nodes) (nodes : List ℕ) (a b : ℕ) → IsPath g (nodes ++ a ∷ []) → Contains (nodes ++ a ∷ []) b → (n : ℕ) × Walk (Reads g) b a n
walk_top g [] a b path h = elim (contains_cons a [] b h) [ inl e ↦ (0, sym e) | inr h ↦ absurd (none_in b h) ]
walk_top g (c ∷ nodes) a b path h = elim (contains_cons c (nodes ++ a ∷ []) b h) [
  | inl e ↦ let w = walk_up g c nodes a path in (suc w.0, subst (λ (v : ℕ). Walk (Reads g) v a (suc w.0)) e w.1)
  | inr later ↦ walk_top g nodes a b path.1 later
]

walk_on : (g : Nodes) (a b c n : ℕ) → Walk (Reads g) a b n → Reads g b c → Walk (Reads g) a c (suc n)
walk_on g a b c zero e reads = (c, subst (λ (v : ℕ). Reads g v c) (sym e) reads, refl)
walk_on g a b c (suc n) (d, l, w) reads = (d, l, walk_on g d b c n w reads)

-- stacks without a node that stands twice

apart_push : (nodes : List ℕ) (a : ℕ) → AreApart nodes → (Contains nodes a → ⊥) → AreApart (nodes ++ a ∷ [])
apart_push [] a apart new = (none_in a, tt)
apart_push (b ∷ nodes) a apart new = (
  λ h. elim (Contains-push_cases nodes a b h) [
    | inl old ↦ apart.0 old
    | inr e ↦ new (0, omega arith, sym e)
  ],
  apart_push nodes a apart.1 (λ h. new (suc h.0, omega (arith, h.1), h.2)),
)

apart_front : (nodes : List ℕ) (a : ℕ) → AreApart (nodes ++ a ∷ []) → AreApart nodes
apart_front [] a apart = tt
apart_front (b ∷ nodes) a apart = (λ h. apart.0 (Contains-append_left nodes (a ∷ []) b h), apart_front nodes a apart.1)

apart_last : (nodes : List ℕ) (a : ℕ) → AreApart (nodes ++ a ∷ []) → Contains nodes a → ⊥
apart_last [] a apart h = none_in a h
apart_last (b ∷ nodes) a apart h = elim (contains_cons b nodes a h) [
  | inl e ↦ apart.0 (subst (λ (v : ℕ). Contains (nodes ++ a ∷ []) v) (sym e) (Contains-push nodes a))
  | inr later ↦ apart_last nodes a apart.1 later
]

-- marks

pub mark_here : (marks : List Mark) (a : ℕ) (m : Mark) → a < length marks → mark_of (set marks a m) a ≡ m
mark_here marks a m l = get_or-set_same marks a m Unseen l

pub mark_there : (marks : List Mark) (a b : ℕ) (m : Mark) → a ≢ b → mark_of (set marks b m) a ≡ mark_of marks a
mark_there marks a b m ne = get_or-set_other marks b a m Unseen ne

set_cases : (marks : List Mark) (a b : ℕ) (m : Mark) → b < length marks →
    ((a ≡ b) × (mark_of (set marks b m) a ≡ m)) ⊎ ((a ≢ b) × (mark_of (set marks b m) a ≡ mark_of marks a))
set_cases marks a b m l = elim (cases_eq a b) [
  | inl e ↦ inl (e, rw e (mark_here marks b m l))
  | inr ne ↦ inr (ne, mark_there marks a b m ne)
]

pub seen_set : (marks : List Mark) (b : ℕ) (m : Mark) → b < length marks → m ≢ Unseen → KeepSeen marks (set marks b m)
seen_set marks b m l is a seen e = elim (set_cases marks a b m l) [
  | inl here ↦ is (sym here.1 ∙ e)
  | inr there ↦ seen (sym there.1 ∙ e)
]

-- the steps that are left

unseen_set : (marks : List Mark) (rows : List (List ℕ)) (a : ℕ) (m : Mark) → length marks ≡ length rows → a < length marks →
    unseen (set marks a m) rows + weight (mark_of marks a) (get_or rows a []) ≡ unseen marks rows + weight m (get_or rows a [])
unseen_set [] rows a m same l = absurd (omega arith)
unseen_set (x ∷ marks) [] a m same l = absurd (omega arith)
unseen_set (x ∷ marks) (r ∷ rows) zero m same l = omega arith
unseen_set (x ∷ marks) (r ∷ rows) (suc a) m same l =
    let h = unseen_set marks rows a m (omega arith) (omega arith) in omega (arith, h)

-- a search and its steps

nodes_push : (stack : List Frame) (f : Frame) → nodes_of (stack ++ f ∷ []) ≡ nodes_of stack ++ f.node ∷ []
nodes_push stack f = map_push (λ (x : Frame). x.node) stack f

frames_more : (g : Nodes) (order : List ℕ) (a : ℕ) (stack : List Frame) → All (IsFrame g order) stack → All (IsFrame g (order ++ a ∷ [])) stack
frames_more g order a stack all = All-weaker (IsFrame g order) (IsFrame g (order ++ a ∷ [])) (λ x is. record {
  node = is.node;
  next = is.next;
  done = λ k l. Contains-append_left order (a ∷ []) _ (is.done k l);
}) stack all

top_of : (g : Nodes) (order : List ℕ) (stack : List Frame) (f : Frame) → All (IsFrame g order) (stack ++ f ∷ []) → All (IsFrame g order) stack × IsFrame g order f
top_of g order stack f all = All-pop (IsFrame g order) (stack ++ f ∷ []) stack (Some f) refl all

read_node : (g : Nodes) (f : Frame) (b : ℕ) → f.next < length (row g f.node) → get_or (row g f.node) f.next 0 ≡ b → Reads g f.node b
read_node g f b l e = (f.next, l, get_or_default (row g f.node) f.next b 0 l ∙ e)

unseen_all : (n a : ℕ) → mark_of (replicate n Unseen) a ≡ Unseen
unseen_all n a = elim (cases_lt a n) [
  | inl l ↦ get_or-replicate n a Unseen Unseen l
  | inr past ↦ get_or_past (replicate n Unseen) a Unseen (omega (arith, length-replicate {A = Mark} n Unseen))
]

pub search_begun : (g : Nodes) (n : ℕ) → length g.rows ≡ n → IsSearch g (replicate n Unseen) [] []
search_begun g n same = record {
  size = omega (arith, length-replicate {A = Mark} n Unseen);
  placed = λ a e. absurd (let h = unseen_all n a in cc);
  in_order = λ a h. absurd (none_in a h);
  opened = λ a e. absurd (let h = unseen_all n a in cc);
  stacked = λ a h. absurd (none_in a h);
  apart = tt;
  path = tt;
  frames = All-nil (IsFrame g []);
  turns = tt;
}

-- a node that was not met goes on the stack
opened_node : (g : Nodes) (marks : List Mark) (stack : List Frame) (order : List ℕ) (b : ℕ) → IsSearch g marks stack order →
    b < length g.rows → mark_of marks b ≡ Unseen → IsPath g (nodes_of stack ++ b ∷ []) →
    IsSearch g (set marks b Open) (stack ++ record { node = b; next = 0 } ∷ []) order
opened_node g marks stack order b is l new path =
    let child : Frame = record { node = b; next = 0 } in
    let m : b < length marks = omega (arith, is.size) in
    let e = nodes_push stack child in
    record {
      size = length-set marks b Open ∙ is.size;
      placed = λ a h. elim (set_cases marks a b Open m) [ inl here ↦ absurd (let x = here.1 in cc) | inr there ↦ is.placed a (sym there.1 ∙ h) ];
      in_order = λ a h. elim (set_cases marks a b Open m) [
        | inl here ↦ absurd (let x = is.in_order b (subst (λ (v : ℕ). Contains order v) here.0 h) in cc)
        | inr there ↦ there.1 ∙ is.in_order a h
      ];
      opened = λ a h. rw e (elim (set_cases marks a b Open m) [
        | inl here ↦ subst (λ (v : ℕ). Contains (nodes_of stack ++ b ∷ []) v) (sym here.0) (Contains-push (nodes_of stack) b)
        | inr there ↦ Contains-append_left (nodes_of stack) (b ∷ []) a (is.opened a (sym there.1 ∙ h))
      ]);
      stacked = λ a h. elim (set_cases marks a b Open m) [
        | inl here ↦ here.1
        | inr there ↦ elim (Contains-push_cases (nodes_of stack) b a (subst (λ (xs : List ℕ). Contains xs a) e h)) [
          | inl old ↦ there.1 ∙ is.stacked a old
          | inr same ↦ absurd (there.0 (sym same))
        ]
      ];
      apart = rw e (apart_push (nodes_of stack) b is.apart (λ h. absurd (let x = is.stacked b h in cc)));
      path = rw e path;
      frames = All-push (IsFrame g order) stack child is.frames (record { node = l; next = omega arith; done = λ k less. absurd (omega arith) });
      turns = is.turns;
    }

pub down : (g : Nodes) (marks : List Mark) (stack : List Frame) (order : List ℕ) (f : Frame) (b : ℕ) → IsGraph g → IsSearch g marks (stack ++ f ∷ []) order →
    f.next < length (row g f.node) → get_or (row g f.node) f.next 0 ≡ b → mark_of marks b ≡ Unseen →
    IsSearch g (set marks b Open) ((stack ++ f ∷ []) ++ record { node = b; next = 0 } ∷ []) order
down g marks stack order f b graph is l at new =
    let reads = read_node g f b l at in
    let e = nodes_push stack f in
    opened_node g marks (stack ++ f ∷ []) order b is (graph.nodes f.node b reads) new
    (rw e (path_push g (nodes_of stack) f.node b (subst (λ (xs : List ℕ). IsPath g xs) e is.path) reads))

pub start : (g : Nodes) (marks : List Mark) (stack : List Frame) (order : List ℕ) (b : ℕ) → IsSearch g marks stack order → stack ≡ [] →
    b < length g.rows → mark_of marks b ≡ Unseen → IsSearch g (set marks b Open) (stack ++ record { node = b; next = 0 } ∷ []) order
start g marks stack order b is none l new =
    opened_node g marks stack order b is l new (rw none (tt, tt))

-- a read that has its place
pub along : (g : Nodes) (marks : List Mark) (stack : List Frame) (order : List ℕ) (f : Frame) (b : ℕ) → IsSearch g marks (stack ++ f ∷ []) order →
    f.next < length (row g f.node) → get_or (row g f.node) f.next 0 ≡ b → mark_of marks b ≡ Placed →
    IsSearch g marks (stack ++ record { node = f.node; next = f.next + 1 } ∷ []) order
along g marks stack order f b is l at placed =
    let next : Frame = record { node = f.node; next = f.next + 1 } in
    let e : nodes_of (stack ++ next ∷ []) ≡ nodes_of (stack ++ f ∷ []) = nodes_push stack next ∙ sym (nodes_push stack f) in
    let frames = top_of g order stack f is.frames in
    record {
      size = is.size;
      placed = is.placed;
      in_order = is.in_order;
      opened = λ a h. rw e (is.opened a h);
      stacked = λ a h. is.stacked a (subst (λ (xs : List ℕ). Contains xs a) e h);
      apart = rw e is.apart;
      path = rw e is.path;
      frames = All-push (IsFrame g order) stack next frames.0 (record {
        node = frames.1.node;
        next = omega arith;
        done = λ k less. elim (cases_lt k f.next) [
          | inl before ↦ frames.1.done k before
          | inr last ↦
              let same : k ≡ f.next = omega arith in
              subst (λ (v : ℕ). Contains order v) (sym (ap (λ (i : ℕ). get_or (row g f.node) i 0) same ∙ at)) (is.placed b placed)
        ];
      });
      turns = is.turns;
    }

-- a node all of whose reads have their places gets its own
pub up : (g : Nodes) (marks : List Mark) (stack : List Frame) (order : List ℕ) (f : Frame) → IsSearch g marks (stack ++ f ∷ []) order →
    length (row g f.node) ≤ f.next → IsSearch g (set marks f.node Placed) stack (order ++ f.node ∷ [])
up g marks stack order f is whole =
    let a = f.node in
    let e = nodes_push stack f in
    let frames = top_of g order stack f is.frames in
    let m : a < length marks = omega (arith, is.size, frames.1.node) in
    let apart = subst (λ (xs : List ℕ). AreApart xs) e is.apart in
    let opened : mark_of marks a ≡ Open = is.stacked a (rw e (Contains-push (nodes_of stack) a)) in
    record {
      size = length-set marks a Placed ∙ is.size;
      placed = λ b h. elim (set_cases marks b a Placed m) [
        | inl here ↦ subst (λ (v : ℕ). Contains (order ++ a ∷ []) v) (sym here.0) (Contains-push order a)
        | inr there ↦ Contains-append_left order (a ∷ []) b (is.placed b (sym there.1 ∙ h))
      ];
      in_order = λ b h. elim (set_cases marks b a Placed m) [
        | inl here ↦ here.1
        | inr there ↦ elim (Contains-push_cases order a b h) [
          | inl old ↦ there.1 ∙ is.in_order b old
          | inr same ↦ absurd (there.0 (sym same))
        ]
      ];
      opened = λ b h. elim (set_cases marks b a Placed m) [
        | inl here ↦ absurd (let x = here.1 in cc)
        | inr there ↦ elim (Contains-push_cases (nodes_of stack) a b (subst (λ (xs : List ℕ). Contains xs b) e (is.opened b (sym there.1 ∙ h)))) [
          | inl old ↦ old
          | inr same ↦ absurd (there.0 (sym same))
        ]
      ];
      stacked = λ b h. elim (set_cases marks b a Placed m) [
        | inl here ↦ absurd (apart_last (nodes_of stack) a apart (subst (λ (v : ℕ). Contains (nodes_of stack) v) here.0 h))
        | inr there ↦ there.1 ∙ is.stacked b (rw e (Contains-append_left (nodes_of stack) (a ∷ []) b h))
      ];
      apart = apart_front (nodes_of stack) a apart;
      path = path_front g (nodes_of stack) a (subst (λ (xs : List ℕ). IsPath g xs) e is.path);
      frames = frames_more g order a stack frames.0;
      turns = turn_push g [] order a is.turns (record {
        node = frames.1.node;
        once = λ h. absurd (let x = is.in_order a h in cc);
        reads = λ b h. subst (λ (v : ℕ). Contains order v) (sym (get_or_default (row g a) h.0 b 0 h.1) ∙ h.2) (frames.1.done h.0 (omega (arith, h.1)));
      });
    }

-- a read that is on the stack closes a cycle
pub cycle_found : (g : Nodes) (marks : List Mark) (stack : List Frame) (order : List ℕ) (f : Frame) (b : ℕ) → IsSearch g marks (stack ++ f ∷ []) order →
    f.next < length (row g f.node) → get_or (row g f.node) f.next 0 ≡ b → mark_of marks b ≡ Open → OnCycle (Reads g) b
cycle_found g marks stack order f b is l at opened =
    let e = nodes_push stack f in
    let w = walk_top g (nodes_of stack) f.node b (subst (λ (xs : List ℕ). IsPath g xs) e is.path) (subst (λ (xs : List ℕ). Contains xs b) e (is.opened b opened)) in
    (w.0, walk_on g b f.node b w.0 w.1 (read_node g f b l at))

-- each step leaves fewer

pub down_less : (g : Nodes) (marks : List Mark) (stack : List Frame) (b : ℕ) → length marks ≡ length g.rows → b < length g.rows → mark_of marks b ≡ Unseen →
    steps_left g (set marks b Open) (stack ++ record { node = b; next = 0 } ∷ []) < steps_left g marks stack
down_less g marks stack b same l new =
    let child : Frame = record { node = b; next = 0 } in
    let u = unseen_set marks g.rows b Open same (omega arith) in
    let w : weight (mark_of marks b) (row g b) ≡ length (row g b) + 2 = rw new refl in
    omega (arith, u, w, sum_by_push (left g) stack child)

pub along_less : (g : Nodes) (marks : List Mark) (stack : List Frame) (f : Frame) → f.next < length (row g f.node) →
    steps_left g marks (stack ++ record { node = f.node; next = f.next + 1 } ∷ []) < steps_left g marks (stack ++ f ∷ [])
along_less g marks stack f l =
    let next : Frame = record { node = f.node; next = f.next + 1 } in
    omega (arith, sum_by_push (left g) stack f, sum_by_push (left g) stack next)

pub up_less : (g : Nodes) (marks : List Mark) (stack : List Frame) (f : Frame) → length marks ≡ length g.rows → f.node < length g.rows → mark_of marks f.node ≡ Open →
    steps_left g (set marks f.node Placed) stack < steps_left g marks (stack ++ f ∷ [])
up_less g marks stack f same l opened =
    let u = unseen_set marks g.rows f.node Placed same (omega arith) in
    let w : weight (mark_of marks f.node) (row g f.node) ≡ 0 = rw opened refl in
    omega (arith, u, w, sum_by_push (left g) stack f)

only_placed : (m : Mark) → m ≢ Unseen → m ≢ Open → m ≡ Placed
only_placed Unseen seen closed = absurd (seen refl)
only_placed Open seen closed = absurd (closed refl)
only_placed Placed seen closed = refl

-- where all nodes were met and none is on the stack, the order is one of all nodes
pub ordered : (g : Nodes) (marks : List Mark) (stack : List Frame) (order : List ℕ) → IsSearch g marks stack order → stack ≡ [] →
    ((a : ℕ) → a < length g.rows → mark_of marks a ≢ Unseen) → IsOrder g order
ordered g marks stack order is none seen = record {
  all = λ a l. is.placed a (only_placed (mark_of marks a) (seen a l) (λ h. none_in a (subst (λ (s : List Frame). Contains (nodes_of s) a) none (is.opened a h))));
  turns = is.turns;
}

-- what the code leaves after a step

pub mark_read : (marks : List Mark) (a : ℕ) (m : Mark) → a < length marks → m ≡ get_or marks a m → mark_of marks a ≡ m
mark_read marks a m l e = sym (get_or_read marks a m l e Unseen)

pub looking_node : (g : Nodes) (s : Search) (f : Frame) (all : List ℕ) → IsGraph g → IsLooking g s f all → get_or all f.next 0 < length s.marks.items
looking_node g s f all graph is =
    let reads = read_node g f (get_or all f.next 0) (rw (← is.reads) is.next) (rw is.reads refl) in
    omega (arith, graph.nodes f.node (get_or all f.next 0) reads, is.searches.size)

pub went_down : (g : Nodes) (s t : Search) (f : Frame) (all : List ℕ) → IsGraph g → IsLooking g s f all → mark_of s.marks.items (get_or all f.next 0) ≡ Unseen →
    t.marks.items ≡ set s.marks.items (get_or all f.next 0) Open → t.stack.items ≡ (s.stack.items ++ f ∷ []) ++ record { node = get_or all f.next 0; next = 0 } ∷ [] →
    t.order ≡ s.order → WentOn g s.marks.items (s.stack.items ++ f ∷ []) t
went_down g s t f all graph is new marks stack order =
    let b = get_or all f.next 0 in
    let l : f.next < length (row g f.node) = rw (← is.reads) is.next in
    let at : get_or (row g f.node) f.next 0 ≡ b = rw is.reads refl in
    let here = looking_node g s f all graph is in
    record {
      searches = rw (marks, stack, order) (down g s.marks.items s.stack.items s.order f b graph is.searches l at new);
      less = rw (marks, stack) (down_less g s.marks.items (s.stack.items ++ f ∷ []) b is.searches.size (omega (arith, is.searches.size)) new);
      seen = rw marks (seen_set s.marks.items b Open here (λ e. absurd (cc)));
    }

pub went_along : (g : Nodes) (s t : Search) (f : Frame) (all : List ℕ) → IsLooking g s f all → mark_of s.marks.items (get_or all f.next 0) ≡ Placed →
    t.marks.items ≡ s.marks.items → t.stack.items ≡ s.stack.items ++ record { node = f.node; next = f.next + 1 } ∷ [] →
    t.order ≡ s.order → WentOn g s.marks.items (s.stack.items ++ f ∷ []) t
went_along g s t f all is placed marks stack order =
    let b = get_or all f.next 0 in
    let l : f.next < length (row g f.node) = rw (← is.reads) is.next in
    let at : get_or (row g f.node) f.next 0 ≡ b = rw is.reads refl in
    record {
      searches = rw (marks, stack, order) (along g s.marks.items s.stack.items s.order f b is.searches l at placed);
      less = rw (marks, stack) (along_less g s.marks.items s.stack.items f l);
      seen = λ a seen e. seen (sym (ap (λ (ms : List Mark). mark_of ms a) marks) ∙ e);
    }

pub went_up : (g : Nodes) (s t : Search) (f : Frame) → IsSearch g s.marks.items (s.stack.items ++ f ∷ []) s.order → length (row g f.node) ≤ f.next →
    t.marks.items ≡ set s.marks.items f.node Placed → t.stack.items ≡ s.stack.items → t.order ≡ s.order ++ f.node ∷ [] →
    WentOn g s.marks.items (s.stack.items ++ f ∷ []) t
went_up g s t f is whole marks stack order =
    let frame = (top_of g s.order s.stack.items f is.frames).1 in
    let here : f.node < length s.marks.items = omega (arith, is.size, frame.node) in
    let opened = is.stacked f.node (rw (nodes_push s.stack.items f) (Contains-push (nodes_of s.stack.items) f.node)) in
    record {
      searches = rw (marks, stack, order) (up g s.marks.items s.stack.items s.order f is whole);
      less = rw (marks, stack) (up_less g s.marks.items s.stack.items f is.size frame.node opened);
      seen = rw marks (seen_set s.marks.items f.node Placed here (λ e. absurd (cc)));
    }

pub looped : (g : Nodes) (s : Search) (f : Frame) (all : List ℕ) → IsLooking g s f all → mark_of s.marks.items (get_or all f.next 0) ≡ Open →
    OnCycle (Reads g) (get_or all f.next 0)
looped g s f all is opened =
    cycle_found g s.marks.items s.stack.items s.order f (get_or all f.next 0) is.searches (rw (← is.reads) is.next) (rw is.reads refl) opened

pub seen_along : (xs ys zs : List Mark) → KeepSeen xs ys → KeepSeen ys zs → KeepSeen xs zs
seen_along xs ys zs first second a seen = second a (first a seen)

pub seen_more : (marks after : List Mark) (root : ℕ) → ((a : ℕ) → a < root → mark_of marks a ≢ Unseen) → KeepSeen marks after → mark_of after root ≢ Unseen →
    (a : ℕ) → a < root + 1 → mark_of after a ≢ Unseen
seen_more marks after root before keeps here a l = elim (cases_lt a root) [
  | inl less ↦ keeps a (before a less)
  | inr last ↦ let e : a ≡ root = omega arith in λ h. here (ap (λ (v : ℕ). mark_of after v) (sym e) ∙ h)
]
