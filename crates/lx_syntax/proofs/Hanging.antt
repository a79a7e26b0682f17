-- What a node in the arena is to the one above it.
use Rattle.std.proofs.Common.{ℕ, true, ◌≡◌, ◌<◌, ◌≤◌, nat_lt, List, [], ◌∷◌, refl, ap, ◌∙◌, sym, subst, arith, map, Some, None}
use Rattle.std.proofs.lemmas.Bool.{and_parts, ltb-true}
use Rattle.lx_token.specs.declared.tokens.Token.{Token}
use Rattle.lx_grammar.specs.declared.grammar.Rule.{Rule}
use Rattle.lx_grammar.specs.declared.grammar.Rule.TheVariants as rule
use Rattle.lx_grammar.specs.Derives.{Tree, Grown, Parts}
use Rattle.lx_arena.specs.declared.Id.{Id}
use Rattle.lx_pytree.specs.declared.tree.PyNode.{PyNode}
use Rattle.lx_pytree.specs.declared.tree.PyNodes.{PyNodes}
use Rattle.lx_pytree.specs.declared.tree.PyPart.{PyPart}
use Rattle.lx_pytree.specs.declared.tree.PyPart.TheVariants as part
use Rattle.lx_pytree.specs.Below.{parts_below}
use Rattle.lx_pytree.specs.Trees.{node_tree, plants}
use Rattle.lx_syntax.specs.declared.forms.Argument.{Argument}
use Rattle.lx_syntax.specs.declared.forms.Trailer.{Trailer}
use Rattle.lx_syntax.specs.declared.forms.Trailer.TheVariants as trailer
use Rattle.lx_syntax.specs.Ast as ast
use Rattle.lx_syntax.specs.Convert.{Placed, Starred, Keyed, Way, arguments, arguments_in, bounds, expr, exprs, names_among, names_of, spread, stmt, stmts, suite, tokens, way_of, with_argument}
use Rattle.lx_syntax.specs.Forming.{nodes_in, tokens_in}
use Rattle.lx_syntax.specs.Forms.{Exprs_at, Ids, Lower, argument_before, argument_ids, arguments_at, block_at, bound_at, items_at}
use Rattle.lx_syntax.specs.Says.{AreArguments, AreItems, AreLines, PartsLower, IsIndex, IsSlice, argument_of, exprs_of, given, stmts_of}
use Rattle.lx_syntax.proofs.Splitting.{nodes_lower, nodes_planted, tokens_planted}

pub parts_lower : (k n : ℕ) (ps : List PyPart) → k ≤ n → parts_below k ps ≡ true → PartsLower n ps
unfolding parts_below PartsLower
parts_lower k n [] le h = tt
parts_lower k n (part.Token x ∷ ps) le h = parts_lower k n ps le h
parts_lower k n (part.Node id ∷ ps) le h =
    let both = and_parts (nat_lt id.place k) (parts_below k ps) h in
    let lt : id.place < k = ltb-true _ _ both.0 in
    (omega arith, parts_lower k n ps le both.1)

nodes_of_child : (k n : ℕ) (ps : List PyPart) → parts_below k ps ≡ true → k < n → Lower n (nodes_in ps)
nodes_of_child k n ps h l = nodes_lower n ps (parts_lower k n ps (omega arith) h)

self_lower : (n : ℕ) (id : Id PyNodes) → id.place < n → Lower n (id ∷ [])
unfolding Lower
self_lower n id h = (h, tt)

names_of_grown : (src : List ℕ) (t : Tree) (r : Rule) (ps : Parts) → t ≡ Grown r ps → names_of src t ≡ names_among src (tokens ps)
unfolding names_of
names_of_grown src t r ps e = ap (names_of src) e

pub names_at : (src : List ℕ) (t : ℕ → Tree) (k : ℕ) (node : PyNode) → t k ≡ node_tree t node → names_of src (t k) ≡ names_among src (tokens_in node.parts)
names_at src t k node e = names_of_grown src (t k) node.rule (plants t node.parts) e ∙ sym (ap (names_among src) (tokens_planted t node.parts))

-- ---- items

spread_values : (src : List ℕ) (ps : Parts) (e : ast.Expr) → spread src (Grown rule.Values ps) e ≡ exprs src ps
unfolding spread
spread_values src ps e = refl

spread_other : (src : List ℕ) (r : Rule) (ps : Parts) (e : ast.Expr) → (r ≡ rule.Values → ⊥) → spread src (Grown r ps) e ≡ ast.more e ast.none
unfolding spread
spread_other src rule.Values ps e h = absurd (h refl)
spread_other src _ ps e h = refl

pub items_of_values : (t : ℕ → Tree) (k : ℕ) (node : PyNode) (ids : Ids) → t k ≡ node_tree t node → parts_below k node.parts ≡ true → node.rule ≡ rule.Values → ids ≡ nodes_in node.parts → AreItems t k ids
items_of_values t k node ids e low r p = record {
  says = λ src. ap (items_at (exprs_of src t)) p ∙ nodes_planted src t node.parts
      ∙ sym (ap (λ u. spread src u (expr src (t k))) (e ∙ ap (λ s. Grown s (plants t node.parts)) r) ∙ spread_values src (plants t node.parts) (expr src (t k)));
  lower = λ n l. subst (λ xs. Lower n xs) (sym p) (nodes_of_child k n node.parts low l);
}

alone_items : (f : Exprs_at) (id : Id PyNodes) → items_at f (id ∷ []) ≡ ast.more (f id.place) ast.none
unfolding items_at
alone_items f id = refl

pub item_alone : (t : ℕ → Tree) (id : Id PyNodes) (node : PyNode) (ids : Ids) → t id.place ≡ node_tree t node → (node.rule ≡ rule.Values → ⊥) → ids ≡ id ∷ [] → AreItems t id.place ids
item_alone t id node ids e r p = record {
  says = λ src. ap (items_at (exprs_of src t)) p ∙ alone_items (exprs_of src t) id
      ∙ sym (ap (λ u. spread src u (expr src (t id.place))) e ∙ spread_other src node.rule (plants t node.parts) (expr src (t id.place)) r);
  lower = λ n l. subst (λ xs. Lower n xs) (sym p) (self_lower n id l);
}

-- ---- blocks

block_planted : (src : List ℕ) (t : ℕ → Tree) (ps : List PyPart) → block_at (stmts_of src t) (nodes_in ps) ≡ stmts src (plants t ps)
unfolding nodes_in stmts plants block_at
block_planted src t [] = refl
block_planted src t (part.Token x ∷ ps) = block_planted src t ps
block_planted src t (part.Node id ∷ ps) = ap (λ ss. ast.then_ (stmt src (t id.place)) ss) (block_planted src t ps)

suite_lines : (src : List ℕ) (ps : Parts) (s : ast.Stmt) → suite src (Grown rule.Suite ps) s ≡ stmts src ps
unfolding suite
suite_lines src ps s = refl

suite_other : (src : List ℕ) (r : Rule) (ps : Parts) (s : ast.Stmt) → (r ≡ rule.Suite → ⊥) → suite src (Grown r ps) s ≡ ast.then_ s ast.done
unfolding suite
suite_other src rule.Suite ps s h = absurd (h refl)
suite_other src _ ps s h = refl

pub lines_of_suite : (t : ℕ → Tree) (k : ℕ) (node : PyNode) (ids : Ids) → t k ≡ node_tree t node → parts_below k node.parts ≡ true → node.rule ≡ rule.Suite → ids ≡ nodes_in node.parts → AreLines t k ids
lines_of_suite t k node ids e low r p = record {
  says = λ src. ap (block_at (stmts_of src t)) p ∙ block_planted src t node.parts
      ∙ sym (ap (λ u. suite src u (stmt src (t k))) (e ∙ ap (λ s. Grown s (plants t node.parts)) r) ∙ suite_lines src (plants t node.parts) (stmt src (t k)));
  lower = λ n l. subst (λ xs. Lower n xs) (sym p) (nodes_of_child k n node.parts low l);
}

alone_block : (g : ℕ → ast.Stmt) (id : Id PyNodes) → block_at g (id ∷ []) ≡ ast.then_ (g id.place) ast.done
unfolding block_at
alone_block g id = refl

pub line_alone : (t : ℕ → Tree) (id : Id PyNodes) (node : PyNode) (ids : Ids) → t id.place ≡ node_tree t node → (node.rule ≡ rule.Suite → ⊥) → ids ≡ id ∷ [] → AreLines t id.place ids
line_alone t id node ids e r p = record {
  says = λ src. ap (block_at (stmts_of src t)) p ∙ alone_block (stmts_of src t) id
      ∙ sym (ap (λ u. suite src u (stmt src (t id.place))) e ∙ suite_other src node.rule (plants t node.parts) (stmt src (t id.place)) r);
  lower = λ n l. subst (λ xs. Lower n xs) (sym p) (self_lower n id l);
}

-- ---- arguments

given_says : (src : List ℕ) (f : Exprs_at) (id : Id PyNodes) (way : Way) (rest : ast.Arguments) → argument_before src f (given id way) rest ≡ with_argument src way (f id.place) rest
unfolding with_argument
given_says src f id Placed rest = refl
given_says src f id Starred rest = refl
given_says src f id (Keyed x) rest = refl

pub arguments_planted : (src : List ℕ) (t : ℕ → Tree) (ps : List PyPart) → arguments_at src (exprs_of src t) (map (argument_of t) (nodes_in ps)) ≡ arguments_in src (plants t ps)
unfolding nodes_in arguments_in plants arguments_at
arguments_planted src t [] = refl
arguments_planted src t (part.Token x ∷ ps) = arguments_planted src t ps
arguments_planted src t (part.Node id ∷ ps) =
    given_says src (exprs_of src t) id (way_of (t id.place)) (arguments_at src (exprs_of src t) (map (argument_of t) (nodes_in ps)))
    ∙ ap (with_argument src (way_of (t id.place)) (expr src (t id.place))) (arguments_planted src t ps)

arguments_several : (src : List ℕ) (ps : Parts) (e : ast.Expr) → arguments src (Grown rule.Args ps) e ≡ arguments_in src ps
unfolding arguments
arguments_several src ps e = refl

arguments_other : (src : List ℕ) (r : Rule) (ps : Parts) (e : ast.Expr) → (r ≡ rule.Args → ⊥) → arguments src (Grown r ps) e ≡ with_argument src (way_of (Grown r ps)) e ast.no_argument
unfolding arguments
arguments_other src rule.Args ps e h = absurd (h refl)
arguments_other src _ ps e h = refl

given_id : (id : Id PyNodes) (way : Way) → argument_ids (given id way ∷ []) ≡ id ∷ []
unfolding argument_ids
given_id id Placed = refl
given_id id Starred = refl
given_id id (Keyed x) = refl

argument_ids_are : (t : ℕ → Tree) (ids : Ids) → argument_ids (map (argument_of t) ids) ≡ ids
unfolding argument_ids
argument_ids_are t [] = refl
argument_ids_are t (id ∷ ids) = more id (way_of (t id.place)) (map (argument_of t) ids) (argument_ids_are t ids)
  where
    more : (i : Id PyNodes) (way : Way) (args : List Argument) → argument_ids args ≡ ids → argument_ids (given i way ∷ args) ≡ i ∷ ids
    more i Placed args e = ap (λ js. i ∷ js) e
    more i Starred args e = ap (λ js. i ∷ js) e
    more i (Keyed x) args e = ap (λ js. i ∷ js) e

pub arguments_of_args : (t : ℕ → Tree) (k : ℕ) (node : PyNode) (ids : Ids) (args : List Argument) → t k ≡ node_tree t node → parts_below k node.parts ≡ true → node.rule ≡ rule.Args → ids ≡ nodes_in node.parts → args ≡ map (argument_of t) ids → AreArguments t k args
arguments_of_args t k node ids args e low r p q =
    let is : args ≡ map (argument_of t) (nodes_in node.parts) = q ∙ ap (map (argument_of t)) p in
    record {
      says = λ src. ap (arguments_at src (exprs_of src t)) is ∙ arguments_planted src t node.parts
          ∙ sym (ap (λ u. arguments src u (expr src (t k))) (e ∙ ap (λ s. Grown s (plants t node.parts)) r) ∙ arguments_several src (plants t node.parts) (expr src (t k)));
      lower = λ n l. subst (λ xs. Lower n xs) (sym (ap argument_ids is ∙ argument_ids_are t (nodes_in node.parts))) (nodes_of_child k n node.parts low l);
    }

one_argument : (src : List ℕ) (f : Exprs_at) (a : Argument) → arguments_at src f (a ∷ []) ≡ argument_before src f a ast.no_argument
unfolding arguments_at
one_argument src f a = refl

pub argument_alone : (t : ℕ → Tree) (id : Id PyNodes) (node : PyNode) (args : List Argument) → t id.place ≡ node_tree t node → (node.rule ≡ rule.Args → ⊥) → args ≡ argument_of t id ∷ [] → AreArguments t id.place args
argument_alone t id node args e r p = record {
  says = λ src. ap (arguments_at src (exprs_of src t)) p ∙ one_argument src (exprs_of src t) (argument_of t id)
      ∙ given_says src (exprs_of src t) id (way_of (t id.place)) ast.no_argument
      ∙ ap (λ u. with_argument src (way_of u) (expr src (t id.place)) ast.no_argument) e
      ∙ sym (ap (λ u. arguments src u (expr src (t id.place))) e ∙ arguments_other src node.rule (plants t node.parts) (expr src (t id.place)) r);
  lower = λ n l. subst (λ xs. Lower n xs) (sym (ap argument_ids p ∙ given_id id (way_of (t id.place)))) (self_lower n id l);
}

pub way_other : (r : Rule) (ps : Parts) → (r ≡ rule.Arg → ⊥) → way_of (Grown r ps) ≡ Placed
unfolding way_of
way_other rule.Arg ps h = absurd (h refl)
way_other _ ps h = refl

pub bounds_other : (src : List ℕ) (r : Rule) (ps : Parts) (e : ast.Expr) (rest : ast.Trailers) → (r ≡ rule.Sub → ⊥) → bounds src (Grown r ps) e rest ≡ ast.item e rest
unfolding bounds
bounds_other src rule.Sub ps e rest h = absurd (h refl)
bounds_other src _ ps e rest h = refl

pub index_of_sub : (t : ℕ → Tree) (id : Id PyNodes) (node : PyNode) (x : Trailer) → t id.place ≡ node_tree t node → parts_below id.place node.parts ≡ true → node.rule ≡ rule.Sub → IsSlice id node.parts x → IsIndex t id.place x
index_of_sub t id node x e low r is = record {
  says = λ src rest. is.says src t rest ∙ sym (ap (λ u. bounds src u (expr src (t id.place)) rest) (e ∙ ap (λ s. Grown s (plants t node.parts)) r));
  lower = λ n l. is.lower n l (parts_lower id.place n node.parts (omega arith) low);
}

pub index_alone : (t : ℕ → Tree) (id : Id PyNodes) (node : PyNode) → t id.place ≡ node_tree t node → (node.rule ≡ rule.Sub → ⊥) → IsIndex t id.place (trailer.Item id)
index_alone t id node e r = record {
  says = λ src rest. sym (ap (λ u. bounds src u (expr src (t id.place)) rest) e ∙ bounds_other src node.rule (plants t node.parts) (expr src (t id.place)) rest r);
  lower = λ n l. self_lower n id l;
}

pub nodes_within : (k n : ℕ) (ps : List PyPart) (ids : Ids) → ids ≡ nodes_in ps → parts_below k ps ≡ true → k < n → Lower n ids
nodes_within k n ps ids p h l = subst (λ xs. Lower n xs) (sym p) (nodes_of_child k n ps h l)

pub parts_within : (k n : ℕ) (ps : List PyPart) → parts_below k ps ≡ true → k ≤ n → PartsLower n ps
parts_within k n ps h l = parts_lower k n ps l h

pub slice_same : (id : Id PyNodes) (ps qs : List PyPart) (x : Trailer) → ps ≡ qs → IsSlice id qs x → IsSlice id ps x
slice_same id ps qs x e is = rw e is

-- parts that are no slice
abbrev pub NoSlice : List PyPart → Type 0
NoSlice [] = Unit {0}
NoSlice (part.Token x ∷ []) = ⊥
NoSlice (part.Token x ∷ part.Token y ∷ ps) = Unit {0}
NoSlice (part.Token x ∷ part.Node high ∷ []) = ⊥
NoSlice (part.Token x ∷ part.Node high ∷ p ∷ ps) = Unit {0}
NoSlice (part.Node low ∷ []) = Unit {0}
NoSlice (part.Node low ∷ part.Node high ∷ ps) = Unit {0}
NoSlice (part.Node low ∷ part.Token x ∷ []) = ⊥
NoSlice (part.Node low ∷ part.Token x ∷ part.Token y ∷ ps) = Unit {0}
NoSlice (part.Node low ∷ part.Token x ∷ part.Node high ∷ []) = ⊥
NoSlice (part.Node low ∷ part.Token x ∷ part.Node high ∷ p ∷ ps) = Unit {0}

not_slice : (id : Id PyNodes) (ps : List PyPart) → NoSlice ps → IsSlice id ps (trailer.Item id)
unfolding bounds plants Lower
not_slice id [] h = record { says = λ src t rest. refl; lower = λ n s l. (s, tt) }
not_slice id (part.Token x ∷ []) h = absurd h
not_slice id (part.Token x ∷ part.Token y ∷ ps) h = record { says = λ src t rest. refl; lower = λ n s l. (s, tt) }
not_slice id (part.Token x ∷ part.Node high ∷ []) h = absurd h
not_slice id (part.Token x ∷ part.Node high ∷ part.Token y ∷ ps) h = record { says = λ src t rest. refl; lower = λ n s l. (s, tt) }
not_slice id (part.Token x ∷ part.Node high ∷ part.Node j ∷ ps) h = record { says = λ src t rest. refl; lower = λ n s l. (s, tt) }
not_slice id (part.Node low ∷ []) h = record { says = λ src t rest. refl; lower = λ n s l. (s, tt) }
not_slice id (part.Node low ∷ part.Node high ∷ ps) h = record { says = λ src t rest. refl; lower = λ n s l. (s, tt) }
not_slice id (part.Node low ∷ part.Token x ∷ []) h = absurd h
not_slice id (part.Node low ∷ part.Token x ∷ part.Token y ∷ ps) h = record { says = λ src t rest. refl; lower = λ n s l. (s, tt) }
not_slice id (part.Node low ∷ part.Token x ∷ part.Node high ∷ []) h = absurd h
not_slice id (part.Node low ∷ part.Token x ∷ part.Node high ∷ part.Token y ∷ ps) h = record { says = λ src t rest. refl; lower = λ n s l. (s, tt) }
not_slice id (part.Node low ∷ part.Token x ∷ part.Node high ∷ part.Node j ∷ ps) h = record { says = λ src t rest. refl; lower = λ n s l. (s, tt) }

pub slice_done : (id : Id PyNodes) (ps : List PyPart) → ps ≡ [] → IsSlice id ps (trailer.Item id)
slice_done id ps e = rw e (not_slice id [] tt)

pub whole_slice : (id : Id PyNodes) (x : Token) (ps : List PyPart) → ps ≡ [] → IsSlice id (part.Token x ∷ ps) (trailer.Slice None None)
unfolding bounds bound_at plants Lower
whole_slice id x ps e = rw e (record { says = λ src t rest. refl; lower = λ n s l. tt })

pub no_slice : (id : Id PyNodes) (x y : Token) (ps qs : List PyPart) → ps ≡ part.Token y ∷ qs → IsSlice id (part.Token x ∷ ps) (trailer.Item id)
no_slice id x y ps qs e = rw e (not_slice id (part.Token x ∷ part.Token y ∷ qs) tt)

pub high_slice : (id high : Id PyNodes) (x : Token) (ps qs : List PyPart) → ps ≡ part.Node high ∷ qs → qs ≡ [] → IsSlice id (part.Token x ∷ ps) (trailer.Slice None (Some high))
unfolding bounds bound_at plants PartsLower Lower
high_slice id high x ps qs e f = rw (e, f) (record { says = λ src t rest. refl; lower = λ n s l. (l.0, tt) })

pub high_many : (id high : Id PyNodes) (x : Token) (ps qs rs : List PyPart) (p : PyPart) → ps ≡ part.Node high ∷ qs → qs ≡ p ∷ rs → IsSlice id (part.Token x ∷ ps) (trailer.Item id)
high_many id high x ps qs rs p e f = rw (e, f) (not_slice id (part.Token x ∷ part.Node high ∷ p ∷ rs) tt)

pub low_alone : (id low : Id PyNodes) (ps : List PyPart) → ps ≡ [] → IsSlice id (part.Node low ∷ ps) (trailer.Item id)
low_alone id low ps e = rw e (not_slice id (part.Node low ∷ []) tt)

pub low_node : (id low high : Id PyNodes) (ps qs : List PyPart) → ps ≡ part.Node high ∷ qs → IsSlice id (part.Node low ∷ ps) (trailer.Item id)
low_node id low high ps qs e = rw e (not_slice id (part.Node low ∷ part.Node high ∷ qs) tt)

pub low_token : (id low : Id PyNodes) (y : Token) (ps qs : List PyPart) (x : Trailer) → ps ≡ part.Token y ∷ qs → IsSlice id (part.Node low ∷ part.Token y ∷ qs) x → IsSlice id (part.Node low ∷ ps) x
low_token id low y ps qs x e is = rw e is

pub low_slice : (id low : Id PyNodes) (x : Token) (ps : List PyPart) → ps ≡ [] → IsSlice id (part.Node low ∷ part.Token x ∷ ps) (trailer.Slice (Some low) None)
unfolding bounds bound_at plants PartsLower Lower
low_slice id low x ps e = rw e (record { says = λ src t rest. refl; lower = λ n s l. (l.0, tt) })

pub low_no_slice : (id low : Id PyNodes) (x y : Token) (ps qs : List PyPart) → ps ≡ part.Token y ∷ qs → IsSlice id (part.Node low ∷ part.Token x ∷ ps) (trailer.Item id)
low_no_slice id low x y ps qs e = rw e (not_slice id (part.Node low ∷ part.Token x ∷ part.Token y ∷ qs) tt)

pub both_slice : (id low high : Id PyNodes) (x : Token) (ps qs : List PyPart) → ps ≡ part.Node high ∷ qs → qs ≡ [] → IsSlice id (part.Node low ∷ part.Token x ∷ ps) (trailer.Slice (Some low) (Some high))
unfolding bounds bound_at plants PartsLower Lower
both_slice id low high x ps qs e f = rw (e, f) (record { says = λ src t rest. refl; lower = λ n s l. (l.0, (l.1.0, tt)) })

pub both_many : (id low high : Id PyNodes) (x : Token) (ps qs rs : List PyPart) (p : PyPart) → ps ≡ part.Node high ∷ qs → qs ≡ p ∷ rs → IsSlice id (part.Node low ∷ part.Token x ∷ ps) (trailer.Item id)
both_many id low high x ps qs rs p e f = rw (e, f) (not_slice id (part.Node low ∷ part.Token x ∷ part.Node high ∷ p ∷ rs) tt)
