-- Statements by their parts.
use Rattle.std.proofs.Common.{ℕ, true, ◌≡◌, ◌<◌, ◌≤◌, ◌++◌, List, [], ◌∷◌, refl, ap, ◌∙◌, sym, subst, arith, map, Option, Some, None}
use Rattle.lx_token.specs.declared.tokens.Token.{Token}
use Rattle.lx_arena.specs.declared.Id.{Id}
use Rattle.lx_grammar.specs.declared.grammar.Rule.{Rule}
use Rattle.lx_grammar.specs.declared.grammar.Rule.TheVariants as rule
use Rattle.lx_grammar.specs.declared.sign.Sign.{Sign}
use Rattle.lx_grammar.specs.declared.sign.Sign.TheVariants as sign
use Rattle.lx_grammar.specs.Derives.{Tree, Grown, Parts}
use Rattle.lx_pytree.specs.declared.tree.PyNode.{PyNode}
use Rattle.lx_pytree.specs.declared.tree.PyNodes.{PyNodes}
use Rattle.lx_pytree.specs.declared.tree.PyPart.{PyPart}
use Rattle.lx_pytree.specs.declared.tree.PyPart.TheVariants as part
use Rattle.lx_pytree.specs.Below.{parts_below}
use Rattle.lx_pytree.specs.Trees.{node_tree, plants}
use Rattle.lx_syntax.specs.declared.forms.Branch.{Branch}
use Rattle.lx_syntax.specs.declared.forms.Place.{Place}
use Rattle.lx_syntax.specs.declared.forms.Place.TheVariants as place
use Rattle.lx_syntax.specs.declared.forms.StmtForm.{StmtForm}
use Rattle.lx_syntax.specs.declared.forms.StmtForm.TheVariants as form
use Rattle.lx_syntax.specs.Ast as ast
use Rattle.lx_syntax.specs.Ast.{Branches, Expr, Stmt, Stmts}
use Rattle.lx_syntax.specs.Blocks.{ArmsRead, IsBound, IsBranch, IsBranching, IsElse, IsEnd, IsLoop, IsOver, IsPlaceAt, IsPlaceIn, branches_onto, conditional, over, place_parts, place_said}
use Rattle.lx_syntax.specs.Convert.{bound, branches, expr, line_of, line_of_parts, loop_, names_of, otherwise, place_of, sign_of, simple, stmt, text_of}
use Rattle.lx_syntax.specs.Forms.{Exprs_at, Ids, Lower, block_at, branches_at, branches_ids, place_at, place_ids, stmt_form, stmt_ids}
use Rattle.lx_syntax.specs.Says.{AreLines, IsStmt, IsStmtAt, PartsLower, StmtSaysOf, exprs_of, stmts_of}
use Rattle.lx_syntax.proofs.Flats.{line_is}
use Rattle.lx_syntax.proofs.Hanging.{parts_lower}
use Rattle.lx_syntax.proofs.Standing.{back_lower, front_lower}
use Rattle.lx_syntax.proofs.Trailing.{lower_both}

-- ---- places

place_none : (src : List ℕ) (r : Rule) (ps : Parts) → (r ≡ rule.Place → ⊥) → None ≡ place_of src (Grown r ps)
unfolding place_of
place_none src rule.Place ps h = absurd (h refl)
place_none src _ ps h = refl

pub place_made : (t : ℕ → Tree) (k : ℕ) (node : PyNode) (o : Option Place) → t k ≡ node_tree t node → parts_below k node.parts ≡ true → node.rule ≡ rule.Place → IsPlaceIn node.parts o → IsPlaceAt t k o
place_made t k node o e low r is = record {
  says = λ src. is.says src t ∙ sym (ap (place_of src) (e ∙ ap (λ s. Grown s (plants t node.parts)) r));
  lower = λ n l. is.lower n (parts_lower k n node.parts (omega arith) low);
}

pub no_place : (t : ℕ → Tree) (k : ℕ) (node : PyNode) → t k ≡ node_tree t node → (node.rule ≡ rule.Place → ⊥) → IsPlaceAt t k None
unfolding Lower
no_place t k node e r = record {
  says = λ src. place_none src node.rule (plants t node.parts) r ∙ sym (ap (place_of src) e);
  lower = λ n l. tt;
}

bound_nothing : (line : ℕ) (s : Sign) (e : Expr) → ast.NoStmt ≡ bound line s None e
unfolding bound
bound_nothing line sign.Assign e = refl
bound_nothing line sign.AddAssign e = refl
bound_nothing line _ e = refl

bound_nowhere : (line : ℕ) (s : Sign) (o : Option ast.Place) (e : Expr) → (s ≡ sign.Assign → ⊥) → (s ≡ sign.AddAssign → ⊥) → ast.NoStmt ≡ bound line s o e
unfolding bound
bound_nowhere line sign.Assign o e h i = absurd (h refl)
bound_nowhere line sign.AddAssign o e h i = absurd (i refl)
bound_nowhere line _ o e h i = refl

pub bound_none : (s : Sign) (value : ℕ) → IsBound s None value form.NoStmt
unfolding stmt_form stmt_ids Lower
bound_none s value = record { says = λ src t line. bound_nothing line s (expr src (t value)); lower = λ n l p. tt }

pub bound_other : (s : Sign) (p : Place) (value : ℕ) → (s ≡ sign.Assign → ⊥) → (s ≡ sign.AddAssign → ⊥) → IsBound s (Some p) value form.NoStmt
unfolding stmt_form stmt_ids Lower
bound_other s p value h i = record { says = λ src t line. bound_nowhere line s (place_said src (exprs_of src t) (Some p)) (expr src (t value)) h i; lower = λ n l q. tt }

bind_lower : (n : ℕ) (p : Place) (value : Id PyNodes) → value.place < n → Lower n (place_parts (Some p)) → Lower n (place_ids p (value ∷ []))
unfolding Lower
bind_lower n (place.Name x) value l h = (l, tt)
bind_lower n (place.Attribute of x) value l h = (h.0, (l, tt))

bound_assign : (line : ℕ) (s : Sign) (p : ast.Place) (e : Expr) → s ≡ sign.Assign → ast.Bind line p e ≡ bound line s (Some p) e
unfolding bound
bound_assign line sign.Assign p e h = refl
bound_assign line _ p e h = absurd (cc)

bound_add : (line : ℕ) (s : Sign) (p : ast.Place) (e : Expr) → s ≡ sign.AddAssign → ast.Add line p e ≡ bound line s (Some p) e
unfolding bound
bound_add line sign.AddAssign p e h = refl
bound_add line _ p e h = absurd (cc)

pub bound_bind : (s : Sign) (p : Place) (value : Id PyNodes) → s ≡ sign.Assign → IsBound s (Some p) value.place (form.Bind p value)
unfolding stmt_form stmt_ids
bound_bind s p value h = record { says = λ src t line. bound_assign line s (place_at src (exprs_of src t) p) (expr src (t value.place)) h; lower = λ n l q. bind_lower n p value l q }

pub bound_more : (s : Sign) (p : Place) (value : Id PyNodes) → s ≡ sign.AddAssign → IsBound s (Some p) value.place (form.Add p value)
unfolding stmt_form stmt_ids
bound_more s p value h = record { says = λ src t line. bound_add line s (place_at src (exprs_of src t) p) (expr src (t value.place)) h; lower = λ n l q. bind_lower n p value l q }

simple_bound : (src : List ℕ) (t : ℕ → Tree) (at value : Id PyNodes) (x : Token) (rest : List PyPart) → simple src (plants t (part.Node at ∷ part.Token x ∷ part.Node value ∷ rest)) ≡ bound (line_of (t at.place)) (sign_of src x) (place_of src (t at.place)) (expr src (t value.place))
unfolding simple plants
simple_bound src t at value x rest = refl

first_line : (t : ℕ → Tree) (at : Id PyNodes) (ps : List PyPart) → line_of_parts (plants t (part.Node at ∷ ps)) ≡ line_of (t at.place)
unfolding line_of_parts plants
first_line t at ps = refl

ends_low : (n : ℕ) (at value : Id PyNodes) (x : Token) (rest : List PyPart) → PartsLower n (part.Node at ∷ part.Token x ∷ part.Node value ∷ rest) → (at.place < n) × (value.place < n)
unfolding PartsLower
ends_low n at value x rest h = (h.0, h.1.0)

pub bound_made : (src : List ℕ) (t : ℕ → Tree) (n : ℕ) (at value : Id PyNodes) (x : Token) (rest : List PyPart) (s : Sign) (o : Option Place) (made : StmtForm)
    → PartsLower n (part.Node at ∷ part.Token x ∷ part.Node value ∷ rest) → s ≡ sign_of src x → IsPlaceAt t at.place o → IsBound s o value.place made → StmtSaysOf src t n (part.Node at ∷ part.Token x ∷ part.Node value ∷ rest) simple made
bound_made src t n at value x rest s o made low e put is =
    let l = ends_low n at value x rest low in
    let line : ℕ = line_of_parts (plants t (part.Node at ∷ part.Token x ∷ part.Node value ∷ rest)) in
    record {
      says = is.says src t line ∙ ap (λ z. bound line z (place_said src (exprs_of src t) o) (expr src (t value.place))) e ∙ ap (λ z. bound line (sign_of src x) z (expr src (t value.place))) (put.says src)
          ∙ ap (λ z. bound z (sign_of src x) (place_of src (t at.place)) (expr src (t value.place))) (first_line t at (part.Token x ∷ part.Node value ∷ rest)) ∙ sym (simple_bound src t at value x rest);
      lower = is.lower n l.1 (put.lower n l.0);
    }

-- ---- loops

pub loop_made : (src : List ℕ) (t : ℕ → Tree) (names : ℕ) (source : Id PyNodes) (block : ℕ) (xs : List Token) (ids : Ids) → xs ≡ names_of src (t names) → AreLines t block ids → IsLoop src t names source.place block (form.For xs source ids)
unfolding stmt_form stmt_ids Lower
loop_made src t names source block xs ids e are = record {
  says = λ line. ap (λ ys. ast.For line (map (text_of src) ys) (expr src (t source.place)) (block_at (stmts_of src t) ids)) e ∙ ap (ast.For line (map (text_of src) (names_of src (t names))) (expr src (t source.place))) (are.says src);
  lower = λ n s b. (s, are.lower n b);
}

pub loop_over : (src : List ℕ) (t : ℕ → Tree) (names source : ℕ) (x : Token) (block : Id PyNodes) (made : StmtForm) → IsLoop src t names source block.place made → IsOver src t names source (part.Token x ∷ part.Node block ∷ []) made
unfolding over plants PartsLower
loop_over src t names source x block made is = record { says = is.says; lower = λ n s low. is.lower n s low.0 }

for_is : (src : List ℕ) (t : ℕ → Tree) (x y : Token) (names source : Id PyNodes) (rest : List PyPart)
    → over src (t names.place) (t source.place) (plants t rest) x.line ≡ loop_ src (plants t (part.Token x ∷ part.Node names ∷ part.Token y ∷ part.Node source ∷ rest))
unfolding over loop_ plants
for_is src t x y names source [] = refl
for_is src t x y names source (part.Node a ∷ rest) = refl
for_is src t x y names source (part.Token z ∷ []) = refl
for_is src t x y names source (part.Token z ∷ part.Token a ∷ rest) = refl
for_is src t x y names source (part.Token z ∷ part.Node a ∷ []) = refl
for_is src t x y names source (part.Token z ∷ part.Node a ∷ part.Token b ∷ rest) = refl
for_is src t x y names source (part.Token z ∷ part.Node a ∷ part.Node b ∷ rest) = refl

for_low : (n : ℕ) (x y : Token) (names source : Id PyNodes) (rest : List PyPart) → PartsLower n (part.Token x ∷ part.Node names ∷ part.Token y ∷ part.Node source ∷ rest) → (names.place < n) × ((source.place < n) × PartsLower n rest)
unfolding PartsLower
for_low n x y names source rest h = h

pub for_made : (src : List ℕ) (t : ℕ → Tree) (n : ℕ) (x y : Token) (names source : Id PyNodes) (rest : List PyPart) (made : StmtForm)
    → PartsLower n (part.Token x ∷ part.Node names ∷ part.Token y ∷ part.Node source ∷ rest) → IsOver src t names.place source.place rest made → StmtSaysOf src t n (part.Token x ∷ part.Node names ∷ part.Token y ∷ part.Node source ∷ rest) loop_ made
unfolding line_of_parts plants
for_made src t n x y names source rest made low is =
    let l = for_low n x y names source rest low in
    record { says = is.says x.line ∙ for_is src t x y names source rest; lower = is.lower n l.1.0 l.1.1 }

pub parts_more : (k n : ℕ) (ps : List PyPart) → k ≤ n → PartsLower k ps → PartsLower n ps
unfolding PartsLower
parts_more k n [] l h = tt
parts_more k n (part.Token x ∷ ps) l h = parts_more k n ps l h
parts_more k n (part.Node id ∷ ps) l h = (omega (arith, h.0), parts_more k n ps l h.1)

pub rest_within : (k n : ℕ) (x y : Token) (names source : Id PyNodes) (rest : List PyPart) → PartsLower k (part.Token x ∷ part.Node names ∷ part.Token y ∷ part.Node source ∷ rest) → k < n → PartsLower n rest
rest_within k n x y names source rest h l = parts_more k n rest (omega arith) (for_low k x y names source rest h).1.1

-- ---- conditions and blocks

pub branch_put : (t : ℕ → Tree) (condition : Id PyNodes) (block : ℕ) (body : Ids) (old new : List Branch) → AreLines t block body → new ≡ old ++ record { condition = condition; body = body } ∷ [] → IsBranch t condition.place block old new
branch_put t condition block body old new are put = record { body = body; at = condition; is = refl; put = put; says = are.says; lower = are.lower }

onto_more : (f : Exprs_at) (g : ℕ → Stmt) (bs : List Branch) (b : Branch) (rest : Branches) → branches_onto f g (bs ++ b ∷ []) rest ≡ branches_onto f g bs (ast.branch (f b.condition.place) (block_at g b.body) rest)
unfolding branches_onto
onto_more f g [] b rest = refl
onto_more f g (c ∷ bs) b rest = ap (ast.branch (f c.condition.place) (block_at g c.body)) (onto_more f g bs b rest)

onto_none : (f : Exprs_at) (g : ℕ → Stmt) (bs : List Branch) → branches_onto f g bs ast.no_branch ≡ branches_at f g bs
unfolding branches_onto branches_at
onto_none f g [] = refl
onto_none f g (b ∷ bs) = ap (ast.branch (f b.condition.place) (block_at g b.body)) (onto_none f g bs)

ids_more : (n : ℕ) (bs : List Branch) (b : Branch) → Lower n (branches_ids bs) → b.condition.place < n → Lower n b.body → Lower n (branches_ids (bs ++ b ∷ []))
unfolding branches_ids Lower
ids_more n [] b h c l = (c, lower_both n b.body [] l tt)
ids_more n (d ∷ bs) b h c l = (h.0, lower_both n d.body (branches_ids (bs ++ b ∷ [])) (front_lower n d.body (branches_ids bs) h.1) (ids_more n bs b (back_lower n d.body (branches_ids bs) h.1) c l))

pub arms_none : (t : ℕ → Tree) (n : ℕ) (ps : List PyPart) (bs : List Branch) → PartsLower n ps → bs ≡ [] → ArmsRead t n ps ps bs
unfolding branches_onto branches_ids Lower
arms_none t n ps bs h e = record { says = λ src. rw e refl; others = λ src. refl; lower = rw e tt; left = h }

pub arms_more : (t : ℕ → Tree) (n : ℕ) (ps rest left : List PyPart) (condition block : ℕ) (bs cs : List Branch) → ArmsRead t n ps rest bs → IsBranching rest condition block left → IsBranch t condition block bs cs → ArmsRead t n ps left cs
arms_more t n ps rest left condition block bs cs read on put =
    let b : Branch = record { condition = put.at; body = put.body } in
    record {
      says = λ src.
          let f : Exprs_at = exprs_of src t in
          let g : ℕ → Stmt = stmts_of src t in
          let next : Branches = branches src (plants t left) in
          ap (λ ds. branches_onto f g ds next) put.put ∙ onto_more f g bs b next
          ∙ ap (branches_onto f g bs) (ap (λ k. ast.branch (f k) (block_at g put.body) next) put.is ∙ ap (λ s. ast.branch (f condition) s next) (put.says src) ∙ sym (on.branches src t))
          ∙ read.says src;
      others = λ src. sym (on.otherwise src t) ∙ read.others src;
      lower = subst (λ ds. Lower n (branches_ids ds)) (sym put.put) (ids_more n bs b read.lower (subst (λ (k : ℕ). k < n) (sym put.is) (on.condition_low n read.left)) (put.lower n (on.block_low n read.left)));
      left = on.left n read.left;
    }

if_ends : (src : List ℕ) (t : ℕ → Tree) (n : ℕ) (ps rest : List PyPart) (bs : List Branch) (ids : Ids) → ArmsRead t n ps rest bs → branches src (plants t rest) ≡ ast.no_branch → block_at (stmts_of src t) ids ≡ otherwise src (plants t rest) → Lower n ids
    → StmtSaysOf src t n ps conditional (form.If bs ids)
unfolding stmt_form stmt_ids
if_ends src t n ps rest bs ids read none others low =
    let f : Exprs_at = exprs_of src t in
    let g : ℕ → Stmt = stmts_of src t in
    let line : ℕ = line_of_parts (plants t ps) in
    record {
      says = ap (λ b. ast.If line b (block_at g ids)) (sym (onto_none f g bs) ∙ ap (branches_onto f g bs) (sym none) ∙ read.says src) ∙ ap (ast.If line (branches src (plants t ps))) (others ∙ read.others src);
      lower = lower_both n (branches_ids bs) ids read.lower low;
    }

pub arms_else : (t : ℕ → Tree) (n : ℕ) (ps rest : List PyPart) (bs : List Branch) (block : ℕ) (ids : Ids) → ArmsRead t n ps rest bs → IsElse rest block → AreLines t block ids → (src : List ℕ) → StmtSaysOf src t n ps conditional (form.If bs ids)
arms_else t n ps rest bs block ids read is are src = if_ends src t n ps rest bs ids read (is.branches src t) (are.says src ∙ sym (is.otherwise src t)) (are.lower n (is.block_low n read.left))

no_block : (g : ℕ → Stmt) (n : ℕ) → (block_at g [] ≡ ast.done) × Lower n []
unfolding block_at Lower
no_block g n = (refl, tt)

pub arms_end : (t : ℕ → Tree) (n : ℕ) (ps rest : List PyPart) (bs : List Branch) (ids : Ids) → ArmsRead t n ps rest bs → IsEnd rest → ids ≡ [] → (src : List ℕ) → StmtSaysOf src t n ps conditional (form.If bs ids)
arms_end t n ps rest bs ids read is e src =
    if_ends src t n ps rest bs ids read (is.branches src t) (ap (block_at (stmts_of src t)) e ∙ (no_block (stmts_of src t) n).0 ∙ sym (is.otherwise src t)) (subst (λ xs. Lower n xs) (sym e) (no_block (stmts_of src t) n).1)

pub block_within : (t : ℕ → Tree) (k n : ℕ) (ps rest left : List PyPart) (bs : List Branch) (condition block : ℕ) → ArmsRead t k ps rest bs → IsBranching rest condition block left → k < n → block < n
block_within t k n ps rest left bs condition block read is l = omega (arith, is.block_low k read.left)

pub else_within : (t : ℕ → Tree) (k n : ℕ) (ps rest : List PyPart) (bs : List Branch) (block : ℕ) → ArmsRead t k ps rest bs → IsElse rest block → k < n → block < n
else_within t k n ps rest bs block read is l = omega (arith, is.block_low k read.left)

-- ---- at a place

as_stmt : (src : List ℕ) (t : ℕ → Tree) (k : ℕ) (node : PyNode) (word : Stmt) (made : StmtForm) → t k ≡ node_tree t node → word ≡ stmt src (Grown node.rule (plants t node.parts))
    → IsStmt src t k (line_of_parts (plants t node.parts)) word made → IsStmtAt src t k made
as_stmt src t k node word made e w is = record {
  says = ap (λ line. stmt_form src (exprs_of src t) (stmts_of src t) line made) (sym (line_is t k node e)) ∙ is.says ∙ w ∙ sym (ap (stmt src) e);
  lower = is.lower;
}

stmt_simple : (src : List ℕ) (r : Rule) (ps : Parts) → r ≡ rule.Simple → simple src ps ≡ stmt src (Grown r ps)
unfolding stmt
stmt_simple src rule.Simple ps e = refl
stmt_simple src _ ps e = absurd (cc)

stmt_if : (src : List ℕ) (r : Rule) (ps : Parts) → r ≡ rule.If → conditional src ps ≡ stmt src (Grown r ps)
unfolding stmt
stmt_if src rule.If ps e = refl
stmt_if src _ ps e = absurd (cc)

stmt_for : (src : List ℕ) (r : Rule) (ps : Parts) → r ≡ rule.For → loop_ src ps ≡ stmt src (Grown r ps)
unfolding stmt
stmt_for src rule.For ps e = refl
stmt_for src _ ps e = absurd (cc)

stmt_none : (src : List ℕ) (r : Rule) (ps : Parts) → (r ≡ rule.Simple → ⊥) → (r ≡ rule.If → ⊥) → (r ≡ rule.For → ⊥) → ast.NoStmt ≡ stmt src (Grown r ps)
unfolding stmt
stmt_none src rule.Simple ps h i j = absurd (h refl)
stmt_none src rule.If ps h i j = absurd (i refl)
stmt_none src rule.For ps h i j = absurd (j refl)
stmt_none src _ ps h i j = refl

pub simple_at : (src : List ℕ) (t : ℕ → Tree) (k : ℕ) (node : PyNode) (made : StmtForm) → t k ≡ node_tree t node → node.rule ≡ rule.Simple → StmtSaysOf src t k node.parts simple made → IsStmtAt src t k made
simple_at src t k node made e r is = as_stmt src t k node (simple src (plants t node.parts)) made e (stmt_simple src node.rule (plants t node.parts) r) is

pub if_at : (src : List ℕ) (t : ℕ → Tree) (k : ℕ) (node : PyNode) (made : StmtForm) → t k ≡ node_tree t node → node.rule ≡ rule.If → ((s : List ℕ) → StmtSaysOf s t k node.parts conditional made) → IsStmtAt src t k made
if_at src t k node made e r is = as_stmt src t k node (conditional src (plants t node.parts)) made e (stmt_if src node.rule (plants t node.parts) r) (is src)

pub for_at : (src : List ℕ) (t : ℕ → Tree) (k : ℕ) (node : PyNode) (made : StmtForm) → t k ≡ node_tree t node → node.rule ≡ rule.For → StmtSaysOf src t k node.parts loop_ made → IsStmtAt src t k made
for_at src t k node made e r is = as_stmt src t k node (loop_ src (plants t node.parts)) made e (stmt_for src node.rule (plants t node.parts) r) is

pub no_stmt_at : (src : List ℕ) (t : ℕ → Tree) (k : ℕ) (node : PyNode) → t k ≡ node_tree t node → (node.rule ≡ rule.Simple → ⊥) → (node.rule ≡ rule.If → ⊥) → (node.rule ≡ rule.For → ⊥) → IsStmtAt src t k form.NoStmt
unfolding stmt_form stmt_ids Lower
no_stmt_at src t k node e h i j = record {
  says = stmt_none src node.rule (plants t node.parts) h i j ∙ sym (ap (stmt src) e);
  lower = tt;
}
