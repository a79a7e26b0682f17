-- Loops by their first parts.
use Rattle.std.proofs.Common.{ℕ, ◌≡◌, ◌<◌, List, [], ◌∷◌, refl, subst, arith}
use Rattle.lx_token.specs.declared.tokens.Token.{Token}
use Rattle.lx_arena.specs.declared.Id.{Id}
use Rattle.lx_grammar.specs.Derives.{Tree}
use Rattle.lx_pytree.specs.declared.tree.PyNodes.{PyNodes}
use Rattle.lx_pytree.specs.declared.tree.PyPart.{PyPart}
use Rattle.lx_pytree.specs.declared.tree.PyPart.TheVariants as part
use Rattle.lx_pytree.specs.Trees.{plants}
use Rattle.lx_syntax.specs.declared.forms.StmtForm.{StmtForm}
use Rattle.lx_syntax.specs.declared.forms.StmtForm.TheVariants as form
use Rattle.lx_syntax.specs.Blocks.{IsLoop, IsOver, over}
use Rattle.lx_syntax.specs.Convert.{loop_}
use Rattle.lx_syntax.specs.Forms.{Lower, stmt_form, stmt_ids}
use Rattle.lx_syntax.specs.Says.{PartsLower, StmtSaysOf}
use Rattle.lx_syntax.proofs.Blocking.{for_made, loop_over, parts_more}

over_nothing : (src : List ℕ) (t : ℕ → Tree) (names source : ℕ) → IsOver src t names source [] form.NoStmt
unfolding over stmt_form stmt_ids Lower plants
over_nothing src t names source = record { says = λ line. refl; lower = λ n s l. tt }

over_first : (src : List ℕ) (t : ℕ → Tree) (names source : ℕ) (id : Id PyNodes) (ps : List PyPart) → IsOver src t names source (part.Node id ∷ ps) form.NoStmt
unfolding over stmt_form stmt_ids Lower plants
over_first src t names source id ps = record { says = λ line. refl; lower = λ n s l. tt }

over_colon : (src : List ℕ) (t : ℕ → Tree) (names source : ℕ) (x : Token) → IsOver src t names source (part.Token x ∷ []) form.NoStmt
unfolding over stmt_form stmt_ids Lower plants
over_colon src t names source x = record { says = λ line. refl; lower = λ n s l. tt }

over_two : (src : List ℕ) (t : ℕ → Tree) (names source : ℕ) (x y : Token) (ps : List PyPart) → IsOver src t names source (part.Token x ∷ part.Token y ∷ ps) form.NoStmt
unfolding over stmt_form stmt_ids Lower plants
over_two src t names source x y ps = record { says = λ line. refl; lower = λ n s l. tt }

over_token : (src : List ℕ) (t : ℕ → Tree) (names source : ℕ) (x y : Token) (id : Id PyNodes) (ps : List PyPart) → IsOver src t names source (part.Token x ∷ part.Node id ∷ part.Token y ∷ ps) form.NoStmt
unfolding over stmt_form stmt_ids Lower plants
over_token src t names source x y id ps = record { says = λ line. refl; lower = λ n s l. tt }

over_nodes : (src : List ℕ) (t : ℕ → Tree) (names source : ℕ) (x : Token) (id j : Id PyNodes) (ps : List PyPart) → IsOver src t names source (part.Token x ∷ part.Node id ∷ part.Node j ∷ ps) form.NoStmt
unfolding over stmt_form stmt_ids Lower plants
over_nodes src t names source x id j ps = record { says = λ line. refl; lower = λ n s l. tt }

pub over_done : (src : List ℕ) (t : ℕ → Tree) (names source : ℕ) (ps : List PyPart) → ps ≡ [] → IsOver src t names source ps form.NoStmt
over_done src t names source ps e = rw e (over_nothing src t names source)

pub over_node : (src : List ℕ) (t : ℕ → Tree) (names source : ℕ) (ps qs : List PyPart) (id : Id PyNodes) → ps ≡ part.Node id ∷ qs → IsOver src t names source ps form.NoStmt
over_node src t names source ps qs id e = rw e (over_first src t names source id qs)

pub over_open : (src : List ℕ) (t : ℕ → Tree) (names source : ℕ) (ps qs : List PyPart) (x : Token) → ps ≡ part.Token x ∷ qs → qs ≡ [] → IsOver src t names source ps form.NoStmt
over_open src t names source ps qs x e f = rw (e, f) (over_colon src t names source x)

pub over_more : (src : List ℕ) (t : ℕ → Tree) (names source : ℕ) (ps qs rs us : List PyPart) (x : Token) (id : Id PyNodes) (p : PyPart) → ps ≡ part.Token x ∷ qs → qs ≡ part.Node id ∷ rs → rs ≡ p ∷ us → IsOver src t names source ps form.NoStmt
over_more src t names source ps qs rs us x id (part.Token y) e f g = rw (e, f, g) (over_token src t names source x y id us)
over_more src t names source ps qs rs us x id (part.Node j) e f g = rw (e, f, g) (over_nodes src t names source x id j us)

pub over_tokens : (src : List ℕ) (t : ℕ → Tree) (names source : ℕ) (ps qs rs : List PyPart) (x y : Token) → ps ≡ part.Token x ∷ qs → qs ≡ part.Token y ∷ rs → IsOver src t names source ps form.NoStmt
over_tokens src t names source ps qs rs x y e f = rw (e, f) (over_two src t names source x y rs)

pub over_made : (src : List ℕ) (t : ℕ → Tree) (names source : ℕ) (ps qs rs : List PyPart) (x : Token) (block : Id PyNodes) (made : StmtForm) → ps ≡ part.Token x ∷ qs → qs ≡ part.Node block ∷ rs → rs ≡ [] → IsLoop src t names source block.place made → IsOver src t names source ps made
over_made src t names source ps qs rs x block made e f g is = rw (e, f, g) (loop_over src t names source x block made is)

block_low : (n : ℕ) (x : Token) (block : Id PyNodes) (rs : List PyPart) → PartsLower n (part.Token x ∷ part.Node block ∷ rs) → block.place < n
unfolding PartsLower
block_low n x block rs h = h.0

pub block_inside : (n : ℕ) (ps qs rs : List PyPart) (x : Token) (block : Id PyNodes) → ps ≡ part.Token x ∷ qs → qs ≡ part.Node block ∷ rs → PartsLower n ps → block.place < n
block_inside n ps qs rs x block e f h =
    let whole : ps ≡ part.Token x ∷ part.Node block ∷ rs = rw (e, f) refl in
    block_low n x block rs (subst (PartsLower n) whole h)

-- ---- the whole

for_nothing : (src : List ℕ) (t : ℕ → Tree) (n : ℕ) → StmtSaysOf src t n [] loop_ form.NoStmt
unfolding loop_ stmt_form stmt_ids Lower plants
for_nothing src t n = record { says = refl; lower = tt }

for_first : (src : List ℕ) (t : ℕ → Tree) (n : ℕ) (id : Id PyNodes) (ps : List PyPart) → StmtSaysOf src t n (part.Node id ∷ ps) loop_ form.NoStmt
unfolding loop_ stmt_form stmt_ids Lower plants
for_first src t n id ps = record { says = refl; lower = tt }

for_word : (src : List ℕ) (t : ℕ → Tree) (n : ℕ) (x : Token) → StmtSaysOf src t n (part.Token x ∷ []) loop_ form.NoStmt
unfolding loop_ stmt_form stmt_ids Lower plants
for_word src t n x = record { says = refl; lower = tt }

for_words : (src : List ℕ) (t : ℕ → Tree) (n : ℕ) (x y : Token) (ps : List PyPart) → StmtSaysOf src t n (part.Token x ∷ part.Token y ∷ ps) loop_ form.NoStmt
unfolding loop_ stmt_form stmt_ids Lower plants
for_words src t n x y ps = record { says = refl; lower = tt }

for_names : (src : List ℕ) (t : ℕ → Tree) (n : ℕ) (x : Token) (id : Id PyNodes) → StmtSaysOf src t n (part.Token x ∷ part.Node id ∷ []) loop_ form.NoStmt
unfolding loop_ stmt_form stmt_ids Lower plants
for_names src t n x id = record { says = refl; lower = tt }

for_nodes : (src : List ℕ) (t : ℕ → Tree) (n : ℕ) (x : Token) (id j : Id PyNodes) (ps : List PyPart) → StmtSaysOf src t n (part.Token x ∷ part.Node id ∷ part.Node j ∷ ps) loop_ form.NoStmt
unfolding loop_ stmt_form stmt_ids Lower plants
for_nodes src t n x id j ps = record { says = refl; lower = tt }

for_open : (src : List ℕ) (t : ℕ → Tree) (n : ℕ) (x y : Token) (id : Id PyNodes) → StmtSaysOf src t n (part.Token x ∷ part.Node id ∷ part.Token y ∷ []) loop_ form.NoStmt
unfolding loop_ stmt_form stmt_ids Lower plants
for_open src t n x y id = record { says = refl; lower = tt }

for_tokens : (src : List ℕ) (t : ℕ → Tree) (n : ℕ) (x y z : Token) (id : Id PyNodes) (ps : List PyPart) → StmtSaysOf src t n (part.Token x ∷ part.Node id ∷ part.Token y ∷ part.Token z ∷ ps) loop_ form.NoStmt
unfolding loop_ stmt_form stmt_ids Lower plants
for_tokens src t n x y z id ps = record { says = refl; lower = tt }

pub for_done : (src : List ℕ) (t : ℕ → Tree) (n : ℕ) (ps : List PyPart) → ps ≡ [] → StmtSaysOf src t n ps loop_ form.NoStmt
for_done src t n ps e = rw e (for_nothing src t n)

pub for_node : (src : List ℕ) (t : ℕ → Tree) (n : ℕ) (ps qs : List PyPart) (id : Id PyNodes) → ps ≡ part.Node id ∷ qs → StmtSaysOf src t n ps loop_ form.NoStmt
for_node src t n ps qs id e = rw e (for_first src t n id qs)

pub for_same : (src : List ℕ) (t : ℕ → Tree) (n : ℕ) (ps qs : List PyPart) (made : StmtForm) → ps ≡ qs → StmtSaysOf src t n qs loop_ made → StmtSaysOf src t n ps loop_ made
for_same src t n ps qs made e is = rw e is

behind_low : (n : ℕ) (x : Token) (qs : List PyPart) → PartsLower n (part.Token x ∷ qs) → PartsLower n qs
unfolding PartsLower
behind_low n x qs h = h

pub for_low : (n : ℕ) (ps qs : List PyPart) (x : Token) → ps ≡ part.Token x ∷ qs → PartsLower n ps → PartsLower n qs
for_low n ps qs x e h = behind_low n x qs (subst (PartsLower n) e h)

pub word_done : (src : List ℕ) (t : ℕ → Tree) (n : ℕ) (x : Token) (ps : List PyPart) → ps ≡ [] → StmtSaysOf src t n (part.Token x ∷ ps) loop_ form.NoStmt
word_done src t n x ps e = rw e (for_word src t n x)

pub word_token : (src : List ℕ) (t : ℕ → Tree) (n : ℕ) (x y : Token) (ps qs : List PyPart) → ps ≡ part.Token y ∷ qs → StmtSaysOf src t n (part.Token x ∷ ps) loop_ form.NoStmt
word_token src t n x y ps qs e = rw e (for_words src t n x y qs)

pub names_done : (src : List ℕ) (t : ℕ → Tree) (n : ℕ) (x : Token) (id : Id PyNodes) (ps qs : List PyPart) → ps ≡ part.Node id ∷ qs → qs ≡ [] → StmtSaysOf src t n (part.Token x ∷ ps) loop_ form.NoStmt
names_done src t n x id ps qs e f = rw (e, f) (for_names src t n x id)

pub names_node : (src : List ℕ) (t : ℕ → Tree) (n : ℕ) (x : Token) (id j : Id PyNodes) (ps qs rs : List PyPart) → ps ≡ part.Node id ∷ qs → qs ≡ part.Node j ∷ rs → StmtSaysOf src t n (part.Token x ∷ ps) loop_ form.NoStmt
names_node src t n x id j ps qs rs e f = rw (e, f) (for_nodes src t n x id j rs)

pub names_same : (src : List ℕ) (t : ℕ → Tree) (n : ℕ) (x y : Token) (id : Id PyNodes) (ps qs rs : List PyPart) (made : StmtForm) → ps ≡ part.Node id ∷ qs → qs ≡ part.Token y ∷ rs
    → StmtSaysOf src t n (part.Token x ∷ part.Node id ∷ part.Token y ∷ rs) loop_ made → StmtSaysOf src t n (part.Token x ∷ ps) loop_ made
names_same src t n x y id ps qs rs made e f is = rw (e, f) is

pub names_low : (n : ℕ) (y : Token) (id : Id PyNodes) (ps qs rs : List PyPart) → ps ≡ part.Node id ∷ qs → qs ≡ part.Token y ∷ rs → PartsLower n ps → PartsLower n (part.Node id ∷ part.Token y ∷ rs)
names_low n y id ps qs rs e f h = let whole : ps ≡ part.Node id ∷ part.Token y ∷ rs = rw (e, f) refl in subst (PartsLower n) whole h

pub in_done : (src : List ℕ) (t : ℕ → Tree) (n : ℕ) (x y : Token) (id : Id PyNodes) (ps : List PyPart) → ps ≡ [] → StmtSaysOf src t n (part.Token x ∷ part.Node id ∷ part.Token y ∷ ps) loop_ form.NoStmt
in_done src t n x y id ps e = rw e (for_open src t n x y id)

pub in_token : (src : List ℕ) (t : ℕ → Tree) (n : ℕ) (x y z : Token) (id : Id PyNodes) (ps qs : List PyPart) → ps ≡ part.Token z ∷ qs → StmtSaysOf src t n (part.Token x ∷ part.Node id ∷ part.Token y ∷ ps) loop_ form.NoStmt
in_token src t n x y z id ps qs e = rw e (for_tokens src t n x y z id qs)

add_word : (n : ℕ) (x y : Token) (names : Id PyNodes) (ps : List PyPart) → PartsLower n (part.Node names ∷ part.Token y ∷ ps) → PartsLower n (part.Token x ∷ part.Node names ∷ part.Token y ∷ ps)
unfolding PartsLower
add_word n x y names ps h = h

pub in_made : (src : List ℕ) (t : ℕ → Tree) (n : ℕ) (x y : Token) (names source : Id PyNodes) (ps qs : List PyPart) (made : StmtForm) → PartsLower n (part.Node names ∷ part.Token y ∷ ps) → ps ≡ part.Node source ∷ qs → IsOver src t names.place source.place qs made
    → StmtSaysOf src t n (part.Token x ∷ part.Node names ∷ part.Token y ∷ ps) loop_ made
in_made src t n x y names source ps qs made low e is = rw e (for_made src t n x y names source qs made (subst (λ zs. PartsLower n (part.Token x ∷ part.Node names ∷ part.Token y ∷ zs)) e (add_word n x y names ps low)) is)

names_first : (n : ℕ) (names : Id PyNodes) (ps : List PyPart) → PartsLower n (part.Node names ∷ ps) → names.place < n
unfolding PartsLower
names_first n names ps h = h.0

pub in_names : (k n : ℕ) (names : Id PyNodes) (ps : List PyPart) → PartsLower k (part.Node names ∷ ps) → k < n → names.place < n
in_names k n names ps h l = omega (arith, names_first k names ps h, l)

rest_of : (n : ℕ) (y : Token) (names source : Id PyNodes) (qs : List PyPart) → PartsLower n (part.Node names ∷ part.Token y ∷ part.Node source ∷ qs) → PartsLower n qs
unfolding PartsLower
rest_of n y names source qs h = h.1.1

pub in_low : (k n : ℕ) (y : Token) (names source : Id PyNodes) (ps qs : List PyPart) → PartsLower k (part.Node names ∷ part.Token y ∷ ps) → ps ≡ part.Node source ∷ qs → k < n → PartsLower n qs
in_low k n y names source ps qs h e l = parts_more k n qs (omega (arith, l)) (rest_of k y names source qs (subst (λ zs. PartsLower k (part.Node names ∷ part.Token y ∷ zs)) e h))
