-- That forms say what statements are made of.
use Rattle.std.specs.Prelude.{ℕ, List, [], ◌∷◌, ◌++◌, ◌≡◌, ◌<◌, length, map, Option, Some, None}
use Rattle.lx_arena.specs.declared.Id.{Id}
use Rattle.lx_token.specs.declared.tokens.Token.{Token}
use Rattle.lx_grammar.specs.declared.grammar.Rule.TheVariants as rule
use Rattle.lx_grammar.specs.declared.sign.Sign.{Sign}
use Rattle.lx_grammar.specs.Derives.{Tree, Grown, Parts, end, token, child}
use Rattle.lx_pytree.specs.declared.tree.PyNodes.{PyNodes}
use Rattle.lx_pytree.specs.declared.tree.PyPart.{PyPart}
use Rattle.lx_pytree.specs.declared.tree.PyPart.TheVariants as part
use Rattle.lx_pytree.specs.Trees.{plants}
use Rattle.lx_syntax.specs.declared.forms.Branch.{Branch}
use Rattle.lx_syntax.specs.declared.forms.Place.{Place}
use Rattle.lx_syntax.specs.declared.forms.StmtForm.{StmtForm}
use Rattle.lx_syntax.specs.declared.stmts.Arm.{Arm}
use Rattle.lx_syntax.specs.declared.stmts.Arm.TheVariants as arm
use Rattle.lx_syntax.specs.Ast as ast
use Rattle.lx_syntax.specs.Ast.{Branches, Stmt, Stmts}
use Rattle.lx_syntax.specs.Convert.{bound, branches, expr, line_of_parts, loop_, names_of, otherwise, place_of, stmt, suite, text_of}
use Rattle.lx_syntax.specs.Forms.{Exprs_at, Ids, Lower, block_at, branches_ids, place_at, place_ids, stmt_form, stmt_ids}
use Rattle.lx_syntax.specs.Says.{PartsLower, StmtSaysOf, exprs_of, stmts_of}

abbrev pub conditional : List ℕ → Parts → Stmt
conditional src ps = ast.If (line_of_parts ps) (branches src ps) (otherwise src ps)

-- ---- places

abbrev pub place_said : List ℕ → Exprs_at → Option Place → Option ast.Place
place_said src f None = None
place_said src f (Some p) = Some (place_at src f p)

abbrev pub place_parts : Option Place → Ids
place_parts None = []
place_parts (Some p) = place_ids p []

pub record IsPlaceIn (ps : List PyPart) (o : Option Place) : Type 0 where
  pub says : (src : List ℕ) (t : ℕ → Tree) → place_said src (exprs_of src t) o ≡ place_of src (Grown rule.Place (plants t ps))
  pub lower : (n : ℕ) → PartsLower n ps → Lower n (place_parts o)

pub record IsPlaceAt (t : ℕ → Tree) (k : ℕ) (o : Option Place) : Type 0 where
  pub says : (src : List ℕ) → place_said src (exprs_of src t) o ≡ place_of src (t k)
  pub lower : (n : ℕ) → k < n → Lower n (place_parts o)

pub record IsBound (s : Sign) (o : Option Place) (value : ℕ) (form : StmtForm) : Type 0 where
  pub says : (src : List ℕ) (t : ℕ → Tree) (line : ℕ) → stmt_form src (exprs_of src t) (stmts_of src t) line form ≡ bound line s (place_said src (exprs_of src t) o) (expr src (t value))
  pub lower : (n : ℕ) → value < n → Lower n (place_parts o) → Lower n (stmt_ids form)

-- ---- loops

abbrev pub block_said : List ℕ → (ℕ → Tree) → ℕ → Stmts
block_said src t k = suite src (t k) (stmt src (t k))

abbrev pub looped : List ℕ → (ℕ → Tree) → ℕ → ℕ → ℕ → ℕ → Stmt
looped src t names source block line = ast.For line (map (text_of src) (names_of src (t names))) (expr src (t source)) (block_said src t block)

pub record IsLoop (src : List ℕ) (t : ℕ → Tree) (names source block : ℕ) (form : StmtForm) : Type 0 where
  pub says : (line : ℕ) → stmt_form src (exprs_of src t) (stmts_of src t) line form ≡ looped src t names source block line
  pub lower : (n : ℕ) → source < n → block < n → Lower n (stmt_ids form)

-- a form that says what a loop's parts say: a word, its names, `in`, and these
abbrev pub LoopSaysOf : List ℕ → (ℕ → Tree) → ℕ → Token → Id PyNodes → Token → List PyPart → StmtForm → Type 0
LoopSaysOf src t n x names y ps form = StmtSaysOf src t n (part.Token x ∷ part.Node names ∷ part.Token y ∷ ps) loop_ form

-- a loop by the parts behind its source
unfoldable pub over : List ℕ → Tree → Tree → Parts → ℕ → Stmt
over src names source (token x (child u end)) line = ast.For line (map (text_of src) (names_of src names)) (expr src source) (suite src u (stmt src u))
over src names source _ line = ast.NoStmt

pub record IsOver (src : List ℕ) (t : ℕ → Tree) (names source : ℕ) (ps : List PyPart) (form : StmtForm) : Type 0 where
  pub says : (line : ℕ) → stmt_form src (exprs_of src t) (stmts_of src t) line form ≡ over src (t names) (t source) (plants t ps) line
  pub lower : (n : ℕ) → source < n → PartsLower n ps → Lower n (stmt_ids form)

-- ---- conditions and their blocks

pub record IsBranching (ps : List PyPart) (condition block : ℕ) (rest : List PyPart) : Type 0 where
  pub branches : (src : List ℕ) (t : ℕ → Tree) → branches src (plants t ps) ≡ ast.branch (expr src (t condition)) (block_said src t block) (branches src (plants t rest))
  pub otherwise : (src : List ℕ) (t : ℕ → Tree) → otherwise src (plants t ps) ≡ otherwise src (plants t rest)
  pub condition_low : (n : ℕ) → PartsLower n ps → condition < n
  pub block_low : (n : ℕ) → PartsLower n ps → block < n
  pub left : (n : ℕ) → PartsLower n ps → PartsLower n rest
  pub shorter : length rest < length ps

pub record IsElse (ps : List PyPart) (block : ℕ) : Type 0 where
  pub branches : (src : List ℕ) (t : ℕ → Tree) → branches src (plants t ps) ≡ ast.no_branch
  pub otherwise : (src : List ℕ) (t : ℕ → Tree) → otherwise src (plants t ps) ≡ block_said src t block
  pub block_low : (n : ℕ) → PartsLower n ps → block < n

pub record IsEnd (ps : List PyPart) : Type 0 where
  pub branches : (src : List ℕ) (t : ℕ → Tree) → branches src (plants t ps) ≡ ast.no_branch
  pub otherwise : (src : List ℕ) (t : ℕ → Tree) → otherwise src (plants t ps) ≡ ast.done

abbrev pub IsArm : List PyPart → Arm → Type 0
IsArm ps (arm.Branch condition block rest) = IsBranching ps condition.place block.place rest.now
IsArm ps (arm.Else block) = IsElse ps block.place
IsArm ps arm.End = IsEnd ps

-- a condition and its block, put behind others
pub record IsBranch (t : ℕ → Tree) (condition block : ℕ) (old new : List Branch) : Type 0 where
  pub body : Ids
  pub at : Id PyNodes
  pub is : at.place ≡ condition
  pub put : new ≡ old ++ record { condition = at; body = body } ∷ []
  pub says : (src : List ℕ) → block_at (stmts_of src t) body ≡ block_said src t block
  pub lower : (n : ℕ) → block < n → Lower n body

-- branches, and behind them these
unfoldable pub branches_onto : Exprs_at → (ℕ → Stmt) → List Branch → Branches → Branches
branches_onto f g [] rest = rest
branches_onto f g (b ∷ bs) rest = ast.branch (f b.condition.place) (block_at g b.body) (branches_onto f g bs rest)

-- branches that are read from parts, of which these are left
pub record ArmsRead (t : ℕ → Tree) (n : ℕ) (ps rest : List PyPart) (bs : List Branch) : Type 0 where
  pub says : (src : List ℕ) → branches_onto (exprs_of src t) (stmts_of src t) bs (branches src (plants t rest)) ≡ branches src (plants t ps)
  pub others : (src : List ℕ) → otherwise src (plants t rest) ≡ otherwise src (plants t ps)
  pub lower : Lower n (branches_ids bs)
  pub left : PartsLower n rest
