-- That forms say what a file's classes are made of.
use Rattle.std.specs.Prelude.{ℕ, List, [], ◌∷◌, ◌++◌, ◌≡◌, ◌<◌, ◌+◌, length, map, Option, Some, None, slice_get}
use Rattle.lx_token.specs.declared.tokens.Token.{Token}
use Rattle.lx_grammar.specs.declared.grammar.Rule.TheVariants as rule
use Rattle.lx_grammar.specs.Derives.{Tree, Grown, NoTree}
use Rattle.lx_pytree.specs.declared.tree.PyPart.{PyPart}
use Rattle.lx_pytree.specs.declared.tree.PyPart.TheVariants as part
use Rattle.lx_pytree.specs.Trees.{plants}
use Rattle.lx_syntax.specs.declared.classes.Init.{Init}
use Rattle.lx_syntax.specs.declared.classes.Next.{Next}
use Rattle.lx_syntax.specs.declared.classes.Next.TheVariants as next
use Rattle.lx_syntax.specs.declared.forms.ClassForm.{ClassForm}
use Rattle.lx_syntax.specs.declared.forms.Parameter.{Parameter}
use Rattle.lx_syntax.specs.Ast.{Class, Param}
use Rattle.lx_syntax.specs.Classes.{block_of, body_of, class_of, class_with, classes, params_in, params_of}
use Rattle.lx_syntax.specs.Convert.{line_of}
use Rattle.lx_syntax.specs.Forms.{Ids, Lower, block_at, class_form, class_ids, option_ids, param_at, param_ids}
use Rattle.lx_syntax.specs.Says.{PartsLower, exprs_of, stmts_of}
use Rattle.lx_grammar.specs.Derives as grown

-- ---- tokens at the front

abbrev pub NoToken : List PyPart → Type 0
NoToken [] = Unit {0}
NoToken (part.Token x ∷ ps) = ⊥
NoToken (part.Node id ∷ ps) = Unit {0}

-- what stands behind the first token
pub record IsTail (ps rest : List PyPart) : Type 0 where
  pub first : Token
  pub is : ps ≡ part.Token first ∷ rest

-- ---- parameters

-- the parameters that begin with this name, where these parts stand behind it
abbrev pub params_from : List ℕ → (ℕ → Tree) → Token → List PyPart → Token → List Param
params_from src t x ps c = params_in src (grown.token c (grown.token x (plants t ps)))

-- a parameter, and the parts that are left behind it
pub record IsParam (src : List ℕ) (whole : (ℕ → Tree) → List Param) (ps : List PyPart) (p : Parameter) (rest : List PyPart) : Type 0 where
  pub says : (t : ℕ → Tree) → whole t ≡ param_at src (exprs_of src t) p ∷ params_in src (plants t rest)
  pub lower : (n : ℕ) → PartsLower n ps → Lower n (option_ids p.default [])
  pub left : (n : ℕ) → PartsLower n ps → PartsLower n rest

abbrev pub IsNamed : List ℕ → Token → List PyPart → Next → Type 0
IsNamed src x ps next.End = (c : Token) (t : ℕ → Tree) → params_from src t x ps c ≡ []
IsNamed src x ps (next.On p rest) = ((c : Token) → IsParam src (λ t. params_from src t x ps c) ps p rest.now) × (length rest.now < length ps + 1)

abbrev pub IsNext : List ℕ → List PyPart → Next → Type 0
IsNext src ps next.End = (t : ℕ → Tree) → params_in src (plants t ps) ≡ []
IsNext src ps (next.On p rest) = IsParam src (λ t. params_in src (plants t ps)) ps p rest.now × (length rest.now < length ps)

-- parameters that are read from parts, of which these are left
pub record ParamsRead (src : List ℕ) (ps rest : List PyPart) (params : List Parameter) : Type 0 where
  pub says : (t : ℕ → Tree) → map (param_at src (exprs_of src t)) params ++ params_in src (plants t rest) ≡ params_in src (plants t ps)
  pub lower : (n : ℕ) → PartsLower n ps → Lower n (param_ids params)
  pub left : (n : ℕ) → PartsLower n ps → PartsLower n rest

pub record AreParams (src : List ℕ) (ps : List PyPart) (params : List Parameter) : Type 0 where
  pub says : (t : ℕ → Tree) → map (param_at src (exprs_of src t)) params ≡ params_in src (plants t ps)
  pub lower : (n : ℕ) → PartsLower n ps → Lower n (param_ids params)

pub record AreInitParams (src : List ℕ) (ps : List PyPart) (params : List Parameter) : Type 0 where
  pub says : (t : ℕ → Tree) → map (param_at src (exprs_of src t)) params ≡ params_of src (Grown rule.Init (plants t ps))
  pub lower : (n : ℕ) → PartsLower n ps → Lower n (param_ids params)

-- ---- `__init__`

pub record AreBody (t : ℕ → Tree) (n : ℕ) (ps : List PyPart) (ids : Ids) : Type 0 where
  pub says : (src : List ℕ) → block_at (stmts_of src t) ids ≡ body_of src (plants t ps)
  pub lower : Lower n ids

pub record SaysInit (src : List ℕ) (t : ℕ → Tree) (u : Tree) (init : Init) : Type 0 where
  pub line : init.line ≡ line_of u
  pub params : map (param_at src (exprs_of src t)) init.params ≡ params_of src u
  pub body : block_at (stmts_of src t) init.body ≡ block_of src u

pub record IsInit (src : List ℕ) (t : ℕ → Tree) (k : ℕ) (init : Init) : Type 0 where
  pub says : SaysInit src t (t k) init
  pub params : (n : ℕ) → k < n → Lower n (param_ids init.params)
  pub body : (n : ℕ) → k < n → Lower n init.body

-- the tree at the first of these places
abbrev pub first_tree : (ℕ → Tree) → Ids → Tree
first_tree t [] = NoTree
first_tree t (id ∷ ids) = t id.place

pub record IsFirstInit (src : List ℕ) (t : ℕ → Tree) (ids : Ids) (init : Init) : Type 0 where
  pub says : SaysInit src t (first_tree t ids) init
  pub params : (n : ℕ) → Lower n ids → Lower n (param_ids init.params)
  pub body : (n : ℕ) → Lower n ids → Lower n init.body

-- ---- classes

abbrev pub made_says : List ℕ → (ℕ → Tree) → Option ClassForm → List Class
made_says src t None = []
made_says src t (Some c) = class_form src (exprs_of src t) (stmts_of src t) c ∷ []

abbrev pub MadeLower : ℕ → Option ClassForm → Type 0
MadeLower n None = Unit {0}
MadeLower n (Some c) = Lower n (class_ids c)

pub record IsWith (line : ℕ) (names : List Token) (init : Init) (made : Option ClassForm) : Type 0 where
  pub says : (src : List ℕ) (t : ℕ → Tree) (u : Tree) → SaysInit src t u init → made_says src t made ≡ class_with src line names u
  pub lower : (n : ℕ) → Lower n (param_ids init.params) → Lower n init.body → MadeLower n made

pub record IsClassAt (src : List ℕ) (t : ℕ → Tree) (k : ℕ) (made : Option ClassForm) : Type 0 where
  pub says : made_says src t made ≡ class_of src (t k)
  pub lower : (n : ℕ) → k < n → MadeLower n made

abbrev pub AllLower : ℕ → List ClassForm → Type 0
AllLower n cs = (k : ℕ) (c : ClassForm) → slice_get cs k ≡ Some c → Lower n (class_ids c)

abbrev pub made_list : Option ClassForm → List ClassForm
made_list None = []
made_list (Some c) = c ∷ []

pub record IsPut (src : List ℕ) (t : ℕ → Tree) (k : ℕ) (old new : List ClassForm) : Type 0 where
  pub made : Option ClassForm
  pub is : IsClassAt src t k made
  pub put : new ≡ old ++ made_list made

-- what nodes say as classes
unfoldable pub classes_among : List ℕ → (ℕ → Tree) → Ids → List Class
classes_among src t [] = []
classes_among src t (id ∷ ids) = class_of src (t id.place) ++ classes_among src t ids

abbrev pub classes_say : List ℕ → (ℕ → Tree) → List ClassForm → List Class
classes_say src t cs = map (class_form src (exprs_of src t) (stmts_of src t)) cs

pub record AreAmong (src : List ℕ) (t : ℕ → Tree) (n : ℕ) (ids : Ids) (cs : List ClassForm) : Type 0 where
  pub says : classes_say src t cs ≡ classes_among src t ids
  pub lower : AllLower n cs

pub record AreSoFar (src : List ℕ) (t : ℕ → Tree) (n : ℕ) (ids rest : Ids) (cs : List ClassForm) : Type 0 where
  pub says : classes_say src t cs ++ classes_among src t rest ≡ classes_among src t ids
  pub lower : AllLower n cs
  pub left : Lower n rest

pub record AreClasses (src : List ℕ) (t : ℕ → Tree) (n k : ℕ) (cs : List ClassForm) : Type 0 where
  pub says : classes_say src t cs ≡ classes src (t k)
  pub lower : AllLower n cs
