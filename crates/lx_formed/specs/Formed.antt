-- What has a form throughout: nothing in it is misshapen.
use Rattle.std.specs.Prelude.{List, [], ◌∷◌}
use Rattle.lx_syntax.specs.Ast as ast
use Rattle.lx_syntax.specs.Ast.{Expr, Exprs, Pairs, Choices, Links, Trailers, Arguments, Place, Stmt, Stmts, Branches, Param, Class}

unfoldable mutual
  pub IsFormed : Expr → Type 0
  IsFormed (ast.Name line name) = Unit {0}
  IsFormed (ast.Number line value) = Unit {0}
  IsFormed (ast.Quoted line bytes) = Unit {0}
  IsFormed (ast.Nothing line) = Unit {0}
  IsFormed (ast.Truth line holds) = Unit {0}
  IsFormed (ast.Tuple line items) = AreFormed items
  IsFormed (ast.Listed line items) = AreFormed items
  IsFormed (ast.Comprehension line item names source filter) = IsFormed item × (IsFormed source × AreFormed filter)
  IsFormed (ast.Dictionary line pairs) = ArePairs pairs
  IsFormed (ast.Choice line value rest) = IsFormed value × AreChoices rest
  IsFormed (ast.Either line parts) = AreFormed parts
  IsFormed (ast.Both line parts) = AreFormed parts
  IsFormed (ast.Not lines of) = IsFormed of
  IsFormed (ast.Compare line by_ left right) = IsFormed left × IsFormed right
  IsFormed (ast.IsNothing line negated of) = IsFormed of
  IsFormed (ast.Chain line first rest) = IsFormed first × AreLinks rest
  IsFormed (ast.Prefixed signs of) = IsFormed of
  IsFormed (ast.Power line base exponent) = IsFormed base × IsFormed exponent
  IsFormed (ast.Post line of trailers) = IsFormed of × AreTrailers trailers
  IsFormed ast.Misshapen = ⊥

  pub AreFormed : Exprs → Type 0
  AreFormed ast.none = Unit {0}
  AreFormed (ast.more e es) = IsFormed e × AreFormed es

  pub ArePairs : Pairs → Type 0
  ArePairs ast.no_pair = Unit {0}
  ArePairs (ast.pair key value ps) = IsFormed key × (IsFormed value × ArePairs ps)

  pub AreChoices : Choices → Type 0
  AreChoices ast.no_choice = Unit {0}
  AreChoices (ast.choice line condition value cs) = IsFormed condition × (IsFormed value × AreChoices cs)

  pub AreLinks : Links → Type 0
  AreLinks ast.no_link = Unit {0}
  AreLinks (ast.link op e ls) = IsFormed e × AreLinks ls

  pub AreTrailers : Trailers → Type 0
  AreTrailers ast.no_trailer = Unit {0}
  AreTrailers (ast.attribute name rest) = AreTrailers rest
  AreTrailers (ast.call arguments rest) = AreArguments arguments × AreTrailers rest
  AreTrailers (ast.item index rest) = IsFormed index × AreTrailers rest
  AreTrailers (ast.slice low high rest) = AreFormed low × (AreFormed high × AreTrailers rest)

  pub AreArguments : Arguments → Type 0
  AreArguments ast.no_argument = Unit {0}
  AreArguments (ast.placed e rest) = IsFormed e × AreArguments rest
  AreArguments (ast.starred e rest) = IsFormed e × AreArguments rest
  AreArguments (ast.keyed name e rest) = IsFormed e × AreArguments rest

unfoldable pub IsPlaced : Place → Type 0
IsPlaced (ast.Named name) = Unit {0}
IsPlaced (ast.Attribute of name) = IsFormed of

unfoldable mutual
  pub IsStated : Stmt → Type 0
  IsStated (ast.Pass line) = Unit {0}
  IsStated (ast.Value line e) = IsFormed e
  IsStated (ast.Bind line place value) = IsPlaced place × IsFormed value
  IsStated (ast.Add line place value) = IsPlaced place × IsFormed value
  IsStated (ast.If line branches rest) = AreBranches branches × AreStated rest
  IsStated (ast.For line names source body) = IsFormed source × AreStated body
  IsStated ast.NoStmt = ⊥

  pub AreStated : Stmts → Type 0
  AreStated ast.done = Unit {0}
  AreStated (ast.then_ s ss) = IsStated s × AreStated ss

  pub AreBranches : Branches → Type 0
  AreBranches ast.no_branch = Unit {0}
  AreBranches (ast.branch condition body bs) = IsFormed condition × (AreStated body × AreBranches bs)

unfoldable pub AreParams : List Param → Type 0
AreParams [] = Unit {0}
AreParams (p ∷ ps) = AreFormed p.default × AreParams ps

-- the parameters and the block of a class's `__init__`
abbrev pub IsClass : Class → Type 0
IsClass c = AreParams c.params × AreStated c.body

unfoldable pub AreClasses : List Class → Type 0
AreClasses [] = Unit {0}
AreClasses (c ∷ cs) = IsClass c × AreClasses cs
