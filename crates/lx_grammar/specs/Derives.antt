-- The trees of the grammar, and which of them a list of tokens has.
use Rattle.std.specs.Prelude.{ℕ, Bool, true, List, [], ◌∷◌, ◌≡◌, Some, slice_get, nat_eq, nat_lt, ◌||◌, ◌&&◌}
use Rattle.lx_token.specs.declared.tokens.Token.{Token}
use Rattle.lx_grammar.specs.declared.sign.Item.{Item}
use Rattle.lx_grammar.specs.declared.sign.Sign.{Sign}
use Rattle.lx_grammar.specs.declared.grammar.Rule.{Rule}
use Rattle.lx_grammar.specs.declared.grammar.Rule.TheVariants as rule
use Rattle.lx_grammar.specs.declared.grammar.Spot.{Spot}
use Rattle.lx_grammar.specs.declared.grammar.Spot.TheVariants as spot
use Rattle.lx_grammar.specs.declared.grammar.Symbol.{Symbol}
use Rattle.lx_grammar.specs.declared.grammar.Symbol.TheVariants as symbol
use Rattle.lx_grammar.specs.Numbers.{number}
use Rattle.lx_grammar.specs.Grammar.{rules}

-- a node has a rule and parts; `NoTree` hangs where no node is
mutual
  pub data Tree : Type 0 where
    Grown : Rule → Parts → Tree
    NoTree : Tree

  pub data Parts : Type 0 where
    end : Parts
    token : Token → Parts → Parts
    child : Tree → Parts → Parts

-- these parts, and behind them those
unfoldable pub joined : Parts → Parts → Parts
joined end qs = qs
joined (token x ps) qs = token x (joined ps qs)
joined (child t ps) qs = child t (joined ps qs)

-- a rule whose only part is one node has no node of its own
unfoldable pub wrap : Rule → Parts → Tree
wrap r (child t end) = t
wrap r end = Grown r end
wrap r (token x ps) = Grown r (token x ps)
wrap r (child t (token x ps)) = Grown r (child t (token x ps))
wrap r (child t (child u ps)) = Grown r (child t (child u ps))

-- the left side whose nodes a spot makes: both kinds of argument are an `Arg`
unfoldable pub label : Spot → Rule
label spot.File = rule.File
label spot.Import = rule.Import
label spot.Dotted = rule.Dotted
label spot.Class = rule.Class
label spot.Init = rule.Init
label spot.Suite = rule.Suite
label spot.Stmt = rule.Stmt
label spot.If = rule.If
label spot.For = rule.For
label spot.Names = rule.Names
label spot.Simple = rule.Simple
label spot.Values = rule.Values
label spot.Place = rule.Place
label spot.Expr = rule.Expr
label spot.Or = rule.Or
label spot.And = rule.And
label spot.Not = rule.Not
label spot.Comp = rule.Comp
label spot.Bor = rule.Bor
label spot.Bxor = rule.Bxor
label spot.Band = rule.Band
label spot.Shift = rule.Shift
label spot.Sum = rule.Sum
label spot.Term = rule.Term
label spot.Unary = rule.Unary
label spot.Power = rule.Power
label spot.Post = rule.Post
label spot.Sub = rule.Sub
label spot.Args = rule.Args
label spot.PlaceArg = rule.Arg
label spot.NameArg = rule.Arg
label spot.Atom = rule.Atom
label spot.FileLine = rule.File
label spot.Imported = rule.Import
label spot.DotName = rule.Dotted
label spot.CommaName = rule.Class
label spot.Remark = rule.Class
label spot.Parameter = rule.Init
label spot.Default = rule.Init
label spot.LastComma = rule.Init
label spot.NextStmt = rule.Suite
label spot.Elif = rule.If
label spot.Else = rule.If
label spot.Action = rule.Simple
label spot.CommaExpr = rule.Values
label spot.Choice = rule.Expr
label spot.OrMore = rule.Or
label spot.AndMore = rule.And
label spot.NotWord = rule.Not
label spot.Compared = rule.Comp
label spot.BorMore = rule.Bor
label spot.BxorMore = rule.Bxor
label spot.BandMore = rule.Band
label spot.ShiftMore = rule.Shift
label spot.SumMore = rule.Sum
label spot.TermMore = rule.Term
label spot.Prefix = rule.Unary
label spot.Raised = rule.Power
label spot.Trailer = rule.Post
label spot.Arguments = rule.Post
label spot.Bound = rule.Sub
label spot.CommaPlaceArg = rule.Args
label spot.CommaNameArg = rule.Args
label spot.Grouped = rule.Atom
label spot.Listing = rule.Atom
label spot.Listed = rule.Atom
label spot.Filter = rule.Atom
label spot.Pairs = rule.Atom
label spot.CommaPair = rule.Atom

-- whether a token with the second sign stands for the first: `__init__` and `self` are names too
unfoldable pub takes : ℕ → ℕ → Bool
takes wanted given = nat_eq wanted given || nat_eq wanted 0 && nat_lt given 3

-- one constructor for each way in which a row goes on: from the first list of tokens the row has these parts and
-- leaves the second list
pub data Derives : List Symbol → List Item → List Item → Parts → Type 0 where
  none : {l : List Item} → Derives [] l l end
  take : {s : Sign} {α : List Symbol} {x : Item} {l m : List Item} {ps : Parts} → takes (number s) (number x.sign) ≡ true → Derives α l m ps → Derives (symbol.Token s ∷ α) (x ∷ l) m (token x.token ps)
  node : {r : Spot} (i : ℕ) {β α : List Symbol} {l k m : List Item} {qs ps : Parts} → slice_get (rules r) i ≡ Some β → Derives β l k qs → Derives α k m ps → Derives (symbol.Node r ∷ α) l m (child (wrap (label r) qs) ps)
  one : {r : Spot} (i : ℕ) {β α : List Symbol} {l k m : List Item} {qs ps : Parts} → slice_get (rules r) i ≡ Some β → Derives β l k qs → Derives α k m ps → Derives (symbol.One r ∷ α) l m (joined qs ps)
  skip : {r : Spot} {α : List Symbol} {l m : List Item} {ps : Parts} → Derives α l m ps → Derives (symbol.Maybe r ∷ α) l m ps
  once : {r : Spot} (i : ℕ) {β α : List Symbol} {l k m : List Item} {qs ps : Parts} → slice_get (rules r) i ≡ Some β → Derives β l k qs → Derives α k m ps → Derives (symbol.Maybe r ∷ α) l m (joined qs ps)
  stop : {r : Spot} {α : List Symbol} {l m : List Item} {ps : Parts} → Derives α l m ps → Derives (symbol.Many r ∷ α) l m ps
  more : {r : Spot} (i : ℕ) {β α : List Symbol} {l k m : List Item} {qs ps : Parts} → slice_get (rules r) i ≡ Some β → Derives β l k qs → Derives (symbol.Many r ∷ α) k m ps → Derives (symbol.Many r ∷ α) l m (joined qs ps)

-- the file's tree
pub record IsTreeOf (items : List Item) (t : Tree) : Type 0 where
  pub derived : Derives (symbol.Node spot.File ∷ []) items [] (child t end)
