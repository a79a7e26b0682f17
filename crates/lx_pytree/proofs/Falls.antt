-- Each row takes a token, and stands lower than its spot by more than its length.
use Rattle.std.proofs.Common.{ℕ, Bool, true, false, ◌≡◌, ◌<◌, ◌≤◌, ◌+◌, ◌&&◌, ◌++◌, nat_lt, max, List, [], ◌∷◌, length, map, refl, ap, arith, lit≤, slice_get, Some}
use Rattle.std.proofs.lemmas.Bool.{ltb-true, and_parts}
use Rattle.lx_grammar.specs.declared.grammar.Spot.{Spot}
use Rattle.lx_grammar.specs.declared.grammar.Spot.TheVariants as spot
use Rattle.lx_grammar.specs.declared.grammar.Symbol.{Symbol}
use Rattle.lx_grammar.specs.declared.grammar.Symbol.TheVariants as symbol
use Rattle.lx_grammar.specs.Grammar.{rules}
use Rattle.lx_grammar.proofs.Checks.{each_row, row_at}
use Rattle.lx_pytree.specs.declared.machine.Step.{Step}
use Rattle.lx_pytree.specs.declared.machine.Step.TheVariants as step
use Rattle.lx_pytree.specs.Weights.{weight}
use Rattle.lx_pytree.specs.Machine.{cost}

unfoldable pub row_cost : List Symbol → ℕ
row_cost [] = 0
row_cost (symbol.Token s ∷ α) = 0
row_cost (symbol.Node r ∷ α) = weight r
row_cost (symbol.One r ∷ α) = weight r
row_cost (symbol.Maybe r ∷ α) = max (weight r) (row_cost α)
row_cost (symbol.Many r ∷ α) = max (weight r) (row_cost α)

unfoldable pub solid : List Symbol → Bool
solid [] = false
solid (symbol.Token s ∷ α) = true
solid (symbol.Node r ∷ α) = true
solid (symbol.One r ∷ α) = true
solid (symbol.Maybe r ∷ α) = solid α
solid (symbol.Many r ∷ α) = solid α

pub cost_row : (β : List Symbol) (S : List Step) → solid β ≡ true → cost (map step.Do β ++ S) ≡ row_cost β
unfolding cost row_cost solid
cost_row [] S h = cc
cost_row (symbol.Token s ∷ α) S h = refl
cost_row (symbol.Node r ∷ α) S h = refl
cost_row (symbol.One r ∷ α) S h = refl
cost_row (symbol.Maybe r ∷ α) S h = ap (λ k. max (weight r) k) (cost_row α S h)
cost_row (symbol.Many r ∷ α) S h = ap (λ k. max (weight r) k) (cost_row α S h)

unfoldable pub light : Spot → ℕ → List Symbol → Bool
light r i β = solid β && nat_lt (length β + row_cost β + 2) (weight r)

pub all_light : (r : Spot) → each_row (light r) (rules r) ≡ true
unfolding each_row light rules solid row_cost weight
all_light spot.File = refl
all_light spot.Import = refl
all_light spot.Dotted = refl
all_light spot.Class = refl
all_light spot.Init = refl
all_light spot.Suite = refl
all_light spot.Stmt = refl
all_light spot.If = refl
all_light spot.For = refl
all_light spot.Names = refl
all_light spot.Simple = refl
all_light spot.Values = refl
all_light spot.Place = refl
all_light spot.Expr = refl
all_light spot.Or = refl
all_light spot.And = refl
all_light spot.Not = refl
all_light spot.Comp = refl
all_light spot.Bor = refl
all_light spot.Bxor = refl
all_light spot.Band = refl
all_light spot.Shift = refl
all_light spot.Sum = refl
all_light spot.Term = refl
all_light spot.Unary = refl
all_light spot.Power = refl
all_light spot.Post = refl
all_light spot.Sub = refl
all_light spot.Args = refl
all_light spot.PlaceArg = refl
all_light spot.NameArg = refl
all_light spot.Atom = refl
all_light spot.FileLine = refl
all_light spot.Imported = refl
all_light spot.DotName = refl
all_light spot.CommaName = refl
all_light spot.Remark = refl
all_light spot.Parameter = refl
all_light spot.Default = refl
all_light spot.LastComma = refl
all_light spot.NextStmt = refl
all_light spot.Elif = refl
all_light spot.Else = refl
all_light spot.Action = refl
all_light spot.CommaExpr = refl
all_light spot.Choice = refl
all_light spot.OrMore = refl
all_light spot.AndMore = refl
all_light spot.NotWord = refl
all_light spot.Compared = refl
all_light spot.BorMore = refl
all_light spot.BxorMore = refl
all_light spot.BandMore = refl
all_light spot.ShiftMore = refl
all_light spot.SumMore = refl
all_light spot.TermMore = refl
all_light spot.Prefix = refl
all_light spot.Raised = refl
all_light spot.Trailer = refl
all_light spot.Arguments = refl
all_light spot.Bound = refl
all_light spot.CommaPlaceArg = refl
all_light spot.CommaNameArg = refl
all_light spot.Grouped = refl
all_light spot.Listing = refl
all_light spot.Listed = refl
all_light spot.Filter = refl
all_light spot.Pairs = refl
all_light spot.CommaPair = refl

pub weight_most : (r : Spot) → weight r ≤ 400
unfolding weight
weight_most spot.File = lit≤ tt
weight_most spot.Import = lit≤ tt
weight_most spot.Dotted = lit≤ tt
weight_most spot.Class = lit≤ tt
weight_most spot.Init = lit≤ tt
weight_most spot.Suite = lit≤ tt
weight_most spot.Stmt = lit≤ tt
weight_most spot.If = lit≤ tt
weight_most spot.For = lit≤ tt
weight_most spot.Names = lit≤ tt
weight_most spot.Simple = lit≤ tt
weight_most spot.Values = lit≤ tt
weight_most spot.Place = lit≤ tt
weight_most spot.Expr = lit≤ tt
weight_most spot.Or = lit≤ tt
weight_most spot.And = lit≤ tt
weight_most spot.Not = lit≤ tt
weight_most spot.Comp = lit≤ tt
weight_most spot.Bor = lit≤ tt
weight_most spot.Bxor = lit≤ tt
weight_most spot.Band = lit≤ tt
weight_most spot.Shift = lit≤ tt
weight_most spot.Sum = lit≤ tt
weight_most spot.Term = lit≤ tt
weight_most spot.Unary = lit≤ tt
weight_most spot.Power = lit≤ tt
weight_most spot.Post = lit≤ tt
weight_most spot.Sub = lit≤ tt
weight_most spot.Args = lit≤ tt
weight_most spot.PlaceArg = lit≤ tt
weight_most spot.NameArg = lit≤ tt
weight_most spot.Atom = lit≤ tt
weight_most spot.FileLine = lit≤ tt
weight_most spot.Imported = lit≤ tt
weight_most spot.DotName = lit≤ tt
weight_most spot.CommaName = lit≤ tt
weight_most spot.Remark = lit≤ tt
weight_most spot.Parameter = lit≤ tt
weight_most spot.Default = lit≤ tt
weight_most spot.LastComma = lit≤ tt
weight_most spot.NextStmt = lit≤ tt
weight_most spot.Elif = lit≤ tt
weight_most spot.Else = lit≤ tt
weight_most spot.Action = lit≤ tt
weight_most spot.CommaExpr = lit≤ tt
weight_most spot.Choice = lit≤ tt
weight_most spot.OrMore = lit≤ tt
weight_most spot.AndMore = lit≤ tt
weight_most spot.NotWord = lit≤ tt
weight_most spot.Compared = lit≤ tt
weight_most spot.BorMore = lit≤ tt
weight_most spot.BxorMore = lit≤ tt
weight_most spot.BandMore = lit≤ tt
weight_most spot.ShiftMore = lit≤ tt
weight_most spot.SumMore = lit≤ tt
weight_most spot.TermMore = lit≤ tt
weight_most spot.Prefix = lit≤ tt
weight_most spot.Raised = lit≤ tt
weight_most spot.Trailer = lit≤ tt
weight_most spot.Arguments = lit≤ tt
weight_most spot.Bound = lit≤ tt
weight_most spot.CommaPlaceArg = lit≤ tt
weight_most spot.CommaNameArg = lit≤ tt
weight_most spot.Grouped = lit≤ tt
weight_most spot.Listing = lit≤ tt
weight_most spot.Listed = lit≤ tt
weight_most spot.Filter = lit≤ tt
weight_most spot.Pairs = lit≤ tt
weight_most spot.CommaPair = lit≤ tt

pub cost_most : (S : List Step) → cost S ≤ 400
unfolding cost
cost_most [] = omega arith
cost_most (step.Close ∷ S) = cost_most S
cost_most (step.Do (symbol.Token s) ∷ S) = omega arith
cost_most (step.Do (symbol.Node r) ∷ S) = weight_most r
cost_most (step.Do (symbol.One r) ∷ S) = weight_most r
cost_most (step.Do (symbol.Maybe r) ∷ S) = omega (arith, weight_most r, cost_most S)
cost_most (step.Do (symbol.Many r) ∷ S) = omega (arith, weight_most r, cost_most S)

-- the row of a spot costs less than the spot
pub row_falls : (r : Spot) (i : ℕ) (β : List Symbol) (S : List Step) → slice_get (rules r) i ≡ Some β → length β + cost (map step.Do β ++ S) + 2 < weight r
unfolding light
row_falls r i β S e =
    let ok : (solid β && nat_lt (length β + row_cost β + 2) (weight r)) ≡ true = row_at (light r) (rules r) i β (all_light r) e in
    let c : cost (map step.Do β ++ S) ≡ row_cost β = cost_row β S (and_parts (solid β) (nat_lt (length β + row_cost β + 2) (weight r)) ok).0 in
    let lt : length β + row_cost β + 2 < weight r = ltb-true _ _ (and_parts (solid β) (nat_lt (length β + row_cost β + 2) (weight r)) ok).1 in
    omega arith
