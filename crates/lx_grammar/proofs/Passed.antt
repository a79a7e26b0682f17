-- The grammar passes the test: each row, and the facts about signs by which it is read.
use Rattle.std.proofs.Common.{true, ◌≡◌, refl}
use Rattle.lx_grammar.specs.declared.grammar.Spot.{Spot}
use Rattle.lx_grammar.specs.declared.grammar.Spot.TheVariants as spot
use Rattle.lx_grammar.specs.Numbers.{number, accepts}
use Rattle.lx_grammar.specs.Grammar.{rules}
use Rattle.lx_grammar.specs.Pick.{pick, is_far}
use Rattle.lx_grammar.specs.Ahead.{mark}
use Rattle.lx_grammar.proofs.Tables.{starts, follow, hush}
use Rattle.lx_grammar.proofs.Checks.{every, some, each_row}
use Rattle.lx_grammar.proofs.Test.{within, plain, gives, marks, predict, passes_by, fits, tells, rings, audible, still, picked_near, picked_far, row_fits}

pub passes : (r : Spot) → each_row (row_fits r) (rules r) ≡ true
unfolding number accepts rules pick is_far mark starts follow hush every some each_row within plain gives marks predict passes_by fits tells rings audible still picked_near picked_far row_fits
passes spot.File = refl
passes spot.Import = refl
passes spot.Dotted = refl
passes spot.Class = refl
passes spot.Init = refl
passes spot.Suite = refl
passes spot.Stmt = refl
passes spot.If = refl
passes spot.For = refl
passes spot.Names = refl
passes spot.Simple = refl
passes spot.Values = refl
passes spot.Place = refl
passes spot.Expr = refl
passes spot.Or = refl
passes spot.And = refl
passes spot.Not = refl
passes spot.Comp = refl
passes spot.Bor = refl
passes spot.Bxor = refl
passes spot.Band = refl
passes spot.Shift = refl
passes spot.Sum = refl
passes spot.Term = refl
passes spot.Unary = refl
passes spot.Power = refl
passes spot.Post = refl
passes spot.Sub = refl
passes spot.Args = refl
passes spot.PlaceArg = refl
passes spot.NameArg = refl
passes spot.Atom = refl
passes spot.FileLine = refl
passes spot.Imported = refl
passes spot.DotName = refl
passes spot.CommaName = refl
passes spot.Remark = refl
passes spot.Parameter = refl
passes spot.Default = refl
passes spot.LastComma = refl
passes spot.NextStmt = refl
passes spot.Elif = refl
passes spot.Else = refl
passes spot.Action = refl
passes spot.CommaExpr = refl
passes spot.Choice = refl
passes spot.OrMore = refl
passes spot.AndMore = refl
passes spot.NotWord = refl
passes spot.Compared = refl
passes spot.BorMore = refl
passes spot.BxorMore = refl
passes spot.BandMore = refl
passes spot.ShiftMore = refl
passes spot.SumMore = refl
passes spot.TermMore = refl
passes spot.Prefix = refl
passes spot.Raised = refl
passes spot.Trailer = refl
passes spot.Arguments = refl
passes spot.Bound = refl
passes spot.CommaPlaceArg = refl
passes spot.CommaNameArg = refl
passes spot.Grouped = refl
passes spot.Listing = refl
passes spot.Listed = refl
passes spot.Filter = refl
passes spot.Pairs = refl
passes spot.CommaPair = refl
