-- Each sign's number is below 61.
use Rattle.std.proofs.Common.{◌<◌, lit<}
use Rattle.lx_grammar.specs.declared.sign.Sign.{Sign}
use Rattle.lx_grammar.specs.declared.sign.Sign.TheVariants as sign
use Rattle.lx_grammar.specs.Numbers.{number}

pub number_below : (s : Sign) → number s < 61
unfolding number
number_below sign.Name = lit< tt
number_below sign.Init = lit< tt
number_below sign.SelfName = lit< tt
number_below sign.Number = lit< tt
number_below sign.Text = lit< tt
number_below sign.Newline = lit< tt
number_below sign.Indent = lit< tt
number_below sign.Dedent = lit< tt
number_below sign.End = lit< tt
number_below sign.From = lit< tt
number_below sign.Import = lit< tt
number_below sign.Class = lit< tt
number_below sign.Def = lit< tt
number_below sign.Pass = lit< tt
number_below sign.If = lit< tt
number_below sign.Elif = lit< tt
number_below sign.Else = lit< tt
number_below sign.For = lit< tt
number_below sign.In = lit< tt
number_below sign.Or = lit< tt
number_below sign.And = lit< tt
number_below sign.Not = lit< tt
number_below sign.Is = lit< tt
number_below sign.None = lit< tt
number_below sign.True = lit< tt
number_below sign.False = lit< tt
number_below sign.Plus = lit< tt
number_below sign.Minus = lit< tt
number_below sign.Star = lit< tt
number_below sign.Floor = lit< tt
number_below sign.Percent = lit< tt
number_below sign.Power = lit< tt
number_below sign.ShiftLeft = lit< tt
number_below sign.ShiftRight = lit< tt
number_below sign.Ampersand = lit< tt
number_below sign.Bar = lit< tt
number_below sign.Caret = lit< tt
number_below sign.Tilde = lit< tt
number_below sign.Less = lit< tt
number_below sign.LessEqual = lit< tt
number_below sign.Equal = lit< tt
number_below sign.Unequal = lit< tt
number_below sign.Greater = lit< tt
number_below sign.GreaterEqual = lit< tt
number_below sign.Assign = lit< tt
number_below sign.AddAssign = lit< tt
number_below sign.OpenRound = lit< tt
number_below sign.CloseRound = lit< tt
number_below sign.OpenSquare = lit< tt
number_below sign.CloseSquare = lit< tt
number_below sign.OpenCurly = lit< tt
number_below sign.CloseCurly = lit< tt
number_below sign.Colon = lit< tt
number_below sign.Comma = lit< tt
number_below sign.Dot = lit< tt
number_below sign.Other = lit< tt
number_below sign.Target = lit< tt
number_below sign.LastDot = lit< tt
number_below sign.LastComma = lit< tt
number_below sign.KeyComma = lit< tt
number_below sign.Nothing = lit< tt
