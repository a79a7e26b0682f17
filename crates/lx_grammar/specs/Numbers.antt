-- The number of a sign, and sets of signs.
use Rattle.std.specs.Prelude.{ℕ, Bool, nat_lt, nat_eq, ◌&&◌, ◌/◌, ◌%◌, ◌^◌}
use Rattle.lx_grammar.specs.declared.sign.Sign.{Sign}
use Rattle.lx_grammar.specs.declared.sign.Sign.TheVariants as sign

unfoldable pub number : Sign → ℕ
number sign.Name = 0
number sign.Init = 1
number sign.SelfName = 2
number sign.Number = 3
number sign.Text = 4
number sign.Newline = 5
number sign.Indent = 6
number sign.Dedent = 7
number sign.End = 8
number sign.From = 9
number sign.Import = 10
number sign.Class = 11
number sign.Def = 12
number sign.Pass = 13
number sign.If = 14
number sign.Elif = 15
number sign.Else = 16
number sign.For = 17
number sign.In = 18
number sign.Or = 19
number sign.And = 20
number sign.Not = 21
number sign.Is = 22
number sign.None = 23
number sign.True = 24
number sign.False = 25
number sign.Plus = 26
number sign.Minus = 27
number sign.Star = 28
number sign.Floor = 29
number sign.Percent = 30
number sign.Power = 31
number sign.ShiftLeft = 32
number sign.ShiftRight = 33
number sign.Ampersand = 34
number sign.Bar = 35
number sign.Caret = 36
number sign.Tilde = 37
number sign.Less = 38
number sign.LessEqual = 39
number sign.Equal = 40
number sign.Unequal = 41
number sign.Greater = 42
number sign.GreaterEqual = 43
number sign.Assign = 44
number sign.AddAssign = 45
number sign.OpenRound = 46
number sign.CloseRound = 47
number sign.OpenSquare = 48
number sign.CloseSquare = 49
number sign.OpenCurly = 50
number sign.CloseCurly = 51
number sign.Colon = 52
number sign.Comma = 53
number sign.Dot = 54
number sign.Other = 55
number sign.Target = 56
number sign.LastDot = 57
number sign.LastComma = 58
number sign.KeyComma = 59
number sign.Nothing = 60

-- whether a sign is in a set, which has a bit for each
unfoldable pub accepts : ℕ → ℕ → Bool
accepts set k = nat_lt k 64 && nat_eq (set / 2 ^ k % 2) 1
