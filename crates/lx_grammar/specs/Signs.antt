-- The sign of a token by its kind and text.
use Rattle.std.specs.Prelude.{ℕ, List, [], ◌∷◌, ◌-◌, take, drop, nat_eq, codes, if◌then◌else◌}
use Rattle.std.specs.Str.{bytes_eq}
use Rattle.lx_token.specs.declared.tokens.Token.{Token}
use Rattle.lx_token.specs.declared.tokens.TokenKind.{TokenKind}
use Rattle.lx_token.specs.declared.tokens.TokenKind.TheVariants as kind
use Rattle.lx_grammar.specs.declared.sign.Item.{Item}
use Rattle.lx_grammar.specs.declared.sign.Sign.{Sign}
use Rattle.lx_grammar.specs.declared.sign.Sign.TheVariants as sign

unfoldable pub keyword_sign : List ℕ → Sign
keyword_sign w = if bytes_eq w (codes "from") then sign.From else (if bytes_eq w (codes "import") then sign.Import else (if bytes_eq w (codes "class") then sign.Class else (if bytes_eq w (codes "def") then sign.Def else (if bytes_eq w (codes "pass") then sign.Pass else (if bytes_eq w (codes "if") then sign.If else (if bytes_eq w (codes "elif") then sign.Elif else (if bytes_eq w (codes "else") then sign.Else else (if bytes_eq w (codes "for") then sign.For else (if bytes_eq w (codes "in") then sign.In else (if bytes_eq w (codes "or") then sign.Or else (if bytes_eq w (codes "and") then sign.And else (if bytes_eq w (codes "not") then sign.Not else (if bytes_eq w (codes "is") then sign.Is else (if bytes_eq w (codes "None") then sign.None else (if bytes_eq w (codes "True") then sign.True else (if bytes_eq w (codes "False") then sign.False else (sign.Other)))))))))))))))))

unfoldable pub single_sign : ℕ → Sign
single_sign c = if nat_eq c 43 then sign.Plus else (if nat_eq c 45 then sign.Minus else (if nat_eq c 42 then sign.Star else (if nat_eq c 37 then sign.Percent else (if nat_eq c 38 then sign.Ampersand else (if nat_eq c 124 then sign.Bar else (if nat_eq c 94 then sign.Caret else (if nat_eq c 126 then sign.Tilde else (if nat_eq c 60 then sign.Less else (if nat_eq c 62 then sign.Greater else (if nat_eq c 61 then sign.Assign else (if nat_eq c 40 then sign.OpenRound else (if nat_eq c 41 then sign.CloseRound else (if nat_eq c 91 then sign.OpenSquare else (if nat_eq c 93 then sign.CloseSquare else (if nat_eq c 123 then sign.OpenCurly else (if nat_eq c 125 then sign.CloseCurly else (if nat_eq c 58 then sign.Colon else (if nat_eq c 44 then sign.Comma else (if nat_eq c 46 then sign.Dot else (sign.Other))))))))))))))))))))

unfoldable pub pair_sign : List ℕ → Sign
pair_sign w = if bytes_eq w (codes "//") then sign.Floor else (if bytes_eq w (codes "**") then sign.Power else (if bytes_eq w (codes "<<") then sign.ShiftLeft else (if bytes_eq w (codes ">>") then sign.ShiftRight else (if bytes_eq w (codes "<=") then sign.LessEqual else (if bytes_eq w (codes "==") then sign.Equal else (if bytes_eq w (codes "!=") then sign.Unequal else (if bytes_eq w (codes ">=") then sign.GreaterEqual else (if bytes_eq w (codes "+=") then sign.AddAssign else (sign.Other)))))))))

unfoldable pub operator_sign : List ℕ → Sign
operator_sign [] = pair_sign []
operator_sign (c ∷ []) = single_sign c
operator_sign (c ∷ d ∷ w) = pair_sign (c ∷ d ∷ w)

unfoldable pub name_sign : List ℕ → Sign
name_sign w = if bytes_eq w (codes "__init__") then sign.Init else (if bytes_eq w (codes "self") then sign.SelfName else sign.Name)

unfoldable pub token_sign : TokenKind → List ℕ → Sign
token_sign kind.Name w = name_sign w
token_sign kind.Keyword w = keyword_sign w
token_sign kind.Number w = sign.Number
token_sign kind.Quoted w = sign.Text
token_sign kind.Op w = operator_sign w
token_sign kind.Newline w = sign.Newline
token_sign kind.Indent w = sign.Indent
token_sign kind.Dedent w = sign.Dedent
token_sign kind.End w = sign.End

-- the bytes from a place up to another
unfoldable pub text_at : List ℕ → ℕ → ℕ → List ℕ
text_at src start end = take (end - start) (drop start src)

-- a token with its sign
unfoldable pub item_of : List ℕ → Token → Item
item_of src x = record { token = x; sign = token_sign x.kind (text_at src x.start x.end) }
