-- Each token's bytes are a piece of the text of its kind.
use Rattle.std.specs.Prelude.{◌≡◌, ℕ, ◌-◌, List, [], ◌∷◌, ◌⊎◌, drop, Ok}
use Rattle.lx_token.specs.Lexemes.{lexeme_of}
use Rattle.lx_token.specs.Tokens.{tokens_of}
use Rattle.lx_token.specs.declared.tokens.Token.{Token}
use Rattle.lx_token.specs.declared.tokens.TokenKind.{TokenKind}
use Rattle.lx_token.specs.declared.tokens.TokenKind.TheVariants as kind
use Rattle.lx_token.specs.declared.lexemes.Form.{Form}
use Rattle.lx_token.specs.declared.lexemes.Form.TheVariants as form
use Rattle.lx_token.specs.declared.lexemes.Lexeme.TheVariants as lexeme

-- a piece of this form makes a token of this kind
abbrev pub Makes : Form → TokenKind → Type 0
Makes form.Blank k = ⊥
Makes form.Tab k = ⊥
Makes form.LineEnd k = k ≡ kind.Newline
Makes form.Open k = k ≡ kind.Op
Makes form.Close k = k ≡ kind.Op
Makes (form.Token j) k = k ≡ j

-- what stands in the text where the token starts is the piece up to its end
pub record IsPiece (source : List ℕ) (t : Token) : Type 0 where
  pub form : Form
  pub makes : Makes form t.kind
  pub piece : lexeme_of (drop t.start source) ≡ lexeme.Part form (t.end - t.start)

-- it stands between two bytes, as an Indent does, a Dedent, End, and the Newline of a last line without LF
pub record IsMark (t : Token) : Type 0 where
  pub empty : t.end ≡ t.start

abbrev pub AreSlices : List ℕ → List Token → Type 0
AreSlices source [] = Unit {0}
AreSlices source (t ∷ ts) = (IsPiece source t ⊎ IsMark t) × AreSlices source ts

-- each token of a text is the slice of it that a piece is, or empty
abbrev pub TokensAreSlices : Type 0
TokensAreSlices = (source : List ℕ) (tokens : List Token) → tokens_of source ≡ Ok tokens → AreSlices source tokens
