-- Tokens that stand one behind another in a text.
use Rattle.std.specs.Prelude.{◌≡◌, ℕ, ◌≤◌, List, [], ◌∷◌, ◌++◌, length, Ok}
use Rattle.lx_token.specs.Tokens.{tokens_of}
use Rattle.lx_token.specs.declared.tokens.Token.{Token}
use Rattle.lx_token.specs.declared.tokens.TokenKind.TheVariants as kind

-- each token ends where it starts or later, and none starts before the one in front of it ends: from one place up to another
abbrev pub AreInOrder : ℕ → List Token → ℕ → Type 0
AreInOrder low [] high = low ≤ high
AreInOrder low (t ∷ ts) high = (low ≤ t.start) × (t.start ≤ t.end) × AreInOrder t.end ts high

-- the last token is End, which stands at the end of the text
pub record EndsText (place : ℕ) (tokens : List Token) : Type 0 where
  pub front : List Token
  pub last : Token
  pub is : tokens ≡ front ++ last ∷ []
  pub kind : last.kind ≡ kind.End
  pub start : last.start ≡ place
  pub end : last.end ≡ place

pub record AreTokensOf (source : List ℕ) (tokens : List Token) : Type 0 where
  pub in_order : AreInOrder 0 tokens (length source)
  pub ended : EndsText (length source) tokens

-- the tokens of a text are slices of it that rise, and the last one is End
abbrev pub TokensRise : Type 0
TokensRise = (source : List ℕ) (tokens : List Token) → tokens_of source ≡ Ok tokens → AreTokensOf source tokens
