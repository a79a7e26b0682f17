-- The tokens of a text: its lines nested by their indentation, each cut into tokens.
use Rattle.std.specs.Prelude.{ℕ, List, [], ◌∷◌, ◌++◌, ◌==◌, ◌+◌, ◌-◌, nat_lt, nat_le, length, slice_index, Option, Some, None, Result, Ok, Err, replicate, if◌then◌else◌, ◌≡◌}
use Rattle.std.specs.List.{take_while}
use Rattle.lx_text.specs.declared.faults.Fault.{Fault}
use Rattle.lx_text.specs.declared.faults.Kind.TheVariants as fault
use Rattle.lx_text.specs.declared.faults.Refusal.{Refusal}
use Rattle.lx_text.specs.declared.faults.Refusal.TheVariants as refusal
use Rattle.lx_text.specs.Limits.{max_bytes}
use Rattle.lx_token.specs.Pieces.{fault_at, token_at, line_ends, pieces_of}
use Rattle.lx_token.specs.Lines.{Logical, lines_of, logical}
use Rattle.lx_token.specs.declared.tokens.Token.{Token}
use Rattle.lx_token.specs.declared.tokens.TokenKind.TheVariants as kind
use Rattle.lx_token.specs.declared.pieces.Piece.{Piece}
use Rattle.lx_token.specs.declared.pieces.Piece.TheVariants as piece

-- ---- nesting

-- so many levels of indentation may be open
abbrev pub most_levels : ℕ
most_levels = 64

-- the width of the innermost open level; levels stand from the outermost on
abbrev pub innermost : List ℕ → ℕ
innermost levels = slice_index levels (length levels - 1)

-- the levels that a line of this width leaves open
abbrev pub levels_within : ℕ → List ℕ → List ℕ
levels_within width levels = take_while (λ level. nat_le level width) levels

-- what a line's indentation gives: its tokens, and the levels that are open behind it
pub record Nested : Type 0 where
  pub tokens : List Token
  pub levels : List ℕ

-- so many Dedents at a place and line
abbrev pub dedents : ℕ → ℕ → ℕ → List Token
dedents n place line = replicate n (token_at kind.Dedent place 0 line)

-- a line that isn't wider than the innermost level closes each that is wider; the innermost one that is left is as wide
unfoldable pub closed : List ℕ → ℕ → ℕ → ℕ → Result Nested Fault
closed levels width place line =
    let left = levels_within width levels in
    if innermost left == width then Ok (record { tokens = dedents (length levels - length left) place line; levels = left })
    else Err (fault_at line fault.BadIndent)

-- a line of this width that begins at this place and line; one that is wider than the innermost level opens one
unfoldable pub nested : List ℕ → ℕ → ℕ → ℕ → Result Nested Fault
nested levels width place line =
    if nat_lt (innermost levels) width then
    (if nat_lt (length levels) most_levels then Ok (record { tokens = token_at kind.Indent place 0 line ∷ []; levels = levels ++ width ∷ [] })
    else Err (fault_at line fault.TooDeep))
    else closed levels width place line

-- a tab among the leading blanks stands before all else that is wrong with them
abbrev pub indented : Option ℕ → List ℕ → ℕ → ℕ → ℕ → Result Nested Fault
indented (Some tab_line) levels width place line = Err (fault_at tab_line fault.BadIndent)
indented None levels width place line = nested levels width place line

-- ---- the tokens of a line

-- tokens, and the Newline behind them
pub record Cut : Type 0 where
  pub tokens : List Token
  pub newline : Token

abbrev pub with_token : Token → Result Cut Fault → Result Cut Fault
with_token t (Ok c) = Ok (record { tokens = t ∷ c.tokens; newline = c.newline })
with_token t (Err f) = Err f

-- the pieces of a logical line as tokens, up to its end or that of the text
unfoldable pub line_tokens : Token → List Piece → Result Cut Fault
line_tokens last [] = Ok (record { tokens = []; newline = last })
line_tokens last (piece.Blank ∷ ps) = line_tokens last ps
line_tokens last (piece.Tab line ∷ ps) = line_tokens last ps
line_tokens last (piece.LineEnd token ∷ ps) = Ok (record { tokens = []; newline = token })
line_tokens last (piece.Whole token ∷ ps) = with_token token (line_tokens last ps)
line_tokens last (piece.Wrong line f ∷ ps) = Err f

-- ---- the whole text

-- what the fault-free value gives, or the fault
abbrev pub go_on : {A B : Type 0} → Result A Fault → (A → Result B Fault) → Result B Fault
go_on (Ok x) next = next x
go_on (Err f) next = Err f

abbrev pub with_tokens : List Token → Result (List Token) Fault → Result (List Token) Fault
with_tokens ts (Ok us) = Ok (ts ++ us)
with_tokens ts (Err f) = Err f

-- what a line gives: its tokens, and behind it the open levels and the line of the last Newline
pub record Line : Type 0 where
  pub tokens : List Token
  pub levels : List ℕ
  pub newline : ℕ

-- the tokens of a logical line behind those of its indentation
abbrev pub nested_line : Token → Logical → Nested → Result Line Fault
nested_line last l n = go_on (line_tokens last l.pieces) (λ c. Ok (record { tokens = n.tokens ++ (c.tokens ++ c.newline ∷ []); levels = n.levels; newline = c.newline.line }))

-- a line of blanks alone gives nothing; a logical line gives the tokens of its indentation, its own, and its Newline
abbrev pub line_of : Token → List ℕ → ℕ → Option Logical → Result Line Fault
line_of last levels newline None = Ok (record { tokens = []; levels = levels; newline = newline })
line_of last levels newline (Some l) = go_on (indented l.tab levels l.width l.place l.line) (nested_line last l)

-- the Dedents of the open levels, and End, at this place; they have the line of the last Newline
abbrev pub ending_tokens : List ℕ → ℕ → ℕ → List Token
ending_tokens levels place line = dedents (length levels) place line ++ token_at kind.End place 0 line ∷ []

-- the tokens of lines, behind these open levels and a last Newline in this line; `last` is a Newline at the text's end
unfoldable pub all_lines : Token → List ℕ → ℕ → List (List Piece) → Result (List Token) Fault
all_lines last levels newline [] = Ok (ending_tokens levels last.start newline)
all_lines last levels newline (pieces ∷ lines) =
    go_on (line_of last levels newline (logical 0 None pieces)) (λ line. with_tokens line.tokens (all_lines last line.levels line.newline lines))

-- the Newline that stands at the end of a text whose last line has no LF
abbrev pub last_newline : List ℕ → Token
last_newline source = token_at kind.Newline (length source) 0 (1 + line_ends source)

-- the tokens of a text, or the fault in it that stands first
unfoldable pub tokens_of : List ℕ → Result (List Token) Fault
tokens_of source = if nat_lt max_bytes (length source) then Err (fault_at 0 fault.TooLong) else all_lines (last_newline source) [] 1 (lines_of (pieces_of source))

-- want of memory aside, this is what the text gives
abbrev pub Tokenized : List ℕ → Result (List Token) Refusal → Type 0
Tokenized source (Ok tokens) = tokens_of source ≡ Ok tokens
Tokenized source (Err (refusal.Fault f)) = tokens_of source ≡ Err f
Tokenized source (Err refusal.NoMemory) = Unit {0}
