-- Logical lines with their indentation.
use Rattle.std.specs.Prelude.{ℕ, List, [], ◌∷◌, ◌+◌, Option, Some, None}
use Rattle.lx_token.specs.declared.pieces.Piece.{Piece}
use Rattle.lx_token.specs.declared.pieces.Piece.TheVariants as piece

-- the piece at the front of the first line
abbrev pub before_lines : Piece → List (List Piece) → List (List Piece)
before_lines p [] = (p ∷ []) ∷ []
before_lines p (line ∷ lines) = (p ∷ line) ∷ lines

-- one more piece before lines: a line end ends its line
abbrev pub with_piece : Piece → List (List Piece) → List (List Piece)
with_piece (piece.LineEnd token) lines = (piece.LineEnd token ∷ []) ∷ lines
with_piece piece.Blank lines = before_lines piece.Blank lines
with_piece (piece.Tab line) lines = before_lines (piece.Tab line) lines
with_piece (piece.Whole token) lines = before_lines (piece.Whole token) lines
with_piece (piece.Wrong line fault) lines = before_lines (piece.Wrong line fault) lines

-- the pieces cut behind each line end
unfoldable pub lines_of : List Piece → List (List Piece)
lines_of [] = []
lines_of (p ∷ ps) = with_piece p (lines_of ps)

-- a logical line: the width of its leading blanks, the line of the first tab among them, and its pieces from the first on
-- that is no blank, with the place and line where that one begins
pub record Logical : Type 0 where
  pub width : ℕ
  pub tab : Option ℕ
  pub place : ℕ
  pub line : ℕ
  pub pieces : List Piece

-- the line of the earlier tab
abbrev pub first_tab : Option ℕ → ℕ → Option ℕ
first_tab None line = Some line
first_tab (Some earlier) line = Some earlier

-- the logical line that these pieces make behind leading blanks of this width; none where they are blanks alone
unfoldable pub logical : ℕ → Option ℕ → List Piece → Option Logical
logical width tab [] = None
logical width tab (piece.Blank ∷ ps) = logical (width + 1) tab ps
logical width tab (piece.Tab line ∷ ps) = logical (width + 1) (first_tab tab line) ps
logical width tab (piece.LineEnd token ∷ ps) = None
logical width tab (piece.Whole token ∷ ps) = Some (record { width = width; tab = tab; place = token.start; line = token.line; pieces = piece.Whole token ∷ ps })
logical width tab (piece.Wrong line fault ∷ ps) = Some (record { width = width; tab = tab; place = 0; line = line; pieces = piece.Wrong line fault ∷ ps })
