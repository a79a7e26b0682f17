-- A text cut into pieces by the longest-token rule.
use Rattle.std.specs.Prelude.{ℕ, zero, suc, List, [], ◌∷◌, ◌==◌, ◌+◌, ◌-◌, nat_lt, take, count_by, if◌then◌else◌}
use Rattle.lx_text.specs.declared.faults.Fault.{Fault}
use Rattle.lx_text.specs.declared.faults.Kind.{Kind}
use Rattle.lx_text.specs.declared.faults.Kind.TheVariants as fault
use Rattle.lx_token.specs.Bytes.{is_line_end}
use Rattle.lx_token.specs.Lexemes.{lexeme_of, lexeme_len}
use Rattle.lx_token.specs.declared.tokens.Token.{Token}
use Rattle.lx_token.specs.declared.tokens.TokenKind.{TokenKind}
use Rattle.lx_token.specs.declared.tokens.TokenKind.TheVariants as kind
use Rattle.lx_token.specs.declared.lexemes.Form.{Form}
use Rattle.lx_token.specs.declared.lexemes.Form.TheVariants as form
use Rattle.lx_token.specs.declared.lexemes.Lexeme.{Lexeme}
use Rattle.lx_token.specs.declared.lexemes.Lexeme.TheVariants as lexeme
use Rattle.lx_token.specs.declared.pieces.Piece.{Piece}
use Rattle.lx_token.specs.declared.pieces.Piece.TheVariants as piece

abbrev pub fault_at : ℕ → Kind → Fault
fault_at line kind = record { line = line; kind = kind }

-- the token of so many bytes from a place and line on
abbrev pub token_at : TokenKind → ℕ → ℕ → ℕ → Token
token_at kind at n line = record { kind = kind; start = at; end = at + n; line = line }

-- how many lines end in these bytes
abbrev pub line_ends : List ℕ → ℕ
line_ends bytes = count_by is_line_end bytes

-- so many brackets may be open
abbrev pub most_open : ℕ
most_open = 64

-- a piece behind so many open brackets: inside brackets a line end is a blank, and a bracket too many is a fault
unfoldable pub formed : ℕ → Form → ℕ → ℕ → ℕ → Piece
formed depth form.Blank at n line = piece.Blank
formed depth form.Tab at n line = piece.Tab line
formed depth form.LineEnd at n line = if depth == 0 then piece.LineEnd (token_at kind.Newline at n line) else piece.Blank
formed depth form.Open at n line = if nat_lt depth most_open then piece.Whole (token_at kind.Op at n line) else piece.Wrong line (fault_at line fault.TooDeep)
formed depth form.Close at n line = piece.Whole (token_at kind.Op at n line)
formed depth (form.Token k) at n line = piece.Whole (token_at k at n line)

-- a lexeme in its place; a bad byte has the line that it stands in
unfoldable pub placed : ℕ → Lexeme → List ℕ → ℕ → ℕ → Piece
placed depth (lexeme.Part f n) bytes at line = formed depth f at n line
placed depth (lexeme.BadByte k) bytes at line = piece.Wrong line (fault_at (line + line_ends (take k bytes)) (fault.BadByte (at + k)))
placed depth lexeme.NumberRange bytes at line = piece.Wrong line (fault_at line fault.NumberRange)

-- the brackets that are open behind a form: a closing one closes the innermost, if there is one
abbrev pub opened_by : Form → ℕ → ℕ
opened_by form.Open depth = if nat_lt depth most_open then depth + 1 else depth
opened_by form.Close depth = depth - 1
opened_by form.Blank depth = depth
opened_by form.Tab depth = depth
opened_by form.LineEnd depth = depth
opened_by (form.Token k) depth = depth

unfoldable pub open_behind : Lexeme → ℕ → ℕ
open_behind (lexeme.Part f n) depth = opened_by f depth
open_behind (lexeme.BadByte k) depth = depth
open_behind lexeme.NumberRange depth = depth

-- the pieces from this place and line on, behind so many open brackets; the first bytes, so many, belong to the piece before
unfoldable pub cut : ℕ → ℕ → ℕ → ℕ → List ℕ → List Piece
cut held depth at line [] = []
cut zero depth at line (c ∷ cs) =
    let front = lexeme_of (c ∷ cs) in
    placed depth front (c ∷ cs) at line ∷ cut (lexeme_len front - 1) (open_behind front depth) (at + 1) (line + line_ends (c ∷ [])) cs
cut (suc held) depth at line (c ∷ cs) = cut held depth (at + 1) (line + line_ends (c ∷ [])) cs

-- the pieces of a text
unfoldable pub pieces_of : List ℕ → List Piece
pieces_of source = cut 0 0 0 1 source
