-- Lines nested and cut in one pass over the pieces.
use Rattle.std.specs.Prelude.{◌≡◌, ℕ, true, false, List, [], ◌∷◌, ◌++◌, ◌+◌, None, Result, Ok, Err, IsOkAnd, if◌then◌else◌}
use Rattle.lx_text.specs.declared.faults.Fault.{Fault}
use Rattle.lx_text.specs.declared.faults.Refusal.{Refusal}
use Rattle.lx_text.specs.declared.faults.Refusal.TheVariants as refusal
use Rattle.lx_token.specs.Lines.{first_tab}
use Rattle.lx_token.specs.Tokens.{Nested, indented, go_on, ending_tokens}
use Rattle.lx_token.specs.declared.tokens.Token.{Token}
use Rattle.lx_token.specs.declared.lines.Lines.{Lines}
use Rattle.lx_token.specs.declared.pieces.Piece.{Piece}
use Rattle.lx_token.specs.declared.pieces.Piece.TheVariants as piece

-- a blank; it counts among the leading ones alone
unfoldable pub blank : Lines → Lines
blank m = if m.begun then m else record m { width = m.width + 1 }

unfoldable pub tab_in : ℕ → Lines → Lines
tab_in line m = if m.begun then m else record m { width = m.width + 1; tab = first_tab m.tab line }

unfoldable pub line_end : Token → Lines → Lines
line_end t m =
    if m.begun then record m { tokens = m.tokens ++ t ∷ []; width = 0; tab = None; begun = false; newline = t.line }
    else record m { width = 0; tab = None }

unfoldable pub put_token : Token → Lines → Lines
put_token t m = record m { tokens = m.tokens ++ t ∷ [] }

-- what the indentation gives, where this is a line's first piece that is no blank
unfoldable pub begin_line : ℕ → ℕ → Lines → Result Lines Fault
begin_line place line m =
    if m.begun then Ok m
    else go_on (indented m.tab m.levels m.width place line) (λ n. Ok (record m { tokens = m.tokens ++ n.tokens; levels = n.levels; begun = true }))

unfoldable pub take_piece : Piece → Lines → Result Lines Fault
take_piece piece.Blank m = Ok (blank m)
take_piece (piece.Tab line) m = Ok (tab_in line m)
take_piece (piece.LineEnd t) m = Ok (line_end t m)
take_piece (piece.Whole t) m = go_on (begin_line t.start t.line m) (λ k. Ok (put_token t k))
take_piece (piece.Wrong line f) m = go_on (begin_line 0 line m) (λ k. Err f)

unfoldable pub take_all : List Piece → Lines → Result Lines Fault
take_all [] m = Ok m
take_all (p ∷ ps) m = go_on (take_piece p m) (take_all ps)

-- the last line may have no line end
unfoldable pub last_line : Token → Lines → Lines
last_line last m = if m.begun then line_end last m else m

-- the tokens with those that end the text
unfoldable pub finished : Token → Lines → List Token
finished last m = (last_line last m).tokens ++ ending_tokens (last_line last m).levels last.start (last_line last m).newline

-- want of memory aside, this is what a step gives
abbrev pub Gives : {A : Type 0} → Result A Refusal → Lines → Result Lines Fault → Type 0
Gives (Ok x) m run = run ≡ Ok m
Gives (Err (refusal.Fault f)) m run = run ≡ Err f
Gives (Err refusal.NoMemory) m run = Unit {0}

-- the same of the tokens and levels of a line's indentation
abbrev pub Nests : {A : Type 0} → Result A Refusal → Lines → Lines → Result Nested Fault → Type 0
Nests (Ok x) before after run = IsOkAnd run (λ n. after ≡ record before { tokens = before.tokens ++ n.tokens; levels = n.levels })
Nests (Err (refusal.Fault f)) before after run = run ≡ Err f
Nests (Err refusal.NoMemory) before after run = Unit {0}
