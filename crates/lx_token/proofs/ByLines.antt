-- One pass over the pieces gives the tokens of the lines.
use Rattle.std.proofs.Common.{◌≡◌, ℕ, Bool, true, false, List, [], ◌∷◌, ◌++◌, ◌+◌, Option, None, Result, Ok, Err, refl, sym, ap, ◌∙◌, append_assoc, ◌≤◌, length, nat_lt, arith}
use Rattle.std.proofs.lemmas.Bool.Decides.{nat_tests}
use Rattle.std.proofs.lemmas.Bool.{le-ltb}
use Rattle.lx_text.specs.declared.faults.Fault.{Fault}
use Rattle.lx_text.specs.declared.faults.Refusal.{Refusal}
use Rattle.lx_text.specs.declared.faults.Refusal.TheVariants as refusal
use Rattle.lx_token.specs.Pieces.{pieces_of}
use Rattle.lx_token.specs.Lines.{lines_of, before_lines, logical, first_tab}
use Rattle.lx_text.specs.Limits.{max_bytes}
use Rattle.lx_token.specs.Tokens.{Nested, Cut, Line, indented, go_on, with_token, with_tokens, line_tokens, line_of, nested_line, ending_tokens, all_lines, last_newline, tokens_of, Tokenized}
use Rattle.lx_token.specs.Machine.{Gives, blank, tab_in, line_end, put_token, begin_line, take_piece, take_all, last_line, finished}
use Rattle.lx_token.specs.declared.tokens.Token.{Token}
use Rattle.lx_token.specs.declared.lines.Lines.{Lines}
use Rattle.lx_token.specs.declared.pieces.Piece.{Piece}
use Rattle.lx_token.specs.declared.pieces.Piece.TheVariants as piece

-- the first of some lines, and the others
abbrev first : List (List Piece) → List Piece
first [] = []
first (line ∷ lines) = line

abbrev others : List (List Piece) → List (List Piece)
others [] = []
others (line ∷ lines) = lines

first-before : (p : Piece) (lines : List (List Piece)) → first (before_lines p lines) ≡ p ∷ first lines
first-before p [] = refl
first-before p (line ∷ lines) = refl

others-before : (p : Piece) (lines : List (List Piece)) → others (before_lines p lines) ≡ others lines
others-before p [] = refl
others-before p (line ∷ lines) = refl

with_tokens-none : (r : Result (List Token) Fault) → with_tokens [] r ≡ r
with_tokens-none (Ok ts) = refl
with_tokens-none (Err f) = refl

with_tokens-append : (ts us : List Token) (r : Result (List Token) Fault) → with_tokens (ts ++ us) r ≡ with_tokens ts (with_tokens us r)
with_tokens-append ts us (Ok vs) = ap Ok (append_assoc ts us vs)
with_tokens-append ts us (Err f) = refl

-- what a line that has begun gives behind its first tokens, and then the others
abbrev rest_of : Token → List ℕ → List Piece → List (List Piece) → Result (List Token) Fault
rest_of last levels line lines = go_on (line_tokens last line) (λ c. with_tokens (c.tokens ++ c.newline ∷ []) (all_lines last levels c.newline.line lines))

-- the same of one that has not, behind leading blanks
abbrev whole_of : Token → List ℕ → ℕ → ℕ → Option ℕ → List Piece → List (List Piece) → Result (List Token) Fault
whole_of last levels newline width tab line lines = go_on (line_of last levels newline (logical width tab line)) (λ l. with_tokens l.tokens (all_lines last l.levels l.newline lines))

abbrev expected_at : Bool → Token → List ℕ → ℕ → ℕ → Option ℕ → List Piece → List (List Piece) → Result (List Token) Fault
expected_at true last levels newline width tab line lines = rest_of last levels line lines
expected_at false last levels newline width tab line lines = whole_of last levels newline width tab line lines

-- all lines, from their first on
all_lines-whole : (last : Token) (levels : List ℕ) (newline : ℕ) (lines : List (List Piece)) → all_lines last levels newline lines ≡ whole_of last levels newline 0 None (first lines) (others lines)
unfolding all_lines logical
all_lines-whole last levels newline [] = refl
all_lines-whole last levels newline (line ∷ lines) = refl

-- a token that was put is the first of its line
push_by : (t : Token) (ts : List Token) (next : ℕ → Result (List Token) Fault) (r : Result Cut Fault) → with_tokens (ts ++ t ∷ []) (go_on r (λ c. with_tokens (c.tokens ++ c.newline ∷ []) (next c.newline.line))) ≡ with_tokens ts (go_on (with_token t r) (λ c. with_tokens (c.tokens ++ c.newline ∷ []) (next c.newline.line)))
push_by t ts next (Err f) = refl
push_by t ts next (Ok c) =
    with_tokens-append ts (t ∷ []) (with_tokens (c.tokens ++ c.newline ∷ []) (next c.newline.line)) ∙ ap (with_tokens ts) (sym (with_tokens-append (t ∷ []) (c.tokens ++ c.newline ∷ []) (next c.newline.line)))

-- the tokens of an indentation stand before those of the line
nest_by : (ts : List Token) (n : Nested) (next : ℕ → Result (List Token) Fault) (r : Result Cut Fault) → with_tokens (ts ++ n.tokens) (go_on r (λ c. with_tokens (c.tokens ++ c.newline ∷ []) (next c.newline.line))) ≡ with_tokens ts (go_on r (λ c. with_tokens (n.tokens ++ (c.tokens ++ c.newline ∷ [])) (next c.newline.line)))
nest_by ts n next (Err f) = refl
nest_by ts n next (Ok c) =
    with_tokens-append ts n.tokens (with_tokens (c.tokens ++ c.newline ∷ []) (next c.newline.line)) ∙ ap (with_tokens ts) (sym (with_tokens-append n.tokens (c.tokens ++ c.newline ∷ []) (next c.newline.line)))

go_on-go_on : (last : Token) (n : Nested) (lines : List (List Piece)) (r : Result Cut Fault) → go_on r (λ c. with_tokens (n.tokens ++ (c.tokens ++ c.newline ∷ [])) (all_lines last n.levels c.newline.line lines)) ≡ go_on {A = Line} {B = List Token} (go_on r (λ c. Ok (record { tokens = n.tokens ++ (c.tokens ++ c.newline ∷ []); levels = n.levels; newline = c.newline.line }))) (λ l. with_tokens l.tokens (all_lines last l.levels l.newline lines))
go_on-go_on last n lines (Err f) = refl
go_on-go_on last n lines (Ok c) = refl

abbrev pub machine : List Token → List ℕ → ℕ → Option ℕ → Bool → ℕ → Lines
machine ts ls w t b n = record { tokens = ts; levels = ls; width = w; tab = t; begun = b; newline = n }

-- one pass from anywhere gives what is left of the line, and then the other lines
pub by_lines : (last : Token) (ps : List Piece) (ts : List Token) (ls : List ℕ) (w : ℕ) (t : Option ℕ) (b : Bool) (n : ℕ) → go_on (take_all ps (machine ts ls w t b n)) (λ m. Ok (finished last m)) ≡ with_tokens ts (expected_at b last ls n w t (first (lines_of ps)) (others (lines_of ps)))
unfolding lines_of logical line_tokens all_lines blank tab_in line_end put_token begin_line take_piece take_all last_line finished
by_lines last [] ts ls w t true n = ap Ok (append_assoc ts (last ∷ []) (ending_tokens ls last.start last.line))
by_lines last [] ts ls w t false n = refl
by_lines last (piece.Blank ∷ ps) ts ls w t true n =
    rw (first-before piece.Blank (lines_of ps), others-before piece.Blank (lines_of ps)) (by_lines last ps ts ls w t true n)
by_lines last (piece.Blank ∷ ps) ts ls w t false n =
    rw (first-before piece.Blank (lines_of ps), others-before piece.Blank (lines_of ps)) (by_lines last ps ts ls (w + 1) t false n)
by_lines last (piece.Tab line ∷ ps) ts ls w t true n =
    rw (first-before (piece.Tab line) (lines_of ps), others-before (piece.Tab line) (lines_of ps)) (by_lines last ps ts ls w t true n)
by_lines last (piece.Tab line ∷ ps) ts ls w t false n =
    rw (first-before (piece.Tab line) (lines_of ps), others-before (piece.Tab line) (lines_of ps)) (by_lines last ps ts ls (w + 1) (first_tab t line) false n)
by_lines last (piece.LineEnd e ∷ ps) ts ls w t true n =
    by_lines last ps (ts ++ e ∷ []) ls 0 None false e.line ∙ ap (with_tokens (ts ++ e ∷ [])) (sym (all_lines-whole last ls e.line (lines_of ps))) ∙ with_tokens-append ts (e ∷ []) (all_lines last ls e.line (lines_of ps))
by_lines last (piece.LineEnd e ∷ ps) ts ls w t false n =
    by_lines last ps ts ls 0 None false n ∙ ap (with_tokens ts) (sym (all_lines-whole last ls n (lines_of ps)) ∙ sym (with_tokens-none (all_lines last ls n (lines_of ps))))
by_lines last (piece.Whole x ∷ ps) ts ls w t true n =
    rw (first-before (piece.Whole x) (lines_of ps), others-before (piece.Whole x) (lines_of ps))
    (by_lines last ps (ts ++ x ∷ []) ls w t true n ∙ push_by x ts (λ line. all_lines last ls line (others (lines_of ps))) (line_tokens last (first (lines_of ps))))
by_lines last (piece.Whole x ∷ ps) ts ls w t false n =
    rw (first-before (piece.Whole x) (lines_of ps), others-before (piece.Whole x) (lines_of ps)) (by_nested (λ k. by_lines last ps ((ts ++ k.tokens) ++ x ∷ []) k.levels w t true n) (indented t ls w x.start x.line))
  where
    by_nested : ((k : Nested) → go_on (take_all ps (machine ((ts ++ k.tokens) ++ x ∷ []) k.levels w t true n)) (λ m. Ok (finished last m)) ≡ with_tokens ((ts ++ k.tokens) ++ x ∷ []) (rest_of last k.levels (first (lines_of ps)) (others (lines_of ps)))) → (r : Result Nested Fault) → go_on (go_on (go_on (go_on r (λ k. Ok (machine (ts ++ k.tokens) k.levels w t true n))) (λ m. Ok (put_token x m))) (take_all ps)) (λ m. Ok (finished last m)) ≡ with_tokens ts (go_on (go_on r (nested_line last (record { width = w; tab = t; place = x.start; line = x.line; pieces = piece.Whole x ∷ first (lines_of ps) }))) (λ l. with_tokens l.tokens (all_lines last l.levels l.newline (others (lines_of ps)))))
    by_nested left (Err f) = refl
    by_nested left (Ok k) =
        left k
        ∙ push_by x (ts ++ k.tokens) (λ line. all_lines last k.levels line (others (lines_of ps))) (line_tokens last (first (lines_of ps)))
        ∙ nest_by ts k (λ line. all_lines last k.levels line (others (lines_of ps))) (with_token x (line_tokens last (first (lines_of ps))))
        ∙ ap (with_tokens ts) (go_on-go_on last k (others (lines_of ps)) (with_token x (line_tokens last (first (lines_of ps)))))
by_lines last (piece.Wrong line f ∷ ps) ts ls w t true n =
    rw (first-before (piece.Wrong line f) (lines_of ps)) refl
by_lines last (piece.Wrong line f ∷ ps) ts ls w t false n =
    rw (first-before (piece.Wrong line f) (lines_of ps), others-before (piece.Wrong line f) (lines_of ps)) (by_nested (indented t ls w 0 line))
  where
    by_nested : (r : Result Nested Fault) → go_on (go_on (go_on (go_on r (λ k. Ok (machine (ts ++ k.tokens) k.levels w t true n))) (λ m. Err f)) (take_all ps)) (λ m. Ok (finished last m)) ≡ with_tokens ts (go_on (go_on r (nested_line last (record { width = w; tab = t; place = 0; line = line; pieces = piece.Wrong line f ∷ first (lines_of ps) }))) (λ l. with_tokens l.tokens (all_lines last l.levels l.newline (others (lines_of ps)))))
    by_nested (Err g) = refl
    by_nested (Ok k) = refl

-- one pass over all pieces
pub one_pass : (last : Token) (ps : List Piece) → go_on (take_all ps (machine [] [] 0 None false 1)) (λ m. Ok (finished last m)) ≡ all_lines last [] 1 (lines_of ps)
one_pass last ps =
    by_lines last ps [] [] 0 None false 1 ∙ with_tokens-none (whole_of last [] 1 0 None (first (lines_of ps)) (others (lines_of ps))) ∙ sym (all_lines-whole last [] 1 (lines_of ps))

-- a text that was read to its end
pub read_whole : (source : List ℕ) (start m : Lines) (last : Token) (ts : List Token) → length source ≤ max_bytes → start ≡ machine [] [] 0 None false 1 → last ≡ last_newline source → take_all (pieces_of source) start ≡ Ok m → ts ≡ finished last m → tokens_of source ≡ Ok ts
unfolding tokens_of
read_whole source start m last ts short begun end read e =
    rw (le-ltb max_bytes (length source) short)
    (sym (one_pass (last_newline source) (pieces_of source))
    ∙ ap (λ r. go_on r (λ k. Ok (finished (last_newline source) k))) (ap (take_all (pieces_of source)) (sym begun) ∙ read)
    ∙ ap Ok (ap (λ t. finished t m) (sym end) ∙ sym e))

-- a text in which there is a fault
pub read_fault : (source : List ℕ) (start m : Lines) (stop : Refusal) → length source ≤ max_bytes → start ≡ machine [] [] 0 None false 1 → Gives {A = Unit {0}} (Err stop) m (take_all (pieces_of source) start) → Tokenized source (Err stop)
unfolding tokens_of
read_fault source start m refusal.NoMemory short begun read = tt
read_fault source start m (refusal.Fault f) short begun read =
    rw (le-ltb max_bytes (length source) short)
    (sym (one_pass (last_newline source) (pieces_of source))
    ∙ ap (λ r. go_on r (λ k. Ok (finished (last_newline source) k))) (ap (take_all (pieces_of source)) (sym begun) ∙ read))
