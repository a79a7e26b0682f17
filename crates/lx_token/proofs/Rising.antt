-- The tokens of a text rise.
use Rattle.std.proofs.Common.{◌≡◌, ℕ, zero, suc, ◌+◌, ◌-◌, ◌<◌, ◌≤◌, ◌==◌, Bool, true, false, cond, nat_lt, List, [], ◌∷◌, ◌++◌, Option, Some, None, Result, Ok, Err, length, refl, sym, ◌∙◌, subst, arith, append_assoc}
use Rattle.lx_text.specs.declared.faults.Fault.{Fault}
use Rattle.lx_text.specs.declared.faults.Kind.TheVariants as fault
use Rattle.lx_token.specs.Lexemes.{lexeme_of, lexeme_len, IsWithin}
use Rattle.lx_token.specs.Pieces.{formed, placed, cut, pieces_of, open_behind, line_ends, token_at, fault_at, most_open}
use Rattle.lx_token.specs.Lines.{first_tab, lines_of}
use Rattle.lx_text.specs.Limits.{max_bytes}
use Rattle.lx_token.specs.Tokens.{Nested, dedents, closed, nested, indented, innermost, levels_within, most_levels, go_on, ending_tokens, all_lines, last_newline, tokens_of}
use Rattle.lx_token.specs.Machine.{blank, tab_in, line_end, put_token, begin_line, take_piece, take_all, last_line, finished}
use Rattle.lx_token.specs.Order.{AreInOrder, EndsText, AreTokensOf, TokensRise}
use Rattle.lx_token.specs.declared.tokens.Token.{Token}
use Rattle.lx_token.specs.declared.tokens.TokenKind.{TokenKind}
use Rattle.lx_token.specs.declared.tokens.TokenKind.TheVariants as kind
use Rattle.lx_token.specs.declared.lexemes.Form.{Form}
use Rattle.lx_token.specs.declared.lexemes.Form.TheVariants as form
use Rattle.lx_token.specs.declared.lexemes.Lexeme.{Lexeme}
use Rattle.lx_token.specs.declared.lexemes.Lexeme.TheVariants as lexeme
use Rattle.lx_token.specs.declared.lines.Lines.{Lines}
use Rattle.lx_token.specs.declared.pieces.Piece.{Piece}
use Rattle.lx_token.specs.declared.pieces.Piece.TheVariants as piece
use Rattle.lx_token.proofs.ByLines.{machine, one_pass}
use Rattle.lx_token.proofs.Within.{lexeme-within}

-- ---- lists in order

in_order-append : (low middle high : ℕ) (ts us : List Token) → AreInOrder low ts middle → AreInOrder middle us high → AreInOrder low (ts ++ us) high
in_order-append low middle high [] us h g = lower low middle high us h g
  where
    lower : (low middle high : ℕ) (us : List Token) → low ≤ middle → AreInOrder middle us high → AreInOrder low us high
    lower low middle high [] h g = omega arith
    lower low middle high (u ∷ us) h g = (omega (arith, g.0), g.1, g.2)
in_order-append low middle high (t ∷ ts) us h g = (h.0, h.1, in_order-append t.end middle high ts us h.2 g)

-- ---- pieces in order

abbrev PiecesRise : ℕ → List Piece → ℕ → Type 0
PiecesRise low [] high = low ≤ high
PiecesRise low (piece.Blank ∷ ps) high = PiecesRise low ps high
PiecesRise low (piece.Tab line ∷ ps) high = PiecesRise low ps high
PiecesRise low (piece.LineEnd t ∷ ps) high = (low ≤ t.start) × (t.start ≤ t.end) × PiecesRise t.end ps high
PiecesRise low (piece.Whole t ∷ ps) high = (low ≤ t.start) × (t.start ≤ t.end) × PiecesRise t.end ps high
PiecesRise low (piece.Wrong line f ∷ ps) high = PiecesRise low ps high

formed-rises : (depth : ℕ) (f : Form) (at n line low high : ℕ) (ps : List Piece) → low ≤ at → ((k : ℕ) → k ≤ at + n → PiecesRise k ps high) → PiecesRise low (formed depth f at n line ∷ ps) high
unfolding formed
formed-rises depth form.Blank at n line low high ps h next = next low (omega arith)
formed-rises depth form.Tab at n line low high ps h next = next low (omega arith)
formed-rises depth form.LineEnd at n line low high ps h next = by (depth == 0)
  where
    by : (b : Bool) → PiecesRise low (cond b (piece.LineEnd (token_at kind.Newline at n line)) piece.Blank ∷ ps) high
    by true = (h, omega arith, next (at + n) (omega arith))
    by false = next low (omega arith)
formed-rises depth form.Open at n line low high ps h next = by (nat_lt depth most_open)
  where
    by : (b : Bool) → PiecesRise low (cond b (piece.Whole (token_at kind.Op at n line)) (piece.Wrong line (fault_at line fault.TooDeep)) ∷ ps) high
    by true = (h, omega arith, next (at + n) (omega arith))
    by false = next low (omega arith)
formed-rises depth form.Close at n line low high ps h next = (h, omega arith, next (at + n) (omega arith))
formed-rises depth (form.Token k) at n line low high ps h next = (h, omega arith, next (at + n) (omega arith))

placed-rises : (depth : ℕ) (x : Lexeme) (bytes : List ℕ) (at line low high : ℕ) (ps : List Piece) → low ≤ at → ((k : ℕ) → k ≤ at + lexeme_len x → PiecesRise k ps high) → PiecesRise low (placed depth x bytes at line ∷ ps) high
unfolding placed
placed-rises depth (lexeme.Part f n) bytes at line low high ps h next = formed-rises depth f at n line low high ps h next
placed-rises depth (lexeme.BadByte k) bytes at line low high ps h next = next low (omega arith)
placed-rises depth lexeme.NumberRange bytes at line low high ps h next = next low (omega arith)

len-within : (x : Lexeme) (whole : ℕ) → 0 < whole → IsWithin x whole → (0 < lexeme_len x) × (lexeme_len x ≤ whole)
len-within (lexeme.Part f n) whole some h = (h.0, h.1)
len-within (lexeme.BadByte k) whole some h = (omega arith, omega arith)
len-within lexeme.NumberRange whole some h = (omega arith, omega arith)

cut-rises : (bytes : List ℕ) (held depth at line low high : ℕ) → high ≡ at + length bytes → low ≤ at + held → held ≤ length bytes → PiecesRise low (cut held depth at line bytes) high
unfolding cut
cut-rises [] held depth at line low high e h g = omega arith
cut-rises (c ∷ cs) zero depth at line low high e h g =
    let n = lexeme_len (lexeme_of (c ∷ cs)) in
    let w = len-within (lexeme_of (c ∷ cs)) (suc (length cs)) (omega arith) (lexeme-within c cs) in
    placed-rises depth (lexeme_of (c ∷ cs)) (c ∷ cs) at line low high (cut (n - 1) (open_behind (lexeme_of (c ∷ cs)) depth) (at + 1) (line + line_ends (c ∷ [])) cs) (omega arith)
    (λ k le. cut-rises cs (n - 1) (open_behind (lexeme_of (c ∷ cs)) depth) (at + 1) (line + line_ends (c ∷ [])) k high (omega arith) (omega (arith, w.0, w.1)) (omega (arith, w.0, w.1)))
cut-rises (c ∷ cs) (suc held) depth at line low high e h g =
    cut-rises cs held depth (at + 1) (line + line_ends (c ∷ [])) low high (omega arith) (omega arith) (omega arith)

-- ---- the tokens of an indentation stand at one place

at_place : (k : TokenKind) (place line high : ℕ) → AreInOrder place (token_at k place 0 line ∷ []) place
at_place k place line high = (omega arith, omega arith, omega arith)

dedents-rise : (n place line : ℕ) → AreInOrder place (dedents n place line) place
dedents-rise zero place line = omega arith
dedents-rise (suc n) place line = in_order-append place place place (token_at kind.Dedent place 0 line ∷ []) (dedents n place line) (at_place kind.Dedent place line place) (dedents-rise n place line)

closed-rise : (b : Bool) (n place line : ℕ) (left : List ℕ) (k : Nested) → cond b (Ok (record { tokens = dedents n place line; levels = left })) (Err (fault_at line fault.BadIndent)) ≡ Ok k → AreInOrder place k.tokens place
closed-rise true n place line left k e = let f : record { tokens = dedents n place line; levels = left } ≡ k = cc in subst (λ x. AreInOrder place x.tokens place) f (dedents-rise n place line)
closed-rise false n place line left k e = absurd (cc)

nested-rise : (levels : List ℕ) (width place line : ℕ) (k : Nested) → nested levels width place line ≡ Ok k → AreInOrder place k.tokens place
unfolding nested closed
nested-rise levels width place line k e = by (nat_lt (innermost levels) width) (nat_lt (length levels) most_levels) e
  where
    by : (b d : Bool) → cond b (cond d (Ok (record { tokens = token_at kind.Indent place 0 line ∷ []; levels = levels ++ width ∷ [] })) (Err (fault_at line fault.TooDeep))) (closed levels width place line) ≡ Ok k → AreInOrder place k.tokens place
    by true true e = let f : record { tokens = token_at kind.Indent place 0 line ∷ []; levels = levels ++ width ∷ [] } ≡ k = cc in subst (λ x. AreInOrder place x.tokens place) f (at_place kind.Indent place line place)
    by true false e = absurd (cc)
    by false d e = closed-rise (innermost (levels_within width levels) == width) (length levels - length (levels_within width levels)) place line (levels_within width levels) k e

indented-rise : (tab : Option ℕ) (levels : List ℕ) (width place line : ℕ) (k : Nested) → indented tab levels width place line ≡ Ok k → AreInOrder place k.tokens place
indented-rise (Some t) levels width place line k e = absurd (cc)
indented-rise None levels width place line k e = nested-rise levels width place line k e

-- ---- one pass

put_behind : (low : ℕ) (ts : List Token) (x : Token) → AreInOrder 0 ts low → low ≤ x.start → x.start ≤ x.end → AreInOrder 0 (ts ++ x ∷ []) x.end
put_behind low ts x h a b = in_order-append 0 low x.end ts (x ∷ []) h (a, b, omega arith)

widen : (low high : ℕ) (ts : List Token) → AreInOrder 0 ts low → low ≤ high → AreInOrder 0 ts high
widen low high ts h le = go 0 ts h
  where
    go : (from : ℕ) (ts : List Token) → AreInOrder from ts low → AreInOrder from ts high
    go from [] h = omega arith
    go from (t ∷ ts) h = (h.0, h.1, go t.end ts h.2)

pub take_all-rises : (high : ℕ) (k : Lines) (ps : List Piece) (ts : List Token) (ls : List ℕ) (w : ℕ) (t : Option ℕ) (b : Bool) (n low : ℕ) → AreInOrder 0 ts low → PiecesRise low ps high → take_all ps (machine ts ls w t b n) ≡ Ok k → AreInOrder 0 k.tokens high
unfolding blank tab_in line_end put_token begin_line take_piece take_all
take_all-rises high k [] ts ls w t b n low h g e =
    let f : machine ts ls w t b n ≡ k = cc in subst (λ x. AreInOrder 0 x.tokens high) f (widen low high ts h g)
take_all-rises high k (piece.Blank ∷ ps) ts ls w t true n low h g e = take_all-rises high k ps ts ls w t true n low h g e
take_all-rises high k (piece.Blank ∷ ps) ts ls w t false n low h g e = take_all-rises high k ps ts ls (w + 1) t false n low h g e
take_all-rises high k (piece.Tab line ∷ ps) ts ls w t true n low h g e = take_all-rises high k ps ts ls w t true n low h g e
take_all-rises high k (piece.Tab line ∷ ps) ts ls w t false n low h g e = take_all-rises high k ps ts ls (w + 1) (first_tab t line) false n low h g e
take_all-rises high k (piece.LineEnd x ∷ ps) ts ls w t true n low h g e = take_all-rises high k ps (ts ++ x ∷ []) ls 0 None false x.line x.end (put_behind low ts x h g.0 g.1) g.2 e
take_all-rises high k (piece.LineEnd x ∷ ps) ts ls w t false n low h g e = take_all-rises high k ps ts ls 0 None false n x.end (widen low x.end ts h (omega (arith, g.0, g.1))) g.2 e
take_all-rises high k (piece.Whole x ∷ ps) ts ls w t true n low h g e = take_all-rises high k ps (ts ++ x ∷ []) ls w t true n x.end (put_behind low ts x h g.0 g.1) g.2 e
take_all-rises high k (piece.Whole x ∷ ps) ts ls w t false n low h g e =
    by (λ m a f. take_all-rises high k ps ((ts ++ m.tokens) ++ x ∷ []) m.levels w t true n x.end (put_behind x.start (ts ++ m.tokens) x (in_order-append 0 x.start x.start ts m.tokens (widen low x.start ts h g.0) a) (omega arith) g.1) g.2 f) (indented t ls w x.start x.line) (λ m a. indented-rise t ls w x.start x.line m a) e
  where
    by : ((m : Nested) → AreInOrder x.start m.tokens x.start → take_all ps (machine ((ts ++ m.tokens) ++ x ∷ []) m.levels w t true n) ≡ Ok k → AreInOrder 0 k.tokens high) → (r : Result Nested Fault) → ((m : Nested) → r ≡ Ok m → AreInOrder x.start m.tokens x.start) → go_on (go_on (go_on r (λ m. Ok (machine (ts ++ m.tokens) m.levels w t true n))) (λ m. Ok (put_token x m))) (take_all ps) ≡ Ok k → AreInOrder 0 k.tokens high
    by next (Err f) place e = absurd (cc)
    by next (Ok m) place e = next m (place m refl) e
take_all-rises high k (piece.Wrong line f ∷ ps) ts ls w t true n low h g e = absurd (cc)
take_all-rises high k (piece.Wrong line f ∷ ps) ts ls w t false n low h g e = by (indented t ls w 0 line) e
  where
    by : (r : Result Nested Fault) → go_on (go_on (go_on r (λ m. Ok (machine (ts ++ m.tokens) m.levels w t true n))) (λ m. Err f)) (take_all ps) ≡ Ok k → AreInOrder 0 k.tokens high
    by (Err g) e = absurd (cc)
    by (Ok m) e = absurd (cc)

-- ---- the end of the text

ending-rise : (levels : List ℕ) (place line : ℕ) → AreInOrder place (ending_tokens levels place line) place
ending-rise levels place line = in_order-append place place place (dedents (length levels) place line) (token_at kind.End place 0 line ∷ []) (dedents-rise (length levels) place line) (at_place kind.End place line place)

last-rise : (last : Token) (m : Lines) (b : Bool) → last.start ≡ last.end → AreInOrder 0 m.tokens last.start → AreInOrder 0 (cond b (record m { tokens = m.tokens ++ last ∷ []; width = 0; tab = None; begun = false; newline = last.line }) m).tokens last.start
last-rise last m true e h = in_order-append 0 last.start last.start m.tokens (last ∷ []) h (omega arith, omega arith, omega arith)
last-rise last m false e h = h

finished-rise : (last : Token) (ts : List Token) (ls : List ℕ) (w : ℕ) (t : Option ℕ) (b : Bool) (n : ℕ) → last.start ≡ last.end → AreInOrder 0 ts last.start → AreInOrder 0 (finished last (machine ts ls w t b n)) last.start
unfolding finished last_line line_end
finished-rise last ts ls w t true n e h =
    in_order-append 0 last.start last.start (ts ++ last ∷ []) (ending_tokens ls last.start last.line) (in_order-append 0 last.start last.start ts (last ∷ []) h (omega arith, omega arith, omega arith)) (ending-rise ls last.start last.line)
finished-rise last ts ls w t false n e h = in_order-append 0 last.start last.start ts (ending_tokens ls last.start n) h (ending-rise ls last.start n)

finished-ends : (last : Token) (m : Lines) → EndsText last.start (finished last m)
unfolding finished
finished-ends last m = record {
  front = (last_line last m).tokens ++ dedents (length (last_line last m).levels) last.start (last_line last m).newline;
  last = token_at kind.End last.start 0 (last_line last m).newline;
  is = sym (append_assoc (last_line last m).tokens (dedents (length (last_line last m).levels) last.start (last_line last m).newline) (token_at kind.End last.start 0 (last_line last m).newline ∷ []));
  kind = refl;
  start = refl;
  end = omega arith;
}

pub tokens-rise : TokensRise
unfolding tokens_of pieces_of
tokens-rise source tokens e = by_length (nat_lt max_bytes (length source)) e
  where
    by_read : (r : Result Lines Fault) → take_all (cut 0 0 0 1 source) (machine [] [] 0 None false 1) ≡ r → go_on r (λ m. Ok (finished (last_newline source) m)) ≡ Ok tokens → AreTokensOf source tokens
    by_read (Err f) read e = absurd (cc)
    by_read (Ok m) read e =
        let f : finished (last_newline source) m ≡ tokens = cc in
        subst (AreTokensOf source) f (record {
          in_order = finished-rise (last_newline source) m.tokens m.levels m.width m.tab m.begun m.newline (omega arith) (take_all-rises (length source) m (cut 0 0 0 1 source) [] [] 0 None false 1 0 (omega arith) (cut-rises source 0 0 0 1 0 (length source) (omega arith) (omega arith) (omega arith)) read);
          ended = finished-ends (last_newline source) m;
        })

    by_length : (b : Bool) → cond b (Err (fault_at 0 fault.TooLong)) (all_lines (last_newline source) [] 1 (lines_of (cut 0 0 0 1 source))) ≡ Ok tokens → AreTokensOf source tokens
    by_length true e = absurd (cc)
    by_length false e = by_read (take_all (cut 0 0 0 1 source) (machine [] [] 0 None false 1)) refl (one_pass (last_newline source) (cut 0 0 0 1 source) ∙ e)
