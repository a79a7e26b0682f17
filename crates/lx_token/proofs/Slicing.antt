-- The tokens of a text are slices of it.
use Rattle.std.proofs.Common.{◌≡◌, ℕ, zero, suc, ◌+◌, ◌-◌, ◌==◌, Bool, true, false, cond, nat_lt, List, [], ◌∷◌, ◌++◌, Option, Some, None, Result, Ok, Err, ◌⊎◌, inl, inr, length, drop, refl, sym, ap, ◌∙◌, subst, arith}
use Rattle.std.proofs.lemmas.List.{drop-drop}
use Rattle.lx_text.specs.declared.faults.Fault.{Fault}
use Rattle.lx_text.specs.declared.faults.Kind.TheVariants as fault
use Rattle.lx_token.specs.Lexemes.{lexeme_of, lexeme_len}
use Rattle.lx_token.specs.Pieces.{formed, placed, cut, pieces_of, open_behind, line_ends, token_at, fault_at, most_open}
use Rattle.lx_token.specs.Lines.{first_tab, lines_of}
use Rattle.lx_text.specs.Limits.{max_bytes}
use Rattle.lx_token.specs.Tokens.{Nested, dedents, closed, nested, indented, innermost, levels_within, most_levels, go_on, ending_tokens, all_lines, last_newline, tokens_of}
use Rattle.lx_token.specs.Machine.{blank, tab_in, line_end, put_token, begin_line, take_piece, take_all, last_line, finished}
use Rattle.lx_token.specs.Slices.{Makes, IsPiece, IsMark, AreSlices, TokensAreSlices}
use Rattle.lx_token.specs.declared.tokens.Token.{Token}
use Rattle.lx_token.specs.declared.tokens.TokenKind.{TokenKind}
use Rattle.lx_token.specs.declared.tokens.TokenKind.TheVariants as kind
use Rattle.lx_token.specs.declared.lexemes.Form.{Form}
use Rattle.lx_token.specs.declared.lexemes.Form.TheVariants as form
use Rattle.lx_token.specs.declared.lexemes.Lexeme.{Lexeme}
use Rattle.lx_token.specs.declared.lexemes.Lexeme.TheVariants as lexeme
use Rattle.lx_token.specs.declared.lines.Lines.{Lines}
use Rattle.lx_token.specs.declared.pieces.Piece.{Piece}
use Rattle.lx_token.specs.declared.pieces.Piece.TheVariants as piece
use Rattle.lx_token.proofs.ByLines.{machine, one_pass}

append : (source : List ℕ) (ts us : List Token) → AreSlices source ts → AreSlices source us → AreSlices source (ts ++ us)
append source [] us h g = g
append source (t ∷ ts) us h g = (h.0, append source ts us h.1 g)

-- ---- pieces

abbrev PiecesSlice : List ℕ → List Piece → Type 0
PiecesSlice source [] = Unit {0}
PiecesSlice source (piece.Blank ∷ ps) = PiecesSlice source ps
PiecesSlice source (piece.Tab line ∷ ps) = PiecesSlice source ps
PiecesSlice source (piece.LineEnd t ∷ ps) = IsPiece source t × PiecesSlice source ps
PiecesSlice source (piece.Whole t ∷ ps) = IsPiece source t × PiecesSlice source ps
PiecesSlice source (piece.Wrong line f ∷ ps) = PiecesSlice source ps

piece_at : (source : List ℕ) (f : Form) (k : TokenKind) (at n line : ℕ) → lexeme_of (drop at source) ≡ lexeme.Part f n → Makes f k → IsPiece source (token_at k at n line)
piece_at source f k at n line e m =
    let len : n ≡ (at + n) - at = omega arith in
    record { form = f; makes = m; piece = subst (λ j. lexeme_of (drop at source) ≡ lexeme.Part f j) len e }

formed-slice : (source : List ℕ) (depth : ℕ) (f : Form) (at n line : ℕ) (ps : List Piece) → lexeme_of (drop at source) ≡ lexeme.Part f n → PiecesSlice source ps → PiecesSlice source (formed depth f at n line ∷ ps)
unfolding formed
formed-slice source depth form.Blank at n line ps e h = h
formed-slice source depth form.Tab at n line ps e h = h
formed-slice source depth form.LineEnd at n line ps e h = by (depth == 0)
  where
    by : (b : Bool) → PiecesSlice source (cond b (piece.LineEnd (token_at kind.Newline at n line)) piece.Blank ∷ ps)
    by true = (piece_at source form.LineEnd kind.Newline at n line e refl, h)
    by false = h
formed-slice source depth form.Open at n line ps e h = by (nat_lt depth most_open)
  where
    by : (b : Bool) → PiecesSlice source (cond b (piece.Whole (token_at kind.Op at n line)) (piece.Wrong line (fault_at line fault.TooDeep)) ∷ ps)
    by true = (piece_at source form.Open kind.Op at n line e refl, h)
    by false = h
formed-slice source depth form.Close at n line ps e h = (piece_at source form.Close kind.Op at n line e refl, h)
formed-slice source depth (form.Token k) at n line ps e h = (piece_at source (form.Token k) k at n line e refl, h)

placed-slice : (source : List ℕ) (depth : ℕ) (x : Lexeme) (bytes : List ℕ) (at line : ℕ) (ps : List Piece) → lexeme_of (drop at source) ≡ x → PiecesSlice source ps → PiecesSlice source (placed depth x bytes at line ∷ ps)
unfolding placed
placed-slice source depth (lexeme.Part f n) bytes at line ps e h = formed-slice source depth f at n line ps e h
placed-slice source depth (lexeme.BadByte k) bytes at line ps e h = h
placed-slice source depth lexeme.NumberRange bytes at line ps e h = h

next_drop : (source : List ℕ) (at c : ℕ) (cs : List ℕ) → c ∷ cs ≡ drop at source → cs ≡ drop (at + 1) source
next_drop source at c cs e = ap (drop 1) e ∙ drop-drop 1 at source

cut-slices : (source bytes : List ℕ) (held depth at line : ℕ) → bytes ≡ drop at source → PiecesSlice source (cut held depth at line bytes)
unfolding cut
cut-slices source [] held depth at line e = tt
cut-slices source (c ∷ cs) zero depth at line e =
    placed-slice source depth (lexeme_of (c ∷ cs)) (c ∷ cs) at line (cut (lexeme_len (lexeme_of (c ∷ cs)) - 1) (open_behind (lexeme_of (c ∷ cs)) depth) (at + 1) (line + line_ends (c ∷ [])) cs) (ap lexeme_of (sym e))
    (cut-slices source cs (lexeme_len (lexeme_of (c ∷ cs)) - 1) (open_behind (lexeme_of (c ∷ cs)) depth) (at + 1) (line + line_ends (c ∷ [])) (next_drop source at c cs e))
cut-slices source (c ∷ cs) (suc held) depth at line e =
    cut-slices source cs held depth (at + 1) (line + line_ends (c ∷ [])) (next_drop source at c cs e)

-- ---- marks

mark : (source : List ℕ) (k : TokenKind) (place line : ℕ) → AreSlices source (token_at k place 0 line ∷ [])
mark source k place line = (inr (record { empty = omega arith }), tt)

dedents-slices : (source : List ℕ) (n place line : ℕ) → AreSlices source (dedents n place line)
dedents-slices source zero place line = tt
dedents-slices source (suc n) place line = append source (token_at kind.Dedent place 0 line ∷ []) (dedents n place line) (mark source kind.Dedent place line) (dedents-slices source n place line)

nested-slices : (source levels : List ℕ) (width place line : ℕ) (k : Nested) → nested levels width place line ≡ Ok k → AreSlices source k.tokens
unfolding nested closed
nested-slices source levels width place line k e = by (nat_lt (innermost levels) width) (nat_lt (length levels) most_levels) (innermost (levels_within width levels) == width) e
  where
    by : (b d g : Bool) → cond b (cond d (Ok (record { tokens = token_at kind.Indent place 0 line ∷ []; levels = levels ++ width ∷ [] })) (Err (fault_at line fault.TooDeep))) (cond g (Ok (record { tokens = dedents (length levels - length (levels_within width levels)) place line; levels = levels_within width levels })) (Err (fault_at line fault.BadIndent))) ≡ Ok k → AreSlices source k.tokens
    by true true g e = let f : record { tokens = token_at kind.Indent place 0 line ∷ []; levels = levels ++ width ∷ [] } ≡ k = cc in subst (λ x. AreSlices source x.tokens) f (mark source kind.Indent place line)
    by true false g e = absurd (cc)
    by false d true e = let f : record { tokens = dedents (length levels - length (levels_within width levels)) place line; levels = levels_within width levels } ≡ k = cc in subst (λ x. AreSlices source x.tokens) f (dedents-slices source (length levels - length (levels_within width levels)) place line)
    by false d false e = absurd (cc)

indented-slices : (source : List ℕ) (tab : Option ℕ) (levels : List ℕ) (width place line : ℕ) (k : Nested) → indented tab levels width place line ≡ Ok k → AreSlices source k.tokens
indented-slices source (Some t) levels width place line k e = absurd (cc)
indented-slices source None levels width place line k e = nested-slices source levels width place line k e

-- ---- one pass

put_slice : (source : List ℕ) (ts : List Token) (x : Token) → AreSlices source ts → IsPiece source x → AreSlices source (ts ++ x ∷ [])
put_slice source ts x h g = append source ts (x ∷ []) h (inl g, tt)

take_all-slices : (source : List ℕ) (k : Lines) (ps : List Piece) (ts : List Token) (ls : List ℕ) (w : ℕ) (t : Option ℕ) (b : Bool) (n : ℕ) → AreSlices source ts → PiecesSlice source ps → take_all ps (machine ts ls w t b n) ≡ Ok k → AreSlices source k.tokens
unfolding blank tab_in line_end put_token begin_line take_piece take_all
take_all-slices source k [] ts ls w t b n h g e =
    let f : machine ts ls w t b n ≡ k = cc in subst (λ x. AreSlices source x.tokens) f h
take_all-slices source k (piece.Blank ∷ ps) ts ls w t true n h g e = take_all-slices source k ps ts ls w t true n h g e
take_all-slices source k (piece.Blank ∷ ps) ts ls w t false n h g e = take_all-slices source k ps ts ls (w + 1) t false n h g e
take_all-slices source k (piece.Tab line ∷ ps) ts ls w t true n h g e = take_all-slices source k ps ts ls w t true n h g e
take_all-slices source k (piece.Tab line ∷ ps) ts ls w t false n h g e = take_all-slices source k ps ts ls (w + 1) (first_tab t line) false n h g e
take_all-slices source k (piece.LineEnd x ∷ ps) ts ls w t true n h g e = take_all-slices source k ps (ts ++ x ∷ []) ls 0 None false x.line (put_slice source ts x h g.0) g.1 e
take_all-slices source k (piece.LineEnd x ∷ ps) ts ls w t false n h g e = take_all-slices source k ps ts ls 0 None false n h g.1 e
take_all-slices source k (piece.Whole x ∷ ps) ts ls w t true n h g e = take_all-slices source k ps (ts ++ x ∷ []) ls w t true n (put_slice source ts x h g.0) g.1 e
take_all-slices source k (piece.Whole x ∷ ps) ts ls w t false n h g e =
    by (λ m a f. take_all-slices source k ps ((ts ++ m.tokens) ++ x ∷ []) m.levels w t true n (put_slice source (ts ++ m.tokens) x (append source ts m.tokens h a) g.0) g.1 f) (indented t ls w x.start x.line) (λ m a. indented-slices source t ls w x.start x.line m a) e
  where
    by : ((m : Nested) → AreSlices source m.tokens → take_all ps (machine ((ts ++ m.tokens) ++ x ∷ []) m.levels w t true n) ≡ Ok k → AreSlices source k.tokens) → (r : Result Nested Fault) → ((m : Nested) → r ≡ Ok m → AreSlices source m.tokens) → go_on (go_on (go_on r (λ m. Ok (machine (ts ++ m.tokens) m.levels w t true n))) (λ m. Ok (put_token x m))) (take_all ps) ≡ Ok k → AreSlices source k.tokens
    by next (Err f) place e = absurd (cc)
    by next (Ok m) place e = next m (place m refl) e
take_all-slices source k (piece.Wrong line f ∷ ps) ts ls w t true n h g e = absurd (cc)
take_all-slices source k (piece.Wrong line f ∷ ps) ts ls w t false n h g e = by (indented t ls w 0 line) e
  where
    by : (r : Result Nested Fault) → go_on (go_on (go_on r (λ m. Ok (machine (ts ++ m.tokens) m.levels w t true n))) (λ m. Err f)) (take_all ps) ≡ Ok k → AreSlices source k.tokens
    by (Err g) e = absurd (cc)
    by (Ok m) e = absurd (cc)

finished-slices : (source : List ℕ) (last : Token) (ts : List Token) (ls : List ℕ) (w : ℕ) (t : Option ℕ) (b : Bool) (n : ℕ) → IsMark last → AreSlices source ts → AreSlices source (finished last (machine ts ls w t b n))
unfolding finished last_line line_end
finished-slices source last ts ls w t true n m h =
    append source (ts ++ last ∷ []) (ending_tokens ls last.start last.line) (append source ts (last ∷ []) h (inr m, tt)) (append source (dedents (length ls) last.start last.line) (token_at kind.End last.start 0 last.line ∷ []) (dedents-slices source (length ls) last.start last.line) (mark source kind.End last.start last.line))
finished-slices source last ts ls w t false n m h =
    append source ts (ending_tokens ls last.start n) h (append source (dedents (length ls) last.start n) (token_at kind.End last.start 0 n ∷ []) (dedents-slices source (length ls) last.start n) (mark source kind.End last.start n))

pub tokens-slices : TokensAreSlices
unfolding tokens_of pieces_of
tokens-slices source tokens e = by_length (nat_lt max_bytes (length source)) e
  where
    by_read : (r : Result Lines Fault) → take_all (cut 0 0 0 1 source) (machine [] [] 0 None false 1) ≡ r → go_on r (λ m. Ok (finished (last_newline source) m)) ≡ Ok tokens → AreSlices source tokens
    by_read (Err f) read e = absurd (cc)
    by_read (Ok m) read e =
        let f : finished (last_newline source) m ≡ tokens = cc in
        subst (AreSlices source) f (finished-slices source (last_newline source) m.tokens m.levels m.width m.tab m.begun m.newline (record { empty = omega arith }) (take_all-slices source m (cut 0 0 0 1 source) [] [] 0 None false 1 tt (cut-slices source source 0 0 0 1 refl) read))

    by_length : (b : Bool) → cond b (Err (fault_at 0 fault.TooLong)) (all_lines (last_newline source) [] 1 (lines_of (cut 0 0 0 1 source))) ≡ Ok tokens → AreSlices source tokens
    by_length true e = absurd (cc)
    by_length false e = by_read (take_all (cut 0 0 0 1 source) (machine [] [] 0 None false 1)) refl (one_pass (last_newline source) (cut 0 0 0 1 source) ∙ e)
