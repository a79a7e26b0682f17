-- The pieces behind a piece, and how far one pass has come.
use Rattle.std.proofs.Common.{◌≡◌, ℕ, zero, suc, ◌+◌, ◌-◌, ◌<◌, ◌≤◌, Bool, true, false, List, [], ◌∷◌, ◌++◌, Option, None, Result, Ok, Err, length, take, drop, refl, sym, ap, ◌∙◌, subst, cond, arith, length-drop}
use Rattle.std.proofs.lemmas.List.Sums.{sum_by-cons, count_by-le-length}
use Rattle.std.proofs.lemmas.List.{length-take}
use Rattle.lx_text.specs.declared.faults.Fault.{Fault}
use Rattle.lx_text.specs.declared.faults.Refusal.{Refusal}
use Rattle.lx_text.specs.declared.faults.Refusal.TheVariants as refusal
use Rattle.lx_token.specs.Bytes.{is_line_end}
use Rattle.lx_token.specs.Lexemes.{lexeme_of, lexeme_len}
use Rattle.lx_token.specs.Pieces.{cut, pieces_of, placed, open_behind, line_ends, most_open}
use Rattle.lx_token.specs.Lines.{first_tab}
use Rattle.lx_token.specs.Tokens.{Nested, indented, go_on}
use Rattle.lx_token.specs.Machine.{Gives, blank, tab_in, line_end, put_token, begin_line, take_piece, take_all}
use Rattle.lx_token.specs.declared.tokens.Token.{Token}
use Rattle.lx_token.specs.declared.lexemes.Lexeme.{Lexeme}
use Rattle.lx_token.specs.declared.lines.Lines.{Lines}
use Rattle.lx_token.specs.declared.pieces.Piece.{Piece}
use Rattle.lx_token.specs.declared.pieces.Piece.TheVariants as piece

abbrev one_if_end : ℕ → ℕ
one_if_end c = cond (is_line_end c) 1 0

line_ends-cons : (c : ℕ) (cs : List ℕ) → line_ends (c ∷ cs) ≡ line_ends (c ∷ []) + line_ends cs
line_ends-cons c cs = omega (arith, sum_by-cons one_if_end c cs, sum_by-cons one_if_end c [])

-- what is left behind so many bytes of a piece
pub cut-held : (n depth at line : ℕ) (bytes : List ℕ) → n ≤ length bytes → cut n depth at line bytes ≡ cut 0 depth (at + n) (line + line_ends (take n bytes)) (drop n bytes)
unfolding cut
cut-held zero depth at line bytes h =
    let e : at ≡ at + 0 = omega arith in
    let f : line ≡ line + 0 = omega arith in
    λ i. cut 0 depth (e i) (f i) bytes
cut-held (suc n) depth at line [] h = absurd (omega arith)
cut-held (suc n) depth at line (c ∷ cs) h =
    let e : (at + 1) + n ≡ at + suc n = omega arith in
    let f : (line + line_ends (c ∷ [])) + line_ends (take n cs) ≡ line + line_ends (c ∷ take n cs) = omega (arith, line_ends-cons c (take n cs)) in
    cut-held n depth (at + 1) (line + line_ends (c ∷ [])) cs (omega arith) ∙ (λ i. cut 0 depth (e i) (f i) (drop n cs))

-- the piece at the front, and the pieces behind it
pub cut-step : (depth at line : ℕ) (bytes : List ℕ) → 0 < length bytes → 0 < lexeme_len (lexeme_of bytes) → lexeme_len (lexeme_of bytes) ≤ length bytes → cut 0 depth at line bytes ≡ placed depth (lexeme_of bytes) bytes at line ∷ cut 0 (open_behind (lexeme_of bytes) depth) (at + lexeme_len (lexeme_of bytes)) (line + line_ends (take (lexeme_len (lexeme_of bytes)) bytes)) (drop (lexeme_len (lexeme_of bytes)) bytes)
unfolding cut
cut-step depth at line [] some low high = absurd (omega arith)
cut-step depth at line (c ∷ cs) some low high =
    ap (λ ps. placed depth (lexeme_of (c ∷ cs)) (c ∷ cs) at line ∷ ps) (by_len (lexeme_len (lexeme_of (c ∷ cs))) low high)
  where
    by_len : (n : ℕ) → 0 < n → n ≤ length (c ∷ cs) → cut (n - 1) (open_behind (lexeme_of (c ∷ cs)) depth) (at + 1) (line + line_ends (c ∷ [])) cs ≡ cut 0 (open_behind (lexeme_of (c ∷ cs)) depth) (at + n) (line + line_ends (take n (c ∷ cs))) (drop n (c ∷ cs))
    by_len zero low high = absurd (omega arith)
    by_len (suc k) low high =
        let e : suc k - 1 ≡ k = omega arith in
        rw e (cut-held (suc k) (open_behind (lexeme_of (c ∷ cs)) depth) at line (c ∷ cs) high)

-- ---- the width grows by one at most

blank-width : (m : Lines) (b : Bool) → (cond b m (record m { width = m.width + 1 })).width ≤ m.width + 1
blank-width m true = omega arith
blank-width m false = omega arith

tab-width : (m : Lines) (t : Option ℕ) (b : Bool) → (cond b m (record m { width = m.width + 1; tab = t })).width ≤ m.width + 1
tab-width m t true = omega arith
tab-width m t false = omega arith

end-width : (m : Lines) (t : Token) (b : Bool) → (cond b (record m { tokens = m.tokens ++ t ∷ []; width = 0; tab = None; begun = false; newline = t.line }) (record m { width = 0; tab = None })).width ≤ m.width + 1
end-width m t true = omega arith
end-width m t false = omega arith

begun-width : (m k : Lines) (b : Bool) (r : Result Nested Fault) → cond b (Ok m) (go_on r (λ n. Ok (record m { tokens = m.tokens ++ n.tokens; levels = n.levels; begun = true }))) ≡ Ok k → k.width ≡ m.width
begun-width m k true r e = let f : m ≡ k = cc in ap (λ x. x.width) (sym f)
begun-width m k false (Err g) e = absurd (cc)
begun-width m k false (Ok n) e = let f : record m { tokens = m.tokens ++ n.tokens; levels = n.levels; begun = true } ≡ k = cc in ap (λ x. x.width) (sym f)

begin_line-width : (place line : ℕ) (m k : Lines) → begin_line place line m ≡ Ok k → k.width ≡ m.width
unfolding begin_line
begin_line-width place line m k e = begun-width m k m.begun (indented m.tab m.levels m.width place line) e

behind_begin : (place line : ℕ) (m k : Lines) (next : Lines → Result Lines Fault) → ((j : Lines) → next j ≡ Ok k → k.width ≡ j.width) → go_on (begin_line place line m) next ≡ Ok k → k.width ≡ m.width
behind_begin place line m k next keeps e = by (begin_line place line m) refl e
  where
    by : (r : Result Lines Fault) → begin_line place line m ≡ r → go_on r next ≡ Ok k → k.width ≡ m.width
    by (Ok j) f g = keeps j g ∙ begin_line-width place line m j f
    by (Err g) f h = absurd (cc)

pub take_piece-width : (p : Piece) (m k : Lines) → take_piece p m ≡ Ok k → k.width ≤ m.width + 1
unfolding take_piece blank tab_in line_end put_token
take_piece-width piece.Blank m k e = let f : blank m ≡ k = cc in subst (λ x. x.width ≤ m.width + 1) f (blank-width m m.begun)
take_piece-width (piece.Tab line) m k e = let f : tab_in line m ≡ k = cc in subst (λ x. x.width ≤ m.width + 1) f (tab-width m (first_tab m.tab line) m.begun)
take_piece-width (piece.LineEnd t) m k e = let f : line_end t m ≡ k = cc in subst (λ x. x.width ≤ m.width + 1) f (end-width m t m.begun)
take_piece-width (piece.Whole t) m k e =
    let f : k.width ≡ m.width = behind_begin t.start t.line m k (λ j. Ok (put_token t j)) (λ j g. let h : put_token t j ≡ k = cc in ap (λ x. x.width) (sym h)) e in
    omega arith
take_piece-width (piece.Wrong line f) m k e =
    let g : k.width ≡ m.width = behind_begin 0 line m k (λ j. Err f) (λ j h. absurd (cc)) e in
    omega arith

-- ---- how far one pass has come

-- what is left gives what the whole gives
pub record Reading (source : List ℕ) (first : Lines) (rest : List ℕ) (depth at line : ℕ) (lines : Lines) : Type 0 where
  pub same : take_all (pieces_of source) first ≡ take_all (cut 0 depth at line rest) lines
  pub place : at + length rest ≡ length source
  pub line_low : line ≤ at + 1
  pub depth_low : depth ≤ most_open
  pub width_low : lines.width ≤ at

pub reading_start : (source : List ℕ) (first : Lines) → first.width ≡ 0 → Reading source first source 0 0 1 first
unfolding pieces_of
reading_start source first e = record {
  same = refl;
  place = omega arith;
  line_low = omega arith;
  depth_low = omega arith;
  width_low = omega arith;
}

after_piece : (source : List ℕ) (first : Lines) (rest : List ℕ) (depth at line : ℕ) (lines : Lines) → Reading source first rest depth at line lines → (r : Result Lines Fault) → take_piece (placed depth (lexeme_of rest) rest at line) lines ≡ r → 0 < length rest → 0 < lexeme_len (lexeme_of rest) → lexeme_len (lexeme_of rest) ≤ length rest → take_all (pieces_of source) first ≡ go_on r (take_all (cut 0 (open_behind (lexeme_of rest) depth) (at + lexeme_len (lexeme_of rest)) (line + line_ends (take (lexeme_len (lexeme_of rest)) rest)) (drop (lexeme_len (lexeme_of rest)) rest)))
unfolding take_all
after_piece source first rest depth at line lines h r e some low high =
    h.same ∙ ap (λ ps. take_all ps lines) (cut-step depth at line rest some low high) ∙ ap (λ s. go_on s (take_all (cut 0 (open_behind (lexeme_of rest) depth) (at + lexeme_len (lexeme_of rest)) (line + line_ends (take (lexeme_len (lexeme_of rest)) rest)) (drop (lexeme_len (lexeme_of rest)) rest)))) e

pub reading_step : (source : List ℕ) (first : Lines) (rest : List ℕ) (depth at line : ℕ) (lines next : Lines) → Reading source first rest depth at line lines → take_piece (placed depth (lexeme_of rest) rest at line) lines ≡ Ok next → 0 < length rest → 0 < lexeme_len (lexeme_of rest) → lexeme_len (lexeme_of rest) ≤ length rest → open_behind (lexeme_of rest) depth ≤ most_open → Reading source first (drop (lexeme_len (lexeme_of rest)) rest) (open_behind (lexeme_of rest) depth) (at + lexeme_len (lexeme_of rest)) (line + line_ends (take (lexeme_len (lexeme_of rest)) rest)) next
reading_step source first rest depth at line lines next h e some low high bound = record {
  same = after_piece source first rest depth at line lines h (Ok next) e some low high;
  place = omega (arith, h.place, length-drop (lexeme_len (lexeme_of rest)) rest);
  line_low = omega (arith, h.line_low, count_by-le-length is_line_end (take (lexeme_len (lexeme_of rest)) rest), length-take (lexeme_len (lexeme_of rest)) rest);
  depth_low = bound;
  width_low = omega (arith, h.width_low, take_piece-width (placed depth (lexeme_of rest) rest at line) lines next e);
}

pub reading_stop : (source : List ℕ) (first : Lines) (rest : List ℕ) (depth at line : ℕ) (lines : Lines) (f : Fault) → Reading source first rest depth at line lines → take_piece (placed depth (lexeme_of rest) rest at line) lines ≡ Err f → 0 < length rest → 0 < lexeme_len (lexeme_of rest) → lexeme_len (lexeme_of rest) ≤ length rest → take_all (pieces_of source) first ≡ Err f
reading_stop source first rest depth at line lines f h e some low high = after_piece source first rest depth at line lines h (Err f) e some low high

pub reading_end : (source : List ℕ) (first : Lines) (rest : List ℕ) (depth at line : ℕ) (lines : Lines) → Reading source first rest depth at line lines → length rest ≡ 0 → take_all (pieces_of source) first ≡ Ok lines
unfolding cut take_all
reading_end source first [] depth at line lines h e = h.same
reading_end source first (c ∷ cs) depth at line lines h e = absurd (omega arith)

-- the same as the code has them
pub reading_stop_at : (source : List ℕ) (first : Lines) (rest : List ℕ) (depth at line : ℕ) (lines : Lines) (x : Lexeme) (p : Piece) (n : ℕ) (stop : Refusal) (next : Lines) → Reading source first rest depth at line lines → x ≡ lexeme_of rest → p ≡ placed depth x rest at line → n ≡ lexeme_len x → 0 < n → n ≤ length rest → Gives {A = Unit {0}} (Err stop) next (take_piece p lines) → Gives {A = Unit {0}} (Err stop) next (take_all (pieces_of source) first)
reading_stop_at source first rest depth at line lines x p n refusal.NoMemory next h ex ep en low high e = tt
reading_stop_at source first rest depth at line lines x p n (refusal.Fault f) next h ex ep en low high e =
    let eq : n ≡ lexeme_len (lexeme_of rest) = en ∙ ap lexeme_len ex in
    let ep' : p ≡ placed depth (lexeme_of rest) rest at line = ep ∙ ap (λ y. placed depth y rest at line) ex in
    reading_stop source first rest depth at line lines f h (ap (λ q. take_piece q lines) (sym ep') ∙ e) (omega arith) (omega arith) (omega arith)

pub reading_step_at : (source : List ℕ) (first : Lines) (rest left : List ℕ) (depth at line opened lines_in : ℕ) (lines next : Lines) (x : Lexeme) (p : Piece) (n : ℕ) → Reading source first rest depth at line lines → x ≡ lexeme_of rest → p ≡ placed depth x rest at line → n ≡ lexeme_len x → 0 < n → n ≤ length rest → take_piece p lines ≡ Ok next → opened ≡ open_behind x depth → opened ≤ most_open → lines_in ≡ line_ends (take n rest) → left ≡ drop n rest → Reading source first left opened (at + n) (line + lines_in) next
reading_step_at source first rest left depth at line opened lines_in lines next x p n h ex ep en low high e eo bound el er =
    let eq : n ≡ lexeme_len (lexeme_of rest) = en ∙ ap lexeme_len ex in
    let ep' : p ≡ placed depth (lexeme_of rest) rest at line = ep ∙ ap (λ y. placed depth y rest at line) ex in
    let eo' : opened ≡ open_behind (lexeme_of rest) depth = eo ∙ ap (λ y. open_behind y depth) ex in
    let el' : lines_in ≡ line_ends (take (lexeme_len (lexeme_of rest)) rest) = el ∙ ap (λ k. line_ends (take k rest)) eq in
    let er' : left ≡ drop (lexeme_len (lexeme_of rest)) rest = er ∙ ap (λ k. drop k rest) eq in
    let r = reading_step source first rest depth at line lines next h (ap (λ q. take_piece q lines) (sym ep') ∙ e) (omega arith) (omega arith) (omega arith) (subst (λ k. k ≤ most_open) eo' bound) in
    subst (λ k. Reading source first left opened (at + k) (line + lines_in) next) (sym eq)
    (subst (λ k. Reading source first left opened (at + lexeme_len (lexeme_of rest)) (line + k) next) (sym el')
    (subst (λ k. Reading source first left k (at + lexeme_len (lexeme_of rest)) (line + line_ends (take (lexeme_len (lexeme_of rest)) rest)) next) (sym eo')
    (subst (λ k. Reading source first k (open_behind (lexeme_of rest) depth) (at + lexeme_len (lexeme_of rest)) (line + line_ends (take (lexeme_len (lexeme_of rest)) rest)) next) (sym er') r)))
