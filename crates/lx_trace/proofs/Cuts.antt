-- What is left to cut.
use Rattle.std.proofs.Common.{◌≡◌, ℕ, Bool, true, false, List, [], ◌∷◌, ◌++◌, nat_eq, cond, refl, sym, ◌∙◌, ap, append_assoc, arith, drop, length, get_or, drop-cons, ◌<◌, ◌≤◌, ◌+◌, ◌^◌, suc}
use Rattle.lx_trace.specs.Pieces.{pieces, with_front}
use Rattle.lx_trace.specs.Cuts.{with_byte}
use Rattle.lx_trace.specs.declared.pieces.Cutting.{Cutting}

-- the pieces so far, and those of the bytes that are left
abbrev pub all_pieces : ℕ → Cutting → List ℕ → List (List ℕ)
all_pieces mark c bytes = c.done ++ with_front c.front (pieces mark bytes)

front_twice : (a b : List ℕ) (ps : List (List ℕ)) → with_front a (with_front b ps) ≡ with_front (a ++ b) ps
front_twice a b [] = refl
front_twice a b (p ∷ ps) = ap (λ (q : List ℕ). q ∷ ps) (sym (append_assoc a b p))

no_front : (mark : ℕ) (bytes : List ℕ) → with_front [] (pieces mark bytes) ≡ pieces mark bytes
unfolding pieces
no_front mark [] = refl
no_front mark (b ∷ bs) = by_test (nat_eq b mark)
  where
    by_test : (t : Bool) → with_front [] (cond t ([] ∷ pieces mark bs) (with_front (b ∷ []) (pieces mark bs))) ≡ cond t ([] ∷ pieces mark bs) (with_front (b ∷ []) (pieces mark bs))
    by_test true = refl
    by_test false = front_twice [] (b ∷ []) (pieces mark bs)

append_empty : (q : List ℕ) → q ++ [] ≡ q
append_empty [] = refl
append_empty (x ∷ xs) = ap (λ (ys : List ℕ). x ∷ ys) (append_empty xs)

pub cut_more : (mark b : ℕ) (c : Cutting) (bs : List ℕ) → all_pieces mark (with_byte mark b c) bs ≡ all_pieces mark c (b ∷ bs)
unfolding pieces
cut_more mark b c bs = by_test (nat_eq b mark)
  where
    by_test : (t : Bool) → all_pieces mark (cond t (record { done = c.done ++ c.front ∷ []; front = [] }) (record { done = c.done; front = c.front ++ b ∷ [] })) bs
        ≡ c.done ++ with_front c.front (cond t ([] ∷ pieces mark bs) (with_front (b ∷ []) (pieces mark bs)))
    by_test true = ap (λ (ps : List (List ℕ)). (c.done ++ c.front ∷ []) ++ ps) (no_front mark bs) ∙ (append_assoc c.done (c.front ∷ []) (pieces mark bs) ∙ ap (λ (q : List ℕ). c.done ++ (q ∷ pieces mark bs)) (sym (append_empty c.front)))
    by_test false = ap (λ (ps : List (List ℕ)). c.done ++ ps) (sym (front_twice c.front (b ∷ []) (pieces mark bs)))

pub cut_start : (mark : ℕ) (bytes : List ℕ) → all_pieces mark (record { done = []; front = [] }) bytes ≡ pieces mark bytes
cut_start mark bytes = no_front mark bytes

pub cut_end : (mark : ℕ) (c : Cutting) → all_pieces mark c [] ≡ c.done ++ c.front ∷ []
unfolding pieces
cut_end mark c = ap (λ (q : List ℕ). c.done ++ q ∷ []) (append_empty c.front)

pub piece_more : (mark d i : ℕ) (bytes : List ℕ) (old new : Cutting) → i < length bytes → new ≡ with_byte mark (get_or bytes i d) old → all_pieces mark old (drop i bytes) ≡ pieces mark bytes → all_pieces mark new (drop (i + 1) bytes) ≡ pieces mark bytes
piece_more mark d i bytes old new l e h =
    let next : i + 1 ≡ suc i = omega arith in
    ap (λ (j : ℕ). all_pieces mark new (drop j bytes)) next
    ∙ (ap (λ (c : Cutting). all_pieces mark c (drop (suc i) bytes)) e
    ∙ (cut_more mark (get_or bytes i d) old (drop (suc i) bytes)
    ∙ (ap (λ (bs : List ℕ). all_pieces mark old bs) (sym (drop-cons bytes i d l)) ∙ h)))

pub piece_end : (mark i : ℕ) (bytes : List ℕ) (c : Cutting) → drop i bytes ≡ [] → all_pieces mark c (drop i bytes) ≡ pieces mark bytes → c.done ++ c.front ∷ [] ≡ pieces mark bytes
piece_end mark i bytes c e h = sym (cut_end mark c) ∙ (ap (λ (bs : List ℕ). all_pieces mark c bs) (sym e) ∙ h)

-- there is one piece at least, and one more than bytes at most
front_long : (front : List ℕ) (ps : List (List ℕ)) → 1 ≤ length ps → length (with_front front ps) ≡ length ps
front_long front [] h = absurd (omega arith)
front_long front (p ∷ ps) h = refl

pieces_between : (mark : ℕ) (bytes : List ℕ) → (1 ≤ length (pieces mark bytes)) × (length (pieces mark bytes) ≤ length bytes + 1)
unfolding pieces
pieces_between mark [] = (omega arith, omega arith)
pieces_between mark (b ∷ bs) = by (pieces_between mark bs) (nat_eq b mark)
  where
    by : (1 ≤ length (pieces mark bs)) × (length (pieces mark bs) ≤ length bs + 1) → (t : Bool) → (1 ≤ length (cond t ([] ∷ pieces mark bs) (with_front (b ∷ []) (pieces mark bs)))) × (length (cond t ([] ∷ pieces mark bs) (with_front (b ∷ []) (pieces mark bs))) ≤ suc (length bs) + 1)
    by more true = (omega arith, omega (arith, more.1))
    by more false = let e = front_long (b ∷ []) (pieces mark bs) more.0 in (omega (arith, e, more.0), omega (arith, e, more.1))

pub lines_few : (k : ℕ) (text : List ℕ) (lines : List (List ℕ)) → lines ≡ pieces 10 text → length text ≤ 1048576 → k < length lines → k + 1 < 2 ^ 32
lines_few k text lines e h l =
    let most = (pieces_between 10 text).1 in
    let same : length lines ≡ length (pieces 10 text) = ap (λ (ls : List (List ℕ)). length ls) e in
    omega (arith, most, same)
