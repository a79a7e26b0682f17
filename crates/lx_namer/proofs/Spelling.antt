-- How names are spelled: base names, names with numbers, and names with `$`.
use Rattle.std.proofs.Common.{◌≡◌, ℕ, Bool, true, false, cond, not, ◌&&◌, ◌||◌, eqb, List, [], ◌∷◌, ◌++◌, codes, nat_eq, refl, sym, ap, ◌∙◌, eqb-true, true≢false}
use Rattle.std.specs.List.{list_all, list_any}
use Rattle.std.specs.Str.{bytes_eq}
use Rattle.std.proofs.lemmas.Bool.{and_parts, and_from, or_left, or_right, false≢true}
use Rattle.std.proofs.lemmas.List.{append-nil}
use Rattle.std.proofs.lemmas.List.Folds.{list_all-append}
use Rattle.std.proofs.lemmas.Slice.Eq.{bytes_eq-Decides}
use Rattle.lx_tables.specs.VerilogWords.{verilog_words, is_verilog_word}
use Rattle.lx_vtext.specs.Tree.{Name}
use Rattle.lx_vtext.specs.Names.{is_digit, is_name, is_name_byte, is_name_start, is_spelled}
use Rattle.lx_vtext.specs.Printed.{number_text}
use Rattle.lx_vtext.proofs.Pieces.{number_back}
use Rattle.lx_fhdl.specs.Keeping as keeping
use Rattle.lx_fhdl.specs.Keeping.{is_first, is_later, is_identifier, reset_name}
use Rattle.lx_emission.specs.Naming.{clock_name, node_name}
use Rattle.lx_namer.specs.Base.{base_name, continued, joined, kept_apart}
use Rattle.lx_namer.specs.Taken.{numbered}

-- ---- keywords

-- digits alone, or `rst`
abbrev is_tail : List ℕ → Bool
is_tail bs = list_all is_digit bs || bytes_eq bs (codes "rst")

-- such a tail stands behind some `_`
abbrev ends_apart : List ℕ → Bool
ends_apart [] = false
ends_apart (b ∷ bs) = (nat_eq b 95 && is_tail bs) || ends_apart bs

-- no keyword ends so
no_ends : list_all (λ w. not (ends_apart w)) verilog_words ≡ true
unfolding verilog_words
no_ends = refl

word_has : (p : List ℕ → Bool) (word : List ℕ) (ws : List (List ℕ)) → list_all (λ w. p w) ws ≡ true → list_any (bytes_eq word) ws ≡ true → p word ≡ true
word_has p word [] h e = absurd cc
word_has p word (w ∷ ws) h e =
    let q = and_parts (p w) (list_all (λ v. p v) ws) h in
    by (bytes_eq word w) refl q.0 (word_has p word ws q.1) e
  where
    by : (t : Bool) → bytes_eq word w ≡ t → p w ≡ true → (list_any (bytes_eq word) ws ≡ true → p word ≡ true) → (t || list_any (bytes_eq word) ws) ≡ true → p word ≡ true
    by true same first rest e = ap (λ v. p v) ((bytes_eq-Decides word w).0 same) ∙ first
    by false same first rest e = rest e

no_keyword : (word : Name) → ends_apart word ≡ true → is_verilog_word word ≡ false
no_keyword word h = by (is_verilog_word word) refl
  where
    by : (t : Bool) → list_any (bytes_eq word) verilog_words ≡ t → t ≡ false
    by true e = let no = word_has (λ w. not (ends_apart w)) word verilog_words no_ends e in absurd (true≢false (sym no ∙ ap (λ t. not t) h))
    by false e = refl

ends_behind : (xs tail : List ℕ) → is_tail tail ≡ true → ends_apart (xs ++ 95 ∷ tail) ≡ true
ends_behind [] tail h = or_left (is_tail tail) (ends_apart tail) h
ends_behind (x ∷ xs) tail h = or_right (nat_eq x 95 && is_tail (xs ++ 95 ∷ tail)) (ends_apart (xs ++ 95 ∷ tail)) (ends_behind xs tail h)

-- ---- identifiers

-- an identifier that is no keyword
pub record IsGood (n : Name) : Type 0 where
  pub identifier : is_identifier n ≡ true
  pub apart : is_verilog_word n ≡ false

all_later : (n : Name) → is_identifier n ≡ true → list_all is_later n ≡ true
all_later [] h = refl
all_later (b ∷ bs) h =
    let p = and_parts (is_first b) (list_all is_later bs) h in
    and_from (is_later b) (list_all is_later bs) (or_left (is_first b) (keeping.is_between 48 57 b) p.0) p.1

longer_identifier : (n more : Name) → is_identifier n ≡ true → list_all is_later more ≡ true → is_identifier (n ++ more) ≡ true
longer_identifier [] more h g = absurd cc
longer_identifier (b ∷ bs) more h g =
    let p = and_parts (is_first b) (list_all is_later bs) h in
    and_from (is_first b) (list_all is_later (bs ++ more)) p.0 (list_all-append is_later bs more ∙ and_from (list_all is_later bs) (list_all is_later more) p.1 g)

digits_later : (ds : List ℕ) → list_all is_digit ds ≡ true → list_all is_later ds ≡ true
digits_later [] h = refl
digits_later (d ∷ ds) h =
    let p = and_parts (is_digit d) (list_all is_digit ds) h in
    and_from (is_later d) (list_all is_later ds) (or_right (is_first d) (keeping.is_between 48 57 d) p.0) (digits_later ds p.1)

continued_later : (ws : List Name) → list_all is_identifier ws ≡ true → list_all is_later (continued ws) ≡ true
continued_later [] h = refl
continued_later (w ∷ ws) h =
    let p = and_parts (is_identifier w) (list_all is_identifier ws) h in
    list_all-append is_later w (continued ws)
    ∙ and_from (list_all is_later w) (list_all is_later (continued ws)) (all_later w p.0) (continued_later ws p.1)

-- a base name
pub good_base : (w : Name) (ws : List Name) → list_all is_identifier (w ∷ ws) ≡ true → IsGood (base_name (w ∷ ws))
unfolding base_name
good_base w ws h = by (is_verilog_word (joined (w ∷ ws))) refl
  where
    spelled : is_identifier (joined (w ∷ ws)) ≡ true
    spelled =
        let p = and_parts (is_identifier w) (list_all is_identifier ws) h in
        longer_identifier w (continued ws) p.0 (continued_later ws p.1)

    by : (t : Bool) → is_verilog_word (joined (w ∷ ws)) ≡ t → IsGood (cond t (joined (w ∷ ws) ++ codes "_") (joined (w ∷ ws)))
    by true e = record { identifier = longer_identifier (joined (w ∷ ws)) (codes "_") spelled refl; apart = no_keyword (joined (w ∷ ws) ++ codes "_") (ends_behind (joined (w ∷ ws)) [] refl) }
    by false e = record { identifier = spelled; apart = e }

numbered_ends : (xs : List ℕ) (k : ℕ) → ends_apart ((xs ++ codes "_") ++ number_text k) ≡ true
numbered_ends [] k = or_left (is_tail (number_text k)) (ends_apart (number_text k)) (or_left (list_all is_digit (number_text k)) (bytes_eq (number_text k) (codes "rst")) (number_back k).1)
numbered_ends (x ∷ xs) k = or_right (nat_eq x 95 && is_tail ((xs ++ codes "_") ++ number_text k)) (ends_apart ((xs ++ codes "_") ++ number_text k)) (numbered_ends xs k)

-- a base name with a number
pub good_numbered : (base : Name) (k : ℕ) → IsGood base → IsGood (numbered base k)
unfolding numbered
good_numbered base k h = by (nat_eq k 1)
  where
    digits : list_all is_digit (number_text k) ≡ true
    digits = (number_back k).1

    by : (t : Bool) → IsGood (cond t base ((base ++ codes "_") ++ number_text k))
    by true = h
    by false = record {
      identifier = longer_identifier (base ++ codes "_") (number_text k) (longer_identifier base (codes "_") h.identifier refl) (digits_later (number_text k) digits);
      apart = no_keyword ((base ++ codes "_") ++ number_text k) (numbered_ends base k);
    }

-- the name of a reset stays as it is
pub reset_base : (name : Name) → base_name (reset_name name ∷ []) ≡ reset_name name
unfolding base_name
reset_base name =
    let nil : joined (reset_name name ∷ []) ≡ reset_name name = append-nil (reset_name name) in
    ap kept_apart nil ∙ ap (λ t. cond t (reset_name name ++ codes "_") (reset_name name)) (no_keyword (reset_name name) (ends_behind name (codes "rst") refl))

-- ---- names of Verilog

first_is_start : (b : ℕ) → is_first b ≡ is_name_start b
first_is_start b = regroup (keeping.is_between 97 122 b) (keeping.is_between 65 90 b) (nat_eq b 95)
  where
    regroup : (x y z : Bool) → (x || (y || z)) ≡ (x || y || z)
    regroup true y z = refl
    regroup false y z = refl

later_bytes : (bs : List ℕ) → list_all is_later bs ≡ true → list_all is_name_byte bs ≡ true
later_bytes [] h = refl
later_bytes (b ∷ bs) h =
    let p = and_parts (is_later b) (list_all is_later bs) h in
    let same : (is_name_start b || is_digit b) ≡ is_later b = ap (λ t. t || is_digit b) (sym (first_is_start b)) in
    and_from (is_name_byte b) (list_all is_name_byte bs) (or_left (is_name_start b || is_digit b) (eqb b 36) (same ∙ p.0)) (later_bytes bs p.1)

spelled_so : (n : Name) → is_identifier n ≡ true → is_spelled n ≡ true
spelled_so [] h = absurd cc
spelled_so (b ∷ bs) h =
    let p = and_parts (is_first b) (list_all is_later bs) h in
    and_from (is_name_start b) (list_all is_name_byte bs) (sym (first_is_start b) ∙ p.0) (later_bytes bs p.1)

pub good_lawful : (n : Name) → IsGood n → is_name n ≡ true
unfolding is_name
good_lawful n h = and_from (is_spelled n) (not (is_verilog_word n)) (spelled_so n h.identifier) (ap (λ t. not t) h.apart)

-- ---- names with `$`

-- the second byte is `$`
abbrev pub is_marked_name : Name → Bool
is_marked_name [] = false
is_marked_name (b ∷ []) = false
is_marked_name (b ∷ (c ∷ cs)) = nat_eq c 36

later_other : (b : ℕ) → is_later b ≡ true → nat_eq b 36 ≡ false
later_other b h = by (nat_eq b 36) refl
  where
    by : (t : Bool) → nat_eq b 36 ≡ t → t ≡ false
    by true e = absurd (false≢true (ap is_later (sym (eqb-true b 36 e)) ∙ h))
    by false e = refl

-- an identifier has none
pub no_mark : (n : Name) → is_identifier n ≡ true → is_marked_name n ≡ false
no_mark [] h = refl
no_mark (b ∷ []) h = refl
no_mark (b ∷ (c ∷ cs)) h = later_other c (and_parts (is_later c) (list_all is_later cs) (and_parts (is_first b) (list_all is_later (c ∷ cs)) h).1).0

pub node_marked : (k : ℕ) → is_marked_name (node_name k) ≡ true
unfolding node_name
node_marked k = refl

clock_identifier : (name : Name) → is_identifier name ≡ true → is_identifier (clock_name name) ≡ true
unfolding clock_name
clock_identifier name h = longer_identifier name (codes "_clk") h refl

-- so a clock's name has none
pub clock_no_mark : (name : Name) → is_identifier name ≡ true → is_marked_name (clock_name name) ≡ false
clock_no_mark name h = no_mark (clock_name name) (clock_identifier name h)
