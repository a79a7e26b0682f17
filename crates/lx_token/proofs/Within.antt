-- A lexeme lies within the bytes at whose front it stands, and isn't empty.
use Rattle.std.proofs.Common.{◌≡◌, ℕ, suc, ◌+◌, ◌<◌, ◌≤◌, ◌==◌, Bool, true, false, not, cond, List, [], ◌∷◌, Option, Some, None, length, drop, nat_lt, nat_eq, ◌&&◌, ◌||◌, subst, refl, sym, arith}
use Rattle.std.specs.List.{prefix_len, starts_with}
use Rattle.std.proofs.lemmas.List.Sums.{prefix_len-le-length}
use Rattle.std.proofs.lemmas.Bool.Decides.{nat_tests}
use Rattle.std.proofs.lemmas.Bool.{false≢true}
use Rattle.std.specs.Cmp.{second_so}
use Rattle.std.specs.Option.{option_map}
use Rattle.lx_token.specs.Bytes.{is_digit, is_letter, is_name_byte, is_digit_in, digit_value, begins, is_line_end, begins_line_end, is_operator_pair, is_operator, is_opening, is_closing}
use Rattle.lx_token.specs.Numbers.{more_digits, digits_behind, digits_len, zeros, zero_number, number, named_base, number_len, number_value, greatest_number}
use Rattle.lx_token.specs.Quotes.{quoted, escaped, closing, earlier, behind, is_escape, bad_escape}
use Rattle.lx_token.specs.Turns.{IsAtMost}
use Rattle.lx_token.specs.Lexemes.{lexeme_of, IsWithin, word_lexeme, number_lexeme, text_or_bad, text_lexeme, quoted_lexeme, operator_lexeme, joint_lexeme, return_lexeme, comment_len}
use Rattle.lx_token.specs.declared.quotes.Ending.{Ending}
use Rattle.lx_token.specs.declared.tokens.TokenKind.TheVariants as kind
use Rattle.lx_token.specs.declared.lexemes.Form.TheVariants as form
use Rattle.lx_token.specs.declared.lexemes.Lexeme.{Lexeme}
use Rattle.lx_token.specs.declared.lexemes.Lexeme.TheVariants as lexeme

by_test : (b : Bool) (x y : Lexeme) (n : ℕ) → (b ≡ true → IsWithin x n) → (b ≡ false → IsWithin y n) → IsWithin (cond b x y) n
by_test true x y n f g = f refl
by_test false x y n f g = g refl

more_by : (base : ℕ) (cs : List ℕ) (b d : Bool) → more_digits base cs ≤ length cs → digits_behind base cs ≤ suc (length cs) → cond b (1 + more_digits base cs) (cond d (digits_behind base cs) 0) ≤ suc (length cs)
more_by base cs true d h g = omega arith
more_by base cs false true h g = g
more_by base cs false false h g = omega arith

behind_by : (base : ℕ) (cs : List ℕ) (b : Bool) → more_digits base cs ≤ length cs → cond b (2 + more_digits base cs) 0 ≤ suc (suc (length cs))
behind_by base cs true h = omega arith
behind_by base cs false h = omega arith

mutual
  unfolding more_digits digits_behind

  more_digits-within : (base : ℕ) (cs : List ℕ) → more_digits base cs ≤ length cs
  more_digits-within base [] = omega arith
  more_digits-within base (c ∷ cs) = more_by base cs (is_digit_in base c) (c == 95) (more_digits-within base cs) (digits_behind-within base cs)

  pub digits_behind-within : (base : ℕ) (cs : List ℕ) → digits_behind base cs ≤ suc (length cs)
  digits_behind-within base [] = omega arith
  digits_behind-within base (c ∷ cs) = behind_by base cs (is_digit_in base c) (more_digits-within base cs)

digits_len-within : (base : ℕ) (cs : List ℕ) → digits_len base cs ≤ length cs
unfolding digits_len
digits_len-within base [] = omega arith
digits_len-within base (c ∷ cs) = by (is_digit_in base c)
  where
    by : (b : Bool) → cond b (1 + more_digits base cs) 0 ≤ suc (length cs)
    by true = omega (arith, more_digits-within base cs)
    by false = omega arith

digits_len-some : (base c : ℕ) (cs : List ℕ) → is_digit_in base c ≡ true → 0 < digits_len base (c ∷ cs)
unfolding digits_len
digits_len-some base c cs e = rw e (omega arith)

digit-ten : (c : ℕ) → is_digit c ≡ true → is_digit_in 10 c ≡ true
unfolding is_digit_in digit_value is_digit
digit-ten c e = grind (arith, nat_tests)

-- it lies in so many bytes, and isn't empty
pub record IsSome (n whole : ℕ) : Type 0 where
  pub low : 0 < n
  pub high : n ≤ whole

zeros-some : (cs : List ℕ) → IsSome (number_len (zeros cs)) (suc (length cs))
unfolding zeros is_digit_in digit_value is_digit
zeros-some cs = record { low = omega (arith, digits_len-some 1 48 cs refl); high = omega (arith, digits_len-within 1 (48 ∷ cs)) }

named_some : (base : ℕ) (cs : List ℕ) → nat_lt 0 (digits_len base (drop 1 cs)) ≡ true → IsSome (2 + digits_len base (drop 1 cs)) (suc (length cs))
unfolding digits_len
named_some base [] e = absurd (false≢true e)
named_some base (c ∷ cs) e = record { low = omega arith; high = omega (arith, digits_len-within base cs) }

zero_number-some : (base : Option ℕ) (cs : List ℕ) → IsSome (number_len (zero_number base cs)) (suc (length cs))
unfolding zero_number
zero_number-some None cs = zeros-some cs
zero_number-some (Some base) cs = by (nat_lt 0 (digits_len base (drop 1 cs))) refl
  where
    by : (b : Bool) → nat_lt 0 (digits_len base (drop 1 cs)) ≡ b → IsSome (number_len (cond b (record { base = base; prefix = 2; digits = digits_len base (drop 1 cs) }) (zeros cs))) (suc (length cs))
    by true e = named_some base cs e
    by false e = zeros-some cs

number-some : (c : ℕ) (cs : List ℕ) → is_digit c ≡ true → IsSome (number_len (number (c ∷ cs))) (suc (length cs))
unfolding number
number-some c cs e = by (c == 48)
  where
    by : (b : Bool) → IsSome (number_len (cond b (zero_number (named_base cs) cs) (record { base = 10; prefix = 0; digits = digits_len 10 (c ∷ cs) }))) (suc (length cs))
    by true = zero_number-some (named_base cs) cs
    by false = record { low = omega (arith, digits_len-some 10 c cs (digit-ten c e)); high = omega (arith, digits_len-within 10 (c ∷ cs)) }

-- ---- texts

-- the end lies within so many bytes, and a bad byte before it
abbrev EndsWithin : Option Ending → ℕ → Type 0
EndsWithin None whole = Unit {0}
EndsWithin (Some e) whole = (0 < e.length) × (e.length ≤ whole) × IsAtMost e.length e.bad

earlier-most : (n m : ℕ) (bad later : Option ℕ) → IsAtMost n bad → IsAtMost m later → IsAtMost (n + m) (earlier bad n later)
earlier-most n m (Some k) later h g = omega arith
earlier-most n m None None h g = tt
earlier-most n m None (Some k) h g = omega arith

behind-within : (n whole : ℕ) (bad : Option ℕ) (end : Option Ending) → 0 < n → IsAtMost n bad → EndsWithin end whole → EndsWithin (behind n bad end) (n + whole)
behind-within n whole bad None low h g = tt
behind-within n whole bad (Some e) low h g = (omega arith, omega (arith, g.1), earlier-most n e.length bad e.bad h g.2)

bad_escape-most : (c : ℕ) (cs : List ℕ) → IsAtMost 2 (bad_escape c cs)
bad_escape-most c cs = by (is_escape c) (c == 13 && begins is_line_end cs)
  where
    by : (b d : Bool) → IsAtMost 2 (cond b None (Some (cond d 2 1)))
    by true d = tt
    by false true = omega arith
    by false false = omega arith

closes_within : (long : Bool) (quote : ℕ) (bytes : List ℕ) → starts_with nat_eq bytes (closing long quote) ≡ true → length (closing long quote) ≤ length bytes
closes_within true quote [] e = absurd (false≢true e)
closes_within true quote (a ∷ []) e = absurd (false≢true (second_so (nat_eq quote a) false e))
closes_within true quote (a ∷ b ∷ []) e = absurd (false≢true (second_so (nat_eq quote b) false (second_so (nat_eq quote a) (nat_eq quote b && false) e)))
closes_within true quote (a ∷ b ∷ c ∷ cs) e = omega arith
closes_within false quote [] e = absurd (false≢true e)
closes_within false quote (a ∷ cs) e = omega arith

quoted_by : (long : Bool) (quote c : ℕ) (cs : List ℕ) (closes : Bool) → starts_with nat_eq (c ∷ cs) (closing long quote) ≡ closes → (b d : Bool) → EndsWithin (quoted long quote cs) (length cs) → EndsWithin (escaped long quote cs) (1 + length cs) → EndsWithin (cond closes (Some (record { length = length (closing long quote); bad = None })) (cond b None (cond d (escaped long quote cs) (behind 1 None (quoted long quote cs))))) (suc (length cs))
quoted_by true quote c cs true e b d h g = (omega arith, closes_within true quote (c ∷ cs) e, tt)
quoted_by false quote c cs true e b d h g = (omega arith, closes_within false quote (c ∷ cs) e, tt)
quoted_by long quote c cs false e true d h g = tt
quoted_by long quote c cs false e false true h g = let f : 1 + length cs ≡ suc (length cs) = omega arith in subst (EndsWithin (escaped long quote cs)) f g
quoted_by long quote c cs false e false false h g = let f : 1 + length cs ≡ suc (length cs) = omega arith in subst (EndsWithin (behind 1 None (quoted long quote cs))) f (behind-within 1 (length cs) None (quoted long quote cs) (omega arith) tt h)

escaped_by : (long : Bool) (quote c : ℕ) (cs : List ℕ) (b : Bool) → EndsWithin (quoted long quote cs) (length cs) → EndsWithin (cond b None (behind 2 (bad_escape c cs) (quoted long quote cs))) (1 + suc (length cs))
escaped_by long quote c cs true h = tt
escaped_by long quote c cs false h = let f : 2 + length cs ≡ 1 + suc (length cs) = omega arith in subst (EndsWithin (behind 2 (bad_escape c cs) (quoted long quote cs))) f (behind-within 2 (length cs) (bad_escape c cs) (quoted long quote cs) (omega arith) (bad_escape-most c cs) h)

mutual
  unfolding quoted escaped

  pub quoted-within : (long : Bool) (quote : ℕ) (bytes : List ℕ) → EndsWithin (quoted long quote bytes) (length bytes)
  quoted-within long quote [] = tt
  quoted-within long quote (c ∷ cs) =
      quoted_by long quote c cs (starts_with nat_eq (c ∷ cs) (closing long quote)) refl (c == 10 && not long) (c == 92) (quoted-within long quote cs) (escaped-within long quote cs)

  escaped-within : (long : Bool) (quote : ℕ) (bytes : List ℕ) → EndsWithin (escaped long quote bytes) (1 + length bytes)
  escaped-within long quote [] = tt
  escaped-within long quote (c ∷ cs) = escaped_by long quote c cs (c == 10 && not long) (quoted-within long quote cs)

-- ---- lexemes

word-within : (c : ℕ) (cs : List ℕ) → is_letter c ≡ true → IsWithin (word_lexeme (c ∷ cs)) (suc (length cs))
unfolding word_lexeme is_name_byte
word-within c cs e =
    let some : 0 < prefix_len is_name_byte (c ∷ cs) = rw e (omega arith) in
    (some, prefix_len-le-length is_name_byte (c ∷ cs))

number-within : (c : ℕ) (cs : List ℕ) → is_digit c ≡ true → IsWithin (number_lexeme (c ∷ cs)) (suc (length cs))
unfolding number_lexeme
number-within c cs e =
    by_test (nat_lt greatest_number (number_value (c ∷ cs))) lexeme.NumberRange (cond (begins is_name_byte (drop (number_len (number (c ∷ cs))) (c ∷ cs))) (lexeme.BadByte (number_len (number (c ∷ cs)))) (lexeme.Part (form.Token kind.Number) (number_len (number (c ∷ cs))))) (suc (length cs))
    (λ _. omega arith)
    (λ _. by_test (begins is_name_byte (drop (number_len (number (c ∷ cs))) (c ∷ cs))) (lexeme.BadByte (number_len (number (c ∷ cs)))) (lexeme.Part (form.Token kind.Number) (number_len (number (c ∷ cs)))) (suc (length cs)) (λ _. (number-some c cs e).high) (λ _. ((number-some c cs e).low, (number-some c cs e).high)))

text-within : (opening whole : ℕ) (end : Option Ending) → 0 < opening → EndsWithin end whole → IsWithin (text_lexeme opening end) (opening + whole)
text-within opening whole None low h = omega arith
text-within opening whole (Some e) low h = by e.bad h.2
  where
    by : (bad : Option ℕ) → IsAtMost e.length bad → IsWithin (text_or_bad (opening + e.length) (option_map (λ k. opening + k) bad)) (opening + whole)
    by None g = (omega arith, omega (arith, h.1))
    by (Some k) g = omega (arith, h.1)

two_more : (quote : ℕ) (cs : List ℕ) → starts_with nat_eq cs (quote ∷ quote ∷ []) ≡ true → 3 + length (drop 2 cs) ≡ suc (length cs)
two_more quote [] e = absurd (false≢true e)
two_more quote (a ∷ []) e = absurd (false≢true (second_so (nat_eq quote a) false e))
two_more quote (a ∷ b ∷ cs) e = omega arith

quoted_lexeme-within : (quote : ℕ) (cs : List ℕ) → IsWithin (quoted_lexeme quote cs) (suc (length cs))
unfolding quoted_lexeme
quoted_lexeme-within quote cs =
    by_test (starts_with nat_eq cs (quote ∷ quote ∷ [])) (text_lexeme 3 (quoted true quote (drop 2 cs))) (text_lexeme 1 (quoted false quote cs)) (suc (length cs))
    (λ e. subst (IsWithin (text_lexeme 3 (quoted true quote (drop 2 cs)))) (two_more quote cs e) (text-within 3 (length (drop 2 cs)) (quoted true quote (drop 2 cs)) (omega arith) (quoted-within true quote (drop 2 cs))))
    (λ e. let f : 1 + length cs ≡ suc (length cs) = omega arith in subst (IsWithin (text_lexeme 1 (quoted false quote cs))) f (text-within 1 (length cs) (quoted false quote cs) (omega arith) (quoted-within false quote cs)))

begins-some : (test : ℕ → Bool) (cs : List ℕ) → begins test cs ≡ true → 0 < length cs
begins-some test [] e = absurd (false≢true e)
begins-some test (c ∷ cs) e = omega arith

operator-within : (c : ℕ) (cs : List ℕ) → IsWithin (operator_lexeme c cs) (suc (length cs))
unfolding operator_lexeme
operator-within c cs =
    by_test (begins (is_operator_pair c) cs) (lexeme.Part (form.Token kind.Op) 2) (cond (is_operator c) (lexeme.Part (form.Token kind.Op) 1) (lexeme.BadByte 0)) (suc (length cs))
    (λ e. (omega arith, omega (arith, begins-some (is_operator_pair c) cs e)))
    (λ _. by_test (is_operator c) (lexeme.Part (form.Token kind.Op) 1) (lexeme.BadByte 0) (suc (length cs)) (λ _. (omega arith, omega arith)) (λ _. omega arith))

line_end-some : (cs : List ℕ) → begins is_line_end cs ≡ false → begins_line_end cs ≡ true → 1 < length cs
line_end-some [] n e = absurd (false≢true e)
line_end-some (c ∷ []) n e = absurd (by (c == 10) (c == 13) n e)
  where
    by : (b d : Bool) → b ≡ false → (b || (d && false)) ≡ true → ⊥
    by true d n e = false≢true (sym n)
    by false true n e = false≢true e
    by false false n e = false≢true e
line_end-some (c ∷ d ∷ cs) n e = omega arith

joint-within : (cs : List ℕ) → IsWithin (joint_lexeme cs) (suc (length cs))
unfolding joint_lexeme
joint-within cs =
    by_test (begins is_line_end cs) (lexeme.Part form.Blank 2) (cond (begins_line_end cs) (lexeme.Part form.Blank 3) (lexeme.BadByte 0)) (suc (length cs))
    (λ e. (omega arith, omega (arith, begins-some is_line_end cs e)))
    (λ n. by_test (begins_line_end cs) (lexeme.Part form.Blank 3) (lexeme.BadByte 0) (suc (length cs)) (λ e. (omega arith, omega (arith, line_end-some cs n e))) (λ _. omega arith))

return-within : (cs : List ℕ) → IsWithin (return_lexeme cs) (suc (length cs))
unfolding return_lexeme
return-within cs = by_test (begins is_line_end cs) (lexeme.Part form.Blank 1) (lexeme.BadByte 0) (suc (length cs)) (λ _. (omega arith, omega arith)) (λ _. omega arith)

comment-some : (c : ℕ) (cs : List ℕ) → (c == 10) ≡ false → 0 < comment_len (c ∷ cs)
comment-some c cs e = rw e (omega arith)

pub lexeme-within : (c : ℕ) (cs : List ℕ) → IsWithin (lexeme_of (c ∷ cs)) (suc (length cs))
unfolding lexeme_of
lexeme-within c cs =
    by_test (c == 32) _ _ _ (λ _. (omega arith, omega arith))
    (λ _. by_test (c == 9) _ _ _ (λ _. (omega arith, omega arith))
    (λ _. by_test (c == 10) _ _ _ (λ _. (omega arith, omega arith))
    (λ no_end. by_test (c == 13) _ _ _ (λ _. return-within cs)
    (λ _. by_test (c == 92) _ _ _ (λ _. joint-within cs)
    (λ _. by_test (c == 35) _ _ _ (λ _. (comment-some c cs no_end, prefix_len-le-length (λ b. not (b == 10)) (c ∷ cs)))
    (λ _. by_test (is_letter c) _ _ _ (λ e. word-within c cs e)
    (λ _. by_test (is_digit c) _ _ _ (λ e. number-within c cs e)
    (λ _. by_test (c == 34 || c == 39) _ _ _ (λ _. quoted_lexeme-within c cs)
    (λ _. by_test (is_opening c) _ _ _ (λ _. (omega arith, omega arith))
    (λ _. by_test (is_closing c) _ _ _ (λ _. (omega arith, omega arith))
    (λ _. operator-within c cs)))))))))))

-- the bytes that a lexeme takes
pub front_within : (x : Lexeme) (bytes : List ℕ) → x ≡ lexeme_of bytes → 0 < length bytes → IsWithin x (length bytes)
front_within x [] e some = absurd (omega arith)
front_within x (c ∷ cs) e some = rw e (lexeme-within c cs)
