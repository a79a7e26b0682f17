-- What stands at the front of a text: the longest piece that the rules of tokens give.
use Rattle.std.specs.Prelude.{ℕ, true, false, List, [], ◌∷◌, ◌||◌, ◌==◌, ◌+◌, not, nat_lt, nat_eq, ◌<◌, ◌≤◌, take, drop, Option, Some, None, if◌then◌else◌}
use Rattle.std.specs.List.{prefix_len, starts_with}
use Rattle.std.specs.Option.{option_map}
use Rattle.lx_tables.specs.PythonWords.{is_python_word}
use Rattle.lx_token.specs.Bytes.{is_digit, is_letter, is_name_byte, is_opening, is_closing, is_operator, is_operator_pair, begins, is_line_end, begins_line_end}
use Rattle.lx_token.specs.Numbers.{number, number_len, number_value, greatest_number}
use Rattle.lx_token.specs.Quotes.{quoted}
use Rattle.lx_token.specs.declared.quotes.Ending.{Ending}
use Rattle.lx_token.specs.declared.tokens.TokenKind.{TokenKind}
use Rattle.lx_token.specs.declared.tokens.TokenKind.TheVariants as kind
use Rattle.lx_token.specs.declared.lexemes.Form.TheVariants as form
use Rattle.lx_token.specs.declared.lexemes.Lexeme.{Lexeme}
use Rattle.lx_token.specs.declared.lexemes.Lexeme.TheVariants as lexeme

-- a word of Python is no name
abbrev pub word_kind : List ℕ → TokenKind
word_kind word = if is_python_word word then kind.Keyword else kind.Name

unfoldable pub word_lexeme : List ℕ → Lexeme
word_lexeme bytes =
    let n = prefix_len is_name_byte bytes in
    lexeme.Part (form.Token (word_kind (take n bytes))) n

-- another letter, digit or `_` may not stand directly behind a number
unfoldable pub number_lexeme : List ℕ → Lexeme
number_lexeme bytes =
    let n = number_len (number bytes) in
    if nat_lt greatest_number (number_value bytes) then lexeme.NumberRange
    else (if begins is_name_byte (drop n bytes) then lexeme.BadByte n
    else lexeme.Part (form.Token kind.Number) n)

-- a text of so many bytes, whose bad byte stands behind so many
abbrev pub text_or_bad : ℕ → Option ℕ → Lexeme
text_or_bad n None = lexeme.Part (form.Token kind.Quoted) n
text_or_bad n (Some k) = lexeme.BadByte k

-- a text whose opening takes so many bytes
abbrev pub text_lexeme : ℕ → Option Ending → Lexeme
text_lexeme opening None = lexeme.BadByte 0
text_lexeme opening (Some e) = text_or_bad (opening + e.length) (option_map (λ k. opening + k) e.bad)

-- a text that begins with this quote
unfoldable pub quoted_lexeme : ℕ → List ℕ → Lexeme
quoted_lexeme quote cs =
    if starts_with nat_eq cs (quote ∷ quote ∷ []) then text_lexeme 3 (quoted true quote (drop 2 cs))
    else text_lexeme 1 (quoted false quote cs)

-- the longest operator is taken
unfoldable pub operator_lexeme : ℕ → List ℕ → Lexeme
operator_lexeme c cs =
    if begins (is_operator_pair c) cs then lexeme.Part (form.Token kind.Op) 2
    else (if is_operator c then lexeme.Part (form.Token kind.Op) 1
    else lexeme.BadByte 0)

-- a backslash directly before LF is a blank with it; CR directly before LF is passed over
unfoldable pub joint_lexeme : List ℕ → Lexeme
joint_lexeme cs =
    if begins is_line_end cs then lexeme.Part form.Blank 2
    else (if begins_line_end cs then lexeme.Part form.Blank 3
    else lexeme.BadByte 0)

-- CR stands directly before LF alone
unfoldable pub return_lexeme : List ℕ → Lexeme
return_lexeme cs = if begins is_line_end cs then lexeme.Part form.Blank 1 else lexeme.BadByte 0

-- a comment runs up to the end of its line
abbrev pub comment_len : List ℕ → ℕ
comment_len bytes = prefix_len (λ c. not (c == 10)) bytes

unfoldable pub lexeme_of : List ℕ → Lexeme
lexeme_of [] = lexeme.BadByte 0
lexeme_of (c ∷ cs) =
    if c == 32 then lexeme.Part form.Blank 1
    else (if c == 9 then lexeme.Part form.Tab 1
    else (if c == 10 then lexeme.Part form.LineEnd 1
    else (if c == 13 then return_lexeme cs
    else (if c == 92 then joint_lexeme cs
    else (if c == 35 then lexeme.Part form.Blank (comment_len (c ∷ cs))
    else (if is_letter c then word_lexeme (c ∷ cs)
    else (if is_digit c then number_lexeme (c ∷ cs)
    else (if c == 34 || c == 39 then quoted_lexeme c cs
    else (if is_opening c then lexeme.Part form.Open 1
    else (if is_closing c then lexeme.Part form.Close 1
    else operator_lexeme c cs))))))))))

-- the bytes that it takes; the piece that a fault stands in is not passed over whole
abbrev pub lexeme_len : Lexeme → ℕ
lexeme_len (lexeme.Part f n) = n
lexeme_len (lexeme.BadByte k) = 1
lexeme_len lexeme.NumberRange = 1

-- it is in these bytes, and isn't empty; so is the byte that is bad
abbrev pub IsWithin : Lexeme → ℕ → Type 0
IsWithin (lexeme.Part f n) whole = (0 < n) × (n ≤ whole)
IsWithin (lexeme.BadByte k) whole = k ≤ whole
IsWithin lexeme.NumberRange whole = 0 < whole
