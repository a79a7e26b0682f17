use Rattle.std.specs.Prelude.{ℕ, Bool, List, [], ◌∷◌, codes}
use Rattle.std.specs.List.{list_any}
use Rattle.std.specs.Str.{bytes_eq}

-- Python's 35 words, in the order of their bytes
unfoldable pub python_words : List (List ℕ)
python_words =
    codes "False" ∷ codes "None" ∷ codes "True" ∷ codes "and" ∷ codes "as" ∷ codes "assert" ∷
    codes "async" ∷ codes "await" ∷ codes "break" ∷ codes "class" ∷ codes "continue" ∷ codes "def" ∷
    codes "del" ∷ codes "elif" ∷ codes "else" ∷ codes "except" ∷ codes "finally" ∷ codes "for" ∷
    codes "from" ∷ codes "global" ∷ codes "if" ∷ codes "import" ∷ codes "in" ∷ codes "is" ∷
    codes "lambda" ∷ codes "nonlocal" ∷ codes "not" ∷ codes "or" ∷ codes "pass" ∷ codes "raise" ∷
    codes "return" ∷ codes "try" ∷ codes "while" ∷ codes "with" ∷ codes "yield" ∷ []

-- the word is one of them
abbrev pub is_python_word : List ℕ → Bool
is_python_word word = list_any (bytes_eq word) python_words
