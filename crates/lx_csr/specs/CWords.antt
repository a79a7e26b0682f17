-- The words that a name of the headers must not be.
use Rattle.std.specs.Prelude.{ℕ, Bool, List, [], ◌∷◌, codes}
use Rattle.std.specs.List.{list_any}
use Rattle.std.specs.Str.{bytes_eq}

-- the keywords of C (ISO/IEC 9899:1999, 6.4.1) and the headers' own names, in the order of their bytes
unfoldable pub c_words : List (List ℕ)
c_words =
    codes "CONFIG_CSR_DATA_WIDTH" ∷ codes "CSR_BASE" ∷ codes "_Bool" ∷ codes "_Complex" ∷ codes "_Imaginary" ∷
    codes "__GENERATED_CSR_H" ∷ codes "__GENERATED_MEM_H" ∷ codes "__GENERATED_SOC_H" ∷
    codes "auto" ∷ codes "break" ∷ codes "case" ∷ codes "char" ∷ codes "const" ∷ codes "continue" ∷
    codes "csr_read_simple" ∷ codes "csr_write_simple" ∷ codes "default" ∷ codes "do" ∷ codes "double" ∷
    codes "else" ∷ codes "enum" ∷ codes "extern" ∷ codes "float" ∷ codes "for" ∷ codes "goto" ∷ codes "if" ∷
    codes "inline" ∷ codes "int" ∷ codes "long" ∷ codes "register" ∷ codes "restrict" ∷ codes "return" ∷
    codes "short" ∷ codes "signed" ∷ codes "sizeof" ∷ codes "static" ∷ codes "struct" ∷ codes "switch" ∷
    codes "typedef" ∷ codes "union" ∷ codes "unsigned" ∷ codes "void" ∷ codes "volatile" ∷ codes "while" ∷ []

-- the word is one of them
abbrev pub is_c_word : List ℕ → Bool
is_c_word word = list_any (bytes_eq word) c_words
