-- Names of the text: a letter or `_`, then letters, digits, `_` and `$`, and no keyword (IEEE 1364-2005, identifiers and keywords).
use Rattle.std.specs.Prelude.{ℕ, Bool, false, not, List, [], ◌∷◌, ◌&&◌, ◌||◌, ◌==◌, nat_le}
use Rattle.std.specs.List.{list_all}
use Rattle.lx_tables.specs.VerilogWords.{is_verilog_word}

abbrev pub is_between : ℕ → ℕ → ℕ → Bool
is_between low high b = nat_le low b && nat_le b high

abbrev pub is_digit : ℕ → Bool
is_digit b = is_between 48 57 b

-- a letter or `_`
abbrev pub is_name_start : ℕ → Bool
is_name_start b = is_between 97 122 b || is_between 65 90 b || b == 95

-- a letter, a digit, `_` or `$`
abbrev pub is_name_byte : ℕ → Bool
is_name_byte b = is_name_start b || is_digit b || b == 36

abbrev pub is_spelled : List ℕ → Bool
is_spelled [] = false
is_spelled (b ∷ bs) = is_name_start b && list_all is_name_byte bs

unfoldable pub is_name : List ℕ → Bool
is_name word = is_spelled word && not (is_verilog_word word)
