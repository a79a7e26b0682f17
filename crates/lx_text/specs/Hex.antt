-- Hexadecimal numbers as they are printed.
use Rattle.std.specs.Prelude.{ℕ, ◌-◌, List, ◌++◌, length, codes, false, replicate}
use Rattle.std.specs.Fmt.{digits}

-- so many zeros
abbrev pub zeros_text : ℕ → List ℕ
zeros_text n = replicate n 48

-- `0x` and the lower-case digits of n, at least so many of them
unfoldable pub hex_text : ℕ → ℕ → List ℕ
hex_text least n = codes "0x" ++ (zeros_text (least - length (digits 16 false n)) ++ digits 16 false n)
