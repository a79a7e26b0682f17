-- What a text between quotes stands for.
use Rattle.std.specs.Prelude.{ℕ, Bool, false, List, [], ◌∷◌, ◌==◌, ◌&&◌, ◌-◌, ◌*◌, length, take, drop, nat_eq, nat_le, if◌then◌else◌}
use Rattle.std.specs.List.{starts_with}

-- whether it stands between three quotes
unfoldable pub is_long : List ℕ → Bool
is_long [] = false
is_long (quote ∷ cs) = starts_with nat_eq cs (quote ∷ quote ∷ []) && nat_le 5 (length cs)

-- how many quotes stand at each end
abbrev pub quotes : List ℕ → ℕ
quotes bytes = if is_long bytes then 3 else 1

-- what stands between them
abbrev pub inside : List ℕ → List ℕ
inside bytes = take (length bytes - 2 * quotes bytes) (drop (quotes bytes) bytes)

-- the byte that one behind a backslash stands for
unfoldable pub escaped : ℕ → ℕ
escaped c = if c == 110 then 10 else (if c == 116 then 9 else c)

-- a backslash and the byte behind it are one byte; CR before LF is passed over
unfoldable pub unescaped : List ℕ → List ℕ
unescaped [] = []
unescaped (c ∷ []) = c ∷ []
unescaped (c ∷ d ∷ cs) =
    if c == 92 then escaped d ∷ unescaped cs
    else (if c == 13 && d == 10 then unescaped (d ∷ cs)
    else c ∷ unescaped (d ∷ cs))

-- the bytes that a text with its quotes stands for
unfoldable pub quoted_bytes : List ℕ → List ℕ
quoted_bytes bytes = unescaped (inside bytes)
