-- Texts between quotes.
use Rattle.std.specs.Prelude.{ℕ, Bool, true, false, List, [], ◌∷◌, ◌&&◌, ◌==◌, ◌+◌, length, not, Option, Some, None, codes, nat_eq, if◌then◌else◌}
use Rattle.std.specs.List.{list_any, starts_with}
use Rattle.lx_token.specs.Bytes.{begins, is_line_end}
use Rattle.lx_token.specs.declared.quotes.Ending.{Ending}

-- what ends a text: its quote, or three of it
abbrev pub closing : Bool → ℕ → List ℕ
closing true quote = quote ∷ quote ∷ quote ∷ []
closing false quote = quote ∷ []

-- the earlier of a bad byte here and of one that stands later by so many bytes
abbrev pub earlier : Option ℕ → ℕ → Option ℕ → Option ℕ
earlier (Some k) n later = Some k
earlier None n None = None
earlier None n (Some k) = Some (n + k)

-- an end that stands later by so many bytes, among which there may be a bad one
abbrev pub behind : ℕ → Option ℕ → Option Ending → Option Ending
behind n bad None = None
behind n bad (Some e) = Some (record { length = n + e.length; bad = earlier bad n e.bad })

-- what may stand behind a backslash
unfoldable pub is_escape : ℕ → Bool
is_escape c = list_any (λ escape. escape == c) (codes "\\\"'nt")

-- the place, from the backslash on, of the byte that may not stand behind it; CR before LF is passed over
abbrev pub bad_escape : ℕ → List ℕ → Option ℕ
bad_escape c cs = if is_escape c then None else Some (if c == 13 && begins is_line_end cs then 2 else 1)

-- behind the opening quotes: the bytes up to the end of the text, its closing quotes included, and the place of the first
-- byte that may not stand behind its backslash. A text that isn't long has no end past its line
unfoldable mutual
  pub quoted : Bool → ℕ → List ℕ → Option Ending
  quoted long quote [] = None
  quoted long quote (c ∷ cs) =
      if starts_with nat_eq (c ∷ cs) (closing long quote) then Some (record { length = length (closing long quote); bad = None })
      else (if c == 10 && not long then None
      else (if c == 92 then escaped long quote cs
      else behind 1 None (quoted long quote cs)))

  pub escaped : Bool → ℕ → List ℕ → Option Ending
  escaped long quote [] = None
  escaped long quote (c ∷ cs) = if c == 10 && not long then None else behind 2 (bad_escape c cs) (quoted long quote cs)
