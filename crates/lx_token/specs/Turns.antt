-- One step through a text between quotes.
use Rattle.std.specs.Prelude.{◌≡◌, ℕ, Bool, List, ◌+◌, ◌<◌, ◌≤◌, length, Option, Some, None}
use Rattle.lx_token.specs.Quotes.{quoted, escaped, behind}
use Rattle.lx_token.specs.declared.quotes.Turn.{Turn}
use Rattle.lx_token.specs.declared.quotes.Turn.TheVariants as turn

-- a bad byte stands among so many and the next one
abbrev pub IsAtMost : ℕ → Option ℕ → Type 0
IsAtMost n None = Unit {0}
IsAtMost n (Some k) = k ≤ n

-- what the step says of the end of the text
abbrev pub IsTurn : Bool → ℕ → List ℕ → Turn → Type 0
IsTurn long quote bytes (turn.Ends n) = (quoted long quote bytes ≡ Some (record { length = n; bad = None })) × (n ≤ length bytes)
IsTurn long quote bytes turn.Endless = quoted long quote bytes ≡ None
IsTurn long quote bytes (turn.GoesOn n bad rest) = (quoted long quote bytes ≡ behind n bad (quoted long quote rest.now)) × (n + length rest.now ≡ length bytes) × (0 < n) × IsAtMost n bad

-- the same behind a backslash, with it
abbrev pub IsEscapedTurn : Bool → ℕ → List ℕ → Turn → Type 0
IsEscapedTurn long quote bytes (turn.Ends n) = ⊥
IsEscapedTurn long quote bytes turn.Endless = escaped long quote bytes ≡ None
IsEscapedTurn long quote bytes (turn.GoesOn n bad rest) = (escaped long quote bytes ≡ behind n bad (quoted long quote rest.now)) × (n + length rest.now ≡ length bytes + 1) × (0 < n) × IsAtMost n bad
