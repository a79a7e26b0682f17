use Rattle.std.proofs.Common.{◌≡◌, ◌+◌, length}
use Rattle.lx_token.specs.Quotes.{quoted, behind}
use Rattle.lx_token.specs.Turns.{IsAtMost}
use Rattle.lx_token.proofs.quotes.end_of_text.Given as goal

abbrev pub invariant-turns : goal.invariant-turns
invariant-turns l =
    (quoted l.long l.quote l.bytes ≡ behind l.length l.bad (quoted l.long l.quote l.rest)) × (l.length + length l.rest ≡ length l.bytes) × IsAtMost l.length l.bad

abbrev pub decreases-turns : goal.decreases-turns
decreases-turns l = length l.rest
