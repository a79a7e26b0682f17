use Rattle.std.proofs.Common.{◌≡◌, ◌+◌, drop}
use Rattle.lx_token.specs.Lexemes.{comment_len}
use Rattle.lx_token.proofs.bytes.comment_len.Given as goal

abbrev pub invariant-loop-i : goal.invariant-loop-i
invariant-loop-i l = l.i + comment_len (drop l.i l.bytes) ≡ comment_len l.bytes
