use Rattle.std.proofs.Common.{◌≡◌, string_bytes, take}
use Rattle.lx_export.proofs.object.text_of.Given as goal

abbrev pub invariant-loop-byte : goal.invariant-loop-byte
invariant-loop-byte l = string_bytes l.text ≡ take l.byte-index l.bytes
