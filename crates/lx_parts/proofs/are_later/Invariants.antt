use Rattle.std.proofs.Common.{◌≡◌, drop}
use Rattle.std.specs.List.{list_all}
use Rattle.lx_fhdl.specs.Keeping as keeping
use Rattle.lx_parts.proofs.are_later.Given as goal

abbrev pub invariant-loop-byte : goal.invariant-loop-byte
invariant-loop-byte l = list_all keeping.is_later l.bytes ≡ list_all keeping.is_later (drop l.byte-index l.bytes)
