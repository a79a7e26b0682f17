use Rattle.std.proofs.Common.{◌≡◌, drop}
use Rattle.std.specs.List.{list_all}
use Rattle.lx_trace.specs.Numbers.{is_between}
use Rattle.lx_trace.proofs.reading.is_plain.Given as goal

abbrev pub invariant-loop-byte : goal.invariant-loop-byte
invariant-loop-byte l = list_all (is_between 32 126) l.bytes ≡ list_all (is_between 32 126) (drop l.byte-index l.bytes)
