use Rattle.std.proofs.Common.{◌≡◌, ◌≤◌, drop}
use Rattle.lx_trace.specs.Cutoff.{capped, cutoff}
use Rattle.lx_trace.specs.Numbers.{digits_value}
use Rattle.lx_trace.proofs.numbers.digits_value.Given as goal

abbrev pub invariant-loop-byte : goal.invariant-loop-byte
invariant-loop-byte l = record {
  most : l.value ≤ cutoff;
  same : capped (digits_value l.base 0 l.bytes) ≡ capped (digits_value l.base l.value (drop l.byte-index l.bytes));
}
