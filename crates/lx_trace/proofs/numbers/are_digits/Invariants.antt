use Rattle.std.proofs.Common.{◌≡◌, drop}
use Rattle.std.specs.Prelude.{nat_lt}
use Rattle.std.specs.List.{list_all}
use Rattle.lx_trace.specs.Numbers.{digit}
use Rattle.lx_trace.proofs.numbers.are_digits.Given as goal

abbrev pub invariant-loop-byte : goal.invariant-loop-byte
invariant-loop-byte l = list_all (λ b. nat_lt (digit b) l.base) l.bytes ≡ list_all (λ b. nat_lt (digit b) l.base) (drop l.byte-index l.bytes)
