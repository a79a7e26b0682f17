use Rattle.std.proofs.Common.{◌≡◌, ◌≤◌, drop, fold}
use Rattle.lx_token.specs.Numbers.{digits_value, with_digit, greatest_number}
use Rattle.lx_token.proofs.numbers.value_of.Given as goal

abbrev pub invariant-loop-byte : goal.invariant-loop-byte
invariant-loop-byte l =
    (digits_value l.base l.digits ≡ fold (with_digit l.base) l.value (drop l.byte-index l.digits)) × (l.value ≤ greatest_number)
