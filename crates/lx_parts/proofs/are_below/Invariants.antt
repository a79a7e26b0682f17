use Rattle.std.proofs.Common.{◌≡◌, ◌^◌, drop, nat_lt}
use Rattle.std.specs.List.{list_all}
use Rattle.lx_parts.proofs.are_below.Given as goal

abbrev pub invariant-loop-number : goal.invariant-loop-number
invariant-loop-number l = list_all (λ z. nat_lt z (2 ^ l.width)) l.numbers ≡ list_all (λ z. nat_lt z (2 ^ l.width)) (drop l.number-index l.numbers)
