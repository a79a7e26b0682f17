use Rattle.std.proofs.Common.{◌≡◌, drop}
use Rattle.lx_fhdl.specs.Keeping.{is_distinct}
use Rattle.lx_kept.specs.Given.{names}
use Rattle.lx_kept.proofs.domains.are_distinct.Given as goal

abbrev pub invariant-loop-place : goal.invariant-loop-place
invariant-loop-place l = is_distinct (names l.domains) ≡ is_distinct (names (drop l.place l.domains))
