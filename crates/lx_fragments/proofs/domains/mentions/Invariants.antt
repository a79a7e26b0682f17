use Rattle.std.proofs.Common.{◌≡◌, ◌++◌, drop, map}
use Rattle.lx_fragments.specs.Domains.{mention_of}
use Rattle.lx_fragments.proofs.domains.mentions.Given as goal

abbrev pub invariant-loop-place : goal.invariant-loop-place
invariant-loop-place l = l.found ++ map mention_of (drop l.place l.machine.domains) ≡ map mention_of l.machine.domains
