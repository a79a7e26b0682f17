use Rattle.std.proofs.Common.{◌≡◌, ◌++◌, drop, map}
use Rattle.lx_describe.specs.Fsms.{asked_of}
use Rattle.lx_describe.proofs.fsms.asked_of.Given as goal

abbrev pub invariant-loop-place : goal.invariant-loop-place
invariant-loop-place l = l.list ++ map asked_of (drop l.place l.fsm.asked) ≡ map asked_of l.fsm.asked
