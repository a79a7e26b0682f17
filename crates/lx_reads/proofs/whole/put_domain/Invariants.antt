use Rattle.std.proofs.Common.{◌+◌, drop}
use Rattle.lx_fhdl.specs.Designs.{stmts_of}
use Rattle.lx_reads.specs.Drivings.{drivings_of}
use Rattle.lx_reads.proofs.Wholes.{DrivesTo}
use Rattle.lx_reads.proofs.whole.put_domain.Given as goal

abbrev pub invariant-loop-part : goal.invariant-loop-part
invariant-loop-part l = DrivesTo l.design l.initial.net l.net (drivings_of l.design (l.k + 1) (stmts_of l.k l.part-items)) (drivings_of l.design (l.k + 1) (stmts_of l.k (drop l.part-index l.part-items)))
