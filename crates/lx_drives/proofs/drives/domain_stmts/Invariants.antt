use Rattle.std.proofs.Common.{◌≡◌, ◌++◌, drop}
use Rattle.lx_fhdl.specs.Designs.{stmts_of}
use Rattle.lx_drives.proofs.drives.domain_stmts.Given as goal

abbrev pub invariant-loop-part : goal.invariant-loop-part
invariant-loop-part l = l.list ++ stmts_of l.k (drop l.part-index l.part-items) ≡ stmts_of l.k l.part-items
