use Rattle.std.proofs.Common.{◌≡◌, ◌++◌, drop}
use Rattle.lx_fhdl.specs.Designs.{stmts_of}
use Rattle.lx_lower.proofs.parts.domain_stmts.Given as goal

abbrev pub invariant-loop-part : goal.invariant-loop-part
invariant-loop-part l = l.ids ++ stmts_of l.domain (drop l.part-index l.parts) ≡ stmts_of l.domain l.parts
