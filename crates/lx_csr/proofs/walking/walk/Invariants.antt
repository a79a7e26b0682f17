use Rattle.lx_fhdl.specs.Keeping.{EachOf}
use Rattle.std.proofs.Common.{◌≡◌}
use Rattle.lx_csr.specs.Collected.{attributes, registers_of}
use Rattle.lx_csr.specs.Gathered.{HasRoom, with_attributes}
use Rattle.lx_csr.specs.Walked.{IsFrame, left, pending}
use Rattle.lx_csr.proofs.walking.walk.Given as goal

abbrev pub invariant-loop-frame : goal.invariant-loop-frame
invariant-loop-frame l = record {
  same : with_attributes l.gathered (pending l.modules l.stack) ≡ with_attributes l.fn.gathered (attributes l.modules l.module.name l.module);
  room : HasRoom l.gathered (registers_of (pending l.modules l.stack));
  frames : EachOf (IsFrame l.modules) l.stack;
}

abbrev pub decreases-loop-frame : goal.decreases-loop-frame
decreases-loop-frame l = left l.modules l.stack
