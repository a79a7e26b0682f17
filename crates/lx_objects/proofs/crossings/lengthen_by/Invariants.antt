use Rattle.std.proofs.Common.{◌≡◌}
use Rattle.lx_objects.specs.Crossings.{lengthen_by}
use Rattle.lx_objects.proofs.crossings.lengthen_by.Given as goal

abbrev pub invariant-loop-left : goal.invariant-loop-left
invariant-loop-left l = lengthen_by l.line l.object l.shape l.left l.chain l.machine ≡ lengthen_by l.line l.object l.shape l.count l.fn.start l.initial.machine

abbrev pub decreases-loop-left : goal.decreases-loop-left
decreases-loop-left l = l.left
