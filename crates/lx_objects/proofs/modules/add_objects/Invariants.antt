use Rattle.std.proofs.Common.{◌≡◌, drop}
use Rattle.lx_objects.specs.Modules.{add_objects}
use Rattle.lx_objects.proofs.modules.add_objects.Given as goal

abbrev pub invariant-loop-object : goal.invariant-loop-object
invariant-loop-object l = add_objects l.line l.to (drop l.object-index l.objects) l.machine ≡ add_objects l.line l.to l.objects l.initial.machine
