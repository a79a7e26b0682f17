use Rattle.std.proofs.Common.{◌≡◌, ◌++◌, drop, map}
use Rattle.lx_state.specs.Step.{give, go_on}
use Rattle.lx_objects.specs.Registers.{part_of, wire_of, wires_made}
use Rattle.lx_objects.proofs.registers.wires_made.Given as goal

abbrev pub invariant-loop-plan : goal.invariant-loop-plan
invariant-loop-plan l =
    go_on (wires_made l.line l.object (map wire_of (drop l.plan-index l.plans)) (map part_of (drop l.plan-index l.plans)) l.machine) (λ pins. give (l.pins ++ pins))
    ≡ wires_made l.line l.object (map wire_of l.plans) (map part_of l.plans) l.initial.machine
