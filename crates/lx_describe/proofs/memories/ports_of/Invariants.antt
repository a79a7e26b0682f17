use Rattle.std.proofs.Common.{◌≡◌, ◌++◌, drop, map}
use Rattle.lx_state.specs.declared.machine.PortState.{PortState}
use Rattle.lx_describe.specs.Memories.{ports_of}
use Rattle.lx_describe.proofs.memories.ports_of.Given as goal

abbrev pub invariant-loop-state : goal.invariant-loop-state
invariant-loop-state l = l.ports ++ map (λ (p : PortState). p.port) (drop l.state-index l.machine.ports) ≡ ports_of l.machine
