use Rattle.std.proofs.Common.{◌∙◌, ap₂, subst, ℕ}
use Rattle.std.specs.Prelude.{List, Some}
use Rattle.lx_fhdl.specs.declared.design.Signal.{Signal}
use Rattle.lx_fhdl.specs.declared.exprs.SigId.{SigId}
use Rattle.lx_state.specs.Step.{Gives, Outcome}
use Rattle.lx_objects.specs.Registers.{wire_of}
use Rattle.lx_objects.specs.Signals.{new_signal}
use Rattle.lx_objects.proofs.Wires.{any_first}
use Rattle.lx_objects.proofs.registers.new_wire.Goals as goal

pub returns : goal.returns
returns c =
    subst (λ (o : Outcome SigId). Gives c.new_signal.result c.new_signal.new.machine o)
    (ap₂ (λ (s : Signal) (name : List ℕ). new_signal c.args.line s c.args.object (Some name) c.args.machine.now) c.wire_signal-signal.ensures.signal c.in_ok-name.ensures
    ∙ any_first c.args.line c.args.object (wire_of c.args.plan.now) c.wire_signal-signal.result.reset (Some c.args.plan.now.name) c.args.machine.now c.wire_signal-signal.ensures.first)
    c.new_signal.ensures
