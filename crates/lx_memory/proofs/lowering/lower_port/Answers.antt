use Rattle.lx_memory.proofs.Shown.{port_lowered, port_silent}
use Rattle.lx_memory.proofs.lowering.lower_port.Goals as goal

pub returns-in_ok-push_comb : goal.returns-in_ok-push_comb
returns-in_ok-push_comb c =
    port_lowered {value = c.in_ok-value.value} {stmt = c.in_ok-stmt.stmt} c.in-Some.is c.in_ok-value.ensures c.stands.ensures c.in_ok-stmt.ensures c.in_ok-push_comb.ensures.ok

pub returns-in_default : goal.returns-in_default
returns-in_default c = port_silent (λ r e. c.in_default.not-Some r e)
