use Rattle.std.proofs.Common.{◌∙◌, inl, sym}
use Rattle.lx_check.proofs.check.fault_or_order.Goals as goal

pub returns-in-Some : goal.returns-in-Some
returns-in-Some c = inl (sym c.in_ok-fault.ensures ∙ c.in-Some.is)

pub order_of_all-requires-clause-faultless : goal.order_of_all-requires-clause-faultless
order_of_all-requires-clause-faultless c = sym c.in_ok-fault.ensures ∙ c.in-None.is
