use Rattle.std.proofs.Common.{sym, ◌∙◌}
use Rattle.lx_shaped.proofs.Calls.{signal_made, signal_misplaced}
use Rattle.lx_shaped.proofs.Growing.{sizes_signal}
use Rattle.lx_fhdl.proofs.Kept.{is_signal-is}
use Rattle.lx_shaped.proofs.shaped.Shaped.signal.Goals as goal

pub returns-then-not-is_signal-clause-ok : goal.returns-then-not-is_signal-clause-ok
returns-then-not-is_signal-clause-ok c = signal_misplaced c.args.signal c.args.self.now (sym c.is_signal.ensures ∙ c.if-not-is_signal.true)

pub push_signal-requires : goal.push_signal-requires
push_signal-requires c = is_signal-is c.args.signal (sym c.is_signal.ensures ∙ c.if-not-is_signal.false)

pub invariant_of-self-2 : goal.invariant_of-self-2
invariant_of-self-2 c = sizes_signal c.self.inside.draft c.push_signal.new.self c.args.signal c.in_ok-id.id.0 c.self.inside.shapes c.self.inside.bits c.self.invariant c.in_ok-id.ensures.ok

pub returns-clause-ok : goal.returns-clause-ok
returns-clause-ok c =
    rw (← c.self.view_is) (signal_made c.args.signal c.self.inside.draft c.push_signal.new.self c.in_ok-id.id (sym c.is_signal.ensures ∙ c.if-not-is_signal.false) c.in_ok-id.ensures.ok)
