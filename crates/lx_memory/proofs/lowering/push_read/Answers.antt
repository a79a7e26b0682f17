use Rattle.lx_fhdl.specs.declared.design.PortMode.TheVariants as mode
use Rattle.lx_memory.proofs.Shown.{async_shown, shown_as}
use Rattle.lx_memory.proofs.lowering.push_read.Goals as goal

pub returns-in_ok-push_word-in-Async : goal.returns-in_ok-push_word-in-Async
returns-in_ok-push_word-in-Async c = shown_as c.args.port mode.Async c.in-Async.is (async_shown c.args.port c.stands.ensures c.in_ok-push_word-in-Async.ensures)
