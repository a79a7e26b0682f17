use Rattle.std.proofs.Common.{List, ℕ, subst}
use Rattle.lx_command.specs.Delivery.{told, SaysText}
use Rattle.lx_command.proofs.Deliveries.{delivers_said, gains_all, store_failed_at}
use Rattle.lx_command.proofs.delivering.deliver.Goals as goal

pub returns-in-Err : goal.returns-in-Err
returns-in-Err g c = λ files later before now.
    store_failed_at c.args.texts.now.files c.as_slice-file-items.result.now c.loop-file.file-index c.file-item.result c.as_bytes.result.now c.as_slice.result.now c.as_bytes-in-Err.result.now c.args.texts.now.text files later before now
    (g.K.Sink.stored c.args.out.now) (g.K.Sink.stored c.loop-file.out) (g.K.Sink.stored c.store.new.self) (g.K.Sink.faults c.args.out.now) (g.K.Sink.faults c.loop-file.out) (g.K.Sink.faults c.store.new.self)
    (g.C.Console.said c.args.con.now) (g.C.Console.faults c.args.con.now)
    (g.E.Console.said c.args.err.now) (g.E.Console.said c.loop-file.err) (g.E.Console.said c.tell.new.err) (g.E.Console.faults c.args.err.now) (g.E.Console.faults c.loop-file.err) (g.E.Console.faults c.tell.new.err)
    c.loop-file.invariant.files c.loop-file-test.true c.file-item.is c.as_bytes.ensures c.as_slice.ensures c.as_bytes-in-Err.ensures
    c.loop-file.invariant.stored c.loop-file.invariant.rising c.loop-file.invariant.said c.loop-file.invariant.faults
    c.in-Err.ensures.stores.0 c.in-Err.ensures.stores.1 c.tell.ensures

pub returns : goal.returns
returns g c = λ files later before now.
    delivers_said c.args.texts.now.files c.args.texts.now.text files later before now
    (g.K.Sink.stored c.args.out.now) (g.K.Sink.stored c.loop-file.out) (g.K.Sink.faults c.args.out.now) (g.K.Sink.faults c.loop-file.out) (g.E.Console.said c.args.err.now) (g.E.Console.faults c.args.err.now)
    (told (g.C.Console.said c.args.con.now) (g.C.Console.faults c.args.con.now) (g.E.Console.said c.loop-file.err) (g.E.Console.faults c.loop-file.err))
    (told (g.C.Console.said c.say_text.new.con) (g.C.Console.faults c.say_text.new.con) (g.E.Console.said c.say_text.new.err) (g.E.Console.faults c.say_text.new.err))
    c.say_text.result
    (gains_all c.args.texts.now.files c.as_slice-file-items.result.now c.loop-file.file-index (g.K.Sink.stored c.args.out.now) (g.K.Sink.stored c.loop-file.out) c.loop-file.invariant.files c.loop-file-test.false c.loop-file.invariant.stored)
    c.loop-file.invariant.said c.loop-file.invariant.faults
    (subst (λ (t : List ℕ). SaysText t (told (g.C.Console.said c.args.con.now) (g.C.Console.faults c.args.con.now) (g.E.Console.said c.loop-file.err) (g.E.Console.faults c.loop-file.err))
    (told (g.C.Console.said c.say_text.new.con) (g.C.Console.faults c.say_text.new.con) (g.E.Console.said c.say_text.new.err) (g.E.Console.faults c.say_text.new.err)) c.say_text.result) c.as_bytes-2.ensures c.say_text.ensures)
