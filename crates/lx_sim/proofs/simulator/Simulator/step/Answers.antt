use Rattle.std.proofs.Common.{◌≡◌, ◌∙◌, length, ap, arith}
use Rattle.lx_sim.proofs.Moving.{shows_written, step_shows}
use Rattle.lx_sim.proofs.Ready.{written_back}
use Rattle.lx_sim.proofs.simulator.Simulator.step.Goals as goal

pub returns-clause-shows : goal.returns-clause-shows
returns-clause-shows g c = λ m s.
    let d = c.self.inside.design.now in
    let p = c.self.inside.plan in
    let ready = c.self.invariant in
    let next_long : c.self.inside.next.len ≡ length c.advance.new.next = omega (arith, c.advance.ensures.fit.signals, ready.long, c.self.inside.next.ok.0) in
    let words_long : c.self.inside.words.len ≡ length c.write_ports.new.words = omega (arith, c.write_ports.ensures.have.memories, ready.have.memories, c.self.inside.words.ok.0) in
    let moved = (rw c.swap.ensures.x_after at c.as_mut_slice-3.ensures.value) ∙ written_back c.self.inside.next.len c.advance.new.next _ next_long in
    let written = c.as_slice-4.ensures.value ∙ written_back c.self.inside.words.len c.write_ports.new.words _ words_long in
    let vals_long : c.swap.new.x.len ≡ length c.settle.new.vals = omega (arith, c.settle.ensures.values.fit.signals, c.advance.ensures.fit.signals, ap length moved, ap length c.as_mut_slice-3.ensures.value, c.swap.new.x.ok.0) in
    let advances = rw (c.as_slice.ensures.value, c.as_slice-2.ensures.value) at c.advance.ensures in
    let writes = rw (c.as_slice-3.ensures.value, c.as_mut_slice-2.ensures.value) at c.write_ports.ensures in
    let settles = rw (moved, written) at c.settle.ensures.values in
    shows_written _ _ _ _ _ _ _ _ vals_long words_long
    (step_shows d p c.self.inside.vals.items c.self.inside.words.items c.write_ports.new.words c.self.inside.known.items c.self.inside.next.items c.advance.new.next c.settle.new.vals c.settle.new.known c.args.e.now.rises ready advances writes settles m (rw (← c.self.view_is) at s))
