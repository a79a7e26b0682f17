use Rattle.std.proofs.Common.{◌≡◌, length, arith}
use Rattle.lx_sim.proofs.Moving.{shows_back, start_shows}
use Rattle.lx_sim.proofs.Ready.{first_fit, is_ready, ready_back, zeros_long}
use Rattle.lx_sim.proofs.Remembered.{have_first}
use Rattle.lx_sim.proofs.simulator.Simulator.new.Goals as goal

pub settle-requires-clause-fit : goal.settle-requires-clause-fit
settle-requires-clause-fit g c =
    rw (c.as_mut_slice.ensures.value, c.as_mut_slice-2.ensures.value)
    (first_fit c.in_ok-plan.plan c.in_ok-vals.vals.items c.in_ok-known.known.items c.in_ok-plan.ensures.plan c.in_ok-vals.ensures (rw c.len.ensures at c.in_ok-known.ensures))

pub settle-requires-clause-words : goal.settle-requires-clause-words
settle-requires-clause-words g c = rw c.as_slice.ensures.value (have_first _ _ c.in_ok-words.ensures)

pub invariant_of-result : goal.invariant_of-result
invariant_of-result g c =
    let d = c.args.design.now in
    let p = c.in_ok-plan.plan in
    let words = c.in_ok-words.words.items in
    let fit = c.settle.ensures.values.fit in
    let vals_long : c.in_ok-vals.vals.len ≡ length c.settle.new.vals = omega (arith, fit.signals, c.in_ok-vals.ensures.long, c.in_ok-vals.vals.ok.0) in
    let zero = zeros_long c.in_ok-known.known.items _ (length p.design.exprs) c.in_ok-known.ensures c.len.ensures in
    let known_long : c.in_ok-known.known.len ≡ length c.settle.new.known = omega (arith, fit.exprs, zero, c.in_ok-known.known.ok.0) in
    ready_back _ _ _ _ _ _ _ _ _ _ vals_long known_long
    (is_ready d p c.as_mut_slice.result.now c.settle.new.vals words c.settle.new.known c.in_ok-next.next.items c.in_ok-plan.ensures (have_first p.design words c.in_ok-words.ensures)
    (zeros_long c.in_ok-next.next.items _ (length p.design.signals) c.in_ok-next.ensures c.len-2.ensures) (rw c.as_slice.ensures.value at c.settle.ensures.values))

pub returns-clause-shows : goal.returns-clause-shows
returns-clause-shows g c =
    let d = c.args.design.now in
    let p = c.in_ok-plan.plan in
    let vals_long : c.in_ok-vals.vals.len ≡ length c.settle.new.vals = omega (arith, c.settle.ensures.values.fit.signals, c.in_ok-vals.ensures.long, c.in_ok-vals.vals.ok.0) in
    shows_back _ _ _ _ _ _ vals_long
    (start_shows d p c.in_ok-vals.vals.items c.in_ok-words.words.items c.settle.new.vals c.settle.new.known c.requires.keeps c.in_ok-plan.ensures c.in_ok-vals.ensures c.in_ok-words.ensures (rw (c.as_slice.ensures.value, c.as_mut_slice.ensures.value) at c.settle.ensures.values))
