use Rattle.std.proofs.Common.{◌≡◌, length, set, sym, subst, arith}
use Rattle.std.specs.Prelude.{ℤ}
use Rattle.std.proofs.lemmas.Int.{to_z-of_z}
use mir.Syntax.{w128}
use Rattle.lx_num.specs.Ints.{Fits}
use Rattle.lx_fhdl.specs.Designs.{shapes}
use Rattle.lx_sim.specs.Settled.{Settles}
use Rattle.lx_sim.proofs.Moving.{set_shows, shows_back}
use Rattle.lx_sim.proofs.Ready.{input_within, is_ready, ready_back, set_fit}
use Rattle.lx_sim.proofs.simulator.Simulator.set.Goals as goal

pub index_mut-requires : goal.index_mut-requires
index_mut-requires g c =
    let room = input_within _ _ _ _ _ _ _ c.self.invariant (rw (← c.self.view_is) at c.requires.input) in
    omega (arith, room, c.self.inside.vals.ok.0)

pub settle-requires-clause-fit : goal.settle-requires-clause-fit
settle-requires-clause-fit g c =
    let d = c.self.inside.design.now in
    let room = input_within _ _ _ _ _ _ _ c.self.invariant (rw (← c.self.view_is) at c.requires.input) in
    let fits = subst (Fits (shapes d c.args.input.0)) (sym (to_z-of_z w128 c.args.v c.ranges.v)) (rw (← c.self.view_is) at c.requires.fits) in
    rw (c.as_mut_slice.ensures.value, c.as_mut_slice-2.ensures.value) (set_fit d c.self.inside.plan c.self.inside.vals.items c.self.inside.known.items c.args.input.0 _ c.self.invariant.planned c.self.invariant.fit fits room)

pub invariant_of-self : goal.invariant_of-self
invariant_of-self g c =
    let d = c.self.inside.design.now in
    let p = c.self.inside.plan in
    let words = c.self.inside.words.items in
    let next = c.self.inside.next.items in
    let fit = c.settle.ensures.values.fit in
    let vals_long : c.self.inside.vals.len ≡ length c.settle.new.vals = omega (arith, fit.signals, c.self.invariant.fit.signals, c.self.inside.vals.ok.0) in
    let known_long : c.self.inside.known.len ≡ length c.settle.new.known = omega (arith, fit.exprs, c.self.invariant.fit.exprs, c.self.inside.known.ok.0) in
    ready_back _ _ _ _ _ _ _ _ _ _ vals_long known_long
    (is_ready d p c.as_mut_slice.result.now c.settle.new.vals words c.settle.new.known next c.self.invariant.planned c.self.invariant.have c.self.invariant.long (rw c.as_slice.ensures.value at c.settle.ensures.values))

pub returns-clause-shows : goal.returns-clause-shows
returns-clause-shows g c = λ m s.
    let d = c.self.inside.design.now in
    let p = c.self.inside.plan in
    let vals = c.self.inside.vals.items in
    let words = c.self.inside.words.items in
    let x = c.args.input.0 in
    let input = rw (← c.self.view_is) at c.requires.input in
    let fits = rw (← c.self.view_is) at c.requires.fits in
    let room = input_within _ _ _ _ _ _ _ c.self.invariant input in
    let vals_long : c.self.inside.vals.len ≡ length c.settle.new.vals = omega (arith, c.settle.ensures.values.fit.signals, c.self.invariant.fit.signals, c.self.inside.vals.ok.0) in
    let stored = subst (λ (z : ℤ). Settles p words (set vals x z) c.settle.new.vals c.settle.new.known) (to_z-of_z w128 c.args.v c.ranges.v) (rw (c.as_slice.ensures.value, c.as_mut_slice.ensures.value) at c.settle.ensures.values) in
    shows_back _ _ _ _ _ _ vals_long
    (set_shows d p vals words c.self.inside.known.items c.self.inside.next.items c.settle.new.vals c.settle.new.known x c.args.v c.self.invariant input fits room stored m (rw (← c.self.view_is) at s))
