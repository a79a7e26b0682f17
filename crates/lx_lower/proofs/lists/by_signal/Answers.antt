use Rattle.std.proofs.Common.{refl, arith}
use Rattle.lx_plain.specs.declared.owned.Own.{Own}
use Rattle.lx_plain.proofs.Grouping.{signal_there}
use Rattle.lx_lower.proofs.Listing.{all_by_signal, more_by_signal}
use Rattle.lx_lower.proofs.lists.by_signal.Goals as goal

pub index_mut-requires : goal.index_mut-requires
index_mut-requires c =
    let d : Own = record { signal = record { 0 = 0 }; stmt = record { place = 0; of = record {} } } in
    let l = signal_there _ c.args.of.owns.now c.loop-own.own-index d c.args.of.there c.loop-own-test.true in
    omega (arith, l, c.loop-own.invariant.long)

pub loop-own-preserved : goal.loop-own-preserved
loop-own-preserved c =
    let l = signal_there _ c.args.of.owns.now c.loop-own.own-index _ c.args.of.there c.loop-own-test.true in
    more_by_signal _ c.args.of.owns.now c.loop-own.own-index _ _ _ _ _ _ c.loop-own-test.true refl l c.loop-own.invariant (rw c.index_mut.ensures.value at c.in_ok-push.ensures.ok) refl

pub returns : goal.returns
returns c = all_by_signal _ c.args.of.owns.now c.loop-own.own-index _ (omega arith) c.loop-own.invariant
