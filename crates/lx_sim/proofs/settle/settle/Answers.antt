use Rattle.std.proofs.Common.{◌≡◌, ◌<◌, ℕ, [], length, take, ap, refl, arith}
use Rattle.std.specs.Prelude.{slice_index_or}
use Rattle.std.proofs.lemmas.Option.{slice_get-get_or}
use Rattle.lx_sim.specs.Orders.{items_of}
use Rattle.lx_sim.proofs.Buckets.{bucket_rising, bucket_there, bucket_total, items_more, none_taken}
use Rattle.lx_sim.proofs.Settling.{settles_all, settles_last, settles_more, settles_none}
use Rattle.lx_sim.proofs.settle.settle.Goals as goal

pub loop-place-init : goal.loop-place-init
loop-place-init g c = record { values = settles_none _ _ _ _ c.requires.fit; cost = (let none = none_taken c.args.plan.now.buckets in omega (arith, none)) }

pub loop-place-preserved : goal.loop-place-preserved
loop-place-preserved g c =
    let buckets = c.args.plan.now.buckets in
    let place = c.loop-place.place in
    let long = c.requires.plan.buckets.stand.long in
    let within : place < length buckets = omega (arith, long) in
    let more = items_more buckets place (slice_index_or buckets place []) (slice_get-get_or buckets place [] within) in
    record {
      values = settles_more _ _ _ _ _ _ _ _ c.loop-place.invariant.values c.settle_place.ensures.values;
      cost = omega (arith, c.loop-place.invariant.cost, c.settle_place.ensures.cost, more);
    }

pub at-requires : goal.at-requires
at-requires g c = let long = c.requires.plan.buckets.stand.long in omega (arith, long)

pub eval_all-requires-clause-rising : goal.eval_all-requires-clause-rising
eval_all-requires-clause-rising g c = rw c.as_slice.ensures (bucket_rising _ _ _ c.requires.plan c.at.ensures)

pub eval_all-requires-clause-there : goal.eval_all-requires-clause-there
eval_all-requires-clause-there g c = rw c.as_slice.ensures (bucket_there _ _ _ c.requires.plan c.at.ensures)

pub returns-clause-values : goal.returns-clause-values
returns-clause-values g c =
    let last : c.loop-place.place ≡ length c.args.plan.now.order = omega arith in
    settles_all _ _ _ _ _ _ _ c.requires.plan (rw c.len.ensures at c.at.ensures) (settles_last _ _ _ _ _ _ last c.loop-place.invariant.values) (rw c.as_slice.ensures at c.eval_all.ensures.values)

pub returns-clause-cost : goal.returns-clause-cost
returns-clause-cost g c =
    let p = c.args.plan.now in
    let n = length p.order in
    let last : c.loop-place.place ≡ n = omega arith in
    let total = bucket_total p n c.at.result.now c.requires.plan refl (rw c.len.ensures at c.at.ensures) in
    let taken = ap (λ (k : ℕ). items_of (take k p.buckets)) last in
    omega (arith, c.eval_all.ensures.cost, c.loop-place.invariant.cost, ap length c.as_slice.ensures, total, taken)
