use Rattle.std.proofs.Common.{◌<◌, zero, arith, sym}
use Rattle.lx_regions.specs.Rounded.{rounded}
use Rattle.lx_regions.proofs.Doubling.{rounded_power}
use Rattle.lx_alloc.proofs.Stated.{overlap_below, overlap_above}
use Rattle.lx_alloc.proofs.origins.overlap.Goals as goal

pub returns-then-above-below : goal.returns-then-above-below
returns-then-above-below c =
    let least = (rounded_power c.args.earlier.now.size).2 in
    let some : zero < rounded c.args.earlier.now.size = omega (arith, least) in
    rw (c.in-Some-Some.is-0, c.in-Some-Some.is-1, c.rounded_size.ensures)
    (sym (overlap_below c.in-Some-Some.above (rounded c.args.later.now.size) c.in-Some-Some.below (rounded c.args.earlier.now.size) some c.if-above-below.true))

pub returns-else-above-below : goal.returns-else-above-below
returns-else-above-below c =
    let least = (rounded_power c.args.later.now.size).2 in
    let some : zero < rounded c.args.later.now.size = omega (arith, least) in
    rw (c.in-Some-Some.is-0, c.in-Some-Some.is-1, c.rounded_size-else-above-below.ensures)
    (sym (overlap_above c.in-Some-Some.above (rounded c.args.later.now.size) c.in-Some-Some.below (rounded c.args.earlier.now.size) some c.if-above-below.false))
