use Rattle.std.proofs.Common.{◌<◌, ◌^◌, length, arith}
use Rattle.lx_sim.proofs.Buckets.{has_buckets, ranks_most}
use Rattle.lx_sim.proofs.Positions.{places_for, room_for}
use Rattle.lx_sim.proofs.planning.expr_buckets.Goals as goal

pub ranks-requires-clause-room : goal.ranks-requires-clause-room
ranks-requires-clause-room c =
    let d = c.args.design.now in
    let order = c.args.order.now in
    let places = c.in_ok-positions.positions.items in
    let few : length order < 2 ^ 64 = omega arith in
    rw c.as_slice.ensures.value (room_for d order places (places_for d order places c.requires.order (rw c.len.ensures at c.in_ok-positions.ensures)) few)

pub buckets-requires : goal.buckets-requires
buckets-requires c =
    let d = c.args.design.now in
    let order = c.args.order.now in
    let places = c.in_ok-positions.positions.items in
    let placed = places_for d order places c.requires.order (rw c.len.ensures at c.in_ok-positions.ensures) in
    let are = rw c.as_slice.ensures.value at c.in_ok-ranks.ensures in
    rw c.as_slice-2.ensures (λ k l. (let most = ranks_most d order places c.in_ok-ranks.ranks c.requires.net.keeps placed are k l in omega (arith, most)))

pub returns : goal.returns
returns c =
    let d = c.args.design.now in
    let order = c.args.order.now in
    let places = c.in_ok-positions.positions.items in
    let placed = places_for d order places c.requires.order (rw c.len.ensures at c.in_ok-positions.ensures) in
    let are = rw c.as_slice.ensures.value at c.in_ok-ranks.ensures in
    has_buckets d order places c.in_ok-ranks.ranks _ _ placed are (rw c.as_slice-2.ensures at c.in_ok-buckets.ensures) (omega arith)
