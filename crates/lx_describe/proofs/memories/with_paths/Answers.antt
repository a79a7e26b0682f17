use Rattle.std.proofs.Common.{◌≤◌, length, arith}
use Rattle.lx_describe.proofs.Pathed.{pathed_end}
use Rattle.lx_describe.proofs.memories.with_paths.Goals as goal

pub returns : goal.returns
returns c =
    let over : length c.loop-place.memories_left ≤ c.loop-place.place = omega (arith, c.loop-place.invariant.1, c.len-place-end.ensures, c.loop-place-test.false) in
    pathed_end c.loop-place.paths_left c.loop-place.memories_left c.loop-place.named _ c.loop-place.place over c.loop-place.invariant.0
