use Rattle.std.proofs.Common.{◌++◌, take}
use Rattle.std.proofs.KnownBytes.{Appends-trans}
use Rattle.lx_command.proofs.Edges.{appends_kept, moves_front, wrote_part}
use Rattle.lx_command.proofs.writers.write_whole.Goals as goal

pub returns-in-Ok-eq0 : goal.returns-in-Ok-eq0
returns-in-Ok-eq0 g c =
    let (done, split, appended) = c.loop.invariant in
    let rest = c.loop.rest.now in
    let n = c.in-Ok-eq0.field-0 in
    wrote_part _ _ _ (done ++ take n rest) _ (moves_front _ done rest n split) (Appends-trans _ _ _ _ _ appended c.in-Ok-eq0.ensures.bytes)

pub returns-in-Err : goal.returns-in-Err
returns-in-Err g c =
    let (done, split, appended) = c.loop.invariant in
    wrote_part _ _ _ done c.loop.rest.now split (appends_kept _ _ _ done appended c.in-Err.ensures.bytes)

pub loop-preserved : goal.loop-preserved
loop-preserved g c =
    let (done, split, appended) = c.loop.invariant in
    let rest = c.loop.rest.now in
    let n = c.in-Ok.count in
    (done ++ take n rest, moves_front _ done rest n split, Appends-trans _ _ _ _ _ appended c.in-Ok.ensures.bytes)

pub returns-else-is_empty-2 : goal.returns-else-is_empty-2
returns-else-is_empty-2 g c =
    let (done, split, appended) = c.loop.invariant in
    wrote_part _ _ _ done c.loop.rest.now split appended
