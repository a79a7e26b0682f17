use Rattle.std.proofs.Common.{◌∙◌, sym, refl, drop}
use Rattle.std.proofs.lemmas.List.{append-nil}
use Rattle.lx_builtins.proofs.Joint.{joint_ended}
use Rattle.lx_builtins.proofs.sequences.joint_pairs.Goals as goal

pub returns-then-place-second : goal.returns-then-place-second
returns-then-place-second c =
    let e = joint_ended c.args.line c.loop-place.place (drop c.loop-place.place c.args.first.now) c.args.second.now c.loop-place.machine c.if-place-second.true in
    sym c.loop-place.invariant ∙ rw (e, append-nil) refl
