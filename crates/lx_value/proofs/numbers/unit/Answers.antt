use Rattle.std.proofs.Common.{◌^◌, ◌<◌, ◌∙◌, ap, arith}
use Rattle.std.specs.Int.{w128, cast_signed}
use Rattle.std.proofs.lemmas.Int.{to_z_pos}
use Rattle.std.proofs.lemmas.Nat.{one_shl, pow_below}
use Rattle.lx_value.proofs.numbers.unit.Goals as goal

pub returns : goal.returns
returns c =
    let p : 2 ^ c.args.places < 2 ^ 127 = pow_below c.args.places 127 c.requires in
    ap (cast_signed w128) (one_shl c.args.places 128 (omega arith)) ∙ to_z_pos w128 (2 ^ c.args.places) p
