use Rattle.std.proofs.Common.{◌≡◌, ℕ, ◌*◌, ◌<◌, ◌≤◌, ap, arith}
use Rattle.std.proofs.Math.Nat.{pow-le-pow_right}
use Rattle.lx_fhdl.proofs.eval.replicate.Goals as goal

pub number-requires : goal.number-requires
number-requires c =
    let two : 0 < 2 = omega arith in
    let e : c.loop-made.made ≡ c.args.count = omega arith in
    let h : c.loop-made.width ≤ 127 = omega (arith, ap (λ (k : ℕ). k * c.args.a.bits) e) in
    omega (arith, pow-le-pow_right two h, c.loop-made.invariant.below)
