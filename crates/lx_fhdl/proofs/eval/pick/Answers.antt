use Rattle.std.proofs.Common.{◌≡◌, ◌∙◌, ◌-◌, ◌<◌, ap, arith, length, min, sym}
use Rattle.std.specs.Prelude.{ℤ}
use Rattle.std.specs.Int.{w128}
use Rattle.std.proofs.lemmas.Int.{to_z-of_z}
use Rattle.lx_circuit.specs.Values.{count_of}
use Rattle.lx_fhdl.proofs.Parts.{each_at, pick_is}
use Rattle.lx_fhdl.proofs.eval.pick.Goals as goal

pub value_of-requires : goal.value_of-requires
value_of-requires c = each_at (λ k. k < length c.args.known.now) c.args.items.now c.place_of-place.result _ c.requires.within (omega arith)

pub returns : goal.returns
returns c =
    let e : c.place_of-place.result ≡ min (count_of c.args.index) (length c.args.items.now - 1) =
    c.place_of-place.ensures ∙ ap (λ (z : ℤ). min (count_of z) (length c.args.items.now - 1)) (to_z-of_z w128 c.args.index c.ranges.index) in
    to_z-of_z w128 c.value_of.result (record { sfits = c.value_of.type_inv })
    ∙ c.value_of.ensures
    ∙ sym (pick_is c.args.known.now c.args.items.now c.args.index c.place_of-place.result _ c.requires.some e)
