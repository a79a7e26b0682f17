use Rattle.std.proofs.Common.{rules, FitsSigned}
use Rattle.std.specs.Int.{w128}
use Rattle.std.proofs.lemmas.Int.{to_z-of_z}
use Rattle.lx_fhdl.specs.Designs.{shapes, term}
use Rattle.lx_flat.proofs.Arms.{fresh_is, no_key_is, none_more, none_start}
use Rattle.lx_plain.proofs.Sound.{shape_kept}
use Rattle.lx_flat.proofs.keys.push_no_keys.Goals as goal

pub loop-number-init : goal.loop-number-init
loop-number-init c = none_start _ (shapes c.args.draft.now) (term c.args.draft.now c.args.keyed.on.id.place)

pub push_no_key-requires : goal.push_no_key-requires
push_no_key-requires c = record { on = shape_kept c.loop-number.invariant.grows c.requires; none = c.loop-number.invariant.bit }

pub loop-number-preserved : goal.loop-number-preserved
loop-number-preserved c =
    let fits : FitsSigned w128 c.index-arms-number.result.key = search rules in
    none_more _ _ _ _ _ c.args.keyed.arms.now c.loop-number.number c.args.keyed.on.id.place c.index-arms-number.result _ c.loop-number-test.true c.index-arms-number.is c.requires.there c.loop-number.invariant
    (no_key_is _ _ _ _ _ _ _ c.requires.shape (fresh_is _ _ _ _ _ _ c.loop-number-test.true c.index-arms-number.is c.args.keyed.are c.loop-number-test.true))
    (rw (to_z-of_z w128 c.index-arms-number.result.key fits) at c.in_ok-none.ensures)
