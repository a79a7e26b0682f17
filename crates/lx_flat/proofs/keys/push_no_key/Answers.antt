use Rattle.std.proofs.Common.{◌≡◌, true, rules, subst}
use Rattle.std.specs.Int.{w128}
use Rattle.std.proofs.lemmas.Int.{to_z-of_z}
use Rattle.lx_fhdl.specs.Designs.{term}
use Rattle.lx_plain.specs.declared.operands.Test.TheVariants.{NoKey}
use Rattle.lx_flat.specs.Keys.{AreBits}
use Rattle.lx_flat.proofs.Arms.{and_none_put}
use Rattle.lx_plain.proofs.Conditions.{asked_bit, bits_join}
use Rattle.lx_plain.proofs.Sound.{bit_kept}
use Rattle.lx_flat.proofs.keys.push_no_key.Goals as goal

pub push_binary-requires : goal.push_binary-requires
push_binary-requires c = bits_join _ _ _ (bit_kept c.in_ok-other.ensures.grows (subst (AreBits c.args.draft.now) c.in-Some.is c.requires.none)) (asked_bit _ _ (term c.args.draft.now c.args.on.id.place) (NoKey c.args.key) _ (rw (to_z-of_z w128 c.args.key c.ranges.key) at c.in_ok-other.ensures))

pub returns-in_ok-both-in-Some : goal.returns-in_ok-both-in-Some
returns-in_ok-both-in-Some c =
    let yes : c.args.fresh ≡ true = search rules in
    rw yes (and_none_put _ _ _ _ _ _ c.in_ok-both-in-Some.both c.requires.none c.in-Some.is (rw (to_z-of_z w128 c.args.key c.ranges.key) at c.in_ok-other.ensures) c.in_ok-both-in-Some.ensures)
