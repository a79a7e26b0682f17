use Rattle.lx_fhdl.specs.Designs.{term}
use Rattle.lx_flat.proofs.Flats.{and_put}
use Rattle.lx_plain.proofs.Conditions.{asked_bit, bits_join}
use Rattle.lx_plain.proofs.Sound.{bit_kept}
use Rattle.lx_flat.proofs.flat.push_and_test.Goals as goal

pub push_binary-requires : goal.push_binary-requires
push_binary-requires c = bits_join _ _ _ (bit_kept c.in_ok-asked.ensures.grows c.requires.none) (asked_bit _ _ (term c.args.draft.now c.args.cond.id.place) c.args.test _ c.in_ok-asked.ensures)

pub returns : goal.returns
returns c = and_put _ _ _ _ _ _ _ c.requires.none.there c.in_ok-asked.ensures c.in_ok-id.ensures
