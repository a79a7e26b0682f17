use Rattle.std.proofs.Common.{◌∙◌, refl, arith}
use Rattle.lx_plain.proofs.Grouping.{owns_all, owns_more, owns_none, signal_there}
use Rattle.lx_plain.proofs.groups.add_owns.Goals as goal

pub loop-own-init : goal.loop-own-init
loop-own-init c = record { added = owns_none _ _ c.args.holds; long = refl }

pub add_own-requires : goal.add_own-requires
add_own-requires c = rw c.loop-own.invariant.long (signal_there _ c.args.owns.now c.loop-own.own-index _ c.requires c.loop-own-test.true)

pub loop-own-preserved : goal.loop-own-preserved
loop-own-preserved c = record {
  added = owns_more c.args.owns.now c.loop-own.own-index _ _ c.args.holds _ _ _ _ _ _ c.loop-own-test.true refl c.loop-own.invariant.added c.in_ok-add_own.ensures.ok;
  long = c.in_ok-add_own.ensures.long ∙ c.loop-own.invariant.long;
}

pub returns : goal.returns
returns c = record { ok = owns_all c.args.owns.now c.loop-own.own-index c.args.holds _ _ _ _ (omega arith) c.loop-own.invariant.added; long = c.loop-own.invariant.long }
