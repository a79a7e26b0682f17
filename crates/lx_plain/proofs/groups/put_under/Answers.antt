use Rattle.std.proofs.Common.{◌∙◌, arith}
use Rattle.std.proofs.lemmas.List.{get_or_default}
use Rattle.lx_plain.specs.Owned.{no_group}
use Rattle.lx_plain.proofs.Under.{group_stands, under_all, under_more, under_none}
use Rattle.lx_plain.proofs.groups.put_under.Goals as goal

pub loop-group-init : goal.loop-group-init
loop-group-init c = rw (c.grouped.ensures.same, c.deref-group-items.ensures.value) (under_none _ _ _ _ _ c.args.line _ c.requires.out c.in_ok-groups.ensures.ok)

pub put_group-requires : goal.put_group-requires
put_group-requires c =
    let so = c.loop-group.invariant in
    record {
      out = so.owned;
      cond = omega (arith, c.requires.cond, so.grows.stays.exprs);
      group = group_stands _ _ _ _ _ _ _ _ _ _ _ c.requires.then_ c.requires.else_ so c.loop-group-test.true (c.group-item.is ∙ get_or_default c.deref-group-items.result.now c.loop-group.group-index _ no_group c.loop-group-test.true);
    }

pub loop-group-preserved : goal.loop-group-preserved
loop-group-preserved c = under_more _ _ _ _ _ _ _ _ c.args.cond.place c.args.line _ _ _ c.requires.then_ c.requires.else_ c.requires.cond c.loop-group-test.true (c.group-item.is ∙ get_or_default c.deref-group-items.result.now c.loop-group.group-index _ no_group c.loop-group-test.true) c.loop-group.invariant c.in_ok-put_group.ensures

pub returns : goal.returns
returns c = under_all _ _ _ _ _ _ _ _ _ _ (omega arith) (omega arith) c.loop-group.invariant
