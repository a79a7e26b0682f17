use Rattle.std.proofs.Common.{◌≡◌, ◌+◌, ◌-◌, ◌<◌, length, arith}
use Rattle.lx_exprs.proofs.Choices.{chain_last, chain_choose, chain_more}
use Rattle.lx_plain.proofs.Sound.{shape_kept}
use Rattle.lx_exprs.proofs.exprs.push_choices.Goals as goal

pub loop-item-init : goal.loop-item-init
loop-item-init c =
    let n : length c.args.items.now - 1 < length c.args.items.now = omega (arith, c.requires.items.some) in
    let e : length c.args.items.now - 1 + 1 ≡ length c.args.items.now = omega (arith, c.requires.items.some) in
    record { within = n; put = chain_last _ _ _ _ _ c.requires.items.there e }

pub push_choice-requires-clause-index : goal.push_choice-requires-clause-index
push_choice-requires-clause-index c = shape_kept c.loop-item.invariant.put.grows c.requires.index

pub push_choice-requires-clause-both : goal.push_choice-requires-clause-both
push_choice-requires-clause-both c =
    let e : c.loop-item.item - 1 + 1 ≡ c.loop-item.item = omega arith in
    chain_choose _ _ _ _ _ _ _ c.args.index.shape _ c.keeps.ensures c.requires.items c.requires.index.there e c.loop-item.invariant.within c.loop-item.invariant.put

pub loop-item-preserved : goal.loop-item-preserved
loop-item-preserved c =
    let e : c.loop-item.item - 1 + 1 ≡ c.loop-item.item = omega arith in
    record {
      within = omega (arith, c.loop-item.invariant.within);
      put = chain_more _ _ _ _ _ _ _ _ _ c.args.index.shape _ c.requires.items c.requires.index.there e c.loop-item.invariant.within c.loop-item.invariant.put c.in_ok-chosen.ensures;
    }
