use Rattle.std.proofs.Common.{◌≡◌, false, length, refl, arith}
use Rattle.lx_plain.specs.Owned.{has_group}
use Rattle.lx_plain.proofs.Grouping.{group_beyond, group_other, place_made}
use Rattle.lx_plain.proofs.groups.group_of.Goals as goal
use Rattle.lx_plain.proofs.groups.group_of.Goals.{else-at-len-via-then-at-len+else-index-x, else-at-len-via-else-at-len}

pub returns-clause-ok : goal.returns-clause-ok
returns-clause-ok c =
    let none : has_group c.args.slots.now.items c.args.groups.now.items (length c.args.groups.now.items) c.args.x.0 ≡ false =
    elim c.else-at-len.branch [
      | else-at-len-via-then-at-len+else-index-x w ↦ group_other _ _ _ _ _ w.index.result.now c.requires c.index-at.ensures (omega arith) w.index.ensures w.if-index-x.false
      | else-at-len-via-else-at-len w ↦ group_beyond _ _ _ _ _ c.requires c.index-at.ensures (omega arith)
    ] in
    place_made _ _ _ _ c.args.x _ c.requires none (omega (arith, c.len-place.ensures)) refl (rw (c.new.ensures, c.new-2.ensures) at c.in_ok-push.ensures.items)
