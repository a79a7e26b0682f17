use Rattle.lx_lower.proofs.Masks.{Seen, are_fixed, mask_shaped}
use Rattle.lx_lower.proofs.fixed.fixed_exprs.Goals as goal

pub values-requires : goal.values-requires
values-requires c =
    let mask = rw (c.as_slice.ensures, c.as_slice-2.ensures) at c.in_ok-mask.ensures.ok in
    let seen : Seen c.args.design.now c.in_ok-free.free c.in_ok-shapes.shapes c.in_ok-mask.mask = record { keeps = c.requires; shapes = c.in_ok-shapes.ensures; are_free = c.in_ok-free.ensures; lower = c.lower.ensures; mask = mask } in
    rw c.as_slice-3.ensures (mask_shaped _ _ _ _ seen)

pub returns : goal.returns
returns c =
    let mask = rw (c.as_slice.ensures, c.as_slice-2.ensures) at c.in_ok-mask.ensures.ok in
    let seen : Seen c.args.design.now c.in_ok-free.free c.in_ok-shapes.shapes c.in_ok-mask.mask = record { keeps = c.requires; shapes = c.in_ok-shapes.ensures; are_free = c.in_ok-free.ensures; lower = c.lower.ensures; mask = mask } in
    are_fixed _ _ _ _ _ seen (rw c.as_slice-3.ensures at c.in_ok-values.ensures)
