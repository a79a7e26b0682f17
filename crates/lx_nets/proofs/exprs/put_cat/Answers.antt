use Rattle.std.proofs.Common.{◌-◌, ◌<◌, length, arith}
use Rattle.lx_width.proofs.Widths.{part_there}
use Rattle.std.proofs.lemmas.Result.{IfOk-weaker}
use Rattle.lx_nets.proofs.Puts.{all_taken, cat_is}
use Rattle.lx_nets.proofs.exprs.put_cat.Goals as goal

pub put_operand-requires : goal.put_operand-requires
put_operand-requires c =
    let h : length c.args.parts.now - 1 < length c.args.parts.now = omega arith in
    part_there (length c.args.sheet.now.design.exprs) c.args.parts.now (length c.args.parts.now - 1) _ c.requires.places h

pub put_parts-requires : goal.put_parts-requires
put_parts-requires c = all_taken (length c.args.sheet.now.design.exprs) (length c.args.parts.now - 1) c.args.parts.now c.requires.places

pub returns : goal.returns
returns c = IfOk-weaker c.add_expr.result _ _ (λ i p. cat_is _ _ _ _ _ _ _ _ _ _ c.requires.some c.in_ok-first.ensures c.in_ok-more.ensures p) c.add_expr.ensures.ok
