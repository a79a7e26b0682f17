use Rattle.std.proofs.lemmas.Result.{IfOk-weaker}
use Rattle.lx_exprs.proofs.Moved.{IsFor, operands_join, operand_amount, shift_put, binary_put}
use Rattle.lx_exprs.proofs.exprs.lower_binary.Goals as goal

pub push_shift-requires-clause-amount : goal.push_shift-requires-clause-amount
push_shift-requires-clause-amount c =
    let v : IsFor _ _ _ c.args.node.left = record { shape = c.lowered-of.ensures.shape; tree = c.lowered-of.ensures.tree } in
    let w : IsFor _ _ _ c.args.node.right = record { shape = c.lowered.ensures.shape; tree = c.lowered.ensures.tree } in
    operand_amount _ _ _ _ _ _ _ c.design-design.ensures.keeps c.requires c.args.node.next v w c.in-Shr.is

pub push_binary-requires : goal.push_binary-requires
push_binary-requires c =
    let v : IsFor _ _ _ c.args.node.left = record { shape = c.lowered-of.ensures.shape; tree = c.lowered-of.ensures.tree } in
    let w : IsFor _ _ _ c.args.node.right = record { shape = c.lowered.ensures.shape; tree = c.lowered.ensures.tree } in
    operands_join _ _ _ _ _ _ _ c.design-design.ensures.keeps c.requires c.args.node.next v w

pub returns-in-Shr : goal.returns-in-Shr
returns-in-Shr c =
    let v : IsFor _ _ _ c.args.node.left = record { shape = c.lowered-of.ensures.shape; tree = c.lowered-of.ensures.tree } in
    let w : IsFor _ _ _ c.args.node.right = record { shape = c.lowered.ensures.shape; tree = c.lowered.ensures.tree } in
    IfOk-weaker c.push_shift.result _ _ (λ id p. shift_put c.args.node.source.now _ _ _ _ _ _ _ _ c.requires v w c.in-Shr.is p) c.push_shift.ensures

pub returns-in_default : goal.returns-in_default
returns-in_default c =
    let v : IsFor _ _ _ c.args.node.left = record { shape = c.lowered-of.ensures.shape; tree = c.lowered-of.ensures.tree } in
    let w : IsFor _ _ _ c.args.node.right = record { shape = c.lowered.ensures.shape; tree = c.lowered.ensures.tree } in
    IfOk-weaker c.push_binary.result _ _ (λ id p. binary_put c.args.node.source.now _ _ _ _ _ _ _ _ v w c.in_default.not-Shr p) c.push_binary.ensures
