use Rattle.std.specs.Prelude.{FitsSigned}
use Rattle.std.specs.Int.{w128}
use Rattle.std.proofs.lemmas.Int.{to_z-of_z}
use Rattle.std.proofs.Common.{rules, ap, ◌∙◌}
use Rattle.lx_emission.specs.Naming.{node_name}
use Rattle.lx_sheet.proofs.Texts.{constant_bits, constant_operand, signal_there, signal_operand, node_operand}
use Rattle.lx_sheet.proofs.operands.operand_of.Goals as goal

pub constant-requires-clause-some : goal.constant-requires-clause-some
constant-requires-clause-some c = (constant_bits _ _ _ _ _ _ c.sheet.invariant.fit.keeps c.get.ensures.item c.in-Const.is).0

pub constant-requires-clause-most : goal.constant-requires-clause-most
constant-requires-clause-most c = (constant_bits _ _ _ _ _ _ c.sheet.invariant.fit.keeps c.get.ensures.item c.in-Const.is).1

pub new-signal-requires : goal.new-signal-requires
new-signal-requires c = rw (← c.sheet.view_is) (signal_there _ _ _ _ c.sheet.invariant.fit.keeps c.get.ensures.item c.in-Sig.is)

pub returns-in-Const : goal.returns-in-Const
returns-in-Const c =
    let f : FitsSigned w128 c.in-Const.value = search rules in
    rw (← c.sheet.view_is) (rw (to_z-of_z w128 c.in-Const.value f) at c.constant.ensures ∙ constant_operand _ _ _ _ _ _ _ c.get.ensures.item c.in-Const.is)

pub returns-in_ok-name-in-Sig : goal.returns-in_ok-name-in-Sig
returns-in_ok-name-in-Sig c = rw (← c.sheet.view_is) (signal_operand c.sheet.inside.design.now c.sheet.inside.names.now _ _ _ _ c.get.ensures.item c.in-Sig.is (rw (← c.sheet.view_is) at (rw (c.new-signal.ensures.sheet, c.new-signal.ensures.id) at c.in_ok-name-in-Sig.ensures)))

pub returns-in_ok-node_name-in_default : goal.returns-in_ok-node_name-in_default
returns-in_ok-node_name-in_default c =
    rw (← c.sheet.view_is)
    (node_operand c.sheet.inside.design.now c.sheet.inside.names.now _ _ _ c.get.ensures.item c.in_default.not-Const c.in_default.not-Sig (c.in_ok-node_name-in_default.ensures ∙ ap node_name (rw (← c.sheet.view_is) at c.number.ensures)))
