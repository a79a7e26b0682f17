use Rattle.std.proofs.Common.{◌≡◌, ◌∙◌, true, false, sym, ap}
use Rattle.lx_syntax.specs.Convert.{sign_of, is_name}
use Rattle.lx_syntax.specs.Classes.{is_assign}
use Rattle.lx_syntax.proofs.Classing.{default_there, plain_default, plain_node, plain_one, plain_two}
use Rattle.lx_syntax.proofs.classes.named.Goals as goal

pub returns-in-Node : goal.returns-in-Node
returns-in-Node c =
    let h : is_name (sign_of c.args.src.now c.args.name.now) ≡ true = ap is_name (sym c.sign_of.ensures) ∙ sym c.is_name.ensures ∙ c.if-not-is_name.false in
    plain_node _ _ c.args.parts _ _ h c.in-Node.ensures

pub returns-in-Done-head_of : goal.returns-in-Done-head_of
returns-in-Done-head_of c =
    let h : is_name (sign_of c.args.src.now c.args.name.now) ≡ true = ap is_name (sym c.sign_of.ensures) ∙ sym c.is_name.ensures ∙ c.if-not-is_name.false in
    plain_one _ _ _ c.args.parts _ h c.in-Token.ensures c.in-Done-head_of.ensures

pub returns-in-Token-head_of : goal.returns-in-Token-head_of
returns-in-Token-head_of c =
    let h : is_name (sign_of c.args.src.now c.args.name.now) ≡ true = ap is_name (sym c.sign_of.ensures) ∙ sym c.is_name.ensures ∙ c.if-not-is_name.false in
    plain_two _ _ _ _ c.args.parts _ _ h c.in-Token.ensures c.in-Token-head_of.ensures

pub returns-then-is_assign : goal.returns-then-is_assign
returns-then-is_assign c =
    let h : is_name (sign_of c.args.src.now c.args.name.now) ≡ true = ap is_name (sym c.sign_of.ensures) ∙ sym c.is_name.ensures ∙ c.if-not-is_name.false in
    let i : is_assign (sign_of c.args.src.now c.in-Token.sign) ≡ true = ap is_assign (sym c.sign_of-in-Node-head_of.ensures) ∙ sym c.is_assign.ensures ∙ c.if-is_assign.true in
    default_there _ _ _ _ _ _ c.in-Node-head_of.left h c.in-Token.ensures c.in-Node-head_of.ensures i

pub returns-else-is_assign : goal.returns-else-is_assign
returns-else-is_assign c =
    let h : is_name (sign_of c.args.src.now c.args.name.now) ≡ true = ap is_name (sym c.sign_of.ensures) ∙ sym c.is_name.ensures ∙ c.if-not-is_name.false in
    let i : is_assign (sign_of c.args.src.now c.in-Token.sign) ≡ false = ap is_assign (sym c.sign_of-in-Node-head_of.ensures) ∙ sym c.is_assign.ensures ∙ c.if-is_assign.false in
    plain_default _ _ _ _ c.args.parts _ _ h c.in-Token.ensures c.in-Node-head_of.ensures i
