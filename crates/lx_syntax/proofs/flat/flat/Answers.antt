use Rattle.std.proofs.lemmas.Result.{IfOk-weaker}
use Rattle.lx_syntax.proofs.Counting.{flat_arg, flat_by, flat_comp, flat_not, flat_power, flat_unary}
use Rattle.lx_syntax.proofs.flat.flat.Goals as goal

pub returns-in-Not : goal.returns-in-Not
returns-in-Not c = flat_by _ _ _ _ _ _ c.in-Not.is (flat_not _ _ _ _ (rw c.as_slice-ids.ensures at (c.negated.ensures c.args.src.now)))

pub returns-in-Comp : goal.returns-in-Comp
returns-in-Comp c = flat_by _ _ _ _ _ _ c.in-Comp.is (flat_comp _ _ _ _ (rw (c.as_slice-words.ensures, c.as_slice-ids.ensures) at c.related.ensures))

pub returns-in-Unary : goal.returns-in-Unary
returns-in-Unary c = IfOk-weaker c.prefixed.result _ _ (λ made is. flat_by _ _ _ _ _ made c.in-Unary.is (flat_unary _ _ _ made (rw (c.as_slice-words.ensures, c.as_slice-ids.ensures) at is))) c.prefixed.ensures

pub returns-in-Power : goal.returns-in-Power
returns-in-Power c = flat_by _ _ _ _ _ _ c.in-Power.is (flat_power _ _ _ _ (rw c.as_slice-ids.ensures at (c.powered.ensures c.args.src.now)))

pub returns-in-Arg : goal.returns-in-Arg
returns-in-Arg c = flat_by _ _ _ _ _ _ c.in-Arg.is (flat_arg _ _ _ _ (rw c.as_slice-ids.ensures at (c.sole.ensures c.args.src.now)))
