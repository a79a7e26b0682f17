use Rattle.std.proofs.Common.{sym, ◌∙◌}
use Rattle.std.proofs.lemmas.Result.{IfOk-weaker}
use Rattle.lx_plain.proofs.Conditions.{can_test, compared_test, never_put, test_put}
use Rattle.lx_plain.proofs.Sound.{small_shape}
use Rattle.lx_plain.proofs.conds.push_test.Goals as goal

pub push_constant-requires : goal.push_constant-requires
push_constant-requires c = small_shape _ _ c.keeps.ensures c.requires

pub push_binary-requires : goal.push_binary-requires
push_binary-requires c =
    let test = compared_test c.args.of.shape.bits c.args.test _ _ (sym c.comparison.ensures ∙ c.in-Some.is) in
    can_test _ _ _ _ _ _ c.keeps.ensures test c.requires c.in_ok-number-in-Some.ensures
