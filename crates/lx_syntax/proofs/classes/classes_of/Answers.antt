use Rattle.std.proofs.lemmas.Result.{IfOk-weaker}
use Rattle.lx_syntax.proofs.Classing.{file_made, file_other}
use Rattle.lx_syntax.proofs.classes.classes_of.Goals as goal

pub returns-in_ok-ids-in-File : goal.returns-in_ok-ids-in-File
returns-in_ok-ids-in-File c = IfOk-weaker c.classes_among.result _ _ (λ made among. file_made _ _ _ _ _ _ made c.node-node.ensures.tree c.in-File.is (rw c.as_slice-parts.ensures at c.in_ok-ids-in-File.ensures) (rw c.as_slice.ensures at among)) c.classes_among.ensures

pub returns-in_default : goal.returns-in_default
returns-in_default c = file_other _ _ _ _ _ _ c.node-node.ensures.tree c.in_default.not-File c.new.ensures
