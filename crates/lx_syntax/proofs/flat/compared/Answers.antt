use Rattle.std.proofs.Common.{◌∙◌, ap}
use Rattle.lx_syntax.specs.Convert.{comparison_of}
use Rattle.lx_syntax.proofs.Counting.{compared_none, compared_some}
use Rattle.lx_syntax.proofs.flat.compared.Goals as goal

pub returns-in-None : goal.returns-in-None
returns-in-None c = compared_none _ _ _ _ (c.in-None.ensures ∙ ap comparison_of c.sign_of.ensures)

pub returns-in-Some : goal.returns-in-Some
returns-in-Some c = compared_some _ _ _ _ _ (c.in-Some.ensures ∙ ap comparison_of c.sign_of.ensures)
