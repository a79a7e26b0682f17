use Rattle.std.proofs.Common.{◌≡◌, subst}
use Rattle.std.specs.Prelude.{IfOk}
use Rattle.lx_top.proofs.Endings.{plain_files}
use Rattle.lx_top.proofs.files.files_of_module.Goals as goal

pub returns : goal.returns
returns c = subst (λ fs. IfOk c.files_of.result (λ files. files ≡ fs)) (plain_files c.args.flat.design c.args.flat.top _ c.args.text c.system_of-system.ensures) c.files_of.ensures
