use Rattle.lx_csr.proofs.faults.is_taken.Goals.{then-headers, else-headers}
use Rattle.std.proofs.Common.{◌∙◌, ap, is_some}
use Rattle.lx_csr.proofs.Taking.{not_word, wished_name}
use Rattle.lx_csr.proofs.faults.is_taken.Goals as goal

pub returns-else-is_c_word : goal.returns-else-is_c_word
returns-else-is_c_word c =
    c.is_some.ensures ∙ (ap is_some c.get.ensures ∙ elim c.if-headers.branch [
      | then-headers w ↦ not_word c.args.headers c.args.taken.now c.args.name.now c.if-headers.value w.if-headers.true (w.value-is ∙ w.is_c_word.ensures) c.if-is_c_word.false
      | else-headers w ↦ wished_name c.args.headers c.args.taken.now c.args.name.now w.if-headers.false
    ])
