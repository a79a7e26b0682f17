use Rattle.std.proofs.Common.{◌∙◌, ap, sym}
use Rattle.lx_value.specs.Seen.{are_new}
use Rattle.lx_value.proofs.Binding.{distinct_is, names_of}
use Rattle.lx_value.proofs.Repeats.{Names}
use Rattle.lx_value.proofs.arguments.have_distinct_names.Goals as goal

pub loop-param-init : goal.loop-param-init
loop-param-init c = sym (distinct_is c.args.params.now) ∙ ap (λ (seen : Names). are_new seen (names_of c.args.params.now)) (sym c.new-seen.ensures)
