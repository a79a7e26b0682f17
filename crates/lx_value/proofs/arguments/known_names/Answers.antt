use Rattle.std.proofs.Common.{◌∙◌, ap, arith}
use Rattle.std.specs.Prelude.{List, ℕ}
use Rattle.lx_value.specs.Seen.{with_new}
use Rattle.lx_value.proofs.Binding.{known_more}
use Rattle.lx_value.proofs.arguments.known_names.Goals as goal

pub loop-param-preserved : goal.loop-param-preserved
loop-param-preserved c = λ key.
    known_more c.args.params.now c.loop-param.param-index c.param-item.result c.loop-param.known c.add.new.self (omega arith) c.param-item.is
    (c.in_ok-add.ensures.ok ∙ ap (λ (n : List ℕ). with_new n c.loop-param.known) c.as_bytes.ensures) key
    ∙ c.loop-param.invariant key
