use Rattle.std.proofs.Common.{◌++◌, ◌∷◌, [], ◌∙◌, List, arith, sym}
use Rattle.std.proofs.Math.Path.{ap₂}
use Rattle.lx_description.specs.declared.registers.Field.{Field}
use Rattle.lx_csr.proofs.Steps.{fields_more, named_field}
use Rattle.lx_csr.proofs.gathering.source_fields.Goals as goal

pub loop-i-preserved : goal.loop-i-preserved
loop-i-preserved c =
    c.in_ok-push.ensures.ok ∙ (ap₂ (λ (fs : List Field) n. fs ++ named_field c.loop-i.i n ∷ []) c.loop-i.invariant c.in_ok-copied.ensures
    ∙ sym (fields_more c.args.sources.now c.loop-i.i c.index-sources-i.result (omega arith) c.index-sources-i.is))
