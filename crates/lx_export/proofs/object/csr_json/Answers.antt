use Rattle.std.proofs.Common.{◌∙◌}
use Rattle.serde_json.specs.View.{view}
use Rattle.lx_export.proofs.Files.{json_joined}
use Rattle.lx_export.proofs.object.csr_json.Goals as goal

pub returns : goal.returns
returns c =
    json_joined c.args.s.now.map c.args.s.now.placement c.args.s.now.constants (view c.in_ok-value.value)
    c.as_bytes.result.now c.new-out.result c.word.new.self c.word-2.new.self
    c.in_ok-value.ensures (λ h. c.as_bytes.ensures.value ∙ c.in_ok-text.ensures.text h) c.new-out.ensures c.in_ok-word.ensures.ok c.in_ok-word-2.ensures.ok
