use Rattle.std.proofs.Common.{◌∙◌, ap}
use Rattle.serde_json.specs.View.{members_view}
use Rattle.lx_export.proofs.Files.{members_joined}
use Rattle.lx_export.proofs.object.value_of_map.Goals as goal

pub returns : goal.returns
returns c =
    c.from.ensures ∙ members_joined c.args.s.now.map c.args.s.now.placement c.args.s.now.constants _ _ _ _ _ _ _ _ _
    (ap members_view c.new-object.ensures.empty) c.in_ok-put.ensures c.in_ok-put-2.ensures c.in_ok-put-3.ensures c.in_ok-put-4.ensures
    c.in_ok-constants.ensures c.in_ok-bases.ensures c.in_ok-registers.ensures c.in_ok-memories.ensures
