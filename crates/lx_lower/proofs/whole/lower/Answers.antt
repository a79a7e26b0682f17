use Rattle.std.proofs.Common.{◌∙◌, [], rules, arith}
use Rattle.lx_exprs.specs.Exprs.{read}
use Rattle.lx_flat.specs.Ready.{IsReady}
use Rattle.lx_lower.proofs.Lowerings.{finished_as, is_lowering}
use Rattle.lx_flat.proofs.Pieces.{ready_for}
use Rattle.lx_lower.proofs.whole.lower.Goals as goal

pub new-source-requires : goal.new-source-requires
new-source-requires c =
    let own = c.in_ok-draft.ensures in
    rw (c.as_slice-4.ensures, c.as_slice-5.ensures) (record { keeps = c.requires; sized = own.shapes; most = omega (arith, own.long) })

pub lower_comb-requires : goal.lower_comb-requires
lower_comb-requires c =
    let own = c.in_ok-draft.ensures in
    let ready : IsReady (read c.args.design.now c.in_ok-draft.field-0) c.in_ok-draft.field-0.draft [] = record { lowered = own.lowered; all = own.long; owned = search rules } in
    rw (c.new-source.ensures, c.as_slice-4.ensures, c.as_slice-5.ensures) ready

pub lower_sync-requires : goal.lower_sync-requires
lower_sync-requires c =
    let own = c.in_ok-draft.ensures in
    let first : IsReady (read c.args.design.now c.in_ok-draft.field-0) c.in_ok-draft.field-0.draft [] = record { lowered = own.lowered; all = own.long; owned = search rules } in
    let ready : IsReady c.new-source.result c.in_ok-draft.field-0.draft [] = rw (c.new-source.ensures, c.as_slice-4.ensures, c.as_slice-5.ensures) first in
    ready_for [] ready c.in_ok-comb.ensures.grows (search rules)

pub returns : goal.returns
returns c =
    let own = c.in_ok-draft.ensures in
    let comb = rw c.new-source.ensures at c.in_ok-comb.ensures in
    let sync = rw c.new-source.ensures at c.in_ok-sync.ensures in
    rw c.finish.ensures.is
    (is_lowering c.args.design.now c.lower_sync.new.draft _ _ _ _ _ c.requires (sync.grows.signals ∙ comb.grows.signals ∙ own.lowered.signals) (sync.grows.memories ∙ comb.grows.memories ∙ own.lowered.memories)
    (finished_as _ _ _ _ _ _ c.finish.ensures.keeps c.finish.ensures.plain comb sync)
    (c.in_ok-domains.ensures ∙ c.as_slice.ensures) (c.in_ok-ports.ensures ∙ c.as_slice-2.ensures) (c.in_ok-ios.ensures ∙ c.as_slice-3.ensures))
