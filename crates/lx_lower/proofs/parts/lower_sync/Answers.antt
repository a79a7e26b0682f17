use Rattle.std.proofs.Common.{◌≡◌, [], ap, rules}
use Rattle.std.specs.Prelude.{List}
use Rattle.lx_fhdl.specs.Below.{StmtId}
use Rattle.lx_fhdl.specs.Designs.{stmts_of}
use Rattle.lx_plain.specs.Lines.{lines}
use Rattle.lx_lower.specs.Lists.{lists_of}
use Rattle.lx_lower.proofs.BySignal.{all_there, sync_there}
use Rattle.lx_lower.proofs.Listing.{list_is, parts_more, parts_none}
use Rattle.lx_flat.proofs.Pieces.{ready_for}
use Rattle.lx_lower.proofs.parts.lower_sync.Goals as goal

pub loop-domain-init : goal.loop-domain-init
loop-domain-init c = parts_none _ _ _ c.new-parts.ensures

pub lower_list-requires : goal.lower_list-requires
lower_list-requires c = ready_for [] c.requires c.loop-domain.invariant.grows (search rules)

pub invariant_of-own : goal.invariant_of-own
invariant_of-own c =
    let ids : c.in_ok-ids.ids ≡ stmts_of c.loop-domain.domain c.args.source.now.design.sync = rw (c.as_slice.ensures, c.design-design.ensures.is) at c.in_ok-ids.ensures in
    record { lower = rw (c.as_slice-in-loop-domain.ensures, c.stmts-bound.ensures) (all_there _ _ (sync_there _ c.loop-domain.domain _ c.design-design.ensures.keeps.keeps ids)) }

pub loop-domain-preserved : goal.loop-domain-preserved
loop-domain-preserved c =
    let ids : c.in_ok-ids.ids ≡ stmts_of c.loop-domain.domain c.args.source.now.design.sync = rw (c.as_slice.ensures, c.design-design.ensures.is) at c.in_ok-ids.ensures in
    let stmts = rw c.as_slice-in-loop-domain.ensures at c.in_ok-stmts.ensures in
    parts_more _ _ _ _ _ _ _ _ c.loop-domain.invariant
    (list_is _ _ _ _ _ _ _ (ap (λ (is : List StmtId). lists_of c.args.source.now.design is) ids) (λ k. ap (λ (is : List StmtId). lines c.args.source.now.design k is) ids) stmts) c.in_ok-push.ensures.ok
