use Rattle.std.proofs.Common.{◌≡◌, true, arith, subst, sym}
use Rattle.lx_export.specs.Ascii.{are_ascii}
use Rattle.lx_export.specs.Json.{region_entry}
use Rattle.lx_export.proofs.Joined.{entries_next, region_at, word_ascii}
use Rattle.lx_export.proofs.object.put_regions.Goals as goal

pub put-requires : goal.put-requires
put-requires c =
    subst (λ key. are_ascii key ≡ true) (sym c.as_bytes.ensures)
    (word_ascii c.region-item.result.name (region_at c.args.regions.now c.loop-region.region-index c.region-item.result c.requires (omega arith) c.region-item.is).0)

pub loop-region-preserved : goal.loop-region-preserved
loop-region-preserved c =
    entries_next region_entry _ _ _ c.args.regions.now c.loop-region.region-index c.region-item.result _ _ (omega arith) c.region-item.is
    c.as_bytes.ensures c.in_ok-value.ensures c.in_ok-put.ensures c.loop-region.invariant
