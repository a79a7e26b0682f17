use Rattle.std.proofs.Common.{subst, sym}
use Rattle.lx_fhdl.specs.Keeping.{EachOf}
use Rattle.std.specs.Prelude.{flat_map}
use Rattle.lx_csr.specs.Collected.{part_peripheral}
use Rattle.lx_csr.specs.Gathered.{IsRoomy, IsSized}
use Rattle.lx_csr.proofs.Counting.{nested_of}
use Rattle.lx_csr.proofs.Peripherals.{top_roomy, top_sized}
use Rattle.lx_csr.proofs.collecting.gather.Goals as goal

pub gather_parts-requires-clause-nested : goal.gather_parts-requires-clause-nested
gather_parts-requires-clause-nested c = nested_of c.args.d.now c.requires

pub gather_parts-requires-clause-sized : goal.gather_parts-requires-clause-sized
gather_parts-requires-clause-sized c =
    subst (λ ps. EachOf IsSized ps) (sym c.top_parts.ensures) (top_sized c.args.d.now c.requires)

pub gather_parts-requires-clause-room : goal.gather_parts-requires-clause-room
gather_parts-requires-clause-room c =
    subst (λ ps. IsRoomy (flat_map (part_peripheral c.args.d.now.modules) ps)) (sym c.top_parts.ensures) (top_roomy c.args.d.now c.requires)
