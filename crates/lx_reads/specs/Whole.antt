-- The net of a whole design.
use Rattle.std.specs.Prelude.{◌≡◌, ℕ, List, ◌++◌}
use Rattle.lx_circuit.specs.Places.{At}
use Rattle.lx_circuit.specs.Reads.{reads_block}
use Rattle.lx_fhdl.specs.Designs.{block}
use Rattle.lx_fhdl.specs.declared.design.Design.{Design}
use Rattle.lx_reads.specs.Drivings.{Driving, drivings_of}
use Rattle.lx_reads.specs.Net.{IsNet, net_drivings, net_reads}
use Rattle.lx_reads.specs.declared.net.Net.{Net}

-- the combinatorial statements are there
pub record IsCombNet (d : Design) (net : Net) : Type 0 where
  pub stands : IsNet d net
  pub drivings : net_drivings net ≡ drivings_of d 0 d.comb
  pub reads : (x y : ℕ) → net_reads d net x y ≡ reads_block x (At y) (block d d.comb)

-- this is driven too
pub record Drives (d : Design) (old new : Net) (more : List Driving) : Type 0 where
  pub stands : IsNet d new
  pub drivings : net_drivings new ≡ net_drivings old ++ more
