-- The rows worked by hand.
use Rattle.std.proofs.Common.{refl}
use Rattle.lx_csr.specs.Names.{bare}
use Rattle.lx_csr.specs.Collected.{top_parts}
use Rattle.lx_soc.specs.Worked.{AreWorked}

pub rows : AreWorked
unfolding bare top_parts
rows = record {
  banks = refl;
  managers = refl;
  interrupts = refl;
  unwished = refl;
  rams = refl;
}
