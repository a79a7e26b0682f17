-- Circuits with one port each are those worked by hand.
use Rattle.std.proofs.Common.{refl}
use Rattle.lx_memory.specs.Ports.{lowered}
use Rattle.lx_memory.specs.Worked.{AreWorked}

pub worked : AreWorked
unfolding lowered
worked = record {
  async = refl;
  write_first = refl;
  read_first = refl;
  no_change = refl;
  four_words = refl;
  read_alone_goes = refl;
  async_shown = refl;
  write_first_shown = refl;
  read_first_shown = refl;
  no_change_shown = refl;
  async_lowered = refl;
  write_first_lowered = refl;
  read_first_lowered = refl;
  no_change_lowered = refl;
}
