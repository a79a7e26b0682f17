use Rattle.std.proofs.Common.{refl}
use Rattle.lx_sim.proofs.worked.runs_are_worked.Goals as goal

pub returns : goal.returns
returns c = record {
  during = refl;
  now = refl;
  other = refl;
  each_step = refl;
  word = refl;
  past_the_end = refl;
  no_memory = refl;
}
