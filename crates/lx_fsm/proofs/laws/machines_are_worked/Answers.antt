use Rattle.std.proofs.Common.{refl}
use Rattle.lx_fsm.proofs.laws.machines_are_worked.Goals as goal

pub returns : goal.returns
returns c = record {
  first = refl;
  second = refl;
  stated_start = refl;
  first_start = refl;
  stays = refl;
  leaves = refl;
  returns = refl;
  last_wins = refl;
  led = refl;
  count = refl;
  nothing_now = refl;
  nothing_later = refl;
  comb = refl;
  sync = refl;
  there = refl;
  back = refl;
  no_rise = refl;
  no_states = refl;
  sound = refl;
  unknown = refl;
  unknown_all = refl;
}
