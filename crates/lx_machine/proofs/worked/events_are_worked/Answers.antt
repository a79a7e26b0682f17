use Rattle.std.proofs.Common.{refl}
use Rattle.lx_machine.proofs.worked.events_are_worked.Goals as goal

pub returns : goal.returns
returns c = record {
  fired = refl;
  trigger_wins = refl;
  cleared = refl;
  zero_kept = refl;
  other_kept = refl;
  clear_shown = refl;
  rises = refl;
  rises_at_once = refl;
  no_fall = refl;
  falls = refl;
  no_rise = refl;
  level_shown = refl;
  level_gone = refl;
  not_enabled = refl;
  enabled = refl;
  line_three = refl;
}
