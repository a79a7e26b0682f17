use Rattle.std.proofs.Common.{refl}
use Rattle.lx_machine.proofs.worked.storages_are_worked.Goals as goal

pub returns : goal.returns
returns c = record {
  words = refl;
  numbers = refl;
  between = refl;
  whole = refl;
  read_back = refl;
  atomic_between = refl;
  atomic_whole = refl;
  past_stored = refl;
  next_acknowledged = refl;
  next_read = refl;
  past_acknowledged = refl;
  past_no_error = refl;
  past_read = refl;
  null_error = refl;
  null_no_answer = refl;
  null_word = refl;
  not_yet = refl;
  one_over = refl;
  top_bit = refl;
  narrow_words = refl;
  narrow_numbers = refl;
  narrow_back = refl;
  little_words = refl;
  little_numbers = refl;
  little_back = refl;
  first_of_twelve = refl;
  second_of_twelve = refl;
  strobe_offered = refl;
  strobe_after = refl;
  strobe_of_first = refl;
  strobe_of_read = refl;
}
