use Rattle.std.proofs.Common.{refl}
use Rattle.lx_circuit.proofs.laws.reads_are_worked.Goals as goal

pub returns : goal.returns
returns c = record {
  value = refl;
  condition = refl;
  later_condition = refl;
  earlier_condition = refl;
  own_condition = refl;
  condition_of_others = refl;
  value_of_rest = refl;
  value_of_others = refl;
  first_of_rest = refl;
  second_of_rest = refl;
  condition_around = refl;
  condition_inside = refl;
  case_of_default = refl;
  case_of_arm = refl;
  case_of_others = refl;
  index_of_a_part = refl;
  index_of_items = refl;
  other_item = refl;
  itself = refl;
  assigned_elsewhere = refl;
  no_condition = refl;
  word_named = refl;
  word_of_another = refl;
  index_named = refl;
  no_signal_named = refl;
  nothing_kept_named = refl;
  async_address = refl;
  async_word = refl;
  async_kept = refl;
  write_first_address = refl;
  write_first_word = refl;
  write_first_kept = refl;
  read_first_word = refl;
  read_first_kept = refl;
  no_change_kept = refl;
  address_reads_nothing = refl;
}
