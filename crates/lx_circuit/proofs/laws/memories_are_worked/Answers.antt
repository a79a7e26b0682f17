use Rattle.std.proofs.Common.{refl}
use Rattle.lx_circuit.proofs.laws.memories_are_worked.Goals as goal

pub returns : goal.returns
returns c = record {
  address = refl;
  data_read = refl;
  first_word = refl;
  content_modulo = refl;
  missing_content = refl;
  first_kept = refl;
  last_word = refl;
  past_the_depth = refl;
  kept_value = refl;
  async = refl;
  async_past = refl;
  at_kept_address = refl;
  kept_data = refl;
  kept_data_too = refl;
  async_then = refl;
  new_word = refl;
  old_word = refl;
  held = refl;
  held_by_one_bit = refl;
  same_word = refl;
  word_read = refl;
  word_taken = refl;
  past_at_once = refl;
  past_write_first = refl;
  past_read_first = refl;
  address_stays = refl;
  data_stays = refl;
  word_stays = refl;
  nothing_written = refl;
  all_parts = refl;
  lower_part = refl;
  upper_part = refl;
  other_word = refl;
  beside_the_end = refl;
  later_port_wins = refl;
  earlier_port_alone = refl;
  later_port_alone = refl;
  both_addresses = refl;
  fetched = refl;
  fetched_bits = refl;
  fetched_shape = refl;
  fetched_faultless = refl;
  fetched_nothing = refl;
  fault_of_index = refl;
}
