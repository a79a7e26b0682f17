use Rattle.std.proofs.Common.{refl}
use Rattle.lx_machine.proofs.worked.tiny_is_worked.Goals as goal

pub returns : goal.returns
returns c = record {
  ram_first = refl;
  ram_whole = refl;
  ram_one_byte = refl;
  ram_top_byte = refl;
  ram_no_byte = refl;
  ram_read = refl;
  ram_past = refl;
  ram_past_acknowledged = refl;
  rom_read = refl;
  rom_kept = refl;
  slave_answers = refl;
  slave_word = refl;
  slave_cyc = refl;
  slave_other_cyc = refl;
  slave_other_stb = refl;
  raw_number = refl;
  raw_written = refl;
  raw_taken = refl;
  raw_kept = refl;
  raw_read = refl;
  raw_value = refl;
  status_offered = refl;
  status_read = refl;
  status_word = refl;
  answer_stays = refl;
  answer_goes = refl;
  nowhere = refl;
  field = refl;
  device = refl;
  device_first_word = refl;
  device_last_word = refl;
  reset_value = refl;
  reset_keeps_ram = refl;
  plain_written = refl;
  atomic_written = refl;
  plain_read = refl;
}
