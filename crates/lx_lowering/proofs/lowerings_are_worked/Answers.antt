use Rattle.std.proofs.Common.{refl}
use Rattle.lx_lowering.specs.Lowering.{lowered}
use Rattle.lx_lowering.proofs.lowerings_are_worked.Goals as goal

pub returns : goal.returns
unfolding lowered
returns c = record {
  picked = refl;
  picked_by_bit = refl;
  picked_inside = refl;
  word = refl;
  word_assigned = refl;
  shifted_far = refl;
  shifted_out = refl;
  shifted_near = refl;
  shifted_sum = refl;
  shifted_by_signal = refl;
  shifted_left = refl;
  branches = refl;
  lone_branch = refl;
  no_branch = refl;
  branch_inside = refl;
  nothing_inside = refl;
  arms = refl;
  no_arm = refl;
  parts = refl;
  parts_of_few_bits = refl;
  items = refl;
  item_and_part = refl;
  lone_item = refl;
  own_of_u = refl;
  own_of_s = refl;
  own_of_q = refl;
  own_of_r = refl;
  constant_bits = refl;
  constant_choice = refl;
  constant_signed = refl;
  no_constant = refl;
  read_value = refl;
  read_condition = refl;
  read_word = refl;
  circuit = refl;
}
