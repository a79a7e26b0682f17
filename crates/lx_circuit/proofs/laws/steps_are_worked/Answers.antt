use Rattle.std.proofs.Common.{refl}
use Rattle.lx_circuit.proofs.laws.steps_are_worked.Goals as goal

pub returns : goal.returns
returns c = record {
  input = refl;
  combinatorial = refl;
  registered = refl;
  other_domain = refl;
  reset_input = refl;
  other_reset_input = refl;
  given = refl;
  undriven = refl;
  unknown = refl;
  first_value = refl;
  input_value = refl;
  combinatorial_value = refl;
  registered_value = refl;
  reset_value = refl;
  given_value = refl;
  undriven_value = refl;
  first_swapped = refl;
  second_swapped = refl;
  first_holds = refl;
  second_takes = refl;
  second_holds = refl;
  first_reset = refl;
  other_reset = refl;
  no_rise = refl;
  without_reset = refl;
}
