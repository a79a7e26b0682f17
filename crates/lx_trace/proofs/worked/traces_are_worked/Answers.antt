use Rattle.std.proofs.Common.{refl}
use Rattle.lx_fhdl.specs.Designs.{circuit_of}
use Rattle.lx_trace.specs.Lines.{saying}
use Rattle.lx_trace.specs.Numbers.{counting, digits_value, number}
use Rattle.lx_trace.specs.Pieces.{pieces}
use Rattle.lx_trace.specs.Traces.{trace_of}
use Rattle.lx_trace.proofs.worked.traces_are_worked.Goals as goal

pub returns : goal.returns
unfolding circuit_of saying counting digits_value number pieces trace_of
returns c = record {
  cut = refl;
  zero = refl;
  negative = refl;
  hexadecimal = refl;
  negative_zero = refl;
  leading_zero = refl;
  no_digit = refl;
  upper_prefix = refl;
  plus = refl;
  none = refl;
  count = refl;
  no_steps = refl;
  empty = refl;
  some = refl;
  ticks = refl;
  reset = refl;
  too_great = refl;
  unsigned_pattern = refl;
  no_input = refl;
  no_signal = refl;
  no_clock = refl;
  no_domain = refl;
  twice = refl;
  name_before_value = refl;
  number_before_name = refl;
  no_domains = refl;
  not_run = refl;
  two_blanks = refl;
  blank_at_the_end = refl;
  tab = refl;
  script_alone = refl;
  most = refl;
  one_more = refl;
  name_before_steps = refl;
}
