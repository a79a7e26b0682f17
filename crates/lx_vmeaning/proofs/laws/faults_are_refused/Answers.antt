use Rattle.std.proofs.Common.{refl, arith}
use Rattle.std.proofs.lemmas.Bool.{false≢true}
use Rattle.lx_vtext.specs.Printed.{number_text, literal_text, range_text, head_text, memory_text, set_text, initial_text, assign_text, always_text, module_text}
use Rattle.lx_vmeaning.specs.Samples.{s}
use Rattle.lx_vmeaning.specs.WorkedFaults.{y}
use Rattle.lx_vmeaning.proofs.Worked.{plain_meaning}
use Rattle.lx_vmeaning.proofs.laws.faults_are_refused.Goals as goal

pub returns : goal.returns
unfolding number_text literal_text range_text head_text memory_text set_text initial_text assign_text always_text module_text
returns c = record {
  plain_has_meaning = plain_meaning;
  plain_has_text = refl;
  declared_twice = λ h. false≢true h.names.declared_once;
  undeclared = λ h. false≢true h.names.assigns;
  memory_read_as_net = λ h. false≢true h.names.assigns;
  net_read_as_memory = λ h. false≢true h.names.assigns;
  select_past_the_top = λ h. false≢true h.names.assigns;
  select_turned = λ h. false≢true h.names.assigns;
  clock_read = λ h. false≢true h.names.assigns;
  register_assigned = λ h. false≢true h.names.assigns;
  wire_in_a_block = λ h. false≢true h.names.blocks;
  clock_is_no_input = λ h. false≢true h.names.blocks;
  net_in_an_initial_block = λ h. false≢true h.names.inits;
  wide_net = λ h. false≢true h.widths.decls;
  wide_memory = λ h. false≢true h.widths.decls;
  net_of_no_bits = λ h. false≢true h.widths.decls;
  expression_of_no_bits = λ h. false≢true h.widths.assigns;
  wide_expression = λ h. false≢true h.widths.assigns;
  wide_operand = λ h. false≢true h.widths.assigns;
  wide_amount = λ h. false≢true h.widths.assigns;
  wide_index = λ h. false≢true h.widths.assigns;
  wide_condition = λ h. false≢true h.widths.blocks;
  not_driven = λ h. false≢true h.drivers.decls;
  driven_twice = λ h. false≢true h.drivers.ports;
  driven_by_two_blocks = λ h. false≢true h.drivers.decls;
  input_driven = λ h. false≢true h.drivers.ports;
  memory_written_twice = λ h. false≢true h.drivers.decls;
  no_initial_block = λ h. false≢true h.blocks.memories;
  two_initial_blocks = λ h. false≢true h.blocks.memories;
  word_left_out = λ h. false≢true h.blocks.memories;
  words_turned = λ h. false≢true h.blocks.memories;
  word_twice = λ h. false≢true h.blocks.memories;
  empty_initial_block = λ h. false≢true h.blocks.inits;
  no_target = λ h. false≢true h.blocks.always;
  two_targets = λ h. false≢true h.blocks.always;
  nonblocking = λ h. false≢true h.blocks.always;
  blocking = λ h. false≢true h.blocks.always;
  begins_with_a_part = λ h. false≢true h.blocks.always;
  begins_with_a_net = λ h. false≢true h.blocks.always;
  begins_with_a_branch = λ h. false≢true h.blocks.always;
  net_reads_itself = λ h. let l = h.no_loop.falls y y refl in omega arith;
  block_reads_its_target = λ h. let l = h.no_loop.falls s s refl in omega arith;
  two_nets = λ h. let k = h.no_loop.falls s y refl in let l = h.no_loop.falls y s refl in omega arith;
}
