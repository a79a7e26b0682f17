use Rattle.std.proofs.Common.{refl}
use Rattle.lx_vtext.specs.Printed.{number_text, literal_text, range_text, head_text, memory_text, set_text, initial_text, assign_text, always_text, module_text}
use Rattle.lx_vprint.proofs.laws.forms_are_worked.Goals as goal

pub returns : goal.returns
unfolding number_text literal_text range_text head_text memory_text set_text initial_text assign_text always_text module_text
returns c = record { all = refl; none = refl }
