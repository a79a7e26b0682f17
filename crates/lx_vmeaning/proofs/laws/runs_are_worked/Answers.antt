use Rattle.std.proofs.Common.{refl}
use Rattle.lx_vtext.specs.Printed.{number_text, literal_text, range_text, head_text, memory_text, set_text, initial_text, assign_text, always_text, module_text}
use Rattle.lx_vmeaning.specs.Samples.{m, p, q, r, s}
use Rattle.lx_vmeaning.specs.WorkedRuns.{driven, three_steps, no_inputs, edges}
use Rattle.std.specs.Prelude.{true, false, [], ◌∷◌}
use Rattle.lx_vmeaning.proofs.Worked.{memory_meaning, clocks_meaning, memory_view, clocks_view}
use Rattle.lx_vmeaning.proofs.laws.runs_are_worked.Goals as goal

pub returns : goal.returns
unfolding number_text literal_text range_text head_text memory_text set_text initial_text assign_text always_text module_text
returns c = record {
  memory_has_meaning = memory_meaning;
  clocks_have_meaning = clocks_meaning;
  memory_has_text = refl;
  clocks_have_text = refl;
  first_words = λ v h. let is = memory_view [] (driven 0 1 0) v h in (is.words m 0, is.words m 1, is.words m 2, is.nets r);
  three_later = λ v h. let is = memory_view three_steps (driven 0 1 0) v h in (is.words m 0, is.words m 1, is.words m 2, is.words m 3, is.nets r);
  read_past = λ v h. (memory_view three_steps (driven 0 3 0) v h).nets r;
  signed_index = refl;
  first_nets = λ v h. let is = clocks_view [] no_inputs v h in (is.nets p, is.nets q, is.nets s);
  both_rise = λ v h. let is = clocks_view (edges true true ∷ []) no_inputs v h in (is.nets p, is.nets q, is.nets s);
  one_rises = λ v h. let is = clocks_view (edges false true ∷ edges false false ∷ []) no_inputs v h in (is.nets p, is.nets q, is.nets s);
}
