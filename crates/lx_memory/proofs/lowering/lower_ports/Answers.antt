use Rattle.std.proofs.Common.{◌∙◌}
use Rattle.lx_memory.proofs.Whole.{answered}
use Rattle.lx_memory.proofs.lowering.lower_ports.Goals as goal

pub returns : goal.returns
returns c =
    answered c.requires.keeps c.requires.alone (c.of-draft.ensures ∙ c.in_ok-copied_design.ensures) c.as_slice.ensures c.in_ok-lower_all.ensures c.stands.ensures c.as_slice-2.ensures c.in_ok-ports.ensures c.complete.ensures
