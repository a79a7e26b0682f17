use Rattle.lx_leaves.proofs.values.evaluated.Given as goal

abbrev pub ghosts-one_constant : goal.ghosts-one_constant
ghosts-one_constant a = record { name = a.blank.name; parts = a.blank.parts }
