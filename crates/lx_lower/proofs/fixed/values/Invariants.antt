use Rattle.lx_lower.proofs.fixed.values.Given as goal

abbrev pub ghosts-count_values : goal.ghosts-count_values
ghosts-count_values a = record { name = a.blank.name; parts = a.blank.parts }
