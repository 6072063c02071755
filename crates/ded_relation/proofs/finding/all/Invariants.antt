use Rattle.ded_relation.proofs.finding.all.Given as goal

abbrev pub ghosts-all_over : goal.ghosts-all_over
ghosts-all_over a = record { name = a.blank.name; parts = a.blank.parts }
