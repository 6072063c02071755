use Rattle.ded_algebra.proofs.lending.near_in.Given as goal

abbrev pub ghosts-near_over : goal.ghosts-near_over
ghosts-near_over g a = record { name = a.blank.name; parts = a.blank.parts }
