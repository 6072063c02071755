use Rattle.ded_axes.proofs.parts.+scaled.Given as goal

-- proposed from what the function passes where it calls itself
abbrev pub decreases-scaled : goal.decreases-scaled
decreases-scaled l = l.count
