use Rattle.std.proofs.Common.{◌∙◌}
use Rattle.ded_ranges.proofs.Sums.{may_hold_sound}
use Rattle.ded_ranges.proofs.limit.may_hold.Goals as goal

pub returns-clause-sound : goal.returns-clause-sound
returns-clause-sound c = λ v d p h m. c.each_may_meet.ensures ∙ may_hold_sound c.args.reach.now v d c.args.limits.now p h m
