-- Quantifiers over slots round a formula.
use Rattle.std.specs.Prelude.{List, [], ◌∷◌}
use Rattle.ded_model.specs.declared.slot.Slot.{Slot}
use Rattle.ded_model.specs.Logic.{Logic, exists}
use Rattle.ded_model.specs.Point.{slot}

-- one for each of the slots, the first outermost
abbrev pub closing : {L : Type 0} → List Slot → Logic L → Logic L
closing [] f = f
closing (s ∷ ss) f = exists s.sort (slot s) (closing ss f)
