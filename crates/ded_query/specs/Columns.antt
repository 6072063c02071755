-- Slots read as the columns that are read into them.
use Rattle.std.specs.Prelude.{ℕ, ◌+◌, List, [], ◌∷◌}
use Rattle.ded_model.specs.declared.slot.Slot.{Slot}

-- each slot with its column, by number from i on
abbrev pub slot_columns : ℕ → List Slot → List (Slot × Slot)
slot_columns i [] = []
slot_columns i (s ∷ ss) = (s, record { number = i; sort = s.sort }) ∷ slot_columns (i + 1) ss
