-- Columns read into slots.
use Rattle.std.specs.Prelude.{ℕ, ◌+◌, List, [], ◌∷◌}
use Rattle.ded_model.specs.declared.slot.Slot.{Slot}

-- the slot of each column from number i on, with the slot that it is read into
abbrev pub column_pairs : ℕ → List Slot → List (Slot × Slot)
column_pairs i [] = []
column_pairs i (s ∷ ss) = (record { number = i; sort = s.sort }, s) ∷ column_pairs (i + 1) ss
