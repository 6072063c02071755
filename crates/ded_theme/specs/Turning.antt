-- Text atoms over other slots, and turned ones.
use Rattle.std.specs.Prelude.{true, false, List}
use Rattle.ded_model.specs.declared.slot.Slot.{Slot}
use Rattle.ded_model.specs.declared.tuple.ThemeAtom.{ThemeAtom}
use Rattle.ded_model.specs.declared.tuple.ThemeAtom.TheVariants.{EqText, NeText, EqSlot, NeSlot}
use Rattle.ded_model.specs.Renaming.{renamed}
use Rattle.ded_theme.specs.Replacing.{text_atom, slots_atom}

-- each slot replaced as the pairs say
abbrev pub renamed_atom : List (Slot × Slot) → ThemeAtom → ThemeAtom
renamed_atom map (EqText s t) = text_atom true (renamed map s) t
renamed_atom map (NeText s t) = text_atom false (renamed map s) t
renamed_atom map (EqSlot s t) = slots_atom true (renamed map s) (renamed map t)
renamed_atom map (NeSlot s t) = slots_atom false (renamed map s) (renamed map t)

-- the disequality for an equality, and the other way round
abbrev pub turned_atom : ThemeAtom → ThemeAtom
turned_atom (EqText s t) = NeText s t
turned_atom (NeText s t) = EqText s t
turned_atom (EqSlot s t) = NeSlot s t
turned_atom (NeSlot s t) = EqSlot s t
