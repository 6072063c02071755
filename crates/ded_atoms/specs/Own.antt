-- Atoms with a slot of their own.
use Rattle.std.specs.Prelude.{◌≡◌, true, false, List, ◌∷◌, ◌++◌}
use Rattle.ded_model.specs.declared.slot.Slot.{Slot}
use Rattle.ded_model.specs.declared.tuple.ThemeAtom.{ThemeAtom}
use Rattle.ded_model.specs.declared.tuple.ThemeAtom.TheVariants.{EqText, NeText, EqSlot, NeSlot}
use Rattle.ded_model.specs.Row.{Atom, atom_mentions, tuple_mentions}

-- the second one of two slots, and else the only one
abbrev pub last_slot : ThemeAtom → Slot
last_slot (EqText s t) = s
last_slot (NeText s t) = s
last_slot (EqSlot s t) = t
last_slot (NeSlot s t) = t

-- the atom mentions a slot that none before it and none after it does
abbrev pub HasOwnSlot : List Atom → Atom → List Atom → Type 0
HasOwnSlot before a after = (s : Slot) × (atom_mentions a s ≡ true) × (tuple_mentions (before ++ after) s ≡ false)

-- so does each of the list
abbrev pub HaveOwnSlots : List Atom → Type 0
HaveOwnSlots t = (before : List Atom) (a : Atom) (after : List Atom) → t ≡ before ++ a ∷ after → HasOwnSlot before a after
