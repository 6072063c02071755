-- Entries of a catalogue whose rows are short.
use Rattle.std.specs.Prelude.{◌≡◌, false}
use Rattle.ded_model.specs.Logic.{some_atom}
use Rattle.ded_model.specs.Plain.{IsPlain}
use Rattle.ded_model.specs.LongRows.{is_long_atom}
use Rattle.ded_model.specs.Catalogue.{Entry, relation, view}

-- no comparison and no argument of a view's formula has a long row, and its sums are plain; nothing of a relation
abbrev pub HasShortRows : Entry → Type 0
HasShortRows (relation n h m ts) = Unit {0}
HasShortRows (view n h f) = IsPlain f × (some_atom is_long_atom f ≡ false)
