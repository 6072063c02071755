-- Tuples that a relation may store.
use Rattle.std.specs.Prelude.{◌≤◌}
use Rattle.ded_model.specs.Catalogue.{Catalogue}
use Rattle.ded_model.specs.Known.{IsTupleOver}
use Rattle.ded_model.specs.Width.{tuple_length}
use Rattle.ded_resolve.specs.declared.checked.Checked.{Checked}
use Rattle.ded_resolve.specs.declared.checked.Checked.TheVariants.{Insert}
use Rattle.ded_model.specs.Entries.{columns_in}

-- the tuple of an insert is over the columns of its relation, with numbers of at most 63 digits
abbrev pub IsStorable : Catalogue → Checked → Type 0
IsStorable c (Insert m t) = IsTupleOver (columns_in c m) t × (tuple_length t ≤ 63)
IsStorable c _ = Unit {0}
