-- Names of slots that the code gives.
use Rattle.ded_print.specs.declared.naming.ColumnNames.{ColumnNames}
use Rattle.ded_print.specs.declared.naming.SlotNumbers.{SlotNumbers}
use Rattle.ded_print.specs.Tuples.{Names, column_names, slot_names}

-- slot number i is called as column i
abbrev pub names_of : ColumnNames → Names
names_of n = column_names n.columns.now

-- slot number i is called `v` and i
abbrev pub numbers_of : SlotNumbers → Names
numbers_of n = slot_names
