-- What a change of the program stands for.
use Rattle.ded_catalog.specs.Changing.{none, insertion, deletion}
use Rattle.ded_catalog.specs.Changing as changing
use Rattle.ded_catalog.specs.declared.change.PendingChange.{PendingChange}
use Rattle.ded_catalog.specs.declared.change.PendingChange.TheVariants.{Nothing, Insert, Delete}

-- what a change of the program stands for: none, an insertion or a deletion
abbrev pub change_form : PendingChange → changing.PendingChange
change_form Nothing = none
change_form (Insert n t) = insertion n.now t.now
change_form (Delete n k) = deletion n.now k
