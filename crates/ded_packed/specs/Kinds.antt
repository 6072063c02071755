-- The kind of atom that a byte stands for.
use Rattle.std.specs.Prelude.{ℕ, ◌==◌, if◌then◌else◌}
use Rattle.ded_model.specs.declared.row.RowOp.TheVariants.{Zero, AtMost, Below}
use Rattle.ded_packed.specs.declared.kind.Kind.{Kind}
use Rattle.ded_packed.specs.declared.kind.Kind.TheVariants.{Row, EqText, NeText, EqSlot, NeSlot}

-- 0, 1 and 2 stand for rows that are 0, at most 0 and below 0, 3 and 4 for a slot that has a text or doesn't have it, 5
-- for two slots with the same text, and all above for two slots with different ones
abbrev pub kind_of : ℕ → Kind
kind_of byte =
    if byte == 0 then Row Zero else
    (if byte == 1 then Row AtMost else
    (if byte == 2 then Row Below else
    (if byte == 3 then EqText else
    (if byte == 4 then NeText else
    (if byte == 5 then EqSlot else NeSlot)))))
