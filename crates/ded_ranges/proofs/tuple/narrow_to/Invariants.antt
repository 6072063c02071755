use Rattle.std.proofs.Common.{◌≡◌, true, take}
use Rattle.ded_model.specs.Point.{Point}
use Rattle.ded_model.specs.Row.{tuple_holds}
use Rattle.ded_ranges.specs.Reaches.{Lies}
use Rattle.ded_ranges.specs.Windows.{column_value}
use Rattle.ded_ranges.proofs.tuple.narrow_to.Given as goal

abbrev pub invariant-loop-i : goal.invariant-loop-i
invariant-loop-i l = (p : Point) → Lies l.initial.reach (column_value p) p.den → tuple_holds (take l.i l.atoms) p ≡ true → Lies l.reach (column_value p) p.den
