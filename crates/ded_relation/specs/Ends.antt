-- Ranges of the values of slots at the points that pass a test, and reaches that are narrowed to these.
use Rattle.std.specs.Prelude.{◌≡◌, Bool, true, List}
use Rattle.ded_model.specs.declared.slot.Slot.{Slot}
use Rattle.ded_model.specs.Point.{Point, IsPoint, slot, number_at}
use Rattle.ded_ranges.specs.declared.reach.Range.{Range}
use Rattle.ded_ranges.specs.Reaches.{IsIn}
use Rattle.ded_ranges.specs.Tuples.{IsReachOf}

-- the range contains the value of the slot at each point that passes the test
abbrev pub IsRangeOf : Range → Slot → (Point → Bool) → Type 0
IsRangeOf r s test = (p : Point) → IsPoint p → test p ≡ true → IsIn r (number_at p (slot s)) p.den

-- what was a reach of the points that pass the test is one yet
abbrev pub Tightens : (Point → Bool) → List Range → List Range → Type 0
Tightens test old new = IsReachOf old test → IsReachOf new test
