-- Where a slot has exact bounds, some point satisfies the rows: one that attains the lower one, or one near it.
use Rattle.std.proofs.Common.{arith}
use Rattle.std.specs.Prelude.{pos, Bool}
use Rattle.std.proofs.lemmas.Int.{ints}
use Rattle.ded_model.specs.declared.slot.Slot.{Slot}
use Rattle.ded_model.specs.declared.bound.Bound.{Bound}
use Rattle.ded_model.specs.declared.bound.Bound.TheVariants.{Infinite, Excluded, Included}
use Rattle.ded_model.specs.Point.{Point}
use Rattle.ded_model.specs.Cell.{HoldsSomewhere}
use Rattle.ded_model.specs.Bound.{lower, upper}
use Rattle.ded_model.specs.Interval.{IsExactBound}
use Rattle.ded_box.specs.Intervals.{HasPositive}
use Rattle.ded_box.proofs.Gaps.{outside_decides, beyond, beyond-outside}

pub exact_somewhere : (test : Point → Bool) (s : Slot) (b : Bound) → HasPositive b → IsExactBound test s lower b → HoldsSomewhere test
exact_somewhere test s Infinite p x = let o = x (record { num = pos 0; den = pos 1 }) (omega (arith, ints)) in (o.0, o.1, o.2)
exact_somewhere test s (Excluded f) p x =
    let o = x.near (beyond upper f) p ((outside_decides lower f (beyond upper f)).1 (beyond-outside upper f p)) in
    (o.0, o.1, o.2)
exact_somewhere test s (Included f) p x = let a = x.attained in (a.0, a.1, a.2)

-- its fraction, if it has one, is positive
pub somewhere : (test : Point → Bool) (s : Slot) (b : Bound) → IsExactBound test s lower b → HoldsSomewhere test
somewhere test s Infinite x = exact_somewhere test s Infinite tt x
somewhere test s (Excluded f) x = exact_somewhere test s (Excluded f) x.positive x
somewhere test s (Included f) x = exact_somewhere test s (Included f) x.positive x
