-- The exact bounds of all rational columns of a heading, over the points that pass a test.
use Rattle.std.specs.Prelude.{◌≡◌, ℕ, ◌+◌, ◌<◌, Bool, false, List, [], ◌∷◌}
use Rattle.ded_model.specs.declared.name.Column.{Column}
use Rattle.ded_model.specs.declared.slot.Sort.{Sort}
use Rattle.ded_model.specs.declared.slot.Sort.TheVariants.{Rat, Text}
use Rattle.ded_model.specs.declared.bound.Bound.{Bound}
use Rattle.ded_model.specs.declared.bound.BoxReply.{BoxReply}
use Rattle.ded_model.specs.declared.bound.BoxReply.TheVariants.{Nowhere, NoRational, Spans}
use Rattle.ded_model.specs.Bound.{lower, upper}
use Rattle.ded_model.specs.Cell.{HoldsSomewhere}
use Rattle.ded_model.specs.Interval.{IsExactBound}
use Rattle.ded_model.specs.Point.{Point, IsPoint}
use Rattle.ded_model.specs.Width.{rational_columns}
use Rattle.ded_box.specs.Intervals.{IsInterval}
use Rattle.ded_box.specs.Boxes.{hulls}

-- for a rational column at slot i the first bounds are its exact ones, values both, and the rest belongs to the others
abbrev pub BoundsAt : (Point → Bool) → ℕ → Sort → List (Bound × Bound) → (List (Bound × Bound) → Type 0) → Type 0
BoundsAt test i Text bs Others = Others bs
BoundsAt test i Rat [] Others = ⊥
BoundsAt test i Rat (b ∷ bs) Others =
    IsInterval b × IsExactBound test (record { number = i; sort = Rat }) lower b.0 × IsExactBound test (record { number = i; sort = Rat }) upper b.1 × Others bs

-- the exact bounds of each rational column in order, of the columns from slot i on
abbrev pub AreBounds : (Point → Bool) → ℕ → List Column → List (Bound × Bound) → Type 0
AreBounds test i [] [] = Unit {0}
AreBounds test i [] (b ∷ bs) = ⊥
AreBounds test i (c ∷ cs) bs = BoundsAt test i c.sort bs (AreBounds test (i + 1) cs)

-- of a test of points over a heading: it passes nowhere; or no column is rational; or the bounds of the rational ones
abbrev pub IsBox : (Point → Bool) → List Column → BoxReply → Type 0
IsBox test h Nowhere = (p : Point) → IsPoint p → test p ≡ false
IsBox test h NoRational = HoldsSomewhere test × (rational_columns h ≡ 0)
IsBox test h (Spans bs) = HoldsSomewhere test × (0 < rational_columns h) × AreBounds test 0 h bs

-- the least box that contains both, each the box of a test over one heading
abbrev pub covering : BoxReply → BoxReply → BoxReply
covering Nowhere b = b
covering NoRational b = NoRational
covering (Spans is) Nowhere = Spans is
covering (Spans is) NoRational = Spans is
covering (Spans is) (Spans js) = Spans (hulls is js)
