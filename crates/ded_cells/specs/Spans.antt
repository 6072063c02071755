-- How the span of a column is written: as one value, or between its bounds.
use Rattle.std.specs.Prelude.{ℕ, List, ◌∷◌, ◌++◌, Option, Some, None, codes, if◌then◌else◌}
use Rattle.ded_model.specs.declared.bound.Bound.{Bound}
use Rattle.ded_model.specs.declared.bound.Bound.TheVariants.{Infinite, Excluded, Included}
use Rattle.ded_model.specs.Bound.{Fraction}
use Rattle.ded_box.specs.Intervals.{may_meet}
use Rattle.ded_cells.specs.Decimals.{value_text}

-- a lower bound: a square bracket where it is attained, `(-inf` where there is none
abbrev pub lower_text : Bound → List ℕ
lower_text Infinite = codes "(-inf"
lower_text (Excluded f) = codes "(" ++ value_text f
lower_text (Included f) = codes "[" ++ value_text f

-- an upper bound: a square bracket where it is attained, `inf)` where there is none
abbrev pub upper_text : Bound → List ℕ
upper_text Infinite = codes "inf)"
upper_text (Excluded f) = value_text f ++ codes ")"
upper_text (Included f) = value_text f ++ codes "]"

-- the one value between two bounds: a lower one that is attained, and beyond which nothing is
abbrev pub value_in : Bound → Bound → Option Fraction
value_in Infinite u = None
value_in (Excluded f) u = None
value_in (Included f) u = if may_meet (Excluded f) u then None else Some f

-- `x=5` of one value, and else `x in [480, 540)`
abbrev pub span_with : List ℕ → Bound → Bound → Option Fraction → List ℕ
span_with name l u (Some f) = name ++ (61 ∷ value_text f)
span_with name l u None = name ++ (codes " in " ++ (lower_text l ++ (codes ", " ++ upper_text u)))

-- how the span between two bounds is written behind the name of its column
abbrev pub span_text : List ℕ → Bound → Bound → List ℕ
span_text name l u = span_with name l u (value_in l u)
