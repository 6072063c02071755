-- Boxes: lists of intervals, and the lists of values that lie in them.
use Rattle.std.specs.Prelude.{Bool, true, false, ◌&&◌, IsTrue, List, [], ◌∷◌}
use Rattle.std.specs.List.{AllByRecursion, list_all}
use Rattle.ded_model.specs.declared.bound.Bound.{Bound}
use Rattle.ded_model.specs.Bound.{Fraction, lower, upper}
use Rattle.ded_box.specs.Intervals.{IsPositive, IsInterval, is_within, has_value, intervals_meet, wider}

-- each fraction is a value
abbrev pub AreValues : List Fraction → Type 0
AreValues vs = AllByRecursion IsPositive vs

-- the fractions of all bounds are values
abbrev pub AreIntervals : List (Bound × Bound) → Type 0
AreIntervals is = AllByRecursion IsInterval is

-- the values lie in the box: there are as many as intervals, and each lies in its own
abbrev pub in_box : List (Bound × Bound) → List Fraction → Bool
in_box [] [] = true
in_box [] (v ∷ vs) = false
in_box (i ∷ is) [] = false
in_box (i ∷ is) (v ∷ vs) = is_within i v && in_box is vs

-- some values lie in both boxes
pub record Shared (a b : List (Bound × Bound)) : Type 0 where
  pub values : List Fraction
  pub positive : AreValues values
  pub first : IsTrue (in_box a values)
  pub second : IsTrue (in_box b values)

-- what lies in the second box lies in the first
abbrev pub Contains : List (Bound × Bound) → List (Bound × Bound) → Type 0
Contains a b = (vs : List Fraction) → AreValues vs → IsTrue (in_box b vs) → IsTrue (in_box a vs)

-- c is the least box that contains a and b
pub record IsCover (a b c : List (Bound × Bound)) : Type 0 where
  pub first : Contains c a
  pub second : Contains c b
  pub least : (d : List (Bound × Bound)) → AreIntervals d → Contains d a → Contains d b → Contains d c

-- ---- tests

-- each interval of the one shares a value with that of the other
abbrev pub boxes_meet : List (Bound × Bound) → List (Bound × Bound) → Bool
boxes_meet [] [] = true
boxes_meet [] (j ∷ js) = false
boxes_meet (i ∷ is) [] = false
boxes_meet (i ∷ is) (j ∷ js) = intervals_meet i j && boxes_meet is js

-- the least interval that contains both, where none of them is empty
abbrev pub hull : Bound × Bound → Bound × Bound → Bound × Bound
hull i j = (wider lower i.0 j.0, wider upper i.1 j.1)

-- the same of each interval of two boxes
abbrev pub hulls : List (Bound × Bound) → List (Bound × Bound) → List (Bound × Bound)
hulls [] js = []
hulls (i ∷ is) [] = []
hulls (i ∷ is) (j ∷ js) = hull i j ∷ hulls is js

-- no interval is empty
abbrev pub has_values : List (Bound × Bound) → Bool
has_values is = list_all has_value is
