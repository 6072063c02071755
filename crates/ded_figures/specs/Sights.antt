-- What there is to be drawn of tuples.
use Rattle.std.specs.Prelude.{◌≡◌, ℕ, List, [], ◌∷◌, ◌++◌}
use Rattle.ded_model.specs.declared.name.Column.{Column}
use Rattle.ded_model.specs.declared.tuple.ThemeAtom.TheVariants.{EqText, NeText, EqSlot, NeSlot}
use Rattle.ded_model.specs.declared.tuple.BothAtom.TheVariants.{First, Second}
use Rattle.ded_model.specs.Cell.{HoldsSomewhere, HoldsNowhere}
use Rattle.ded_model.specs.Row.{Atom, tuple_holds}
use Rattle.ded_model.specs.Width.{IsNarrowList}
use Rattle.ded_print.specs.Tuples.{column_names, tuple_text}
use Rattle.ded_shapes.specs.Projections.{AreProjected}
use Rattle.ded_figures.specs.Axes.{Axes}
use Rattle.ded_figures.specs.Figure.{Figure}
use Rattle.ded_figures.specs.declared.sight.Sight.{Sight}
use Rattle.ded_figures.specs.declared.sight.Sight.TheVariants.{Nowhere, Wide, Seen}

-- the text of the first atom that gives one to a column, empty where none does
abbrev pub label_of : List Atom → List ℕ
label_of [] = []
label_of (First r ∷ atoms) = label_of atoms
label_of (Second (EqText s t) ∷ atoms) = t
label_of (Second (NeText s t) ∷ atoms) = label_of atoms
label_of (Second (EqSlot s t) ∷ atoms) = label_of atoms
label_of (Second (NeSlot s t) ∷ atoms) = label_of atoms

-- The figure shows the tuple over the two columns: the tuple holds somewhere, and the rows hold at a point exactly where it does with
-- some values of all other columns.
pub record IsFigure (axes : Axes) (h : List Column) (t : List Atom) (f : Figure) : Type 0 where
  pub over : f.axes ≡ axes
  pub somewhere : HoldsSomewhere (tuple_holds t)
  pub rows : AreProjected axes.x axes.y (tuple_holds t) f.rows
  pub label : f.label ≡ label_of t
  pub title : f.title ≡ tuple_text (column_names h) t

-- nothing of a tuple that holds nowhere, else a figure, unless the tuple isn't narrow
abbrev pub IsSight : Axes → List Column → List Atom → Sight → Type 0
IsSight axes h t Nowhere = HoldsNowhere (tuple_holds t)
IsSight axes h t Wide = IsNarrowList t → ⊥
IsSight axes h t (Seen f) = IsFigure axes h t f

-- one for each tuple, in order
abbrev pub AreSights : Axes → List Column → List (List Atom) → List Sight → Type 0
AreSights axes h [] [] = Unit {0}
AreSights axes h [] (s ∷ ss) = ⊥
AreSights axes h (t ∷ ts) [] = ⊥
AreSights axes h (t ∷ ts) (s ∷ ss) = IsSight axes h t s × AreSights axes h ts ss

-- these stand behind the old ones
pub record AddSights (axes : Axes) (h : List Column) (ts : List (List Atom)) (old new : List Sight) : Type 0 where
  pub added : List Sight
  pub sights : AreSights axes h ts added
  pub is : new ≡ old ++ added
