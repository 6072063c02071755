-- How far a tuple goes in the columns of a heading.
use Rattle.std.specs.Prelude.{ℕ, zero, suc, List, [], ◌∷◌, Option, Some, None}
use Rattle.ded_model.specs.declared.bound.Bound.{Bound}
use Rattle.ded_model.specs.declared.name.Column.{Column}
use Rattle.ded_model.specs.declared.slot.Sort.{Sort}
use Rattle.ded_model.specs.declared.slot.Sort.TheVariants.{Rat, Text}
use Rattle.ded_model.specs.Cell.{HoldsSomewhere, HoldsNowhere}
use Rattle.ded_model.specs.Row.{Atom, tuple_holds}
use Rattle.ded_model.specs.Width.{IsBoxNarrow}
use Rattle.ded_atoms.specs.Orders.{AreOrderAtoms}
use Rattle.ded_box.specs.Extents.{AreBounds}
use Rattle.ded_cells.specs.declared.extent.Extent.{Extent}
use Rattle.ded_cells.specs.declared.extent.Extent.TheVariants.{Nowhere, Within, Wide}

-- The tuple holds nowhere; or it holds somewhere, and these are the exact bounds of its rational columns, in order; or its bounds may
-- be too wide: it isn't narrow with all rational columns of the heading, and some row of it is no order row.
abbrev pub IsExtent : List Column → List Atom → Extent → Type 0
IsExtent h t Nowhere = HoldsNowhere (tuple_holds t)
IsExtent h t (Within spans) = HoldsSomewhere (tuple_holds t) × AreBounds (tuple_holds t) 0 h spans
IsExtent h t Wide = (IsBoxNarrow h (t ∷ []) → ⊥) × (AreOrderAtoms t → ⊥)

-- the bounds that stand first, or none of the empty list
abbrev pub first_span : List (Bound × Bound) → Option (Bound × Bound)
first_span [] = None
first_span (b ∷ bs) = Some b

-- the bounds behind the first; none where the list is empty
abbrev pub later_spans : List (Bound × Bound) → List (Bound × Bound)
later_spans [] = []
later_spans (b ∷ bs) = bs

-- the bounds of a column of this sort that comes next, where it is rational
abbrev pub span_of : Sort → List (Bound × Bound) → Option (Bound × Bound)
span_of Text bs = None
span_of Rat bs = first_span bs

-- the bounds of the columns behind it
abbrev pub spans_behind : Sort → List (Bound × Bound) → List (Bound × Bound)
spans_behind Text bs = bs
spans_behind Rat bs = later_spans bs

-- the bounds of column number i, counted from 0
abbrev pub span_at : List Column → List (Bound × Bound) → ℕ → Option (Bound × Bound)
span_at [] bs i = None
span_at (c ∷ cs) bs zero = span_of c.sort bs
span_at (c ∷ cs) bs (suc i) = span_at cs (spans_behind c.sort bs) i
