-- What the laws on orderly formulas say.
use Rattle.std.proofs.Common.{◌≢◌, List, [], ◌∷◌}
use Rattle.std.specs.Prelude.{ℤ}
use Rattle.std.specs.List.{AllByRecursion}
use Rattle.ded_model.specs.declared.name.Column.{Column}
use Rattle.ded_model.specs.declared.tuple.BothAtom.TheVariants.{First, Second}
use Rattle.ded_model.specs.Catalogue.{Catalogue}
use Rattle.ded_model.specs.Entries.{known}
use Rattle.ded_model.specs.Form.{Form}
use Rattle.ded_model.specs.Known.{IsAccepted, IsWellFormed}
use Rattle.ded_model.specs.Lines.{Line, In, IsSubset, row_lines, atoms_lines, tuples_lines}
use Rattle.ded_model.specs.Measure.{goal_lines, measures, IsTight}
use Rattle.ded_model.specs.Normal.{IsNormalTuple}
use Rattle.ded_model.specs.Row.{Atom}
use Rattle.ded_model.specs.Slotted.{goal_of}
use Rattle.ded_model.proofs.Members.{In-left, In-right}
use Rattle.ded_width.specs.Orderly.{IsOrderly, IsShortReach, IsOrdered, AreOrdered, reached_points}
use Rattle.ded_width.proofs.Names.{tuple_good, formula_calm}
use Rattle.ded_width.proofs.Rows.{shapes_row, shape_ordered}
use Rattle.ded_width.proofs.Shapes.{AreShapes}
use Rattle.ded_width.proofs.Ties.{AreGoodRows}

pub orderly_tight : (c : Catalogue) → IsWellFormed c → (h : List Column) (f : Form) → IsAccepted (known c) h f → IsOrderly c h f → IsShortReach c h f → IsTight c h f
unfolding IsOrderly IsShortReach IsTight
orderly_tight c w h f a o s = (formula_calm c w h f a o s).tight

orderly_shapes : (c : Catalogue) → IsWellFormed c → (h : List Column) (f : Form) → IsAccepted (known c) h f → IsOrderly c h f → IsShortReach c h f
    → AreShapes (reached_points c h f) (goal_lines (measures c) (goal_of h f))
unfolding IsOrderly IsShortReach reached_points
orderly_shapes c w h f a o s = (formula_calm c w h f a o s).shapes

pub orderly_lines : (c : Catalogue) → IsWellFormed c → (h : List Column) (f : Form) → IsAccepted (known c) h f → IsOrderly c h f → IsShortReach c h f
    → (l : Line) → In l (goal_lines (measures c) (goal_of h f)) → (l.coefs ≢ []) × IsOrdered (reached_points c h f) l
orderly_lines c w h f a o s l i = shape_ordered (reached_points c h f) l (orderly_shapes c w h f a o s l i)

-- ---- tuples

atoms_ordered : (ps : List (ℤ × ℤ)) (t : List Atom) → AreGoodRows t → AreShapes ps (atoms_lines t) → AreOrdered ps t
atoms_ordered ps [] g h = tt
atoms_ordered ps (First r ∷ t) g h =
    (shapes_row ps r g.0 (λ l i. h l (In-left l (row_lines r) (atoms_lines t) i)), atoms_ordered ps t g.1 (λ l i. h l (In-right l (row_lines r) (atoms_lines t) i)))
atoms_ordered ps (Second a ∷ t) g h = atoms_ordered ps t g h

tuples_ordered : (ps : List (ℤ × ℤ)) (ts : List (List Atom)) → AllByRecursion IsNormalTuple ts → AreShapes ps (tuples_lines ts) → AllByRecursion (AreOrdered ps) ts
tuples_ordered ps [] n h = tt
tuples_ordered ps (t ∷ ts) n h =
    (atoms_ordered ps t (tuple_good t n.0) (λ l i. h l (In-left l (atoms_lines t) (tuples_lines ts) i)), tuples_ordered ps ts n.1 (λ l i. h l (In-right l (atoms_lines t) (tuples_lines ts) i)))

pub orderly_tuples : (c : Catalogue) → IsWellFormed c → (h : List Column) (f : Form) → IsAccepted (known c) h f → IsOrderly c h f → IsShortReach c h f
    → (ts : List (List Atom)) → AllByRecursion IsNormalTuple ts → IsSubset (tuples_lines ts) (goal_lines (measures c) (goal_of h f)) → AllByRecursion (AreOrdered (reached_points c h f)) ts
orderly_tuples c w h f a o s ts n m = tuples_ordered (reached_points c h f) ts n (λ l i. orderly_shapes c w h f a o s l (m l i))
