-- Plans over tuples, whose rows are all order rows, and what shows that some row is none.
use Rattle.std.specs.Prelude.{◌≡◌, Bool, true, false, not, Option, Some, None, List}
use Rattle.std.specs.List.{list_any}
use Rattle.ded_model.specs.Catalogue.{Catalogue}
use Rattle.ded_model.specs.PlanForm.{PlanAtom, scan, rows, PlanForm}
use Rattle.ded_model.specs.Row.{Atom}
use Rattle.ded_algebra.specs.Evaluation.{given_tuples, IsEvaluable}
use Rattle.ded_atoms.specs.Orders.{is_order_atom, are_orders}

-- each row of the plan, and of the tuples of each name that it scans, is an order row
abbrev pub AreOrderRows : Catalogue → PlanForm → Type 0
AreOrderRows c f = IsEvaluable (λ a. is_order_atom a ≡ true) c f

-- some row of the tuple is none
abbrev pub has_other : List Atom → Bool
has_other t = not (are_orders t)

-- some row of the tuples, if there are any
abbrev pub has_other_under : Option (List (List Atom)) → Bool
has_other_under None = false
has_other_under (Some ts) = list_any has_other ts

-- some row of the list of atoms, or of the tuples of the name
abbrev pub has_other_in : Catalogue → PlanAtom → Bool
has_other_in c (scan n ss) = has_other_under (given_tuples c n)
has_other_in c (rows t) = has_other t
