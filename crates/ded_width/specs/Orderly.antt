-- Which rows a formula reaches, by a fold over the entries: whether all of them are order rows, the numbers of those with one
-- slot, and whether all are short.
use Rattle.std.specs.Prelude.{◌≡◌, ◌≢◌, ◌≤◌, ℕ, ℤ, nat_le, Bool, true, false, ◌&&◌, ◌||◌, List, [], ◌∷◌, ◌++◌, if◌then◌else◌}
use lib.IntN.{neg_ℤ}
use Rattle.std.specs.Ordering.{int_eq}
use Rattle.std.specs.Str.{bytes_eq}
use Rattle.ded_model.specs.declared.slot.Slot.{Slot}
use Rattle.ded_model.specs.declared.name.Column.{Column}
use Rattle.ded_model.specs.declared.tuple.BothAtom.TheVariants.{First, Second}
use Rattle.ded_model.specs.Constraint.{LinearConstraint}
use Rattle.ded_model.specs.Row.{Atom}
use Rattle.ded_model.specs.Width.{row_length}
use Rattle.ded_model.specs.Logic.{Logic, atom, always, never, negation, every_of, some_of, implies, minus, exists, forall, Logics, none, also}
use Rattle.ded_model.specs.Form.{Form}
use Rattle.ded_model.specs.Goal.{GoalAtom, linear, theme, member, GoalForm}
use Rattle.ded_model.specs.Catalogue.{Entry, relation, view, Catalogue, entry_name, tuples_of}
use Rattle.ded_model.specs.Slotted.{goal_of}
use Rattle.ded_model.specs.Scanned.{scanned, tied_atoms}
use Rattle.ded_model.specs.Made.{Reading, itself, closure_of, interior_of, reading}
use Rattle.ded_order.specs.OrderRows.{is_order_row}

-- ---- rows

-- the coefficient and the constant of a row with one slot
abbrev pub points_with : List (Slot × ℤ) → ℤ → List (ℤ × ℤ)
points_with [] c = []
points_with (x ∷ []) c = (x.1, c) ∷ []
points_with (x ∷ y ∷ cs) c = []

-- of the rows that are reached: whether each is an order row, the coefficient and the constant of each with one slot, and
-- whether each has numbers of at most 63 digits
pub record Order : Type 0 where
  pub orderly : Bool
  pub points : List (ℤ × ℤ)
  pub short : Bool

-- what is told of one row by itself
abbrev pub row_reach : LinearConstraint → Order
row_reach r = record { orderly = is_order_row r; points = points_with r.coefs r.constant; short = nat_le (row_length r) 63 }

-- no row
abbrev pub no_rows : Order
no_rows = record { orderly = true; points = []; short = true }

-- what is told of two sets of rows together
abbrev pub both : Order → Order → Order
both a b = record { orderly = a.orderly && b.orderly; points = a.points ++ b.points; short = a.short && b.short }

-- what is told of the rows among the atoms
abbrev pub atoms_reach : List Atom → Order
atoms_reach [] = no_rows
atoms_reach (First r ∷ atoms) = both (row_reach r) (atoms_reach atoms)
atoms_reach (Second a ∷ atoms) = atoms_reach atoms

-- what is told of the rows of all of the tuples
abbrev pub tuples_reach : List (List Atom) → Order
tuples_reach [] = no_rows
tuples_reach (t ∷ ts) = both (atoms_reach t) (tuples_reach ts)

-- ---- goals

-- what is told of the rows that each name reaches
abbrev pub Orders : Type 0
Orders = List ℕ → Order

-- what an atom of a goal reaches: a comparison its row, and an atom of a name what the name does and the rows of the
-- arguments
abbrev pub goal_atom_reach : Orders → GoalAtom → Order
goal_atom_reach O (linear r) = row_reach r
goal_atom_reach O (theme a) = no_rows
goal_atom_reach O (member n ts) = both (O n) (atoms_reach (tied_atoms (scanned ts)))

-- what a formula reaches, from what its atoms do
abbrev mutual
  pub reach_of : {L : Type 0} → (L → Order) → Logic L → Order
  reach_of of_atom (atom a) = of_atom a
  reach_of of_atom always = no_rows
  reach_of of_atom never = no_rows
  reach_of of_atom (negation f) = reach_of of_atom f
  reach_of of_atom (every_of fs) = reach_of_all of_atom fs
  reach_of of_atom (some_of fs) = reach_of_all of_atom fs
  reach_of of_atom (implies f g) = both (reach_of of_atom f) (reach_of of_atom g)
  reach_of of_atom (minus f g) = both (reach_of of_atom f) (reach_of of_atom g)
  reach_of of_atom (exists s k f) = reach_of of_atom f
  reach_of of_atom (forall s k f) = reach_of of_atom f

  -- what the formulas of a list reach together, from what their atoms do
  pub reach_of_all : {L : Type 0} → (L → Order) → Logics L → Order
  reach_of_all of_atom none = no_rows
  reach_of_all of_atom (also f fs) = both (reach_of of_atom f) (reach_of_all of_atom fs)

-- what a goal reaches, from what the names do
abbrev pub goal_reach : Orders → GoalForm → Order
goal_reach O g = reach_of (goal_atom_reach O) g

-- ---- catalogues

-- what a name reaches that no entry has: it is not orderly
abbrev pub undefined : Order
undefined = record { orderly = false; points = []; short = true }

-- what a name reaches that is read so: as itself what it does, as a closure or an interior what an undefined name does
abbrev pub order_as : Orders → List ℕ → Reading → Order
order_as O n itself = O n
order_as O n (closure_of m) = undefined
order_as O n (interior_of m) = undefined

-- what each name reaches, from what the names of entries do: a closure or an interior is as an undefined name
abbrev pub read_order : Orders → Orders
read_order O n = order_as O n (reading n)

-- a relation reaches its stored rows, a view what its goal reaches over the entries before it
abbrev pub entry_order : Orders → Entry → Order
entry_order O (relation n h m ts) = tuples_reach (tuples_of ts)
entry_order O (view n h f) = goal_reach (read_order O) (goal_of h f)

-- what each name reaches with one more entry defined, which is read over what they reached before
abbrev pub with_order : Orders → Entry → Orders
with_order O e n = if bytes_eq n (entry_name e) then entry_order O e else O n

-- what each name reaches with the entries defined one after another
abbrev pub orders_from : Orders → List Entry → Orders
orders_from O [] = O
orders_from O (e ∷ es) = orders_from (with_order O e) es

-- what each name reaches over the entries of a catalogue under their own names
unfoldable pub stored_orders : Catalogue → Orders
stored_orders c = orders_from (λ n. undefined) c.entries

-- what each name reaches over a catalogue, closures and interiors too
unfoldable pub orders : Catalogue → Orders
orders c = read_order (stored_orders c)

-- ---- formulas over a heading, none for a closed one

-- each comparison, each argument and each stored row that the formula reaches is an order row
unfoldable pub IsOrderly : Catalogue → List Column → Form → Type 0
IsOrderly c h f = (goal_reach (orders c) (goal_of h f)).orderly ≡ true

-- each of these rows has numbers of at most 63 digits
unfoldable pub IsShortReach : Catalogue → List Column → Form → Type 0
IsShortReach c h f = (goal_reach (orders c) (goal_of h f)).short ≡ true

-- the coefficient and the constant of each of these rows that has one slot
unfoldable pub reached_points : Catalogue → List Column → Form → List (ℤ × ℤ)
reached_points c h f = (goal_reach (orders c) (goal_of h f)).points

-- ---- rows between points

-- a pair is in the list, up to the sign of both
abbrev pub is_point : List (ℤ × ℤ) → ℤ → ℤ → Bool
is_point [] a c = false
is_point (p ∷ ps) a c = ((int_eq p.0 a && int_eq p.1 c) || (int_eq p.0 (neg_ℤ a) && int_eq p.1 (neg_ℤ c))) || is_point ps a c

-- two slots, or one, with the numbers of a pair
abbrev pub IsBetweenWith : List (ℤ × ℤ) → List (Slot × ℤ) → ℤ → Type 0
IsBetweenWith ps [] c = ⊥
IsBetweenWith ps (x ∷ []) c = is_point ps x.1 c ≡ true
IsBetweenWith ps (x ∷ y ∷ []) c = Unit {0}
IsBetweenWith ps (x ∷ y ∷ z ∷ cs) c = ⊥

-- the row compares two slots, or has the coefficient and the constant of one of the pairs, up to the sign of both
abbrev pub IsBetweenPoints : List (ℤ × ℤ) → LinearConstraint → Type 0
IsBetweenPoints ps r = IsBetweenWith ps r.coefs r.constant

-- an order row with numbers of at most 63 digits, between these points where it has coefficients
pub record IsOrdered (ps : List (ℤ × ℤ)) (r : LinearConstraint) : Type 0 where
  pub order : is_order_row r ≡ true
  pub short : row_length r ≤ 63
  pub between : r.coefs ≢ [] → IsBetweenPoints ps r

-- each row among the atoms is an ordered one
abbrev pub AreOrdered : List (ℤ × ℤ) → List Atom → Type 0
AreOrdered ps [] = Unit {0}
AreOrdered ps (First r ∷ atoms) = IsOrdered ps r × AreOrdered ps atoms
AreOrdered ps (Second a ∷ atoms) = AreOrdered ps atoms
