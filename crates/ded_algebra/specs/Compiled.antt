-- What is promised of the plan of a goal.
use Rattle.std.specs.Prelude.{◌≡◌, ◌↔◌, ◌≤◌, ℕ, Bool, true, false, ◌&&◌, List, [], ◌∷◌, map}
use Rattle.std.specs.Str.{bytes_eq}
use Rattle.std.specs.List.{list_any}
use Rattle.std.specs.Ordering.{eq_by_cmp}
use Rattle.std.specs.Cmp.Lexicographic.{pointwise}
use Rattle.ded_model.specs.declared.slot.Slot.{Slot}
use Rattle.ded_model.specs.declared.slot.Sort.{Sort}
use Rattle.ded_model.specs.declared.slot.Sort.TheVariants.{Rat, Text}
use Rattle.ded_model.specs.declared.goal.Place.{Place}
use Rattle.ded_model.specs.declared.goal.Place.TheVariants.{At, Value, Quoted}
use Rattle.ded_model.specs.Point.{Key, slot, AllBytes, Point, IsPoint, same_sort}
use Rattle.ded_model.specs.declared.tuple.BothAtom.TheVariants.{Second}
use Rattle.ded_model.specs.Row.{Atom}
use Rattle.ded_model.specs.Normal.{atom_order}
use Rattle.ded_model.specs.Scanned.{scanned, tied_atoms}
use Rattle.ded_model.specs.Slotted.{goal_atoms}
use Rattle.ded_model.specs.Logic.{atom, always, never, negation, every_of, some_of, implies, minus, exists, forall, Logics, none, also, some_atom, count_atoms, conjunctive, AllAtoms}
use Rattle.ded_model.specs.Goal.{GoalAtom, linear, theme, member, GoalForm, goal_atom_mentions, goal_mentions}
use Rattle.ded_model.specs.PlanForm.{PlanAtom, scan, rows, PlanForm, plan_mentions}
use Rattle.ded_model.specs.Catalogue.{Catalogue, GoalHolds, PlanHolds}
use Rattle.ded_model.specs.Lines.{IsSubset}
use Rattle.ded_model.specs.Measure.{Measures, goal_b, goal_rank, goal_lines, goal_clashes, plan_b, plan_rank, plan_lines, plan_clashes}

-- ---- goals of byte texts

-- an argument that is a quoted text is a byte string
abbrev pub IsByteText : Place → Type 0
IsByteText (At s) = Unit {0}
IsByteText (Value t) = Unit {0}
IsByteText (Quoted x) = AllBytes x

-- each quoted text among the arguments is a byte string
abbrev pub AreByteTexts : List Place → Type 0
AreByteTexts [] = Unit {0}
AreByteTexts (t ∷ ts) = IsByteText t × AreByteTexts ts

-- each quoted argument of an atom of a name is a byte string; nothing is asked of other atoms
abbrev pub HasByteTexts : GoalAtom → Type 0
HasByteTexts (linear r) = Unit {0}
HasByteTexts (theme a) = Unit {0}
HasByteTexts (member n ts) = AreByteTexts ts

-- the quoted arguments of a goal's atoms are byte strings, as those of every value of the program are
abbrev pub IsOfBytes : GoalForm → Type 0
IsOfBytes g = AllAtoms HasByteTexts g

-- ---- scans

-- the sort of an argument: that of its slot, rational for a sum, and text for a quoted text
abbrev pub place_sort : Place → Sort
place_sort (At s) = s.sort
place_sort (Value t) = Rat
place_sort (Quoted t) = Text

-- the sorts are the same, one after another, and as many
abbrev pub same_sorts : List Sort → List Sort → Bool
same_sorts [] [] = true
same_sorts [] (b ∷ bs) = false
same_sorts (a ∷ xs) [] = false
same_sorts (a ∷ xs) (b ∷ bs) = same_sort a b && same_sorts xs bs

-- the goal's atom has the name, and arguments of the slots' sorts
abbrev pub is_scanned_by : List ℕ → List Slot → GoalAtom → Bool
is_scanned_by n ss (linear r) = false
is_scanned_by n ss (theme a) = false
is_scanned_by n ss (member m ts) = bytes_eq n m && same_sorts (map place_sort ts) (map (λ s. s.sort) ss)

-- ---- rows

-- the same atoms, one after another: of normal atoms their order tells any two apart
abbrev pub same_rows : List Atom → List Atom → Bool
same_rows t u = pointwise (eq_by_cmp atom_order) t u

-- the goal's atom is these rows, no row where it is true everywhere, or one of its arguments is tied by them
abbrev pub has_rows : List Atom → GoalAtom → Bool
has_rows t (linear r) = same_rows t (goal_atoms (atom (linear r)))
has_rows t (theme a) = same_rows t (Second a ∷ [])
has_rows t (member n ts) = list_any (λ a. same_rows t (a ∷ [])) (tied_atoms (scanned ts))

-- ---- atoms

-- the scan or the rows are what the goal's atom is compiled to, or among it
abbrev pub comes_from : PlanAtom → GoalAtom → Bool
comes_from (scan n ss) = is_scanned_by n ss
comes_from (rows t) = has_rows t

-- the plan's atom comes from some atom of the goal
abbrev pub ComesFrom : GoalForm → PlanAtom → Type 0
ComesFrom g a = some_atom (comes_from a) g ≡ true

-- ---- conjunctive plans

-- whether the goal's atom is one of this name
abbrev pub is_member_of : List ℕ → GoalAtom → Bool
is_member_of n (linear r) = false
is_member_of n (theme a) = false
is_member_of n (member m ts) = bytes_eq n m

-- whether the plan's atom is a scan of this name
abbrev pub is_scan_of : List ℕ → PlanAtom → Bool
is_scan_of n (scan m ss) = bytes_eq n m
is_scan_of n (rows t) = false

-- made of scans, rows, joins and projections alone, and each name scanned as often as the goal has it
pub record IsConjunctivePlan (g : GoalForm) (f : PlanForm) : Type 0 where
  pub conjunctive : conjunctive f ≡ true
  pub scans : (n : List ℕ) → count_atoms (is_scan_of n) f ≡ count_atoms (is_member_of n) g

-- ---- numbers and sorts

-- each slot that the goal's atom mentions has the sort that its number has
abbrev pub HasSortsBy : (ℕ → Sort) → GoalAtom → Type 0
HasSortsBy sort_of a = (s : Slot) → goal_atom_mentions a s ≡ true → s.sort ≡ sort_of s.number

-- two slots of one number that the plan mentions freely have one sort
abbrev pub HasOneSort : PlanForm → Type 0
HasOneSort f = (s t : Slot) → plan_mentions f (slot s) ≡ true → plan_mentions f (slot t) ≡ true → s.number ≡ t.number → s.sort ≡ t.sort

abbrev mutual
  -- two slots of one number that a part of the plan mentions freely have one sort, whichever part it is
  pub PartsHaveOneSort : PlanForm → Type 0
  PartsHaveOneSort (atom a) = Unit {0}
  PartsHaveOneSort always = Unit {0}
  PartsHaveOneSort never = Unit {0}
  PartsHaveOneSort (negation f) = HasOneSort f × PartsHaveOneSort f
  PartsHaveOneSort (every_of fs) = EachHasOneSort fs
  PartsHaveOneSort (some_of fs) = EachHasOneSort fs
  PartsHaveOneSort (implies f g) = (HasOneSort f × PartsHaveOneSort f) × (HasOneSort g × PartsHaveOneSort g)
  PartsHaveOneSort (minus f g) = (HasOneSort f × PartsHaveOneSort f) × (HasOneSort g × PartsHaveOneSort g)
  PartsHaveOneSort (exists s k f) = HasOneSort f × PartsHaveOneSort f
  PartsHaveOneSort (forall s k f) = HasOneSort f × PartsHaveOneSort f

  -- so it is in each of the plans and in their parts
  pub EachHasOneSort : Logics PlanAtom → Type 0
  EachHasOneSort none = Unit {0}
  EachHasOneSort (also f fs) = (HasOneSort f × PartsHaveOneSort f) × EachHasOneSort fs

-- so it is in the plan and in all its parts: where slots meet, their numbers alone tell them apart
abbrev pub IsOneSorted : PlanForm → Type 0
IsOneSorted f = HasOneSort f × PartsHaveOneSort f

-- ---- the plan of a goal

-- it holds where the goal does over every catalogue, mentions freely only what the goal does, has lengths and a rank of at most
-- the goal's, lines among the goal's, and clashes only where the goal does; each of its atoms comes from one of the goal's. Where
-- in the goal each number has one sort, so it has in each part of the plan
pub record IsCompiled (g : GoalForm) (f : PlanForm) : Type 0 where
  pub holds : (c : Catalogue) (p : Point) → IsPoint p → GoalHolds c g p ↔ PlanHolds c f p
  pub slots : (k : Key) → plan_mentions f k ≡ true → goal_mentions g k ≡ true
  pub length : (M : Measures) → plan_b M f ≤ goal_b M g
  pub rank : (M : Measures) → plan_rank M f ≤ goal_rank M g
  pub lines : (M : Measures) → IsSubset (plan_lines M f) (goal_lines M g)
  pub clashes : (M : Measures) → plan_clashes M f ≡ true → goal_clashes M g ≡ true
  pub atoms : AllAtoms (ComesFrom g) f
  pub conjunctive : conjunctive g ≡ true → IsConjunctivePlan g f
  pub sorts : (sort_of : ℕ → Sort) → AllAtoms (HasSortsBy sort_of) g → IsOneSorted f
