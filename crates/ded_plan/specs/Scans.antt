-- The scans of a plan, each with atoms that hold wherever it matters.
use Rattle.std.specs.Prelude.{◌≡◌, ◌↔◌, ℕ, Bool, true, ◌||◌, ◌&&◌, IsTrue, List}
use Rattle.std.specs.Str.{bytes_eq}
use Rattle.std.specs.List.{AllByRecursion, list_all, list_any}
use Rattle.ded_model.specs.declared.slot.Slot.{Slot}
use Rattle.ded_model.specs.declared.tuple.ThemeAtom.{ThemeAtom}
use Rattle.ded_model.specs.declared.tuple.ThemeAtom.TheVariants.{EqText, NeText, EqSlot, NeSlot}
use Rattle.ded_model.specs.declared.tuple.BothAtom.TheVariants.{First, Second}
use Rattle.ded_model.specs.Catalogue.{Catalogue, PlanHolds, GivenHolds}
use Rattle.ded_model.specs.Form.{Form}
use Rattle.ded_model.specs.Logic.{atom, Logics, none, also, AllAtoms, AllAtomsOf, some_atom_of}
use Rattle.ded_model.specs.PlanForm.{PlanAtom, PlanForm, scan}
use Rattle.ded_model.specs.Point.{Point, IsPoint, stands_in}
use Rattle.ded_model.specs.Row.{Atom, tuple_holds, tuple_mentions}
use Rattle.ded_model.specs.Uses.{plan_atom_uses, plan_uses}
use Rattle.ded_tuple.specs.TrueRows.{IsNormalOrTrue}
use Rattle.ded_plan.specs.declared.scans.ScanWithin.{ScanWithin}
use Rattle.ded_plan.specs.Plans.{IsScanOf}
use Rattle.ded_plan.specs.Rewrite.{rows_of}

-- ---- what is promised

-- over the relations that c gives the scan holds where it does over the catalogue d, of the points at which its tuple holds
abbrev pub AgreesAt : Catalogue → Catalogue → ScanWithin → Type 0
AgreesAt c d s = (p : Point) → IsPoint p → IsTrue (tuple_holds s.within p) → GivenHolds c (atom (scan s.name s.slots)) p ↔ PlanHolds d (atom (scan s.name s.slots)) p

-- the scan is of a name that the formula uses, at slots of the sorts of its columns
abbrev pub IsUsed : Catalogue → Form → ScanWithin → Type 0
IsUsed c g s = IsScanOf c g (scan s.name s.slots)

-- whether the scan is of the name
abbrev pub is_of : List ℕ → ScanWithin → Bool
is_of n s = bytes_eq n s.name

-- the scan's tuple is over its slots
abbrev pub IsOver : ScanWithin → Type 0
IsOver s = (u : Slot) → tuple_mentions s.within u ≡ true → stands_in s.slots u ≡ true

-- these are the scans of the plan, each with a tuple outside of which it doesn't matter to the plan at the points where
-- t holds
pub record IsReadWithin (f : PlanForm) (t : List Atom) (ss : List ScanWithin) : Type 0 where
  -- where each scan agrees within its tuple, the plan does within t
  pub alike : (c d : Catalogue) → AllByRecursion (AgreesAt c d) ss → (p : Point) → IsPoint p → IsTrue (tuple_holds t p) → GivenHolds c f p ↔ PlanHolds d f p
  -- they are the plan's scans
  pub scans : (c : Catalogue) (g : Form) → AllAtoms (IsScanOf c g) f → AllByRecursion (IsUsed c g) ss
  pub uses : (n : List ℕ) → plan_uses n f ≡ list_any (is_of n) ss
  -- their tuples are over their slots
  pub own : AllByRecursion IsOver ss

-- ---- scans added to others

-- the plan holds over the relations that c gives where it does over the catalogue d, of the points at which the atoms hold
abbrev pub AlikeWithin : Catalogue → Catalogue → List Atom → PlanForm → Type 0
AlikeWithin c d t f = (p : Point) → IsPoint p → IsTrue (tuple_holds t p) → GivenHolds c f p ↔ PlanHolds d f p

-- each of the plans does
abbrev pub EachAlike : Catalogue → Catalogue → List Atom → Logics PlanAtom → Type 0
EachAlike c d t none = Unit {0}
EachAlike c d t (also f fs) = AlikeWithin c d t f × EachAlike c d t fs

-- the new scans are the old ones and those of the plan, with tuples for where the atoms hold
pub record AddsScans (f : PlanForm) (t : List Atom) (old new : List ScanWithin) : Type 0 where
  pub alike : (c d : Catalogue) → AllByRecursion (AgreesAt c d) new → AllByRecursion (AgreesAt c d) old × AlikeWithin c d t f
  pub scans : (c : Catalogue) (g : Form) → AllAtoms (IsScanOf c g) f → AllByRecursion (IsUsed c g) old → AllByRecursion (IsUsed c g) new
  pub uses : (n : List ℕ) → list_any (is_of n) new ≡ (list_any (is_of n) old || plan_uses n f)
  pub own : AllByRecursion IsOver old → AllByRecursion IsOver new

-- and those of each of the plans
pub record AddsEach (fs : Logics PlanAtom) (t : List Atom) (old new : List ScanWithin) : Type 0 where
  pub alike : (c d : Catalogue) → AllByRecursion (AgreesAt c d) new → AllByRecursion (AgreesAt c d) old × EachAlike c d t fs
  pub scans : (c : Catalogue) (g : Form) → AllAtomsOf (IsScanOf c g) fs → AllByRecursion (IsUsed c g) old → AllByRecursion (IsUsed c g) new
  pub uses : (n : List ℕ) → list_any (is_of n) new ≡ (list_any (is_of n) old || some_atom_of (plan_atom_uses n) fs)
  pub own : AllByRecursion IsOver old → AllByRecursion IsOver new

-- ---- atoms

-- the plans that are rows hold at the point
abbrev pub RowsHold : Logics PlanAtom → Point → Type 0
RowsHold fs p = AllByRecursion (λ t. IsTrue (tuple_holds t p)) (rows_of fs)

-- the new atoms are normal as the old ones are, and hold where these and the tuple do
pub record AddsAtoms (t old new : List Atom) : Type 0 where
  pub normal : AllByRecursion IsNormalOrTrue old → AllByRecursion IsNormalOrTrue new
  pub holds : (p : Point) → IsTrue (tuple_holds old p) → IsTrue (tuple_holds t p) → IsTrue (tuple_holds new p)

-- whether the text atom mentions only slots of the list
abbrev pub is_theme_over : List Slot → ThemeAtom → Bool
is_theme_over ss (EqText s t) = stands_in ss s
is_theme_over ss (NeText s t) = stands_in ss s
is_theme_over ss (EqSlot s t) = stands_in ss s && stands_in ss t
is_theme_over ss (NeSlot s t) = stands_in ss s && stands_in ss t

-- whether the atom does
abbrev pub is_over : List Slot → Atom → Bool
is_over ss (First r) = list_all (λ c. stands_in ss c.0) r.coefs
is_over ss (Second a) = is_theme_over ss a
