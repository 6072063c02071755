-- What plans are evaluated over, and what an evaluation gives.
use Rattle.std.specs.Prelude.{◌≡◌, ◌↔◌, ◌&&◌, ◌||◌, ◌++◌, ℕ, Bool, true, false, IsTrue, Option, Some, None, List, [], ◌∷◌, length}
use Rattle.std.specs.Str.{bytes_eq}
use Rattle.std.specs.List.{list_any, AllByRecursion}
use Rattle.ded_model.specs.declared.slot.Slot.{Slot}
use Rattle.ded_model.specs.declared.name.Column.{Column}
use Rattle.ded_model.specs.Point.{slot, Point, IsPoint}
use Rattle.ded_model.specs.Row.{Atom, tuple_holds, tuple_mentions}
use Rattle.ded_model.specs.Known.{IsTupleOver}
use Rattle.ded_model.specs.Normal.{IsNormalTuple}
use Rattle.ded_model.specs.Catalogue.{Entry, relation, view, Catalogue, entry_name, tuples_of, GivenHolds}
use Rattle.ded_model.specs.Entries.{entry_of, relation_in}
use Rattle.ded_model.specs.Logic.{AllAtoms}
use Rattle.ded_model.specs.PlanForm.{PlanAtom, scan, rows, PlanForm, plan_mentions}
use Rattle.ded_model.specs.Lines.{Line, IsSubset, atoms_lines}
use Rattle.ded_model.specs.Measure.{stored_measures, plan_lines}
use Rattle.std.specs.Option.{option_map}

-- ---- what is given

-- relations alone, each with a name of its own
abbrev pub AreGiven : List Entry → Type 0
AreGiven [] = Unit {0}
AreGiven (relation n h m ts ∷ es) = (list_any (λ e. bytes_eq n (entry_name e)) es ≡ false) × AreGiven es
AreGiven (view n h f ∷ es) = ⊥

-- the tuples that stand under a name, none where it isn't given
abbrev pub given_tuples : Catalogue → List ℕ → Option (List (List Atom))
given_tuples c n = option_map tuples_of (relation_in (entry_of c.entries n))

-- how many there are, none where there is no list
abbrev pub count_of : Option (List (List Atom)) → ℕ
count_of None = 0
count_of (Some ts) = length ts

-- ---- plans that can be evaluated

-- columns of the sorts of the slots that they are read into
abbrev pub HaveSorts : List Column → List Slot → Type 0
HaveSorts [] [] = Unit {0}
HaveSorts [] (s ∷ ss) = ⊥
HaveSorts (c ∷ h) [] = ⊥
HaveSorts (c ∷ h) (s ∷ ss) = (c.sort ≡ s.sort) × HaveSorts h ss

-- a relation with columns of the slots' sorts, whose tuples are normal, over its columns, and made of atoms that are read
abbrev pub IsScannedFrom : (Atom → Type 0) → Option Entry → List Slot → Type 0
IsScannedFrom Reads None ss = ⊥
IsScannedFrom Reads (Some (relation n h m ts)) ss = HaveSorts h ss × AllByRecursion (λ t. IsTupleOver h t × AllByRecursion Reads t) (tuples_of ts)
IsScannedFrom Reads (Some (view n h f)) ss = ⊥

-- the name of a scan has a relation with columns of its slots' sorts and tuples as above, or the rows are made of atoms
-- that are read
abbrev pub IsScannable : (Atom → Type 0) → Catalogue → PlanAtom → Type 0
IsScannable Reads c (scan n ss) = IsScannedFrom Reads (entry_of c.entries n) ss
IsScannable Reads c (rows t) = AllByRecursion Reads t

-- each name that the plan scans has tuples over columns of the sorts of the scan's slots, and all atoms are such as can be read
abbrev pub IsEvaluable : (Atom → Type 0) → Catalogue → PlanForm → Type 0
IsEvaluable Reads c f = AllAtoms (IsScannable Reads c) f

-- any atom is read
abbrev pub IsAnyAtom : Atom → Type 0
IsAnyAtom a = Unit {0}

-- ---- what is given back

-- what holds at points, mentions slots and has lines holds, of the points inside, exactly where the plan does over the given
-- relations, mentions only slots that the plan mentions freely, and has lines among the plan's
pub record IsEvaluationWithin (c : Catalogue) (f : PlanForm) (inside : Point → Bool) (test : Point → Bool) (used : Slot → Bool) (ls : List Line) : Type 0 where
  pub holds : (p : Point) → IsPoint p → inside p ≡ true → IsTrue (test p) ↔ GivenHolds c f p
  pub slots : (s : Slot) → used s ≡ true → plan_mentions f (slot s) ≡ true
  pub lines : IsSubset ls (plan_lines (stored_measures c) f)

-- the same, where all points are inside
abbrev pub IsEvaluation : Catalogue → PlanForm → (Point → Bool) → (Slot → Bool) → List Line → Type 0
IsEvaluation c f test used ls = IsEvaluationWithin c f (λ p. true) test used ls

-- ---- two tuples

-- the tuple holds where both do, is normal, mentions only slots that one of them mentions, and has lines among theirs
pub record IsOfBoth (t u both : List Atom) : Type 0 where
  pub holds : (p : Point) → IsPoint p → tuple_holds both p ≡ (tuple_holds t p && tuple_holds u p)
  pub normal : IsNormalTuple both
  pub slots : (s : Slot) → tuple_mentions both s ≡ true → (tuple_mentions t s || tuple_mentions u s) ≡ true
  pub lines : IsSubset (atoms_lines both) (atoms_lines t ++ atoms_lines u)

-- the tuple of both, or none where they hold nowhere together
abbrev pub IsMet : List Atom → List Atom → Option (List Atom) → Type 0
IsMet t u None = (p : Point) → IsPoint p → (tuple_holds t p && tuple_holds u p) ≡ false
IsMet t u (Some both) = IsOfBoth t u both
