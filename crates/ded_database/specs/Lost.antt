-- Lines that the goal of a view may lose where a relation loses a tuple.
use Rattle.std.specs.Prelude.{◌≡◌, ℕ, Bool, true, false, ◌||◌, Option, Some, None, List, [], ◌∷◌, ◌++◌, if◌then◌else◌}
use Rattle.std.specs.Str.{bytes_eq}
use Rattle.std.specs.List.{list_any}
use Rattle.ded_model.specs.declared.goal.Place.{Place}
use Rattle.ded_model.specs.declared.goal.Place.TheVariants.{At}
use Rattle.ded_model.specs.declared.name.Column.{Column}
use Rattle.ded_model.specs.declared.slot.Slot.{Slot}
use Rattle.ded_model.specs.declared.slot.Sort.{Sort}
use Rattle.ded_model.specs.declared.slot.Sort.TheVariants.{Rat, Text}
use Rattle.ded_model.specs.Catalogue.{Catalogue}
use Rattle.ded_model.specs.Coefs.{AreCoefs}
use Rattle.ded_model.specs.Goal.{GoalAtom, linear, theme, member, GoalForm}
use Rattle.ded_model.specs.Known.{heading_slots}
use Rattle.ded_model.specs.Lines.{Line, In, IsSubset, atoms_lines, tuples_lines, renamed_lines}
use Rattle.ded_model.specs.Logic.{Logic, atom, always, never, negation, every_of, some_of, implies, minus, exists, forall, Logics, none, also}
use Rattle.ded_model.specs.Measure.{measures, goal_lines}
use Rattle.ded_model.specs.Point.{Key, slot, name, stands_in, AreDistinctSlots}
use Rattle.ded_model.specs.Row.{Atom, row_mentions, tuple_mentions}
use Rattle.ded_model.specs.Scanned.{scanned, scanned_slots, fresh_slots}
use Rattle.ded_algebra.specs.Evaluation.{HaveSorts}
use Rattle.ded_query.specs.Gathering.{IsViewGoal}

-- ---- slots that are bound

-- some of the lines mentions the slot
abbrev pub lines_mention : List Line → Slot → Bool
lines_mention ls s = list_any (λ l. row_mentions l s) ls

-- the quantifier ranges over numbers, and binds a slot that passes the test
abbrev pub binds_one : (Slot → Bool) → Sort → Key → Bool
binds_one test Rat (slot s) = test s
binds_one test Rat (name x) = false
binds_one test Text k = false

-- some quantifier of the formula ranges over numbers, and binds a slot that passes the test
abbrev mutual
  pub binds : {L : Type 0} → (Slot → Bool) → Logic L → Bool
  binds test (atom a) = false
  binds test always = false
  binds test never = false
  binds test (negation f) = binds test f
  binds test (every_of fs) = any_binds test fs
  binds test (some_of fs) = any_binds test fs
  binds test (implies f g) = binds test f || binds test g
  binds test (minus f g) = binds test f || binds test g
  binds test (exists s k f) = binds_one test s k || binds test f
  binds test (forall s k f) = binds_one test s k || binds test f

  -- some quantifier of some formula of the list ranges over numbers, and binds a slot that passes the test
  pub any_binds : {L : Type 0} → (Slot → Bool) → Logics L → Bool
  any_binds test none = false
  any_binds test (also f fs) = binds test f || any_binds test fs

-- ---- arguments of a name

-- after the others, the arguments of an atom, where it is one of the name
abbrev pub with_arguments : List ℕ → List (List Place) → GoalAtom → List (List Place)
with_arguments n done (linear r) = done
with_arguments n done (theme a) = done
with_arguments n done (member m ts) = if bytes_eq m n then done ++ ts ∷ [] else done

-- after the others, the arguments of each atom of the goal that is one of the name
abbrev mutual
  pub with_all : List ℕ → List (List Place) → GoalForm → List (List Place)
  with_all n done (atom a) = with_arguments n done a
  with_all n done always = done
  with_all n done never = done
  with_all n done (negation f) = with_all n done f
  with_all n done (every_of fs) = with_all_of n done fs
  with_all n done (some_of fs) = with_all_of n done fs
  with_all n done (implies f g) = with_all n (with_all n done f) g
  with_all n done (minus f g) = with_all n (with_all n done f) g
  with_all n done (exists s k f) = with_all n done f
  with_all n done (forall s k f) = with_all n done f

  -- after the others, the arguments of each atom of the goals that is one of the name
  pub with_all_of : List ℕ → List (List Place) → Logics GoalAtom → List (List Place)
  with_all_of n done none = done
  with_all_of n done (also f fs) = with_all_of n (with_all n done f) fs

-- the argument is this slot, of the column's sort, and no other one is
pub record IsOwnSlot (c : Column) (t : Place) (others : List Slot) (s : Slot) : Type 0 where
  pub place : t ≡ At s
  pub sort : c.sort ≡ s.sort
  pub absent : stands_in others s ≡ false

-- the arguments are slots, each once, of the columns' sorts
pub record AreOwnSlots (h : List Column) (ts : List Place) (ss : List Slot) : Type 0 where
  pub fresh : fresh_slots (scanned ts) ≡ []
  pub slots : scanned_slots (scanned ts) ≡ ss
  pub sorts : HaveSorts h ss
  pub distinct : AreDistinctSlots ss

-- the arguments are slots, each once, and the lines, read at these, are among the others
pub record AreReadAmong (ls more : List Line) (ts : List Place) : Type 0 where
  pub fresh : fresh_slots (scanned ts) ≡ []
  pub read : IsSubset (renamed_lines (scanned_slots (scanned ts)) ls) more

-- the atoms mention columns alone, and their lines have coefficients in order, at columns
pub record AreOverColumns (h : List Column) (atoms : List Atom) : Type 0 where
  pub slots : (s : Slot) → tuple_mentions atoms s ≡ true → stands_in (heading_slots 0 h) s ≡ true
  pub coefs : (l : Line) → In l (atoms_lines atoms) → AreCoefs l.coefs
  pub lines : (l : Line) (s : Slot) → In l (atoms_lines atoms) → row_mentions l s ≡ true → stands_in (heading_slots 0 h) s ≡ true

-- lines were added, and among all are those that are read at the arguments
pub record AddsRead (ls : List Line) (ts : List Place) (old new : List Line) : Type 0 where
  pub kept : IsSubset old new
  pub read : AreReadAmong ls new ts

-- ---- what is lost

-- no line is in both lists
abbrev pub AreApartLines : List Line → List Line → Type 0
AreApartLines ls ms = (l : Line) → In l ls → In l ms → ⊥

-- atoms of the deleted tuple: the relation's lines before are those after and those of the atoms
pub record AreLost (c d : Catalogue) (n : List ℕ) (t atoms : List Atom) : Type 0 where
  pub slots : (s : Slot) → tuple_mentions atoms s ≡ true → tuple_mentions t s ≡ true
  pub of : IsSubset (atoms_lines atoms) (atoms_lines t)
  pub lines : IsSubset (measures c n).lines ((measures d n).lines ++ atoms_lines atoms)

-- of the atoms some are left, and each line of the others is one of these or of the tuple
pub record AreLeftWithout (t old new : List Atom) : Type 0 where
  pub slots : (s : Slot) → tuple_mentions new s ≡ true → tuple_mentions old s ≡ true
  pub of : IsSubset (atoms_lines new) (atoms_lines old)
  pub lines : IsSubset (atoms_lines old) (atoms_lines new ++ atoms_lines t)

-- the goal of the view has, over the catalogue before, no other lines than over the one after and these
abbrev pub LosesOnly : Catalogue → Catalogue → List ℕ → List Line → Type 0
LosesOnly c d v more = (g : GoalForm) → IsViewGoal c v g → IsSubset (goal_lines (measures c) g) (goal_lines (measures d) g ++ more)

-- the tuples have none of the lines that the goal of the view loses
pub record HaveNoneLost (c d : Catalogue) (v : List ℕ) (ts : List (List Atom)) : Type 0 where
  pub more : List Line
  pub loses : LosesOnly c d v more
  pub apart : AreApartLines (tuples_lines ts) more

-- the line of a row, which may have none
abbrev pub as_lines : Option Line → List Line
as_lines None = []
as_lines (Some l) = l ∷ []
