-- What a relation of the program is seen as, and the index of its tuples.
use Rattle.std.specs.Prelude.{◌≡◌, ◌≤◌, ℕ, List, ◌∷◌, length}
use Rattle.std.specs.List.{Contains}
use Rattle.std.specs.List.Sorted.{IsPermutation, IsStrictlyIncreasing}
use Rattle.ded_model.specs.declared.name.Column.{Column}
use Rattle.ded_model.specs.Row.{Atom, tuple_holds}
use Rattle.ded_model.proofs.Lists.{Every, Some}
use Rattle.ded_hull.specs.declared.entry.ReachEntry.{ReachEntry}
use Rattle.ded_ranges.specs.declared.window.Window.{Window}
use Rattle.ded_hull.specs.Entries.{Hulls}
use Rattle.ded_hull.specs.Segments.{IsSegment, AreSegments}
use Rattle.ded_ranges.specs.Tuples.{IsReachOf}
use Rattle.ded_ranges.specs.Windows.{IsMissed}
use Rattle.ded_relation.specs.declared.index.Index.{Index}
use Rattle.ded_relation.specs.Texts.{IsThere, Keeps}

-- tuples with their numbers
pub record Numbered : Type 0 where
  pub entries : List (ℕ × List Atom)

-- the heading, how many inserts were accepted, the tuples, and the index of their reaches
pub record Relation : Type 0 where
  pub heading : List Column
  pub inserts : ℕ
  pub tuples : Numbered
  pub reaches : Hulls

-- the entry has the tuple's number, and its reach contains the values of each point of the tuple
abbrev pub IsEntryOf : ℕ × List Atom → ReachEntry → Type 0
IsEntryOf t e = (e.id ≡ t.0) × IsReachOf e.reach (tuple_holds t.1)

-- each tuple has an entry
abbrev pub IsIndex : List ReachEntry → List (ℕ × List Atom) → Type 0
IsIndex es ts = Every (λ t. Some (IsEntryOf t) es) ts

-- the entries, in some order, and one more of the tuple
pub record Indexes (t : ℕ × List Atom) (old new : List ReachEntry) : Type 0 where
  pub entry : ReachEntry
  pub is : IsEntryOf t entry
  pub list : IsPermutation (entry ∷ old) new

-- the index has the reach of each tuple, and the keys of its texts; where there is one column, each reach in it is a segment
pub record IsIndexOf (cs : List Column) (x : Index) (ts : List (ℕ × List Atom)) : Type 0 where
  pub reaches : IsIndex x.hulls.entries ts
  pub segments : length cs ≡ 1 → AreSegments x.hulls.entries
  pub texts : Every (IsThere x.texts.hashing cs x.texts.set) ts

-- ---- what is done with an index

-- the same reaches in some order, and the same keys by the same hashing
pub record IsCopied (old new : Index) : Type 0 where
  pub reaches : IsPermutation old.hulls.entries new.hulls.entries
  pub hashing : new.texts.hashing ≡ old.texts.hashing
  pub set : new.texts.set.keys ≡ old.texts.set.keys

-- the tuple is in the index, beside what was there; at most 32 reaches stand in no tree, and where there is one column, that of the
-- tuple is a segment
pub record IsIndexed (cs : List Column) (t : ℕ × List Atom) (old new : Index) : Type 0 where
  pub reaches : Indexes t old.hulls.entries new.hulls.entries
  pub settled : new.hulls.loose ≤ 32
  pub segment : length cs ≡ 1 → IsSegment reaches.entry
  pub hashing : new.texts.hashing ≡ old.texts.hashing
  pub there : IsThere old.texts.hashing cs new.texts.set t
  pub keeps : Keeps t.0 old.texts.set new.texts.set

-- the same reaches in some order, and all keys but those of the number
pub record IsUndone (k : ℕ) (old new : Index) : Type 0 where
  pub reaches : IsPermutation old.hulls.entries new.hulls.entries
  pub hashing : new.texts.hashing ≡ old.texts.hashing
  pub keeps : Keeps k old.texts.set new.texts.set

-- the texts are as they were, the reaches of the tuples are in it yet, and segments if all were
pub record IsPruned (ts : List (ℕ × List Atom)) (old new : Index) : Type 0 where
  pub reaches : IsIndex old.hulls.entries ts → IsIndex new.hulls.entries ts
  pub segments : AreSegments old.hulls.entries → AreSegments new.hulls.entries
  pub texts : new.texts ≡ old.texts

-- the numbers ascend, and a tuple of the index whose number isn't among them holds nowhere in the window
pub record Finds (w : Window) (cs : List Column) (x : Index) (ids : List ℕ) : Type 0 where
  pub ascending : IsStrictlyIncreasing ids
  pub missed : (t : ℕ × List Atom) → Some (IsEntryOf t) x.hulls.entries → IsThere x.texts.hashing cs x.texts.set t → (Contains ids t.0 → ⊥) → IsMissed w t.1
