-- The texts that tuples fix in their columns, and an index of the tuples by these.
use Rattle.std.specs.Prelude.{◌≡◌, ◌+◌, ◌*◌, ◌^◌, ◌<◌, ℕ, zero, suc, Bool, true, false, nat_eq, Option, Some, None, List, [], ◌∷◌, ◌++◌, length, if◌then◌else◌}
use Rattle.std.specs.List.{Contains, list_all, fold}
use Rattle.std.specs.List.Sorted.{IsStrictlyIncreasing}
use Rattle.std.specs.Ordering.{nat_cmp}
use Rattle.std.specs.BTreeSet.{BTreeSet, contains}
use Rattle.std.specs.Hash as fed
use Rattle.std.specs.Hash.DefaultHasher as sip
use Rattle.ded_model.specs.declared.name.Column.{Column}
use Rattle.ded_model.specs.declared.slot.Sort.{Sort}
use Rattle.ded_model.specs.declared.slot.Sort.TheVariants.{Rat, Text}
use Rattle.ded_model.specs.declared.tuple.ThemeAtom.{ThemeAtom}
use Rattle.ded_model.specs.declared.tuple.ThemeAtom.TheVariants.{EqText, NeText, EqSlot, NeSlot}
use Rattle.ded_model.specs.declared.tuple.BothAtom.TheVariants.{First, Second}
use Rattle.ded_model.specs.Point.{Point}
use Rattle.ded_model.specs.Row.{Atom, tuple_holds}
use Rattle.ded_relation.specs.declared.hashing.NameHashing.{NameHashing}
use Rattle.ded_ranges.specs.Tuples.{is_text_column}
use Rattle.ded_ranges.specs.Windows.{is_text_met}

-- ---- the text in a column

-- the column is of texts
abbrev pub is_text : Sort → Bool
is_text Rat = false
is_text Text = true

-- there is a column of the number, and it is of texts
abbrev pub is_text_at : List Column → ℕ → Bool
is_text_at [] i = false
is_text_at (c ∷ cs) zero = is_text c.sort
is_text_at (c ∷ cs) (suc i) = is_text_at cs i

-- the text that a text atom fixes in the column, if it does
abbrev pub theme_text : ℕ → ThemeAtom → Option (List ℕ)
theme_text i (EqText s t) = if is_text_column s i then Some t else None
theme_text i (NeText s t) = None
theme_text i (EqSlot s t) = None
theme_text i (NeSlot s t) = None

-- the text that the atom fixes in the column, if it does
abbrev pub atom_text : ℕ → Atom → Option (List ℕ)
atom_text i (First r) = None
atom_text i (Second a) = theme_text i a

-- the first, or else the second
abbrev pub first_of : Option (List ℕ) → Option (List ℕ) → Option (List ℕ)
first_of None o = o
first_of (Some t) o = Some t

-- the text that the tuple fixes in the column, if it does
abbrev pub text_in : ℕ → List Atom → Option (List ℕ)
text_in i [] = None
text_in i (a ∷ more) = first_of (atom_text i a) (text_in i more)

-- ---- keys

-- what a hasher is fed for a text, or for none
abbrev pub fed_text : Option (List ℕ) → List (List ℕ)
fed_text None = []
fed_text (Some t) = fed.usize (length t) ++ (t ∷ [])

-- a number of 64 digits for a column and a text in it, or none. Nothing rests on it but that it is a function
unfoldable pub code : NameHashing → ℕ → Option (List ℕ) → ℕ
code hs i o = sip.finish (fold sip.write (fold sip.write hs.state (fed.usize i)) (fed_text o))

-- a number of a tuple behind a code
abbrev pub key : ℕ → ℕ → ℕ
key c k = c * 2 ^ 32 + k

-- the set has the tuple's number behind the code of its text in each column of texts
pub record IsThere (hs : NameHashing) (cs : List Column) (s : BTreeSet ℕ) (t : ℕ × List Atom) : Type 0 where
  pub fits : t.0 < 2 ^ 32
  pub keys : (i : ℕ) → is_text_at cs i ≡ true → contains nat_cmp s (key (code hs i (text_in i t.1)) t.0) ≡ true

-- nothing is lost of the set
abbrev pub Grows : BTreeSet ℕ → BTreeSet ℕ → Type 0
Grows s r = (q : ℕ) → contains nat_cmp s q ≡ true → contains nat_cmp r q ≡ true

-- each number but one stays in the set behind each code
abbrev pub Keeps : ℕ → BTreeSet ℕ → BTreeSet ℕ → Type 0
Keeps n s r = (c k : ℕ) → k < 2 ^ 32 → nat_eq k n ≡ false → contains nat_cmp s (key c k) ≡ true → contains nat_cmp r (key c k) ≡ true

-- and the one is behind no code of the tuple
abbrev pub IsGone : NameHashing → List Column → BTreeSet ℕ → ℕ × List Atom → Type 0
IsGone hs cs s t = (i : ℕ) → is_text_at cs i ≡ true → contains nat_cmp s (key (code hs i (text_in i t.1)) t.0) ≡ false

-- ---- what is found

-- the numbers of the first list, and those that the set has behind the code, are in the second one
pub record HasAll (s : BTreeSet ℕ) (c : ℕ) (old new : List ℕ) : Type 0 where
  pub stay : (k : ℕ) → Contains old k → Contains new k
  pub all : (k : ℕ) → k < 2 ^ 32 → contains nat_cmp s (key c k) ≡ true → Contains new k

-- the numbers ascend, and are those of all tuples in the index that hold somewhere where the texts stand in their columns
pub record AreWith (hs : NameHashing) (cs : List Column) (s : BTreeSet ℕ) (us : List (ℕ × List ℕ)) (ids : List ℕ) : Type 0 where
  pub ascending : IsStrictlyIncreasing ids
  pub complete : (t : ℕ × List Atom) (p : Point) → IsThere hs cs s t → tuple_holds t.1 p ≡ true → list_all (is_text_met p) us ≡ true → Contains ids t.0
