-- Values near others, and what holds near by, and what holds all around.
use Rattle.std.specs.Prelude.{◌≡◌, ℕ, ◌*◌, ◌<◌, ℤ, pos, ◌-ℤ◌, ◌*ℤ◌, unsigned_abs, Bool, IsTrue, List, [], ◌∷◌, map}
use Rattle.ded_model.specs.declared.slot.Slot.{Slot}
use Rattle.ded_model.specs.declared.slot.Sort.TheVariants.{Rat, Text}
use Rattle.ded_model.specs.declared.row.RowOp.{RowOp}
use Rattle.ded_model.specs.declared.row.RowOp.TheVariants.{Zero, AtMost, Below}
use Rattle.ded_model.specs.declared.tuple.ThemeAtom.{ThemeAtom}
use Rattle.ded_model.specs.declared.tuple.ThemeAtom.TheVariants.{EqText, NeText, EqSlot, NeSlot}
use Rattle.ded_model.specs.declared.tuple.BothAtom.TheVariants.{First, Second}
use Rattle.ded_model.specs.Constraint.{LinearConstraint}
use Rattle.ded_model.specs.Point.{slot, Point, IsPoint, number_at, text_at}
use Rattle.ded_model.specs.Row.{Atom, tuple_holds}
use Rattle.ded_model.specs.Cell.{HoldsSomewhere}
use Rattle.ded_model.specs.Rational.{AreRationalCoefs}
use Rattle.ded_model.specs.Value.{Argument}

-- z over d and w over e differ by less than m over k
abbrev pub IsNear : ℕ → ℕ → ℤ → ℕ → ℤ → ℕ → Type 0
IsNear m k z d w e = unsigned_abs (z *ℤ pos e -ℤ w *ℤ pos d) * k < m * (d * e)

-- ---- arguments

-- as many arguments, over the denominators d and e, with the same texts and with numbers that differ by less than m over k
abbrev pub AreNear : ℕ → ℕ → ℕ → ℕ → List Argument → List Argument → Type 0
AreNear m k d e [] [] = Unit {0}
AreNear m k d e [] (y ∷ ys) = ⊥
AreNear m k d e (x ∷ xs) [] = ⊥
AreNear m k d e (x ∷ xs) (y ∷ ys) = IsNear m k x.0 d y.0 e × (x.1 ≡ y.1) × AreNear m k d e xs ys

-- for every distance m over k above 0 it holds of some values that are nearer
abbrev pub IsClose : (ℕ → List Argument → Type 0) → ℕ → List Argument → Type 0
IsClose R d xs = (m k : ℕ) → 0 < m → 0 < k → (e : ℕ) × (ys : List Argument) × (0 < e) × AreNear m k d e xs ys × R e ys

-- for some distance m over k above 0 it holds of all values that are nearer
abbrev pub IsInside : (ℕ → List Argument → Type 0) → ℕ → List Argument → Type 0
IsInside R d xs = (m : ℕ) × (k : ℕ) × (0 < m) × (0 < k) × ((e : ℕ) (ys : List Argument) → 0 < e → AreNear m k d e xs ys → R e ys)

-- ---- points by slots

-- the same texts, and numbers that differ by less than m over k
pub record IsNearPoint (m k : ℕ) (p q : Point) : Type 0 where
  pub numbers : (s : Slot) → s.sort ≡ Rat → IsNear m k (number_at p (slot s)) p.den (number_at q (slot s)) q.den
  pub texts : (s : Slot) → s.sort ≡ Text → text_at p (slot s) ≡ text_at q (slot s)

-- for every distance m over k above 0 some point that is nearer passes the test
abbrev pub IsCloseAt : (Point → Bool) → Point → Type 0
IsCloseAt test p = (m k : ℕ) → 0 < m → 0 < k → (q : Point) × IsPoint q × IsNearPoint m k p q × IsTrue (test q)

-- for some distance m over k above 0 all points that are nearer pass the test
abbrev pub IsInsideAt : (Point → Bool) → Point → Type 0
IsInsideAt test p = (m : ℕ) × (k : ℕ) × (0 < m) × (0 < k) × ((q : Point) → IsPoint q → IsNearPoint m k p q → IsTrue (test q))

-- ---- strict rows made weak

-- `<=` for `<`, and any other op itself
abbrev pub weak_op : RowOp → RowOp
weak_op Zero = Zero
weak_op AtMost = AtMost
weak_op Below = AtMost

-- the row with `<=` for `<`
abbrev pub weak_row : LinearConstraint → LinearConstraint
weak_row r = record { coefs = r.coefs; constant = r.constant; op = weak_op r.op }

-- the tuple with `<=` for `<` in each of its rows, and its text atoms as they are
abbrev pub weak_tuple : List Atom → List Atom
weak_tuple [] = []
weak_tuple (First r ∷ atoms) = First (weak_row r) ∷ weak_tuple atoms
weak_tuple (Second a ∷ atoms) = Second a ∷ weak_tuple atoms

-- the tuples with `<=` for `<` in each of their rows
abbrev pub weak_tuples : List (List Atom) → List (List Atom)
weak_tuples ts = map weak_tuple ts

-- the slots of a text atom are slots of texts
abbrev pub IsTextTheme : ThemeAtom → Type 0
IsTextTheme (EqText s t) = s.sort ≡ Text
IsTextTheme (NeText s t) = s.sort ≡ Text
IsTextTheme (EqSlot s t) = (s.sort ≡ Text) × (t.sort ≡ Text)
IsTextTheme (NeSlot s t) = (s.sort ≡ Text) × (t.sort ≡ Text)

-- rows are over rational slots, and text atoms over slots of texts
abbrev pub AreSortedAtoms : List Atom → Type 0
AreSortedAtoms [] = Unit {0}
AreSortedAtoms (First r ∷ atoms) = AreRationalCoefs r.coefs × AreSortedAtoms atoms
AreSortedAtoms (Second a ∷ atoms) = IsTextTheme a × AreSortedAtoms atoms

-- in each of the tuples rows are over rational slots, and text atoms over slots of texts
abbrev pub AreSortedTuples : List (List Atom) → Type 0
AreSortedTuples [] = Unit {0}
AreSortedTuples (t ∷ ts) = AreSortedAtoms t × AreSortedTuples ts

-- each of the tuples holds somewhere
abbrev pub AreInhabited : List (List Atom) → Type 0
AreInhabited [] = Unit {0}
AreInhabited (t ∷ ts) = HoldsSomewhere (tuple_holds t) × AreInhabited ts
