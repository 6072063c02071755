-- Cells of atoms, and conjunctions without superfluous atoms. All of this is over atoms of any kind.
use Rattle.std.specs.Prelude.{◌≡◌, ◌≢◌, ℕ, ◌<◌, ℤ, pos, negsuc, int_lt, Bool, false, IsTrue, List, ◌∷◌, ◌++◌, length, map, get_or, if◌then◌else◌}
use Rattle.std.specs.List.{list_all}
use Rattle.ded_model.specs.declared.tuple.ThemeAtom.{ThemeAtom}
use Rattle.ded_model.specs.declared.tuple.BothAtom.TheVariants.{First, Second}
use Rattle.ded_model.specs.Constraint.{LinearConstraint}
use Rattle.ded_model.specs.Point.{Point, IsPoint}
use Rattle.ded_model.specs.Row.{Atom, row_at, theme_holds}

-- ---- cells

-- 1 for a number above 0, 0 for 0, and -1 for one below
abbrev pub sign : ℤ → ℤ
sign z = if int_lt z (pos 0) then negsuc 0 else (if int_lt (pos 0) z then pos 1 else pos 0)

-- the cell of a row: the sign of its sum
abbrev pub row_cell : LinearConstraint → Point → ℤ
row_cell r p = sign (row_at r p)

-- the cell of a text atom: 1 where it holds, and else 0
abbrev pub theme_cell : ThemeAtom → Point → ℤ
theme_cell a p = if theme_holds a p then pos 1 else pos 0

-- the cell of an atom, be it a row or a text atom
abbrev pub atom_cell : Atom → Point → ℤ
atom_cell (First r) p = row_cell r p
atom_cell (Second a) p = theme_cell a p

-- the cells of the atoms at a point
abbrev pub cells : {A : Type 0} → (A → Point → ℤ) → List A → Point → List ℤ
cells cell atoms p = map (λ a. cell a p) atoms

-- there are n points at which the atoms have pairwise different cells
pub record HasCells {A : Type 0} (cell : A → Point → ℤ) (atoms : List A) (n : ℕ) : Type 0 where
  pub points : List Point
  pub count : length points ≡ n
  pub positive : (k : ℕ) → k < n → (d : Point) → IsPoint (get_or points k d)
  pub differ : (i j : ℕ) → i < j → j < n → (d : Point) → cells cell atoms (get_or points i d) ≢ cells cell atoms (get_or points j d)

-- ---- reduced conjunctions

-- all the atoms hold; an empty list of atoms holds everywhere
abbrev pub conj_holds : {A : Type 0} → (A → Point → Bool) → List A → Point → Bool
conj_holds holds atoms p = list_all (λ a. holds a p) atoms

-- some point passes the test
abbrev pub HoldsSomewhere : (Point → Bool) → Type 0
HoldsSomewhere test = (p : Point) × IsPoint p × IsTrue (test p)

-- no point passes the test
abbrev pub HoldsNowhere : (Point → Bool) → Type 0
HoldsNowhere test = (p : Point) → IsPoint p → test p ≡ false

-- the atoms hold somewhere, and without any one of them the others hold at a point at which it doesn't
pub record IsReduced {A : Type 0} (holds : A → Point → Bool) (atoms : List A) : Type 0 where
  pub inhabited : HoldsSomewhere (conj_holds holds atoms)
  pub needed : (before : List A) (a : A) (after : List A) → atoms ≡ before ++ a ∷ after
      → (p : Point) × IsPoint p × IsTrue (conj_holds holds (before ++ after) p) × (holds a p ≡ false)
