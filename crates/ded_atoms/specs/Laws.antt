-- Laws of theories whose atoms stand for rows and text atoms.
use Rattle.std.specs.Prelude.{ℤ, List, [], ◌∷◌}
use Rattle.std.proofs.Common.{inl, inr, sym, subst}
use Rattle.ded_model.specs.declared.slot.Slot.{Slot}
use Rattle.ded_model.specs.declared.row.RowOp.TheVariants.{Zero}
use Rattle.ded_model.specs.declared.tuple.ThemeAtom.{ThemeAtom}
use Rattle.ded_model.specs.declared.tuple.BothAtom.{BothAtom}
use Rattle.ded_model.specs.declared.tuple.BothAtom.TheVariants.{First, Second}
use Rattle.ded_model.specs.Constraint.{LinearConstraint}
use Rattle.ded_model.specs.Coefs.{AreCoefs}
use Rattle.ded_model.specs.Normal.{IsNormalTheme, normal_row, divisor_of}
use Rattle.ded_model.specs.Row.{Atom}
use Rattle.ded_model.specs.Lines.{Line, In, line_with, row_lines}
use Rattle.ded_model.proofs.CoefDivision.{AreCoefs-coefs_over}
use Rattle.ded_model.proofs.Divisors.{divisor-whole}
use Rattle.ded_row.proofs.Forms.{divisor-nonzero}
use Rattle.ded_theory.specs.Both.{by_kind, IsByKind}
use Rattle.ded_elimination.specs.LinearAtoms.{IsLinearAtom}
use Rattle.ded_order.specs.OrderRows.{IsOrderAtom}

-- any row is read
abbrev pub IsAnyRow : LinearConstraint → Type 0
IsAnyRow r = Unit {0}

-- a row is such as the rows that are read are
abbrev pub IsOfRows : (LinearConstraint → Type 0) → Atom → Type 0
IsOfRows Rows (First r) = Rows r
IsOfRows Rows (Second a) = Unit {0}

-- the line of coefficients in order has them in order
with_in_order : (cs : List (Slot × ℤ)) (m : ℤ) (l : Line) → AreCoefs cs → In l (line_with cs m) → AreCoefs l.coefs
unfolding normal_row
with_in_order [] m l k i = absurd i
with_in_order (c ∷ cs) m l k (inl e) =
    subst (λ (x : Line). AreCoefs x.coefs) (sym e) (AreCoefs-coefs_over (divisor_of Zero m (c ∷ cs)) (c ∷ cs) (divisor-nonzero Zero m (c ∷ cs) k) (divisor-whole Zero m (c ∷ cs)) k)
with_in_order (c ∷ cs) m l k (inr i) = absurd i

-- so has the line of a row in normal form
pub line_in_order : (r : LinearConstraint) (l : Line) → IsLinearAtom r → In l (row_lines r) → AreCoefs l.coefs
line_in_order r l n i = with_in_order r.coefs r.constant l n.coefs i

-- and of an order row
pub order_line_in_order : (r : LinearConstraint) (l : Line) → IsOrderAtom r → In l (row_lines r) → AreCoefs l.coefs
order_line_in_order r l n i = line_in_order r l n.linear i

module _ {A : Type 0} (normal : A → Type 0) (lines : A → List Line) where
  -- text atoms have no lines
  pub kinds_in_order : ((a : A) (l : Line) → normal a → In l (lines a) → AreCoefs l.coefs) → (a : BothAtom A ThemeAtom) (l : Line) → IsByKind normal IsNormalTheme a → In l (by_kind lines (λ _. []) a) → AreCoefs l.coefs
  kinds_in_order each (First a) l n i = each a l n i
  kinds_in_order each (Second a) l n i = absurd i
