-- Tagged rows are rows in normal form, by `<=`.
use Rattle.std.proofs.Common.{◌≡◌, ℕ, ◌+◌, true, List, [], ◌∷◌, ◌++◌, arith, refl}
use Rattle.std.specs.Prelude.{ℤ, pos, negsuc}
use lib.IntN.{neg_ℤ}
use Rattle.std.specs.List.{AllByRecursion}
use Rattle.ded_num.specs.Length.{IsShort}
use Rattle.ded_model.specs.declared.slot.Slot.{Slot}
use Rattle.ded_model.specs.declared.row.RowOp.{RowOp}
use Rattle.ded_model.specs.declared.row.RowOp.TheVariants.{Zero, AtMost, Below}
use Rattle.ded_model.specs.Constraint.{LinearConstraint}
use Rattle.ded_model.specs.Coefs.{AreCoefs, with_coef}
use Rattle.ded_model.specs.Normal.{divisor_of, normal_with, normal_row}
use Rattle.ded_model.proofs.CoefLemmas.{AreCoefs-with_coef}
use Rattle.ded_model.proofs.CoefDivision.{AreCoefs-coefs_over}
use Rattle.ded_model.proofs.Divisors.{divisor-whole, divisor-nonzero_first}
use Rattle.ded_row.proofs.Forms.{begins, normal_row-normal}
use Rattle.ded_row.proofs.Pieces.{whole_minus}
use Rattle.ded_row.proofs.MixedLines.{minus_one}
use Rattle.ded_elimination.specs.LinearAtoms.{IsLinearAtom}
use Rattle.ded_cert.specs.Tracing.{tag, tagged, tagged_coefs, turned_coefs, slack_of, forward, backward, traces_by, traces, is_weak_row}
use Rattle.ded_cert.proofs.WeakRows.{normal_weak}

slack_short : (op : RowOp) → IsShort (slack_of op)
slack_short Zero = omega arith
slack_short AtMost = omega arith
slack_short Below = omega arith

tagged_are : (b : ℕ) (w : ℤ) (n : ℕ) (cs : List (Slot × ℤ)) → IsShort w → AreCoefs cs → AreCoefs (tagged_coefs b w n cs)
tagged_are b w n cs s h =
    let one : IsShort (pos 1) = omega arith in
    let first = AreCoefs-with_coef (tag b) refl (pos 1) one cs h in
    let second = AreCoefs-with_coef (tag (b + 1)) refl w s (with_coef (tag b) (pos 1) cs) first in
    AreCoefs-with_coef (tag n) refl (pos 1) one (with_coef (tag (b + 1)) w (with_coef (tag b) (pos 1) cs)) second

-- the normal row has coefficients in order too
normal_are : (op : RowOp) (m : ℤ) (cs : List (Slot × ℤ)) → AreCoefs cs → AreCoefs (normal_with (record { coefs = cs; constant = m; op = op }) cs).coefs
normal_are op m [] h = tt
normal_are op m (c ∷ cs) h = AreCoefs-coefs_over (divisor_of op m (c ∷ cs)) (c ∷ cs) (divisor-nonzero_first op m c cs h.2) (divisor-whole op m (c ∷ cs)) h

tagged_linear : (b : ℕ) (w : ℤ) (n : ℕ) (cs : List (Slot × ℤ)) (m : ℤ) → IsShort w → AreCoefs cs → IsLinearAtom (normal_row (tagged b w n cs m))
unfolding normal_row
tagged_linear b w n cs m s h =
    let a = tagged_are b w n cs s h in
    record { coefs = normal_are AtMost m (tagged_coefs b w n cs) a; row = normal_row-normal (tagged b w n cs m) (begins (tagged_coefs b w n cs) a) }

all_append : (P : LinearConstraint → Type 0) (xs ys : List LinearConstraint) → AllByRecursion P xs → AllByRecursion P ys → AllByRecursion P (xs ++ ys)
all_append P [] ys h k = k
all_append P (x ∷ xs) ys h k = (h.0, all_append P xs ys h.1 k)

by_op : (op : RowOp) (b n : ℕ) (r : LinearConstraint) → AreCoefs r.coefs → AllByRecursion IsLinearAtom (traces_by op b n r)
by_op Zero b n r h = (
  tagged_linear b (slack_of r.op) n r.coefs r.constant (slack_short r.op) h,
  (
    tagged_linear b (pos 0) (n + 1) (turned_coefs r.coefs) (neg_ℤ r.constant) (omega arith) (AreCoefs-coefs_over (negsuc 0) r.coefs minus_one (whole_minus r.coefs) h),
    tt,
  ),
)
by_op AtMost b n r h = (tagged_linear b (slack_of r.op) n r.coefs r.constant (slack_short r.op) h, tt)
by_op Below b n r h = (tagged_linear b (slack_of r.op) n r.coefs r.constant (slack_short r.op) h, tt)

pub traces_linear : (b n : ℕ) (rs : List LinearConstraint) → AllByRecursion IsLinearAtom rs → AllByRecursion IsLinearAtom (traces b n rs)
traces_linear b n [] h = tt
traces_linear b n (r ∷ rs) h = all_append IsLinearAtom (traces_by r.op b n r) (traces b (n + 2) rs) (by_op r.op b n r h.0.coefs) (traces_linear b (n + 2) rs h.1)

weak_by : (op : RowOp) (b n : ℕ) (r : LinearConstraint) → AllByRecursion (λ r. is_weak_row r ≡ true) (traces_by op b n r)
weak_by Zero b n r = (normal_weak r.constant (forward b n r).coefs, (normal_weak (neg_ℤ r.constant) (backward b n r).coefs, tt))
weak_by AtMost b n r = (normal_weak r.constant (forward b n r).coefs, tt)
weak_by Below b n r = (normal_weak r.constant (forward b n r).coefs, tt)

pub traces_weak : (b n : ℕ) (rs : List LinearConstraint) → AllByRecursion (λ r. is_weak_row r ≡ true) (traces b n rs)
traces_weak b n [] = tt
traces_weak b n (r ∷ rs) = all_append (λ r. is_weak_row r ≡ true) (traces_by r.op b n r) (traces b (n + 2) rs) (weak_by r.op b n r) (traces_weak b (n + 2) rs)
