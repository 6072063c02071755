-- The row of a comparison that was read: its coefficients are short, in ascending order, and not 0.
use Rattle.std.proofs.Common.{◌≡◌, false, ◌||◌, List, [], ◌∷◌, map, arith}
use Rattle.std.specs.Prelude.{ℤ, pos, ◌<ℤ◌}
use Rattle.std.proofs.lemmas.Int.{ints}
use Rattle.ded_num.specs.Length.{IsWithin, IsShort}
use Rattle.ded_model.specs.declared.formula.CompareOp.{CompareOp}
use Rattle.ded_model.specs.declared.formula.Operand.{Operand}
use Rattle.ded_model.specs.declared.slot.Slot.{Slot}
use Rattle.ded_model.specs.Coefs.{AreCoefs}
use Rattle.ded_model.specs.Constraint.{LinearConstraint}
use Rattle.ded_model.specs.Form.{FormAtom, compare}
use Rattle.ded_model.specs.Known.{KnownNames, is_unbound_operand, is_text_sum}
use Rattle.ded_model.specs.LongRows.{denominator_of, row_coefs, row_constant, is_long_row, is_quoted, is_long_atom}
use Rattle.ded_model.specs.Normal.{numbers, normal_row, IsNormalRow}
use Rattle.ded_model.specs.Plain.{IsPlainAtom}
use Rattle.ded_model.specs.Slotted.{SlotScope, slot_sum, comparison_row, is_text_operand}
use Rattle.ded_model.proofs.Bools.{or_false_left, or_false_right}
use Rattle.ded_model.proofs.LineCoefs.{AllNonzero}
use Rattle.ded_resolve.specs.Scope.{sorts_of}
use Rattle.ded_resolve.proofs.Ascending.{Ascend}
use Rattle.ded_resolve.proofs.SlotNumbers.{summable_parts}
use Rattle.ded_resolve.proofs.ShortRows.{AllShort, IsNumeric, comparison_short}
use Rattle.ded_resolve.proofs.ShortTuples.{positive_denominator, unquoted, third}
use Rattle.ded_print.specs.Tuples.{Names}
use Rattle.ded_reread.proofs.Below.{IsFine}
use Rattle.ded_reread.proofs.Atoms.{compare_good}

-- ---- short rows

above_none : pos 0 <ℤ pos 1
above_none = omega (arith, ints)

longer : (z : ℤ) → IsWithin 63 z → IsShort z
longer z h = omega (arith, h)

coefs_are : (cs : List (Slot × ℤ)) → Ascend cs → AllNonzero cs → AllShort (map (λ c. c.1) cs) → AreCoefs cs
coefs_are [] a n s = tt
coefs_are (c ∷ cs) a n s = (a.0, longer c.1 s.0, n.0, a.1, coefs_are cs a.2 n.1 s.1)

abbrev pub IsCoefRow : LinearConstraint → Type 0
IsCoefRow row = AreCoefs row.coefs × IsNormalRow row

module _ (K : KnownNames) (names : Names) (X : FormAtom → Type 0) (scope : SlotScope) (l : Operand) (o : CompareOp) (r : Operand) (h : IsFine K names X scope (compare l o r)) (n : is_text_operand scope l ≡ false)
    (m : is_text_operand scope r ≡ false) where
  left_sum : is_text_sum (sorts_of scope) l ≡ false
  left_sum = or_false_left (is_text_sum (sorts_of scope) l) (is_text_sum (sorts_of scope) r) (or_false_left (is_text_sum (sorts_of scope) l || is_text_sum (sorts_of scope) r) _ h.sorted)

  right_sum : is_text_sum (sorts_of scope) r ≡ false
  right_sum = or_false_right (is_text_sum (sorts_of scope) l) (is_text_sum (sorts_of scope) r) (or_false_left (is_text_sum (sorts_of scope) l || is_text_sum (sorts_of scope) r) _ h.sorted)

  left_bound : is_unbound_operand (sorts_of scope) l ≡ false
  left_bound = or_false_left (is_unbound_operand (sorts_of scope) l) (is_unbound_operand (sorts_of scope) r) h.bound

  right_bound : is_unbound_operand (sorts_of scope) r ≡ false
  right_bound = or_false_right (is_unbound_operand (sorts_of scope) l) (is_unbound_operand (sorts_of scope) r) h.bound

  compare_short : IsPlainAtom (compare l o r) → is_long_atom (compare l o r) ≡ false → AllShort (numbers (normal_row (comparison_row (slot_sum scope l) o (slot_sum scope r))))
  compare_short p e =
      let d = denominator_of l r in
      let numeric : IsNumeric scope l r = record {
        numbers = record { left = summable_parts d scope l h.apart p.0 left_bound left_sum n; right = summable_parts d scope r h.apart p.1 right_bound right_sum m };
        positive = positive_denominator l r p.0 p.1;
        shared = p.2;
        left = n;
        right = m;
      } in
      comparison_short scope l r numeric (third (is_quoted l) (is_quoted r) (is_long_row (row_coefs l r) (row_constant l r)) (unquoted scope l n) (unquoted scope r m) e) o

  pub compare_row : IsPlainAtom (compare l o r) → is_long_atom (compare l o r) ≡ false → IsCoefRow (normal_row (comparison_row (slot_sum scope l) o (slot_sum scope r)))
  compare_row p e =
      let good = compare_good K names X scope l o r h n m in
      (coefs_are (normal_row (comparison_row (slot_sum scope l) o (slot_sum scope r))).coefs good.ascend good.nonzero (compare_short p e).1, good.normal)
