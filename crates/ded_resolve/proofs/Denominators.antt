-- Rows of comparisons whose sums are over one denominator.
--
-- The row over the product of the denominators is then a multiple of the row of the sums as they stand, so the two have one
-- normal row. A single variable beside a sum over m is m times itself over m.
use Rattle.std.proofs.Common.{◌≡◌, ◌≢◌, ℕ, zero, suc, ◌<◌, ◌||◌, false, cond, List, [], ◌∷◌, arith, refl, sym, ap, ap₂, ◌∙◌, true≢false}
use Rattle.std.specs.Prelude.{ℤ, pos, negsuc, ◌-ℤ◌, ◌*ℤ◌, ◌<ℤ◌}
use lib.IntN.{neg_ℤ}
use Rattle.std.proofs.lemmas.Int.{ints}
use Rattle.std.proofs.Math.IntN.{*ℤ-zero}
use Rattle.ded_num.proofs.Signs.{one_times, once}
use Rattle.ded_model.specs.declared.slot.Slot.{Slot}
use Rattle.ded_model.specs.declared.row.RowOp.{RowOp}
use Rattle.ded_model.specs.declared.row.RowOp.TheVariants.{Zero, AtMost, Below}
use Rattle.ded_model.specs.declared.formula.CompareOp.{CompareOp}
use Rattle.ded_model.specs.declared.formula.CompareOp.TheVariants as op
use Rattle.ded_model.specs.declared.formula.Operand.{Operand}
use Rattle.ded_model.specs.declared.formula.Operand.TheVariants.{Single, Sum, Quoted}
use Rattle.ded_model.specs.Constraint.{LinearConstraint}
use Rattle.ded_model.specs.Sum.{SlotSum, denominator}
use Rattle.ded_model.specs.Coefs.{put, put_all, mixed, nonzero}
use Rattle.ded_model.specs.Normal.{normal_row}
use Rattle.ded_model.specs.Logic.{atom, negation}
use Rattle.ded_model.specs.Goal.{linear}
use Rattle.ded_model.specs.Plain.{ShareDenominator}
use Rattle.ded_model.specs.LongRows.{denominator_of}
use Rattle.ded_model.specs.Slotted.{SlotScope, slot_of, slot_sum, difference_row, sums_goal, texts_goal, text_side, is_text_operand, compare_goal}
use Rattle.ded_model.proofs.LineCoefs.{nonzero-nonzero}
use Rattle.ded_model.proofs.Values.{denominator-positive}
use Rattle.ded_row.specs.Multiples.{coefs_times, row_times}
use Rattle.ded_row.proofs.Scaling.{IsFactor, normal_row-times}
use Rattle.ded_row.proofs.MixedLines.{times-nonzero, nonzero_begins, times-put_all, difference_product}
use Rattle.ded_resolve.specs.Scope.{sum_over}
use Rattle.ded_model.proofs.Definable.{neg_times}
use Rattle.ded_model.proofs.Given.{denominator_is}

-- ---- sums as they stand

-- the row of `l - r`, both over the denominator that they share
abbrev pub plain_row : SlotSum → SlotSum → RowOp → LinearConstraint
plain_row l r op = record { coefs = nonzero (mixed (pos 1) l.coefs (neg_ℤ (pos 1)) r.coefs); constant = l.constant -ℤ r.constant; op = op }

times_minus : (d : ℤ) → d *ℤ neg_ℤ (pos 1) ≡ neg_ℤ d
times_minus (pos n) = omega (arith, ints)
times_minus (negsuc n) = omega (arith, ints)

-- a multiple of a difference
times-difference : (d : ℤ) (xs ys : List (Slot × ℤ)) → coefs_times d (mixed (pos 1) xs (neg_ℤ (pos 1)) ys) ≡ mixed d xs (neg_ℤ d) ys
times-difference d xs ys =
    times-put_all d (pos 1) xs (put_all (neg_ℤ (pos 1)) ys [])
    ∙ ap₂ (λ k zs. put_all k xs zs) (once d) (times-put_all d (neg_ℤ (pos 1)) ys [] ∙ ap (λ k. put_all k ys []) (times_minus d))

-- the difference over the square of the denominator is a multiple
difference-multiple : (d : ℕ) (l r : SlotSum) (op : RowOp) → pos d ≢ pos 0
    → ◌≡◌ {A = LinearConstraint} (record { coefs = nonzero (mixed (pos d) l.coefs (neg_ℤ (pos d)) r.coefs); constant = pos d *ℤ l.constant -ℤ pos d *ℤ r.constant; op = op }) (row_times (pos d) (plain_row l r op))
difference-multiple d l r op n =
    ap₂ (λ (cs : List (Slot × ℤ)) (z : ℤ). record { coefs = cs; constant = z; op = op })
    (sym (times-nonzero (pos d) (mixed (pos 1) l.coefs (neg_ℤ (pos 1)) r.coefs) n ∙ ap nonzero (times-difference (pos d) l.coefs r.coefs)))
    (difference_product (pos d) l.constant r.constant)

pub nonzero_pos : (d : ℕ) → 0 < d → pos d ≢ pos 0
nonzero_pos zero h e = omega (arith, h)
nonzero_pos (suc d) h e = omega (arith, ints)

factor_pos : (d : ℕ) (op : RowOp) → 0 < d → IsFactor op (pos d)
factor_pos d Zero h = record { nonzero = nonzero_pos d h; sign = tt }
factor_pos d AtMost h = record { nonzero = nonzero_pos d h; sign = omega (arith, ints, h) }
factor_pos d Below h = record { nonzero = nonzero_pos d h; sign = omega (arith, ints, h) }

-- so both have one normal row
pub difference_plain : (l r : SlotSum) (op : RowOp) → l.over ≡ r.over → normal_row (plain_row l r op) ≡ normal_row (difference_row l r op)
difference_plain l r op e =
    let d = denominator r.over in
    let h : 0 < d = denominator-positive r.over in
    sym (
    ap (λ m. normal_row (record { coefs = nonzero (mixed (pos d) l.coefs (neg_ℤ (pos (denominator m))) r.coefs); constant = pos d *ℤ l.constant -ℤ pos (denominator m) *ℤ r.constant; op = op })) e
    ∙ ap normal_row (difference-multiple d l r op (nonzero_pos d h))
    ∙ normal_row-times (pos d) (plain_row l r op) (factor_pos d op h) (nonzero_begins (plain_row l r op).coefs (nonzero-nonzero (mixed (pos 1) l.coefs (neg_ℤ (pos 1)) r.coefs))))

-- ---- a variable beside a sum

-- the variable over m
abbrev variable_over : ℤ → Slot → SlotSum
variable_over m s = record { coefs = (s, m) ∷ []; constant = pos 0; over = m }

denominator_one : pos (denominator (pos 1)) ≡ pos 1
denominator_one = denominator_is (pos 1) (omega (arith, ints))

-- the row of a times l and b times r
abbrev crossed : ℤ → ℤ → SlotSum → SlotSum → RowOp → LinearConstraint
crossed a b l r op = record { coefs = nonzero (mixed a l.coefs (neg_ℤ b) r.coefs); constant = a *ℤ l.constant -ℤ b *ℤ r.constant; op = op }

variable_left : (s : Slot) (m : ℤ) (r : SlotSum) (op : RowOp) → pos 0 <ℤ m → r.over ≡ m → difference_row (variable_over (pos 1) s) r op ≡ plain_row (variable_over m s) r op
variable_left s m r op h e =
    ap₂ (λ a b. crossed a b (variable_over (pos 1) s) r op) (ap (λ k. pos (denominator k)) e ∙ denominator_is m h) denominator_one
    ∙ ap₂ (λ (z c : ℤ). record { coefs = nonzero (put s z (put_all (neg_ℤ (pos 1)) r.coefs [])); constant = c; op = op }) (once m ∙ sym (one_times m)) (ap₂ (λ x y. x -ℤ y) (*ℤ-zero m) (one_times r.constant))

variable_right : (l : SlotSum) (s : Slot) (m : ℤ) (op : RowOp) → pos 0 <ℤ m → l.over ≡ m → difference_row l (variable_over (pos 1) s) op ≡ plain_row l (variable_over m s) op
variable_right l s m op h e =
    ap₂ (λ a b. crossed a b l (variable_over (pos 1) s) op) denominator_one (ap (λ k. pos (denominator k)) e ∙ denominator_is m h)
    ∙ ap₂ (λ (z c : ℤ). record { coefs = nonzero (put_all (pos 1) l.coefs ((s, z) ∷ [])); constant = c; op = op }) (once (neg_ℤ m) ∙ sym (neg_times m)) (ap₂ (λ x y. x -ℤ y) (one_times l.constant) (*ℤ-zero m))

-- ---- sides

-- both pairs have one normal row
abbrev HaveSameRows : SlotSum → SlotSum → SlotSum → SlotSum → Type 0
HaveSameRows l r l' r' = (op : RowOp) → normal_row (difference_row l r op) ≡ normal_row (difference_row l' r' op)

-- the sides over the comparison's denominator, and as they are
same_rows : (scope : SlotScope) (l r : Operand) (m : ℤ) → pos 0 <ℤ m → m ≡ denominator_of l r → is_text_operand scope l ≡ false → is_text_operand scope r ≡ false
    → HaveSameRows (sum_over m scope l) (sum_over m scope r) (slot_sum scope l) (slot_sum scope r)
same_rows scope (Single x) (Single y) m h e n k = λ op. ap (λ z. normal_row (difference_row (sum_over z scope (Single x)) (sum_over z scope (Single y)) op)) e
same_rows scope (Single x) (Sum u) m h e n k = λ op.
    sym (difference_plain (variable_over m (slot_of scope x)) (slot_sum scope (Sum u)) op e) ∙ ap normal_row (sym (variable_left (slot_of scope x) m (slot_sum scope (Sum u)) op h (sym e)))
same_rows scope (Sum t) (Single y) m h e n k = λ op.
    sym (difference_plain (slot_sum scope (Sum t)) (variable_over m (slot_of scope y)) op (sym e)) ∙ ap normal_row (sym (variable_right (slot_sum scope (Sum t)) (slot_of scope y) m op h (sym e)))
same_rows scope (Sum t) (Sum u) m h e n k = λ op. refl
same_rows scope (Quoted t) r m h e n k = absurd (true≢false n)
same_rows scope (Single x) (Quoted t) m h e n k = absurd (true≢false k)
same_rows scope (Sum t) (Quoted u) m h e n k = absurd (true≢false k)

-- the denominator is one of both sides
either_denominator : (l r : Operand) → ShareDenominator l r → denominator_of l r ≡ denominator_of r l
either_denominator (Single x) (Single y) h = refl
either_denominator (Single x) (Sum u) h = refl
either_denominator (Single x) (Quoted u) h = refl
either_denominator (Sum t) (Single y) h = refl
either_denominator (Sum t) (Sum u) h = h
either_denominator (Sum t) (Quoted u) h = refl
either_denominator (Quoted t) (Single y) h = refl
either_denominator (Quoted t) (Sum u) h = refl
either_denominator (Quoted t) (Quoted u) h = refl

-- both sides are over it
pub sides_share : (scope : SlotScope) (l r : Operand) (m : ℤ) → m ≡ denominator_of l r → ShareDenominator l r → (sum_over m scope l).over ≡ (sum_over m scope r).over
sides_share scope (Single x) (Single y) m e h = refl
sides_share scope (Single x) (Sum u) m e h = e
sides_share scope (Single x) (Quoted u) m e h = refl
sides_share scope (Sum t) (Single y) m e h = sym e
sides_share scope (Sum t) (Sum u) m e h = h
sides_share scope (Sum t) (Quoted u) m e h = sym e
sides_share scope (Quoted t) (Single y) m e h = refl
sides_share scope (Quoted t) (Sum u) m e h = e
sides_share scope (Quoted t) (Quoted u) m e h = refl

-- the row of the sides as they are has the normal row of the sides over the denominator, as they stand there
pub plain_rows : (scope : SlotScope) (l r : Operand) (m : ℤ) → pos 0 <ℤ m → m ≡ denominator_of l r → ShareDenominator l r → is_text_operand scope l ≡ false → is_text_operand scope r ≡ false
    → (op : RowOp) → normal_row (plain_row (sum_over m scope l) (sum_over m scope r) op) ≡ normal_row (difference_row (slot_sum scope l) (slot_sum scope r) op)
plain_rows scope l r m h e share n k op = difference_plain (sum_over m scope l) (sum_over m scope r) op (sides_share scope l r m e share) ∙ same_rows scope l r m h e n k op

-- so have the rows with the sides turned
share_turned : (l r : Operand) → ShareDenominator l r → ShareDenominator r l
share_turned (Sum t) (Sum u) h = sym h
share_turned (Sum t) (Single y) h = tt
share_turned (Sum t) (Quoted u) h = tt
share_turned (Single x) (Single y) h = tt
share_turned (Single x) (Sum u) h = tt
share_turned (Single x) (Quoted u) h = tt
share_turned (Quoted t) (Single y) h = tt
share_turned (Quoted t) (Sum u) h = tt
share_turned (Quoted t) (Quoted u) h = tt

pub plain_rows_turned : (scope : SlotScope) (l r : Operand) (m : ℤ) → pos 0 <ℤ m → m ≡ denominator_of l r → ShareDenominator l r → is_text_operand scope l ≡ false → is_text_operand scope r ≡ false
    → (op : RowOp) → normal_row (plain_row (sum_over m scope r) (sum_over m scope l) op) ≡ normal_row (difference_row (slot_sum scope r) (slot_sum scope l) op)
plain_rows_turned scope l r m h e share n k op = plain_rows scope r l m h (e ∙ either_denominator l r share) (share_turned l r share) k n op

-- ---- goals

same_goals : (l r l' r' : SlotSum) (o : CompareOp) → HaveSameRows l r l' r' → HaveSameRows r l r' l' → sums_goal l o r ≡ sums_goal l' o r'
same_goals l r l' r' op.Less h k = ap (λ q. atom (linear q)) (h Below)
same_goals l r l' r' op.LessEq h k = ap (λ q. atom (linear q)) (h AtMost)
same_goals l r l' r' op.Equal h k = ap (λ q. atom (linear q)) (h Zero)
same_goals l r l' r' op.NotEqual h k = ap (λ q. negation (atom (linear q))) (h Zero)
same_goals l r l' r' op.GreaterEq h k = ap (λ q. atom (linear q)) (k AtMost)
same_goals l r l' r' op.Greater h k = ap (λ q. atom (linear q)) (k Below)

-- the goal of sums over the comparison's denominator is that of the comparison
pub goal_over : (scope : SlotScope) (l : Operand) (o : CompareOp) (r : Operand) (m : ℤ) → pos 0 <ℤ m → m ≡ denominator_of l r → ShareDenominator l r
    → is_text_operand scope l ≡ false → is_text_operand scope r ≡ false → sums_goal (sum_over m scope l) o (sum_over m scope r) ≡ compare_goal scope l o r
goal_over scope l o r m h e share n k =
    same_goals (sum_over m scope l) (sum_over m scope r) (slot_sum scope l) (slot_sum scope r) o (same_rows scope l r m h e n k) (same_rows scope r l m h (e ∙ either_denominator l r share) k n)
    ∙ ap (λ b. cond b (texts_goal (text_side scope l) o (text_side scope r)) (sums_goal (slot_sum scope l) o (slot_sum scope r))) (sym (ap₂ (λ x y. x || y) n k))
