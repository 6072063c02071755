-- The row of a normal row that is compared again is that row.
--
-- Its terms have ascending slots, so adding them up one by one gives the list as it stands. Where all signs are turned, an inequality
-- is compared the other way round, and an equality has the normal row of its negative.
use Rattle.std.proofs.Common.{◌≡◌, ◌≢◌, ℕ, Bool, true, false, cond, ◌||◌, List, [], ◌∷◌, arith, refl, sym, ap, ap₂, ◌∙◌}
use Rattle.std.specs.Prelude.{ℤ, pos, ◌-ℤ◌, ◌*ℤ◌}
use lib.IntN.{neg_ℤ}
use Rattle.std.specs.Ordering.{int_eq}
use Rattle.std.proofs.lemmas.Int.{ints}
use Rattle.std.proofs.lemmas.Bool.Decides.{Decides-int_eq}
use Rattle.ded_num.proofs.Signs.{one_times, twice_turned}
use Rattle.ded_model.specs.declared.slot.Slot.{Slot}
use Rattle.ded_model.specs.declared.slot.Sort.{Sort}
use Rattle.ded_model.specs.declared.slot.Sort.TheVariants.{Text}
use Rattle.ded_model.specs.declared.row.RowOp.{RowOp}
use Rattle.ded_model.specs.declared.row.RowOp.TheVariants.{Zero, AtMost, Below}
use Rattle.ded_model.specs.declared.formula.CompareOp.{CompareOp}
use Rattle.ded_model.specs.declared.formula.CompareOp.TheVariants.{NotEqual}
use Rattle.ded_model.specs.declared.formula.Operand.TheVariants.{Single}
use Rattle.ded_model.specs.Constraint.{LinearConstraint}
use Rattle.ded_model.specs.Coefs.{AllAbove, put, put_all, nonzero}
use Rattle.ded_model.specs.Goal.{linear}
use Rattle.ded_model.specs.Logic.{atom, negation}
use Rattle.ded_model.specs.Normal.{normal_row, constant_row, IsNormalRow}
use Rattle.ded_model.specs.Point.{same_sort}
use Rattle.ded_model.specs.Slotted.{SlotScope, slot_of, add_parts, slot_sum, difference_row, sums_goal, texts_goal, text_side, is_text_operand, compare_goal, atom_goal}
use Rattle.ded_model.specs.Sum.{SlotSum, denominator}
use Rattle.ded_model.proofs.CoefLemmas.{put-above, not_zero}
use Rattle.ded_model.proofs.Definable.{neg_times}
use Rattle.ded_model.proofs.LineCoefs.{AllNonzero}
use Rattle.ded_row.specs.Multiples.{coefs_times}
use Rattle.ded_row.proofs.MixedLines.{nonzero_begins}
use Rattle.ded_row.proofs.Scaling.{normal_row-times}
use Rattle.ded_row.proofs.Shared.{times_nonzero}
use Rattle.ded_sorts.proofs.Overs.{AreSlots}
use Rattle.ded_resolve.proofs.Ascending.{Ascend}
use Rattle.ded_resolve.proofs.Denominators.{difference_plain}
use Rattle.ded_print.specs.Tuples.{Names, signed}
use Rattle.ded_reread.specs.Operands.{is_turned, terms_of, whole_sum, left_of, right_of, op_of, row_compared, row_compare, constant_compare}

-- ---- multiples of ascending lists

pub above-times : (k : ℤ) (n : ℕ) (cs : List (Slot × ℤ)) → AllAbove n cs → AllAbove n (coefs_times k cs)
above-times k n [] h = tt
above-times k n (c ∷ cs) h = (h.0, above-times k n cs h.1)

pub ascend-times : (k : ℤ) (cs : List (Slot × ℤ)) → Ascend cs → Ascend (coefs_times k cs)
ascend-times k [] h = tt
ascend-times k (c ∷ cs) h = (h.0, above-times k c.0.number cs h.1, ascend-times k cs h.2)

-- what has no zeros is as it is without them
pub nonzero-same : (cs : List (Slot × ℤ)) → AllNonzero cs → nonzero cs ≡ cs
nonzero-same [] h = refl
nonzero-same (c ∷ cs) h = ap (λ b. cond b (nonzero cs) (c ∷ nonzero cs)) (not_zero c.1 h.0) ∙ ap (λ ds. c ∷ ds) (nonzero-same cs h.1)

-- what is put in order one by one is the list of multiples
pub put_all-ascending : (k : ℤ) (cs : List (Slot × ℤ)) → Ascend cs → put_all k cs [] ≡ coefs_times k cs
put_all-ascending k [] h = refl
put_all-ascending k (c ∷ cs) h = ap (put c.0 (k *ℤ c.1)) (put_all-ascending k cs h.2) ∙ put-above c.0 (k *ℤ c.1) (coefs_times k cs) (above-times k c.0.number cs h.1)

pub times-one : (cs : List (Slot × ℤ)) → coefs_times (pos 1) cs ≡ cs
times-one [] = refl
times-one (c ∷ cs) = ap₂ (λ (z : ℤ) (ds : List (Slot × ℤ)). (c.0, z) ∷ ds) (one_times c.1) (times-one cs)

-- turned twice
times-turned : (cs : List (Slot × ℤ)) → coefs_times (neg_ℤ (pos 1)) (coefs_times (neg_ℤ (pos 1)) cs) ≡ cs
times-turned [] = refl
times-turned (c ∷ cs) = ap₂ (λ (z : ℤ) (ds : List (Slot × ℤ)). (c.0, z) ∷ ds) (ap (λ z. neg_ℤ (pos 1) *ℤ z) (neg_times c.1) ∙ neg_times (neg_ℤ c.1) ∙ twice_turned c.1) (times-turned cs)

-- ---- the sides

abbrev pub sign : Bool → ℤ
sign false = pos 1
sign true = neg_ℤ (pos 1)

sign_nonzero : (b : Bool) → sign b ≢ pos 0
sign_nonzero false e = absurd (omega (arith, ints))
sign_nonzero true e = absurd (omega (arith, ints))

signed-is : (b : Bool) (a : ℤ) → signed b a ≡ sign b *ℤ a
signed-is false a = sym (one_times a)
signed-is true a = sym (neg_times a)

-- the slot is what its name means
abbrev pub IsCalledIn : SlotScope → Names → Slot → Type 0
IsCalledIn scope names s = slot_of scope (names s) ≡ s

-- whole numbers without a constant
abbrev pub sum_with : List (Slot × ℤ) → SlotSum
sum_with cs = record { coefs = cs; constant = pos 0; over = pos 1 }

-- the sides of the comparison, by slots
abbrev left_side : Bool → List (Slot × ℤ) → SlotSum
left_side b cs = sum_with (coefs_times (sign b) cs)

abbrev right_side : Bool → ℤ → SlotSum
right_side b k = record { coefs = []; constant = neg_ℤ (signed b k); over = pos 1 }

module _ (scope : SlotScope) (names : Names) (b : Bool) where
  terms-sum : (cs : List (Slot × ℤ)) → Ascend cs → AreSlots (IsCalledIn scope names) cs → add_parts scope (terms_of names b cs) ≡ coefs_times (sign b) cs
  terms-sum [] h q = refl
  terms-sum (c ∷ cs) h q =
      ap₂ (λ (s : Slot) (z : ℤ). put s z (add_parts scope (terms_of names b cs))) q.0 (signed-is b c.1)
      ∙ ap (put c.0 (sign b *ℤ c.1)) (terms-sum cs h.2 q.1)
      ∙ put-above c.0 (sign b *ℤ c.1) (coefs_times (sign b) cs) (above-times (sign b) c.0.number cs h.1)

  whole_side : (cs : List (Slot × ℤ)) → Ascend cs → AllNonzero cs → AreSlots (IsCalledIn scope names) cs → slot_sum scope (whole_sum (terms_of names b cs) (pos 0)) ≡ left_side b cs
  whole_side cs h n q =
      ap sum_with (ap nonzero (terms-sum cs h q) ∙ nonzero-same (coefs_times (sign b) cs) (times_nonzero (sign b) cs (sign_nonzero b) n))

  left_is : (cs : List (Slot × ℤ)) → Ascend cs → AllNonzero cs → AreSlots (IsCalledIn scope names) cs → slot_sum scope (left_of (terms_of names b cs)) ≡ left_side b cs
  left_is [] h n q = refl
  left_is (c ∷ []) h n q = go (int_eq (signed b c.1) (pos 1)) refl
    where
      go : (d : Bool) → int_eq (signed b c.1) (pos 1) ≡ d
          → slot_sum scope (left_of (terms_of names b (c ∷ []))) ≡ left_side b (c ∷ [])
      go true e =
          ap (λ x. slot_sum scope (cond x (Single (names c.0)) (whole_sum (terms_of names b (c ∷ [])) (pos 0)))) e
          ∙ ap₂ (λ (s : Slot) (z : ℤ). sum_with ((s, z) ∷ [])) q.0 (sym ((Decides-int_eq (signed b c.1) (pos 1)).0 e) ∙ signed-is b c.1)
      go false e =
          ap (λ x. slot_sum scope (cond x (Single (names c.0)) (whole_sum (terms_of names b (c ∷ [])) (pos 0)))) e
          ∙ whole_side (c ∷ []) h n q
  left_is (c ∷ d ∷ cs) h n q = whole_side (c ∷ d ∷ cs) h n q

  -- the first is no text
  left_number : (cs : List (Slot × ℤ)) → Ascend cs → AreSlots (IsCalledIn scope names) cs → is_text_operand scope (left_of (terms_of names b cs)) ≡ false
  left_number [] h q = refl
  left_number (c ∷ []) h q = go (int_eq (signed b c.1) (pos 1))
    where
      go : (d : Bool) → is_text_operand scope (cond d (Single (names c.0)) (whole_sum (terms_of names b (c ∷ [])) (pos 0))) ≡ false
      go true = ap (λ (s : Slot). same_sort s.sort Text) q.0 ∙ ap (λ (s : Sort). same_sort s Text) h.0
      go false = refl
  left_number (c ∷ d ∷ cs) h q = refl

  -- the goal of both
  sides_goal : (k : ℤ) (cs : List (Slot × ℤ)) (o : CompareOp) → Ascend cs → AllNonzero cs → AreSlots (IsCalledIn scope names) cs
      → compare_goal scope (left_of (terms_of names b cs)) o (right_of b k) ≡ sums_goal (left_side b cs) o (right_side b k)
  sides_goal k cs o h n q =
      let l = left_of (terms_of names b cs) in
      let r = right_of b k in
      ap (λ x. cond (x || false) (texts_goal (text_side scope l) o (text_side scope r)) (sums_goal (slot_sum scope l) o (slot_sum scope r))) (left_number cs h q)
      ∙ ap (λ s. sums_goal s o (right_side b k)) (left_is cs h n q)

-- ---- their rows

minus_turned : (x : ℤ) → pos 0 -ℤ neg_ℤ x ≡ x
minus_turned x = omega (arith, ints)

pub minus_none : (x : ℤ) → x -ℤ pos 0 ≡ x
minus_none x = omega (arith, ints)

abbrev row_with : RowOp → List (Slot × ℤ) → ℤ → LinearConstraint
row_with op cs k = record { coefs = cs; constant = k; op = op }

module _ (k : ℤ) (cs : List (Slot × ℤ)) (h : Ascend cs) (n : AllNonzero cs) where
  straight : (b : Bool) (op : RowOp) → normal_row (difference_row (left_side b cs) (right_side b k) op) ≡ normal_row (row_with op (coefs_times (sign b) cs) (signed b k))
  straight b op =
      let xs = coefs_times (sign b) cs in
      let ones : put_all (pos 1) xs [] ≡ xs = put_all-ascending (pos 1) xs (ascend-times (sign b) cs h) ∙ times-one xs in
      sym (difference_plain (left_side b cs) (right_side b k) op refl)
      ∙ ap₂ (λ ds m. normal_row (row_with op ds m)) (ap nonzero ones ∙ nonzero-same xs (times_nonzero (sign b) cs (sign_nonzero b) n)) (minus_turned (signed b k))

  turned : (b : Bool) (op : RowOp) → normal_row (difference_row (right_side b k) (left_side b cs) op) ≡ normal_row (row_with op (coefs_times (neg_ℤ (pos 1)) (coefs_times (sign b) cs)) (neg_ℤ (signed b k)))
  turned b op =
      let xs = coefs_times (sign b) cs in
      let each : AllNonzero xs = times_nonzero (sign b) cs (sign_nonzero b) n in
      sym (difference_plain (right_side b k) (left_side b cs) op refl)
      ∙ ap₂ (λ ds m. normal_row (row_with op ds m))
      (ap nonzero (put_all-ascending (neg_ℤ (pos 1)) xs (ascend-times (sign b) cs h)) ∙ nonzero-same (coefs_times (neg_ℤ (pos 1)) xs) (times_nonzero (neg_ℤ (pos 1)) xs (sign_nonzero true) each))
      (minus_none (neg_ℤ (signed b k)))

  -- as it stands
  as_is : (op : RowOp) → normal_row (difference_row (left_side false cs) (right_side false k) op) ≡ normal_row (row_with op cs k)
  as_is op = straight false op ∙ ap (λ ds. normal_row (row_with op ds k)) (times-one cs)

  -- with all signs turned, the other way round
  as_turned : (op : RowOp) → normal_row (difference_row (right_side true k) (left_side true cs) op) ≡ normal_row (row_with op cs k)
  as_turned op = turned true op ∙ ap₂ (λ ds m. normal_row (row_with op ds m)) (times-turned cs) (twice_turned k)

  -- an equality either way
  equal_row : (b : Bool) → normal_row (difference_row (left_side b cs) (right_side b k) Zero) ≡ normal_row (row_with Zero cs k)
  equal_row false = as_is Zero
  equal_row true =
      straight true Zero
      ∙ ap (λ m. normal_row (row_with Zero (coefs_times (neg_ℤ (pos 1)) cs) m)) (sym (neg_times k))
      ∙ normal_row-times (neg_ℤ (pos 1)) (row_with Zero cs k) (record { nonzero = sign_nonzero true; sign = tt }) (nonzero_begins cs n)

  -- each comparison of the sides as a row has it
  stated_row : (b : Bool) (op : RowOp) → sums_goal (left_side b cs) (op_of b op) (right_side b k) ≡ atom (linear (normal_row (row_with op cs k)))
  stated_row b Zero = ap (λ r. atom (linear r)) (equal_row b)
  stated_row false AtMost = ap (λ r. atom (linear r)) (as_is AtMost)
  stated_row true AtMost = ap (λ r. atom (linear r)) (as_turned AtMost)
  stated_row false Below = ap (λ r. atom (linear r)) (as_is Below)
  stated_row true Below = ap (λ r. atom (linear r)) (as_turned Below)

-- ---- rows that are compared again

module _ (scope : SlotScope) (names : Names) (r : LinearConstraint) (h : Ascend r.coefs) (n : AllNonzero r.coefs) (q : AreSlots (IsCalledIn scope names) r.coefs) (i : IsNormalRow r) where
  -- the row itself
  pub row_goal : atom_goal scope (row_compare names r) ≡ atom (linear r)
  row_goal =
      sides_goal scope names (is_turned r.coefs) r.constant r.coefs (op_of (is_turned r.coefs) r.op) h n q
      ∙ stated_row r.constant r.coefs h n (is_turned r.coefs) r.op
      ∙ ap (λ s. atom (linear s)) i.normal

  -- the row of an equality, denied
  pub denied_goal : r.op ≡ Zero → atom_goal scope (row_compared names r NotEqual) ≡ negation (atom (linear r))
  denied_goal e =
      sides_goal scope names (is_turned r.coefs) r.constant r.coefs NotEqual h n q
      ∙ ap (λ s. negation (atom (linear s))) (equal_row r.constant r.coefs h n (is_turned r.coefs) ∙ ap (λ op. normal_row (row_with op r.coefs r.constant)) (sym e) ∙ i.normal)

-- the true row and the false one
pub constant_goal : (scope : SlotScope) (b : Bool) → atom_goal scope (constant_compare b) ≡ atom (linear (constant_row b))
unfolding denominator normal_row
constant_goal scope true = refl
constant_goal scope false = refl
