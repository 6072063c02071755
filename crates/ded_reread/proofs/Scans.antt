-- Arguments in lowest numbers are scanned as the arguments are, and have equal values.
use Rattle.std.proofs.Common.{◌≡◌, ℕ, suc, max, ◌*◌, ◌<◌, ◌≤◌, false, cond, List, [], ◌∷◌, ◌++◌, map, arith, refl, sym, ap, ap₂, ◌∙◌, subst}
use Rattle.std.specs.Prelude.{ℤ, pos, ◌+ℤ◌, ◌*ℤ◌, ◌<ℤ◌, ◌↔◌}
use Rattle.std.specs.List.{list_any}
use Rattle.std.proofs.Math.IntN.{*ℤ-zero}
use Rattle.ded_num.proofs.Ring.{parts, ring, diff-pos, diff_same}
use Rattle.ded_model.specs.declared.slot.Slot.{Slot}
use Rattle.ded_model.specs.declared.slot.Sort.TheVariants.{Rat, Text}
use Rattle.ded_model.specs.declared.formula.Operand.{Operand}
use Rattle.ded_model.specs.declared.formula.Operand.TheVariants.{Single, Sum, Quoted}
use Rattle.ded_model.specs.declared.goal.Place.{Place}
use Rattle.ded_model.specs.declared.goal.Place.TheVariants as place
use Rattle.ded_model.specs.declared.tuple.ThemeAtom.TheVariants.{EqText}
use Rattle.ded_model.specs.declared.tuple.BothAtom.TheVariants.{First, Second}
use Rattle.ded_model.specs.Known.{sort_in, is_text_sum}
use Rattle.ded_model.specs.Plain.{IsPlainOperand, ArePlainOperands}
use Rattle.ded_model.specs.Point.{Point, slot, number_at, same_sort, stands_in}
use Rattle.ded_model.specs.Row.{sum_at}
use Rattle.ded_model.specs.Scanned.{kept, fresh, same_atom, argument_row, above_coefs, above_place, first_free, scanned_after, scanned}
use Rattle.ded_model.specs.Slotted.{SlotScope, slot_of, add_parts, slot_sum, place_of}
use Rattle.ded_model.specs.Sum.{SlotSum, denominator}
use Rattle.ded_model.specs.Sum as sum
use Rattle.ded_model.specs.Value.{OperandValue, place_value, Meaning, NameHolds}
use Rattle.ded_model.proofs.Bools.{or_false_left, or_false_right}
use Rattle.ded_model.proofs.LineCoefs.{nonzero-nonzero}
use Rattle.ded_model.proofs.Sats.{Respects}
use Rattle.ded_model.proofs.Values.{overs-positive, place_value-positive}
use Rattle.ded_model.proofs.Terms.{scale_step, scale_law}
use Rattle.ded_row.specs.Multiples.{coefs_times}
use Rattle.ded_resolve.specs.Scope.{sorts_of}
use Rattle.ded_resolve.proofs.Ascending.{ascend-nonzero}
use Rattle.ded_resolve.proofs.Shared.{parts_ascend}
use Rattle.ded_algebra.proofs.EqualValues.{IsEqualValue, AreEqualValues, NameHolds-equal, equals_sym}
use Rattle.ded_reread.specs.Operands.{divisor_in, lowest_sum, restored_operand}
use Rattle.ded_reread.proofs.Sums.{sum_times, divisor, divisor_positive, lowest_over, sum_multiple, any_by, above_times, argument_multiple, denominator_times}

-- ---- rows

module _ (scope : SlotScope) (t : sum.Sum) (over : pos 0 <ℤ t.over) where
  above_same : above_coefs (slot_sum scope (Sum (lowest_sum t))).coefs ≡ above_coefs (slot_sum scope (Sum t)).coefs
  above_same =
      let u = slot_sum scope (Sum (lowest_sum t)) in
      sym (ap (λ (s : SlotSum). above_coefs s.coefs) (sum_multiple t over scope) ∙ above_times (divisor_in t) u.coefs)

  row_same : (v : Slot) → is_text_sum (sorts_of scope) (Sum t) ≡ false → above_coefs (slot_sum scope (Sum t)).coefs ≤ v.number
      → argument_row v (slot_sum scope (Sum (lowest_sum t))) ≡ argument_row v (slot_sum scope (Sum t))
  row_same v s l =
      let u = slot_sum scope (Sum (lowest_sum t)) in
      let cs = add_parts scope (lowest_sum t).parts in
      let same = above_same in
      sym (ap (argument_row v) (sum_multiple t over scope)
      ∙ argument_multiple v (divisor t) u (divisor_positive t over) (lowest_over t over)
      (ascend-nonzero cs (parts_ascend scope (lowest_sum t).parts (any_by (λ x. same_sort (sort_in (sorts_of scope) x) Text) (divisor_in t) t.parts ∙ s)))
      (nonzero-nonzero cs) (at_most _ _ _ same l))
    where
      at_most : (m n k : ℕ) → m ≡ n → n ≤ k → m ≤ k
      at_most m n k e h = omega (arith, e, h)

-- ---- arguments

abbrev places : SlotScope → List Operand → List Place
places scope ts = map (place_of scope) ts

above_restored : (scope : SlotScope) (t : Operand) → IsPlainOperand t → above_place (place_of scope (restored_operand t)) ≡ above_place (place_of scope t)
above_restored scope (Single x) h = refl
above_restored scope (Sum t) h = above_same scope t h.0
above_restored scope (Quoted t) h = refl

free_same : (scope : SlotScope) (ts : List Operand) → ArePlainOperands ts → first_free (places scope (map restored_operand ts)) ≡ first_free (places scope ts)
free_same scope [] h = refl
free_same scope (t ∷ ts) h = ap₂ (λ m n. max m n) (above_restored scope t h.0) (free_same scope ts h.1)

module _ (scope : SlotScope) where
  scanned_same : (ts : List Operand) (done : List Slot) (n : ℕ) → ArePlainOperands ts → list_any (is_text_sum (sorts_of scope)) ts ≡ false → first_free (places scope ts) ≤ n
      → scanned_after done n (places scope (map restored_operand ts)) ≡ scanned_after done n (places scope ts)
  scanned_same [] done n h s f = refl
  scanned_same (Single x ∷ ts) done n h s f =
      let u = slot_of scope x in
      let v : Slot = record { number = n; sort = u.sort } in
      ap₂ (λ a b. cond (stands_in done u) (fresh v (same_atom n u.sort u) ∷ a) (kept u ∷ b))
      (scanned_same ts (done ++ v ∷ []) (suc n) h.1 s (omega (arith, f)))
      (scanned_same ts (done ++ u ∷ []) n h.1 s (omega (arith, f)))
  scanned_same (Sum t ∷ ts) done n h s f =
      let v : Slot = record { number = n; sort = Rat } in
      ap₂ (λ r a. fresh v (First r) ∷ a)
      (row_same scope t h.0.0 v (or_false_left _ _ s) (first (above_coefs (slot_sum scope (Sum t)).coefs) (first_free (places scope ts)) n f))
      (scanned_same ts (done ++ v ∷ []) (suc n) h.1 (or_false_right (is_text_sum (sorts_of scope) (Sum t)) _ s) (rest (above_coefs (slot_sum scope (Sum t)).coefs) (first_free (places scope ts)) n f))
    where
      first : (m k n : ℕ) → max m k ≤ n → m ≤ n
      first m k n f = omega (arith, f)

      rest : (m k n : ℕ) → max m k ≤ n → k ≤ suc n
      rest m k n f = omega (arith, f)
  scanned_same (Quoted x ∷ ts) done n h s f =
      let v : Slot = record { number = n; sort = Text } in
      ap (λ a. fresh v (Second (EqText v x)) ∷ a) (scanned_same ts (done ++ v ∷ []) (suc n) h.1 s (omega (arith, f)))

  -- all of them
  pub scanned_restored : (ts : List Operand) → ArePlainOperands ts → list_any (is_text_sum (sorts_of scope)) ts ≡ false → scanned (places scope (map restored_operand ts)) ≡ scanned (places scope ts)
  scanned_restored ts h s =
      ap (λ n. scanned_after [] n (places scope (map restored_operand ts))) (free_same scope ts h)
      ∙ scanned_same ts [] (first_free (places scope ts)) h s (omega arith)

-- ---- values

sum_at-times : (k : ℤ) (cs : List (Slot × ℤ)) (p : Point) → sum_at (coefs_times k cs) p ≡ k *ℤ sum_at cs p
sum_at-times k [] p = sym (*ℤ-zero k)
sum_at-times k (c ∷ cs) p = ap (λ z. (k *ℤ c.1) *ℤ number_at p (slot c.0) +ℤ z) (sum_at-times k cs p) ∙ scale_step k c.1 (number_at p (slot c.0)) (sum_at cs p)

number_times : (k : ℤ) (u : SlotSum) (p : Point) → sum_at (coefs_times k u.coefs) p +ℤ (k *ℤ u.constant) *ℤ pos p.den ≡ k *ℤ (sum_at u.coefs p +ℤ u.constant *ℤ pos p.den)
number_times k u p = ap (λ z. z +ℤ (k *ℤ u.constant) *ℤ pos p.den) (sum_at-times k u.coefs p) ∙ scale_law k (sum_at u.coefs p) u.constant (pos p.den)

cross_law : (a : ℤ) (d n m : ℕ) → a *ℤ pos (d * (n * m)) ≡ (pos n *ℤ a) *ℤ pos (d * m)
cross_law a d n m = rw (parts a, diff-pos (d * (n * m)), diff-pos n, diff-pos (d * m)) (simp ring (diff_same _ _ _ _ (omega arith)))

multiple_value : (n : ℕ) (u : SlotSum) (p : Point) → 0 < n → pos 0 <ℤ u.over → IsEqualValue p.den p.den (place_value (place.Value u) p) (place_value (place.Value (sum_times (pos n) u)) p)
multiple_value n u p h o =
    let a = sum_at u.coefs p +ℤ u.constant *ℤ pos p.den in
    let m = denominator u.over in
    record {
      number = ap (λ x. a *ℤ pos (p.den * x)) (denominator_times n u.over h o) ∙ cross_law a p.den n m ∙ ap (λ z. z *ℤ pos (p.den * m)) (sym (number_times (pos n) u p));
      text = refl;
    }

same_value : (d : ℕ) (v : OperandValue) → IsEqualValue d d v v
same_value d v = record { number = refl; text = refl }

value_restored : (scope : SlotScope) (t : Operand) (p : Point) → IsPlainOperand t → IsEqualValue p.den p.den (place_value (place_of scope (restored_operand t)) p) (place_value (place_of scope t) p)
value_restored scope (Single x) p h = same_value p.den (place_value (place_of scope (Single x)) p)
value_restored scope (Sum t) p h =
    let u = slot_sum scope (Sum (lowest_sum t)) in
    subst (λ (s : SlotSum). IsEqualValue p.den p.den (place_value (place.Value u) p) (place_value (place.Value s) p)) (sym (sum_multiple t h.0 scope))
    (multiple_value (divisor t) u p (divisor_positive t h.0) (lowest_over t h.0))
value_restored scope (Quoted x) p h = same_value p.den (place_value (place_of scope (Quoted x)) p)

values_restored : (scope : SlotScope) (ts : List Operand) (p : Point) → ArePlainOperands ts
    → AreEqualValues p.den p.den (map (λ t. place_value t p) (places scope (map restored_operand ts))) (map (λ t. place_value t p) (places scope ts))
values_restored scope [] p h = tt
values_restored scope (t ∷ ts) p h = (value_restored scope t p h.0, values_restored scope ts p h.1)

-- a name holds alike of them
pub name_restored : (I : Meaning) → Respects I → (x : List ℕ) (scope : SlotScope) (ts : List Operand) (p : Point) → 0 < p.den → ArePlainOperands ts
    → NameHolds I x p.den (map (λ t. place_value t p) (places scope (map restored_operand ts))) ↔ NameHolds I x p.den (map (λ t. place_value t p) (places scope ts))
name_restored I R x scope ts p h k =
    let vs = map (λ t. place_value t p) (places scope (map restored_operand ts)) in
    let ws = map (λ t. place_value t p) (places scope ts) in
    let i = overs-positive (λ t. place_value t p) (place_value-positive p) (places scope (map restored_operand ts)) in
    let j = overs-positive (λ t. place_value t p) (place_value-positive p) (places scope ts) in
    let e = values_restored scope ts p k in (
      λ s. NameHolds-equal I R x p.den p.den vs ws h h i j e s,
      λ s. NameHolds-equal I R x p.den p.den ws vs h h j i (equals_sym p.den p.den vs ws e) s,
    )
