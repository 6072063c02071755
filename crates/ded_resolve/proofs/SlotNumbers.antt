-- What the numbers of a row by names have, the numbers of the row by slots have.
--
-- Names that differ have slots that differ. So the coefficient of `l - r` at a slot is the difference of the coefficients of
-- the one name that has the slot, or 0 where no name of `l` or `r` has it. What 0 has, and with a number its negative, and
-- all differences at names, each coefficient by slots has too.
use Rattle.std.proofs.Common.{◌≡◌, ℕ, Bool, true, false, cond, List, [], ◌∷◌, ◌++◌, map, ◌⊎◌, inl, inr, arith, refl, sym, ap, ap₂, ◌∙◌, subst, true≢false, bytes_eq}
use Rattle.std.specs.Prelude.{ℤ, pos, ◌+ℤ◌, ◌-ℤ◌}
use lib.IntN.{neg_ℤ}
use Rattle.std.proofs.lemmas.Int.{ints}
use Rattle.std.proofs.lemmas.Slice.Eq.{bytes_eq-Decides}
use Rattle.ded_model.specs.declared.slot.Slot.{Slot}
use Rattle.ded_model.specs.declared.slot.Sort.TheVariants.{Text}
use Rattle.ded_model.specs.declared.row.RowOp.{RowOp}
use Rattle.ded_model.specs.declared.formula.Operand.{Operand}
use Rattle.ded_model.specs.declared.formula.Operand.TheVariants.{Single, Sum, Quoted}
use Rattle.ded_model.specs.Constraint.{LinearConstraint}
use Rattle.ded_model.specs.Point.{same_slot, same_sort}
use Rattle.ded_model.specs.Coefs.{AllAbove, coef_at, mixed, nonzero}
use Rattle.ded_model.specs.Known.{is_unbound_name, is_unbound_operand, is_text_sum, sort_in}
use Rattle.ded_model.specs.LongRows.{parts_over, constant_of, coefficient, difference_over, differences_over, row_coefs_over, row_constant}
use Rattle.ded_model.specs.Plain.{IsPlainOperand}
use Rattle.ded_model.specs.Slotted.{SlotScope, slot_of, add_parts, is_text_operand}
use Rattle.ded_model.proofs.Points.{same_slot_is, same_slot_refl}
use Rattle.ded_model.proofs.CoefLemmas.{coef_at-above, coef_at-here, coef_at-past}
use Rattle.ded_model.proofs.LineCoefs.{coef_at-mixed, coef_at-nonzero}
use Rattle.ded_resolve.specs.Scope.{sorts_of, AreApart, AreSummable, sum_over}
use Rattle.ded_resolve.proofs.Denominators.{plain_row}
use Rattle.ded_resolve.proofs.Ascending.{Ascend, AllRational, ascend-mixed, ascend-nonzero}
use Rattle.ded_resolve.proofs.Summing.{slots_apart, sort_in-slot, rest_summable, ascend-parts, one_part}
use Rattle.std.proofs.lemmas.Bool.{or_from}
use Rattle.ded_num.proofs.Signs.{one_times}
use Rattle.ded_model.proofs.Definable.{neg_times}
use Rattle.ded_model.proofs.Bools.{or_false_left}

-- ---- operands that are numbers

-- both sides of a comparison, over m, are sums of bound names with rational slots of their own, each once
pub record AreNumbers (m : ℤ) (scope : SlotScope) (l r : Operand) : Type 0 where
  pub left : AreSummable scope (parts_over m l)
  pub right : AreSummable scope (parts_over m r)

-- an operand that is no text
pub summable_parts : (m : ℤ) (scope : SlotScope) (t : Operand) → AreApart scope → IsPlainOperand t → is_unbound_operand (sorts_of scope) t ≡ false → is_text_sum (sorts_of scope) t ≡ false → is_text_operand scope t ≡ false
    → AreSummable scope (parts_over m t)
summable_parts m scope (Single x) h p b s e = record {
  apart = h;
  once = (refl, tt);
  bound = or_from (is_unbound_name (sorts_of scope) x) false b refl;
  rational = or_from (same_sort (sort_in (sorts_of scope) x) Text) false (ap (λ s. same_sort s Text) (sort_in-slot scope x) ∙ e) refl;
}
summable_parts m scope (Sum t) h p b s e = record { apart = h; once = p.1; bound = b; rational = s }
summable_parts m scope (Quoted t) h p b s e = absurd (true≢false e)

-- the coefficients of a sum by slots are those of its parts
coefs_are : (m : ℤ) (scope : SlotScope) (t : Operand) (s : Slot) → coef_at (sum_over m scope t).coefs s ≡ coef_at (add_parts scope (parts_over m t)) s
coefs_are m scope (Single x) s = refl
coefs_are m scope (Sum t) s = coef_at-nonzero (add_parts scope t.parts) s
coefs_are m scope (Quoted t) s = refl

constant_is : (m : ℤ) (scope : SlotScope) (t : Operand) → (sum_over m scope t).constant ≡ constant_of t
constant_is m scope (Single x) = refl
constant_is m scope (Sum t) = refl
constant_is m scope (Quoted t) = refl

-- ---- the coefficient at the slot of a name

-- it is that of the name
coef_of_name : (scope : SlotScope) (cs : List (List ℕ × ℤ)) (x : List ℕ) → AreSummable scope cs → is_unbound_name (sorts_of scope) x ≡ false → coef_at (add_parts scope cs) (slot_of scope x) ≡ coefficient cs x
coef_of_name scope [] x h b = refl
coef_of_name scope (c ∷ cs) x h b =
    one_part scope c cs h (slot_of scope x) ∙ go (bytes_eq c.0 x) refl (coef_of_name scope cs x (rest_summable scope c cs h) b)
  where
    go : (d : Bool) → bytes_eq c.0 x ≡ d → coef_at (add_parts scope cs) (slot_of scope x) ≡ coefficient cs x
        → cond (same_slot (slot_of scope c.0) (slot_of scope x)) c.1 (coef_at (add_parts scope cs) (slot_of scope x)) ≡ cond d c.1 (coefficient cs x)
    go true e ih =
        let here : same_slot (slot_of scope c.0) (slot_of scope x) ≡ true = ap (λ y. same_slot (slot_of scope c.0) (slot_of scope y)) (sym ((bytes_eq-Decides c.0 x).0 e)) ∙ same_slot_refl (slot_of scope c.0) in
        ap (λ b. cond b c.1 (coef_at (add_parts scope cs) (slot_of scope x))) here
    go false e ih =
        ap (λ b. cond b c.1 (coef_at (add_parts scope cs) (slot_of scope x))) (slots_apart scope c.0 x h.apart (or_false_left _ _ h.bound) b e) ∙ ih

-- the coefficient of `l - r` over m at a slot
at_slot : ℤ → SlotScope → Operand → Operand → Slot → ℤ
at_slot m scope l r s = coef_at (add_parts scope (parts_over m l)) s -ℤ coef_at (add_parts scope (parts_over m r)) s

at_name : (m : ℤ) (scope : SlotScope) (l r : Operand) (x : List ℕ) → AreNumbers m scope l r → is_unbound_name (sorts_of scope) x ≡ false → at_slot m scope l r (slot_of scope x) ≡ difference_over m l r x
unfolding at_slot
at_name m scope l r x h b = ap₂ (λ y z. y -ℤ z) (coef_of_name scope (parts_over m l) x h.left b) (coef_of_name scope (parts_over m r) x h.right b)

-- ---- the row

minus_is : (x y : ℤ) → x +ℤ neg_ℤ y ≡ x -ℤ y
minus_is x y = omega (arith, ints)

-- the row of `l - r` over m
abbrev pub side_row : ℤ → SlotScope → Operand → Operand → RowOp → LinearConstraint
side_row m scope l r op = plain_row (sum_over m scope l) (sum_over m scope r) op

-- at a slot it has their difference
coef_at-row : (m : ℤ) (scope : SlotScope) (l r : Operand) (op : RowOp) (s : Slot) → coef_at (side_row m scope l r op).coefs s ≡ at_slot m scope l r s
unfolding at_slot
coef_at-row m scope l r op s =
    let xs = (sum_over m scope l).coefs in
    let ys = (sum_over m scope r).coefs in
    coef_at-nonzero (mixed (pos 1) xs (neg_ℤ (pos 1)) ys) s ∙ coef_at-mixed (pos 1) xs (neg_ℤ (pos 1)) ys s
    ∙ ap₂ (λ y z. y +ℤ z) (one_times (coef_at xs s)) (neg_times (coef_at ys s)) ∙ minus_is (coef_at xs s) (coef_at ys s)
    ∙ ap₂ (λ y z. y -ℤ z) (coefs_are m scope l s) (coefs_are m scope r s)

-- its constant is the difference of theirs
constant-row : (m : ℤ) (scope : SlotScope) (l r : Operand) (op : RowOp) → (side_row m scope l r op).constant ≡ row_constant l r
constant-row m scope l r op = ap₂ (λ a b. a -ℤ b) (constant_is m scope l) (constant_is m scope r)

-- its slots ascend
rational_of : (cs : List (Slot × ℤ)) → Ascend cs → AllRational cs
rational_of [] h = tt
rational_of (c ∷ cs) h = (h.0, rational_of cs h.2)

rational_sum : (m : ℤ) (scope : SlotScope) (t : Operand) → AreSummable scope (parts_over m t) → AllRational (sum_over m scope t).coefs
rational_sum m scope (Single x) h = rational_of (add_parts scope (parts_over m (Single x))) (ascend-parts scope (parts_over m (Single x)) h)
rational_sum m scope (Sum t) h = rational_of (nonzero (add_parts scope t.parts)) (ascend-nonzero (add_parts scope t.parts) (ascend-parts scope t.parts h))
rational_sum m scope (Quoted t) h = tt

pub ascend-row : (m : ℤ) (scope : SlotScope) (l r : Operand) (op : RowOp) → AreNumbers m scope l r → Ascend (side_row m scope l r op).coefs
ascend-row m scope l r op h =
    let L = sum_over m scope l in
    let R = sum_over m scope r in
    ascend-nonzero (mixed (pos 1) L.coefs (neg_ℤ (pos 1)) R.coefs) (ascend-mixed (pos 1) L.coefs (neg_ℤ (pos 1)) R.coefs (rational_sum m scope l h.left) (rational_sum m scope r h.right))

-- ---- what 0, negatives and the differences at names have

abbrev pub AllHave : (ℤ → Type 0) → List ℤ → Type 0
AllHave P [] = Unit {0}
AllHave P (z ∷ zs) = P z × AllHave P zs

pub have_left : (P : ℤ → Type 0) (xs ys : List ℤ) → AllHave P (xs ++ ys) → AllHave P xs
have_left P [] ys h = tt
have_left P (x ∷ xs) ys h = (h.0, have_left P xs ys h.1)

pub have_right : (P : ℤ → Type 0) (xs ys : List ℤ) → AllHave P (xs ++ ys) → AllHave P ys
have_right P [] ys h = h
have_right P (x ∷ xs) ys h = have_right P xs ys h.1

nothing_law : (x y : ℤ) → x ≡ pos 0 → y ≡ pos 0 → x -ℤ y ≡ pos 0
nothing_law x y e f = omega (arith, ints)

turned_law : (x y : ℤ) → y -ℤ x ≡ neg_ℤ (x -ℤ y)
turned_law x y = omega (arith, ints)

module _ (m : ℤ) (P : ℤ → Type 0) (zero_has : P (pos 0)) (turned_has : (z : ℤ) → P z → P (neg_ℤ z)) where
  -- a slot is that of a name of the parts, or none of the parts has it
  slot_has : (scope : SlotScope) (l r : Operand) (ps : List (List ℕ × ℤ)) (s : Slot) → AreNumbers m scope l r → AreSummable scope ps → AllHave P (differences_over m l r ps)
      → P (at_slot m scope l r s) ⊎ (coef_at (add_parts scope ps) s ≡ pos 0)
  slot_has scope l r [] s h k all = inr refl
  slot_has scope l r (p ∷ ps) s h k all = go (same_slot (slot_of scope p.0) s) refl (slot_has scope l r ps s h (rest_summable scope p ps k) all.1)
    where
      go : (b : Bool) → same_slot (slot_of scope p.0) s ≡ b → P (at_slot m scope l r s) ⊎ (coef_at (add_parts scope ps) s ≡ pos 0) → P (at_slot m scope l r s) ⊎ (coef_at (add_parts scope (p ∷ ps)) s ≡ pos 0)
      go true e rest = inl (subst P (sym (at_name m scope l r p.0 h (or_false_left _ _ k.bound)) ∙ ap (at_slot m scope l r) (same_slot_is (slot_of scope p.0) s e)) all.0)
      go false e (inl f) = inl f
      go false e (inr f) = inr (one_part scope p ps k s ∙ ap (λ b. cond b p.1 (coef_at (add_parts scope ps) s)) e ∙ f)

  -- so each slot has it
  each_has : (scope : SlotScope) (l r : Operand) (s : Slot) → AreNumbers m scope l r → AllHave P (row_coefs_over m l r) → P (at_slot m scope l r s)
  unfolding at_slot
  each_has scope l r s h all =
      go (slot_has scope l r (parts_over m l) s h h.left (have_left P (differences_over m l r (parts_over m l)) (differences_over m l r (parts_over m r)) all))
      (slot_has scope l r (parts_over m r) s h h.right (have_right P (differences_over m l r (parts_over m l)) (differences_over m l r (parts_over m r)) all))
    where
      go : P (at_slot m scope l r s) ⊎ (coef_at (add_parts scope (parts_over m l)) s ≡ pos 0) → P (at_slot m scope l r s) ⊎ (coef_at (add_parts scope (parts_over m r)) s ≡ pos 0) → P (at_slot m scope l r s)
      go (inl e) f = e
      go (inr e) (inl f) = f
      go (inr e) (inr f) = subst P (sym (nothing_law _ _ e f)) zero_has

  at_turned : (scope : SlotScope) (l r : Operand) (s : Slot) → at_slot m scope r l s ≡ neg_ℤ (at_slot m scope l r s)
  unfolding at_slot
  at_turned scope l r s = turned_law (coef_at (add_parts scope (parts_over m l)) s) (coef_at (add_parts scope (parts_over m r)) s)

  -- what all coefficients of an ascending list have, by its slots
  list_has : (cs : List (Slot × ℤ)) → Ascend cs → ((s : Slot) → P (coef_at cs s)) → AllHave P (map (λ c. c.1) cs)
  list_has [] h k = tt
  list_has (c ∷ cs) h k = (subst P (coef_at-here c.0 c cs (same_slot_refl c.0) h.1) (k c.0), list_has cs h.2 (λ s. go s (same_slot c.0 s) refl))
    where
      go : (s : Slot) (b : Bool) → same_slot c.0 s ≡ b → P (coef_at cs s)
      go s true e = subst P (sym (coef_at-above s cs (subst (λ t. AllAbove t.number cs) (same_slot_is c.0 s e) h.1))) zero_has
      go s false e = subst P (coef_at-past s c cs e) (k s)

  -- the coefficients of the row of `l - r`
  pub row_has : (scope : SlotScope) (l r : Operand) (op : RowOp) → AreNumbers m scope l r → AllHave P (row_coefs_over m l r) → AllHave P (map (λ c. c.1) (side_row m scope l r op).coefs)
  row_has scope l r op h all = list_has (side_row m scope l r op).coefs (ascend-row m scope l r op h) (λ s. subst P (sym (coef_at-row m scope l r op s)) (each_has scope l r s h all))

  -- those of the row of `r - l`
  pub turned_row_has : (scope : SlotScope) (l r : Operand) (op : RowOp) → AreNumbers m scope l r → AllHave P (row_coefs_over m l r) → AllHave P (map (λ c. c.1) (side_row m scope r l op).coefs)
  turned_row_has scope l r op h all =
      list_has (side_row m scope r l op).coefs (ascend-row m scope r l op (swapped h))
      (λ s. subst P (sym (coef_at-row m scope r l op s ∙ at_turned scope l r s)) (turned_has (at_slot m scope l r s) (each_has scope l r s h all)))
    where
      swapped : AreNumbers m scope l r → AreNumbers m scope r l
      swapped h = record { left = h.right; right = h.left }

  -- the constants
  pub constant_has : (scope : SlotScope) (l r : Operand) (op : RowOp) → AreNumbers m scope l r → P (row_constant l r) → P (side_row m scope l r op).constant
  constant_has scope l r op h k = subst P (sym (constant-row m scope l r op)) k

  pub turned_constant_has : (scope : SlotScope) (l r : Operand) (op : RowOp) → AreNumbers m scope l r → P (row_constant l r) → P (side_row m scope r l op).constant
  turned_constant_has scope l r op h k =
      subst P (sym (constant-row m scope r l op ∙ turned_law (constant_of l) (constant_of r))) (turned_has (row_constant l r) k)
