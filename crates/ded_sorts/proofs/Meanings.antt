-- A goal holds at a point by slots exactly where its formula does at that point by names.
--
-- By induction on the formula, at two points that agree in its scope. An operand has the value of the sum, the text or the
-- place that the goal has for it (`sum_value`, `side_value`, `place_value-same`). So a comparison means what its goal does
-- (`comparison_means`), and an atom of a name has the same arguments. At a quantifier the two points are extended in step.
use Rattle.std.proofs.Common.{◌≡◌, ℕ, ◌+◌, ◌<◌, Bool, true, false, ◌||◌, cond, subst₂, inl, inr, List, [], ◌∷◌, map, arith, refl, sym, ap, ◌∙◌, subst, true≢false}
use Rattle.std.specs.Prelude.{ℤ, pos, ◌+ℤ◌, ◌*ℤ◌, ◌↔◌, IsTrue}
use Rattle.std.specs.List.{list_any}
use Rattle.ded_num.proofs.Ring.{parts, ring, diff-pos, diff_same}
use Rattle.ded_model.specs.declared.slot.Sort.{Sort}
use Rattle.ded_model.specs.declared.slot.Sort.TheVariants.{Rat, Text}
use Rattle.ded_model.specs.declared.formula.CompareOp.{CompareOp}
use Rattle.ded_model.specs.declared.formula.Operand.{Operand}
use Rattle.ded_model.specs.declared.formula.Operand.TheVariants.{Single, Sum, Quoted}
use Rattle.ded_model.specs.Point.{slot, Point, same_sort, number_at, text_at}
use Rattle.ded_model.specs.Sum.{denominator}
use Rattle.ded_model.specs.Coefs.{nonzero}
use Rattle.ded_model.specs.Row.{sum_at}
use Rattle.ded_model.specs.Logic.{atom, always, never, negation, every_of, some_of, implies, minus, exists, forall, Logics, none, also, Sat, SatEvery, SatSome, some_below, some_below_of, quantifiers}
use Rattle.ded_model.specs.Form.{Form, FormAtom, compare, member}
use Rattle.ded_model.specs.Goal.{GoalAtomHolds}
use Rattle.ded_model.specs.Value.{OperandValue, parts_at, operand_value, compare_holds, sorted_value, place_value, Meaning, NameHolds}
use Rattle.ded_model.specs.Catalogue.{AtomHolds}
use Rattle.ded_model.specs.Slotted.{SlotScope, slot_of, add_parts, slot_sum, sums_goal, text_side, texts_goal, is_text_operand, compare_goal, place_of, atom_goal, goal_below, goals_below}
use Rattle.ded_model.specs.Known.{KnownNames, is_unbound_name, is_unbound_operand, is_unbound_atom, operand_sort, is_text_sum, sorts_differ, is_equality, is_missorted_atom}
use Rattle.ded_model.proofs.Sums.{sum_at-put, sum_at-nonzero}
use Rattle.ded_sorts.proofs.Sums.{IsSumValue, sums_mean}
use Rattle.ded_sorts.proofs.Sides.{IsSideValue, texts_mean}
use Rattle.ded_sorts.proofs.Scopes.{sorts_of, sort_in-slot, IsOnlyOf, Agrees, extend_slots, extend_names}
use Rattle.ded_model.proofs.Bools.{or_false_left, or_false_right}
use Rattle.ded_model.proofs.Given.{one}

-- a choice of true and true doesn't fail
pub never_false : (b : Bool) → cond b true true ≡ false → ⊥
never_false true e = true≢false e
never_false false e = true≢false e

-- a choice of false and true fails by its first part
only_equality : (b : Bool) → cond b false true ≡ false → b ≡ true
only_equality true e = refl
only_equality false e = absurd (true≢false e)

-- a name holds alike of equal values
same_name : (I : Meaning) (x : List ℕ) (d d' : ℕ) (vs ws : List OperandValue) → d ≡ d' → vs ≡ ws → NameHolds I x d vs ↔ NameHolds I x d' ws
same_name I x d d' vs ws e f = (λ h. subst₂ (λ d vs. NameHolds I x d vs) e f h, λ h. subst₂ (λ d vs. NameHolds I x d vs) (sym e) (sym f) h)

-- ---- what the sorts leave

-- a number has the empty text
only_number : (s : Sort) (n : ℤ) (t : List ℕ) → same_sort s Text ≡ false → IsOnlyOf s n t → t ≡ []
only_number Rat n t e h = h
only_number Text n t e h = absurd (true≢false e)

-- a text has the number 0
only_text : (s : Sort) (n : ℤ) (t : List ℕ) → same_sort s Text ≡ true → IsOnlyOf s n t → n ≡ pos 0
only_text Rat n t e h = absurd (true≢false (sym e))
only_text Text n t e h = h

-- so the value by the sort is both
sorted_value-only : (s : Sort) (n : ℤ) (t : List ℕ) → IsOnlyOf s n t → sorted_value s n t ≡ record { number = n; over = 1; text = t }
sorted_value-only Rat n t h = rw h refl
sorted_value-only Text n t h = rw h refl

-- ---- operands

-- a sum of one number
single_law : (n d : ℤ) → n ≡ (pos 1 *ℤ n +ℤ pos 0) +ℤ pos 0 *ℤ d
single_law n d = rw (parts n, parts d, diff-pos 1, diff-pos 0) (simp ring (diff_same _ _ _ _ (omega arith)))

module _ (slots : SlotScope) (n : ℕ) (p q : Point) (A : Agrees slots n p q) where
  -- the sum of the slots is that of the names
  parts_same : (cs : List (List ℕ × ℤ)) → list_any (λ c. is_unbound_name (sorts_of slots) c.0) cs ≡ false → sum_at (add_parts slots cs) q ≡ parts_at cs p
  parts_same [] h = refl
  parts_same (c ∷ cs) h =
      let here = A.each c.0 (or_false_left _ _ h) in
      let rest = parts_same cs (or_false_right (is_unbound_name (sorts_of slots) c.0) _ h) in
      sum_at-put (slot_of slots c.0) c.1 (add_parts slots cs) q ∙ rw (here.number, rest) refl

  -- with the constant
  sum_same : (cs : List (List ℕ × ℤ)) (m : ℤ) → list_any (λ c. is_unbound_name (sorts_of slots) c.0) cs ≡ false
      → parts_at cs p +ℤ m *ℤ pos p.den ≡ sum_at (nonzero (add_parts slots cs)) q +ℤ m *ℤ pos q.den
  sum_same cs m h = rw (sum_at-nonzero (add_parts slots cs) q, parts_same cs h, A.den) refl

  -- an operand that is a number
  sum_value : (t : Operand) → is_unbound_operand (sorts_of slots) t ≡ false → same_sort (operand_sort (sorts_of slots) t) Text ≡ false
      → IsSumValue (operand_value t p) (slot_sum slots t) q
  sum_value (Single x) h s =
      let u = slot_of slots x in
      let a = A.each x h in
      record {
        number = a.number ∙ single_law (number_at q (slot u)) (pos q.den);
        over = sym one;
        text = a.text ∙ only_number u.sort _ _ (ap (λ z. same_sort z Text) (sym (sort_in-slot slots x)) ∙ s) a.only;
      }
  sum_value (Sum t) h s = record { number = sum_same t.parts t.constant h; over = refl; text = refl }
  sum_value (Quoted t) h s = absurd (true≢false s)

  -- an operand that is a text
  side_value : (t : Operand) → is_unbound_operand (sorts_of slots) t ≡ false → same_sort (operand_sort (sorts_of slots) t) Text ≡ true
      → IsSideValue (operand_value t p) (text_side slots t) q
  side_value (Single x) h s =
      let u = slot_of slots x in
      let a = A.each x h in
      record {
        number = a.number ∙ only_text u.sort _ _ (ap (λ z. same_sort z Text) (sym (sort_in-slot slots x)) ∙ s) a.only;
        over = refl;
        text = a.text;
      }
  side_value (Sum t) h s = absurd (true≢false (sym s))
  side_value (Quoted t) h s = record { number = refl; over = refl; text = refl }

  -- which of the two it is
  is_text-sort : (t : Operand) → is_text_operand slots t ≡ same_sort (operand_sort (sorts_of slots) t) Text
  is_text-sort (Single x) = ap (λ z. same_sort z Text) (sym (sort_in-slot slots x))
  is_text-sort (Sum t) = refl
  is_text-sort (Quoted t) = refl

  -- the place of an argument has its value
  place_value-same : (t : Operand) → is_unbound_operand (sorts_of slots) t ≡ false → place_value (place_of slots t) q ≡ operand_value t p
  place_value-same (Single x) h =
      let u = slot_of slots x in
      let a = A.each x h in
      sorted_value-only u.sort (number_at q (slot u)) (text_at q (slot u)) a.only ∙ rw (a.number, a.text) refl
  place_value-same (Sum t) h = ap (λ z. record { number = z; over = denominator t.over; text = [] }) (sym (sum_same t.parts t.constant h))
  place_value-same (Quoted t) h = refl

  -- so do all of a list
  place_values-same : (ts : List Operand) → list_any (is_unbound_operand (sorts_of slots)) ts ≡ false
      → map (λ t. place_value t q) (map (place_of slots) ts) ≡ map (λ t. operand_value t p) ts
  place_values-same [] h = refl
  place_values-same (t ∷ ts) h =
      rw (place_value-same t (or_false_left _ _ h), place_values-same ts (or_false_right (is_unbound_operand (sorts_of slots) t) _ h)) refl

  -- ---- atoms

  -- the denominator by slots is positive too
  positive : 0 < q.den
  positive = subst (λ d. 0 < d) A.den A.positive

  module _ (I : Meaning) (l : Operand) (op : CompareOp) (r : Operand) (hl : is_unbound_operand (sorts_of slots) l ≡ false) (hr : is_unbound_operand (sorts_of slots) r ≡ false) where
    -- the goal of numbers, where neither operand is a text
    numbers_goal : (s t : Sort) → operand_sort (sorts_of slots) l ≡ s → operand_sort (sorts_of slots) r ≡ t → (same_sort s Text || same_sort t Text) ≡ false
        → compare_goal slots l op r ≡ sums_goal (slot_sum slots l) op (slot_sum slots r)
    numbers_goal s t el er e = rw (is_text-sort l, is_text-sort r, el, er, e) refl

    -- the goal of texts, where one is
    words_goal : (s t : Sort) → operand_sort (sorts_of slots) l ≡ s → operand_sort (sorts_of slots) r ≡ t → (same_sort s Text || same_sort t Text) ≡ true
        → compare_goal slots l op r ≡ texts_goal (text_side slots l) op (text_side slots r)
    words_goal s t el er e = rw (is_text-sort l, is_text-sort r, el, er, e) refl

    -- a comparison means what its goal does, by the sorts of both operands
    comparison_means : (s t : Sort) → operand_sort (sorts_of slots) l ≡ s → operand_sort (sorts_of slots) r ≡ t → sorts_differ op s t ≡ false
        → Sat (GoalAtomHolds I) (compare_goal slots l op r) q ↔ IsTrue (compare_holds l op r p)
    unfolding compare_holds
    comparison_means Rat Rat el er d =
        subst (λ g. Sat (GoalAtomHolds I) g q ↔ IsTrue (compare_holds l op r p)) (sym (numbers_goal Rat Rat el er refl))
        (sums_mean I (operand_value l p) (operand_value r p) (slot_sum slots l) (slot_sum slots r) op q positive
        (sum_value l hl (ap (λ z. same_sort z Text) el)) (sum_value r hr (ap (λ z. same_sort z Text) er)))
    comparison_means Rat Text el er d = absurd (never_false (is_equality op) d)
    comparison_means Text Rat el er d = absurd (never_false (is_equality op) d)
    comparison_means Text Text el er d =
        subst (λ g. Sat (GoalAtomHolds I) g q ↔ IsTrue (compare_holds l op r p)) (sym (words_goal Text Text el er refl))
        (texts_mean I (operand_value l p) (operand_value r p) (text_side slots l) (text_side slots r) op q (only_equality (is_equality op) d)
        (side_value l hl (ap (λ z. same_sort z Text) el)) (side_value r hr (ap (λ z. same_sort z Text) er)))

  -- an atom means what its goal does
  atom_means : (I : Meaning) (K : KnownNames) (a : FormAtom) → is_unbound_atom (sorts_of slots) a ≡ false → is_missorted_atom K (sorts_of slots) a ≡ false
      → AtomHolds I a p ↔ Sat (GoalAtomHolds I) (atom_goal slots a) q
  atom_means I K (compare l op r) u m =
      let differ = sorts_differ op (operand_sort (sorts_of slots) l) (operand_sort (sorts_of slots) r) in
      let d : differ ≡ false = or_false_right (is_text_sum (sorts_of slots) l || is_text_sum (sorts_of slots) r) differ m in
      let e = comparison_means I l op r (or_false_left _ _ u) (or_false_right (is_unbound_operand (sorts_of slots) l) _ u) (operand_sort (sorts_of slots) l) (operand_sort (sorts_of slots) r) refl refl d in
      (e.1, e.0)
  atom_means I K (member x ts) u m = same_name I x p.den q.den (map (λ t. operand_value t p) ts) (map (λ t. place_value t q) (map (place_of slots) ts)) A.den (sym (place_values-same ts u))

  -- the next slots may have greater numbers
  later : (m : ℕ) → Agrees slots (n + m) p q
  later m = record {
    positive = A.positive;
    den = A.den;
    each = λ x h. let a = A.each x h in record { below = omega (arith, a.below); number = a.number; text = a.text; only = a.only };
  }

-- ---- formulas

module _ (I : Meaning) (K : KnownNames) where
  mutual
    -- the law
    pub goal_means : (f : Form) (slots : SlotScope) (n : ℕ) (p q : Point) → Agrees slots n p q → some_below is_unbound_atom (sorts_of slots) f ≡ false
        → some_below (is_missorted_atom K) (sorts_of slots) f ≡ false → Sat (AtomHolds I) f p ↔ Sat (GoalAtomHolds I) (goal_below slots n f) q
    goal_means (atom a) slots n p q A u m = atom_means slots n p q A I K a u m
    goal_means always slots n p q A u m = (λ h. h, λ h. h)
    goal_means never slots n p q A u m = (λ h. h, λ h. h)
    goal_means (negation f) slots n p q A u m = let e = goal_means f slots n p q A u m in (λ no h. no (e.1 h), λ no h. no (e.0 h))
    goal_means (every_of fs) slots n p q A u m = every_means fs slots n p q A u m
    goal_means (some_of fs) slots n p q A u m = some_means fs slots n p q A u m
    goal_means (implies f g) slots n p q A u m =
        let e = goal_means f slots n p q A (or_false_left _ _ u) (or_false_left _ _ m) in
        let e' = goal_means g slots (n + quantifiers f) p q (later slots n p q A (quantifiers f)) (or_false_right (some_below is_unbound_atom (sorts_of slots) f) _ u) (or_false_right (some_below (is_missorted_atom K) (sorts_of slots) f) _ m) in
        (λ i h. e'.0 (i (e.1 h)), λ i h. e'.1 (i (e.0 h)))
    goal_means (minus f g) slots n p q A u m =
        let e = goal_means f slots n p q A (or_false_left _ _ u) (or_false_left _ _ m) in
        let e' = goal_means g slots (n + quantifiers f) p q (later slots n p q A (quantifiers f)) (or_false_right (some_below is_unbound_atom (sorts_of slots) f) _ u) (or_false_right (some_below (is_missorted_atom K) (sorts_of slots) f) _ m) in
        (λ h. (e.0 h.0, λ i. h.1 (e'.1 i)), λ h. (e.1 h.0, λ i. h.1 (e'.0 i)))
    goal_means (exists s k f) slots n p q A u m = (
      λ w. let x = extend_slots slots n p q A k s w.0 w.1 in (x.0, x.1, (goal_means f ((k, record { number = n; sort = s }) ∷ slots) (n + 1) w.0 x.0 x.2 u m).0 w.2),
      λ w. let x = extend_names slots n p q A k s w.0 w.1 in (x.0, x.1, (goal_means f ((k, record { number = n; sort = s }) ∷ slots) (n + 1) x.0 w.0 x.2 u m).1 w.2),
    )
    goal_means (forall s k f) slots n p q A u m = (
      λ h q' y. let x = extend_names slots n p q A k s q' y in (goal_means f ((k, record { number = n; sort = s }) ∷ slots) (n + 1) x.0 q' x.2 u m).0 (h x.0 x.1),
      λ h p' y. let x = extend_slots slots n p q A k s p' y in (goal_means f ((k, record { number = n; sort = s }) ∷ slots) (n + 1) p' x.0 x.2 u m).1 (h x.0 x.1),
    )

    -- all of a list
    every_means : (fs : Logics FormAtom) (slots : SlotScope) (n : ℕ) (p q : Point) → Agrees slots n p q → some_below_of is_unbound_atom (sorts_of slots) fs ≡ false
        → some_below_of (is_missorted_atom K) (sorts_of slots) fs ≡ false → SatEvery (AtomHolds I) fs p ↔ SatEvery (GoalAtomHolds I) (goals_below slots n fs) q
    every_means none slots n p q A u m = (λ h. h, λ h. h)
    every_means (also f fs) slots n p q A u m =
        let e = goal_means f slots n p q A (or_false_left _ _ u) (or_false_left _ _ m) in
        let e' = every_means fs slots (n + quantifiers f) p q (later slots n p q A (quantifiers f)) (or_false_right (some_below is_unbound_atom (sorts_of slots) f) _ u) (or_false_right (some_below (is_missorted_atom K) (sorts_of slots) f) _ m) in
        (λ h. (e.0 h.0, e'.0 h.1), λ h. (e.1 h.0, e'.1 h.1))

    -- some of a list
    some_means : (fs : Logics FormAtom) (slots : SlotScope) (n : ℕ) (p q : Point) → Agrees slots n p q → some_below_of is_unbound_atom (sorts_of slots) fs ≡ false
        → some_below_of (is_missorted_atom K) (sorts_of slots) fs ≡ false → SatSome (AtomHolds I) fs p ↔ SatSome (GoalAtomHolds I) (goals_below slots n fs) q
    some_means none slots n p q A u m = (λ h. h, λ h. h)
    some_means (also f fs) slots n p q A u m =
        let e = goal_means f slots n p q A (or_false_left _ _ u) (or_false_left _ _ m) in
        let e' = some_means fs slots (n + quantifiers f) p q (later slots n p q A (quantifiers f)) (or_false_right (some_below is_unbound_atom (sorts_of slots) f) _ u) (or_false_right (some_below (is_missorted_atom K) (sorts_of slots) f) _ m) in
        (λ h. elim h [ inl a ↦ inl (e.0 a) | inr b ↦ inr (e'.0 b) ], λ h. elim h [ inl a ↦ inl (e.1 a) | inr b ↦ inr (e'.1 b) ])
