-- Points at which the tags and the total are 0 and the slack is positive: where the tagged rows hold at such a point, the rows do.
--
-- What is left of the tagged rows holds at a point with a slack little enough, unless one of its rows is false at all of them.
use Rattle.std.proofs.Common.{◌≡◌, ℕ, ◌+◌, ◌<◌, true, false, ◌&&◌, ◌||◌, List, [], ◌∷◌, arith, refl, sym, ap, ap₂, ◌∙◌, subst, true≢false}
use Rattle.std.proofs.lemmas.Bool.{and_from, or_parts}
use Rattle.std.specs.Prelude.{ℤ, pos, negsuc, ◌+ℤ◌, ◌*ℤ◌, ◌<ℤ◌, ◌≤ℤ◌, unsigned_abs, int_lt, int_div}
use lib.IntN.{neg_ℤ}
use Rattle.std.specs.List.{AllByRecursion}
use Rattle.std.specs.Ordering.{int_eq}
use Rattle.std.proofs.lemmas.Int.{ints, by_lt_z}
use Rattle.std.proofs.lemmas.Bool.Decides.{Decides-int_eq}
use Rattle.ded_num.proofs.Ring.{parts, ring, ring_pos, diff_same}
use Rattle.ded_num.proofs.Tests.{and_not_both}
use Rattle.ded_num.proofs.Signs.{not_above}
use Rattle.ded_model.specs.declared.slot.Slot.{Slot}
use Rattle.ded_model.specs.declared.row.RowOp.{RowOp}
use Rattle.ded_model.specs.declared.row.RowOp.TheVariants.{Zero, AtMost, Below}
use Rattle.ded_model.specs.Constraint.{LinearConstraint}
use Rattle.ded_model.specs.Point.{slot, Point, number_at}
use Rattle.ded_model.specs.Cell.{conj_holds}
use Rattle.ded_model.specs.Coefs.{AllBelow, coef_at}
use Rattle.ded_model.specs.Normal.{DivideWhole, coefs_over, normal_row}
use Rattle.ded_model.specs.Row.{sum_at, row_at, sign_meets, row_holds}
use Rattle.ded_model.proofs.Eliminating.{meets-decides}
use Rattle.ded_model.proofs.Points.{and_left, and_right}
use Rattle.ded_model.proofs.Core.{times_neg}
use Rattle.ded_model.proofs.Normals.{normal_row-holds}
use Rattle.ded_row.proofs.Pieces.{whole_minus}
use Rattle.ded_theory.proofs.Conjunctions.{conj_holds-append}
use Rattle.ded_elimination.specs.LinearAtoms.{IsLinearAtom}
use Rattle.ded_cert.specs.Tracing.{tag, tagged, turned_coefs, slack_of, forward, backward, traces_by, traces, AreBelow, is_weak_with, is_weak_row, is_refuting}
use Rattle.ded_cert.proofs.Tagged.{tagged_sum, less_apart}
use Rattle.ded_cert.proofs.TwoNumbers.{two_numbers, two_numbers-sum}
use Rattle.ded_cert.proofs.Lows.{at_most_zero, weak_holds, turned_below, large}

-- ---- what is left

abbrev pub near : ℕ → ℕ → Point
near b d = two_numbers d (tag b) (pos 0) (tag (b + 1)) (pos 1)

far_below : (c : ℤ) (d : ℕ) → c <ℤ pos 0 → (c *ℤ pos d) ≤ℤ neg_ℤ (pos d)
far_below c d h = turn (c *ℤ pos d) (subst (λ z. pos d ≤ℤ z) (times_neg c (pos d)) (large c d h))
  where
    turn : (z : ℤ) → pos d ≤ℤ neg_ℤ z → z ≤ℤ neg_ℤ (pos d)
    turn z l = omega (arith, ints, l)

near_law : (t x c : ℤ) (d : ℕ) → (int_lt (pos 0) c || (int_eq c (pos 0) && int_lt (pos 0) x)) ≡ false → unsigned_abs x < d → ((t *ℤ pos 0 +ℤ x *ℤ pos 1) +ℤ c *ℤ pos d) ≤ℤ pos 0
near_law t x c d e s =
    let n = or_parts (int_lt (pos 0) c) (int_eq c (pos 0) && int_lt (pos 0) x) e in
    by_lt_z c (pos 0)
    (λ l. below (t *ℤ pos 0) (c *ℤ pos d) (zero_times t) (far_below c d l))
    (λ g. let z = not_above c n.0 in
    let c0 : c ≡ pos 0 = omega (arith, ints, z, g) in
    let x0 = not_above x (and_not_both (int_eq c (pos 0)) (int_lt (pos 0) x) n.1 ((Decides-int_eq c (pos 0)).1 c0)) in
    none (t *ℤ pos 0) (c *ℤ pos d) (zero_times t) (ap (λ z. z *ℤ pos d) c0 ∙ times_zero (pos d)) x0)
  where
    zero_times : (t : ℤ) → t *ℤ pos 0 ≡ pos 0
    zero_times t = rw (parts t) (simp ring_pos (diff_same _ _ _ _ (omega arith)))

    times_zero : (t : ℤ) → pos 0 *ℤ t ≡ pos 0
    times_zero t = rw (parts t) (simp ring_pos (diff_same _ _ _ _ (omega arith)))

    below : (u v : ℤ) → u ≡ pos 0 → v ≤ℤ neg_ℤ (pos d) → ((u +ℤ x *ℤ pos 1) +ℤ v) ≤ℤ pos 0
    below u v z l = omega (arith, ints, z, l, s)

    none : (u v : ℤ) → u ≡ pos 0 → v ≡ pos 0 → x ≤ℤ pos 0 → ((u +ℤ x *ℤ pos 1) +ℤ v) ≤ℤ pos 0
    none u v z l h = omega (arith, ints, z, l, h)

nothing_law : (c x y : ℤ) → pos 0 ≡ c → pos 0 +ℤ c *ℤ x ≡ pos 0 +ℤ c *ℤ y
nothing_law c x y e = subst (λ c. pos 0 +ℤ c *ℤ x ≡ pos 0 +ℤ c *ℤ y) e (law x y)
  where
    law : (x y : ℤ) → pos 0 +ℤ pos 0 *ℤ x ≡ pos 0 +ℤ pos 0 *ℤ y
    law x y = rw (parts x, parts y) (simp ring_pos (diff_same _ _ _ _ (omega arith)))

-- the constant of a normal row without coefficients
pub none_constant : (op : RowOp) (c : ℤ) → normal_row (record { coefs = []; constant = c; op = op }) ≡ record { coefs = []; constant = c; op = op } → pos 0 ≡ c
unfolding normal_row
none_constant op c e = ap (λ (r : LinearConstraint). r.constant) e

near_by : (b d : ℕ) (cs : List (Slot × ℤ)) (op : RowOp) (c : ℤ) (p : Point) → is_weak_with cs op ≡ true → normal_row (record { coefs = cs; constant = c; op = op }) ≡ record { coefs = cs; constant = c; op = op }
    → is_refuting b (record { coefs = cs; constant = c; op = op }) ≡ false → unsigned_abs (coef_at cs (tag (b + 1))) < d → row_holds (record { coefs = cs; constant = c; op = op }) p ≡ true
    → row_holds (record { coefs = cs; constant = c; op = op }) (near b d) ≡ true
unfolding row_holds
near_by b d [] op c p w n r s h = ap (sign_meets op) (nothing_law c (pos d) (pos p.den) (none_constant op c n)) ∙ h
near_by b d (x ∷ cs) Zero c p w n r s h = absurd (true≢false (sym w))
near_by b d (x ∷ cs) Below c p w n r s h = absurd (true≢false (sym w))
near_by b d (x ∷ cs) AtMost c p w n r s h =
    weak_holds (sum_at (x ∷ cs) (near b d) +ℤ c *ℤ pos d)
    (subst (λ z. (z +ℤ c *ℤ pos d) ≤ℤ pos 0) (sym (two_numbers-sum (x ∷ cs) d (tag b) (pos 0) (tag (b + 1)) (pos 1) (less_apart b (b + 1) (omega arith))))
    (near_law (coef_at (x ∷ cs) (tag b)) (coef_at (x ∷ cs) (tag (b + 1))) c d r s))

-- all rows that are left hold at the point near
pub near_holds : (b d : ℕ) (left : List LinearConstraint) (p : Point) → AllByRecursion IsLinearAtom left → AllByRecursion (λ r. is_weak_row r ≡ true) left → AllByRecursion (λ r. is_refuting b r ≡ false) left
    → AllByRecursion (λ r. unsigned_abs (coef_at r.coefs (tag (b + 1))) < d) left → conj_holds row_holds left p ≡ true → conj_holds row_holds left (near b d) ≡ true
near_holds b d [] p n w r s h = refl
near_holds b d (e ∷ left) p n w r s h =
    and_from (row_holds e (near b d)) (conj_holds row_holds left (near b d))
    (near_by b d e.coefs e.op e.constant p w.0 n.0.row.normal r.0 s.0 (and_left (row_holds e p) (conj_holds row_holds left p) h))
    (near_holds b d left p n.1 w.1 r.1 s.1 (and_right (row_holds e p) (conj_holds row_holds left p) h))

-- ---- the rows themselves

-- the tags and the total are 0, and the slack is positive
pub record IsClear (b : ℕ) (q : Point) : Type 0 where
  pub tags : (n : ℕ) → b + 1 < n → number_at q (slot (tag n)) ≡ pos 0
  pub total : number_at q (slot (tag b)) ≡ pos 0
  pub slack : pos 0 <ℤ number_at q (slot (tag (b + 1)))

sum_over : (k : ℤ) (cs : List (Slot × ℤ)) (p : Point) → DivideWhole k cs → k *ℤ sum_at (coefs_over k cs) p ≡ sum_at cs p
sum_over k [] p w = law k
  where
    law : (k : ℤ) → k *ℤ pos 0 ≡ pos 0
    law k = rw (parts k) (simp ring_pos (diff_same _ _ _ _ (omega arith)))
sum_over k (c ∷ cs) p w =
    law k (int_div c.1 k) (number_at p (slot c.0)) (sum_at (coefs_over k cs) p) ∙ ap₂ (λ x y. x *ℤ number_at p (slot c.0) +ℤ y) w.0 (sum_over k cs p w.1)
  where
    law : (k q n x : ℤ) → k *ℤ (q *ℤ n +ℤ x) ≡ (k *ℤ q) *ℤ n +ℤ k *ℤ x
    law k q n x = rw (parts k, parts q, parts n, parts x) (simp ring (diff_same _ _ _ _ (omega arith)))

turned_sum : (cs : List (Slot × ℤ)) (p : Point) → sum_at (turned_coefs cs) p ≡ neg_ℤ (sum_at cs p)
turned_sum cs p = back (sum_at (turned_coefs cs) p) (sum_at cs p) (sum_over (negsuc 0) cs p (whole_minus cs))
  where
    back : (x y : ℤ) → negsuc 0 *ℤ x ≡ y → x ≡ neg_ℤ y
    back x y e = omega (arith, ints, e)

module _ (b : ℕ) (q : Point) (positive : 0 < q.den) (clear : IsClear b q) where
  clear_law : (x v y s c : ℤ) → x ≡ pos 0 → y ≡ pos 0 → ((pos 1 *ℤ x +ℤ (v +ℤ (pos 1 *ℤ y +ℤ s))) +ℤ c) ≤ℤ pos 0 → (v +ℤ (s +ℤ c)) ≤ℤ pos 0
  clear_law x v y s c e f l = omega (arith, ints, e, f, l)

  row_back : (w : ℤ) (n : ℕ) (cs : List (Slot × ℤ)) (c : ℤ) → AllBelow b cs → b + 1 < n → row_holds (normal_row (tagged b w n cs c)) q ≡ true
      → (w *ℤ number_at q (slot (tag (b + 1))) +ℤ (sum_at cs q +ℤ c *ℤ pos q.den)) ≤ℤ pos 0
  unfolding row_holds
  row_back w n cs c a g h =
      clear_law (number_at q (slot (tag n))) (w *ℤ number_at q (slot (tag (b + 1)))) (number_at q (slot (tag b))) (sum_at cs q) (c *ℤ pos q.den) (clear.tags n g) clear.total
      (subst (λ z. (z +ℤ c *ℤ pos q.den) ≤ℤ pos 0) (tagged_sum b w n cs a g q)
      (at_most_zero AtMost (row_at (tagged b w n cs c) q) (sym (normal_row-holds (tagged b w n cs c) q positive) ∙ h)))

  no_slack : (x z : ℤ) → (pos 0 *ℤ x +ℤ z) ≤ℤ pos 0 → z ≤ℤ pos 0
  no_slack x z h = subst (λ u. u ≤ℤ pos 0) (law x z) h
    where
      law : (x z : ℤ) → pos 0 *ℤ x +ℤ z ≡ z
      law x z = rw (parts x, parts z) (simp ring_pos (diff_same _ _ _ _ (omega arith)))

  with_slack : (x z : ℤ) → pos 0 <ℤ x → (pos 1 *ℤ x +ℤ z) ≤ℤ pos 0 → z <ℤ pos 0
  with_slack x z p h = omega (arith, ints, p, h)

  turned_product : (c d : ℤ) → neg_ℤ c *ℤ d ≡ neg_ℤ (c *ℤ d)
  turned_product c d = rw (parts c, parts d) (simp ring_pos (diff_same _ _ _ _ (omega arith)))

  both_sides : (x y : ℤ) → (x +ℤ y) ≤ℤ pos 0 → (neg_ℤ x +ℤ neg_ℤ y) ≤ℤ pos 0 → x +ℤ y ≡ pos 0
  both_sides x y h k = omega (arith, ints, h, k)

  by_op : (op : RowOp) (n : ℕ) (r : LinearConstraint) → r.op ≡ op → AllBelow b r.coefs → b + 1 < n → conj_holds row_holds (traces_by op b n r) q ≡ true → sign_meets op (row_at r q) ≡ true
  by_op Zero n r e a g h =
      let f = row_back (slack_of r.op) n r.coefs r.constant a g (and_left (row_holds (normal_row (forward b n r)) q) _ h) in
      let k = row_back (pos 0) (n + 1) (turned_coefs r.coefs) (neg_ℤ r.constant) (turned_below b r.coefs a) (omega (arith, g))
      (and_left (row_holds (normal_row (backward b n r)) q) true (and_right (row_holds (normal_row (forward b n r)) q) _ h)) in
      (meets-decides Zero (row_at r q)).1
      (both_sides (sum_at r.coefs q) (r.constant *ℤ pos q.den)
      (no_slack (number_at q (slot (tag (b + 1)))) (row_at r q) (subst (λ o. (slack_of o *ℤ number_at q (slot (tag (b + 1))) +ℤ row_at r q) ≤ℤ pos 0) e f))
      (subst (λ z. (neg_ℤ (sum_at r.coefs q) +ℤ z) ≤ℤ pos 0) (turned_product r.constant (pos q.den))
      (subst (λ z. (z +ℤ neg_ℤ r.constant *ℤ pos q.den) ≤ℤ pos 0) (turned_sum r.coefs q)
      (no_slack (number_at q (slot (tag (b + 1)))) (sum_at (turned_coefs r.coefs) q +ℤ neg_ℤ r.constant *ℤ pos q.den) k))))
  by_op AtMost n r e a g h =
      let f = row_back (slack_of r.op) n r.coefs r.constant a g (and_left (row_holds (normal_row (forward b n r)) q) true h) in
      weak_holds (row_at r q) (no_slack (number_at q (slot (tag (b + 1)))) (row_at r q) (subst (λ o. (slack_of o *ℤ number_at q (slot (tag (b + 1))) +ℤ row_at r q) ≤ℤ pos 0) e f))
  by_op Below n r e a g h =
      let f = row_back (slack_of r.op) n r.coefs r.constant a g (and_left (row_holds (normal_row (forward b n r)) q) true h) in
      (meets-decides Below (row_at r q)).1
      (with_slack (number_at q (slot (tag (b + 1)))) (row_at r q) clear.slack (subst (λ o. (slack_of o *ℤ number_at q (slot (tag (b + 1))) +ℤ row_at r q) ≤ℤ pos 0) e f))

  -- the rows hold where the tagged ones do
  pub rows_back : (n : ℕ) (rs : List LinearConstraint) → AreBelow b rs → b + 1 < n → conj_holds row_holds (traces b n rs) q ≡ true → conj_holds row_holds rs q ≡ true
  unfolding row_holds
  rows_back n [] a g h = refl
  rows_back n (r ∷ rs) a g h =
      let parts = sym (conj_holds-append row_holds (traces_by r.op b n r) (traces b (n + 2) rs) q) ∙ h in
      and_from (row_holds r q) (conj_holds row_holds rs q)
      (by_op r.op n r refl a.0 g (and_left (conj_holds row_holds (traces_by r.op b n r) q) (conj_holds row_holds (traces b (n + 2) rs) q) parts))
      (rows_back (n + 2) rs a.1 (omega (arith, g)) (and_right (conj_holds row_holds (traces_by r.op b n r) q) (conj_holds row_holds (traces b (n + 2) rs) q) parts))
