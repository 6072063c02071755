-- Points at which all tagged rows hold: where the total is far below 0, and a tag is at most 0.
--
-- What is left of the rows holds there too. So none of its rows has a negative coefficient at a tag.
use Rattle.std.proofs.Common.{◌≡◌, ℕ, suc, ◌+◌, ◌*◌, ◌<◌, ◌≤◌, Bool, true, false, cond, List, [], ◌∷◌, arith, refl, sym, ap, ap₂, ◌∙◌, subst}
use Rattle.std.proofs.lemmas.Bool.{and_from}
use Rattle.std.specs.Prelude.{ℤ, pos, negsuc, ◌+ℤ◌, ◌*ℤ◌, ◌<ℤ◌, ◌≤ℤ◌, unsigned_abs}
use lib.IntN.{neg_ℤ}
use Rattle.std.specs.List.{AllByRecursion}
use Rattle.std.proofs.lemmas.Int.{ints, by_lt_z}
use Rattle.ded_num.proofs.Ring.{parts, ring_pos, diff_same}
use Rattle.ded_num.proofs.Signs.{back_back}
use Rattle.ded_model.specs.declared.slot.Slot.{Slot}
use Rattle.ded_model.specs.declared.row.RowOp.{RowOp}
use Rattle.ded_model.specs.declared.row.RowOp.TheVariants.{Zero, AtMost, Below}
use Rattle.ded_model.specs.Constraint.{LinearConstraint}
use Rattle.ded_model.specs.Point.{slot, same_slot, Point, IsPoint, number_at}
use Rattle.ded_model.specs.Cell.{conj_holds}
use Rattle.ded_model.specs.Coefs.{AllBelow, coef_at}
use Rattle.ded_model.specs.Normal.{normal_row}
use Rattle.ded_model.specs.Row.{sum_at, row_at, sign_meets, row_holds}
use Rattle.ded_model.proofs.Core.{Meets}
use Rattle.ded_model.proofs.Eliminating.{meets-decides}
use Rattle.ded_model.proofs.Points.{same_slot_refl}
use Rattle.ded_model.proofs.Normals.{normal_row-holds}
use Rattle.ded_theory.proofs.Conjunctions.{conj_holds-append}
use Rattle.ded_cert.specs.Tracing.{tag, tagged, turned_coefs, slack_of, forward, backward, traces_by, traces, AreBelow}
use Rattle.ded_cert.proofs.Tagged.{tagged_sum, tag_apart, less_apart, free_at}
use Rattle.ded_cert.proofs.TwoNumbers.{two_numbers, two_numbers-is, two_numbers-at, two_numbers-sum}

-- ---- what a row says of its sum

pub at_most_zero : (op : RowOp) (z : ℤ) → sign_meets op z ≡ true → z ≤ℤ pos 0
at_most_zero Zero z h = let e : Meets Zero z = (meets-decides Zero z).0 h in omega (arith, ints, e)
at_most_zero AtMost z h = (meets-decides AtMost z).0 h
at_most_zero Below z h = let e : Meets Below z = (meets-decides Below z).0 h in omega (arith, ints, e)

pub weak_holds : (z : ℤ) → z ≤ℤ pos 0 → sign_meets AtMost z ≡ true
weak_holds z h = (meets-decides AtMost z).1 h

-- ---- turned coefficients

pub turned_below : (b : ℕ) (cs : List (Slot × ℤ)) → AllBelow b cs → AllBelow b (turned_coefs cs)
turned_below b [] h = tt
turned_below b (c ∷ cs) h = (h.0, turned_below b cs h.1)

pub turned_size : (c : ℤ) (k : ℕ) → unsigned_abs c < k → unsigned_abs (neg_ℤ c) < k
turned_size c k h = omega (arith, ints, h)

-- ---- the points

abbrev pub low : ℕ → ℕ → ℕ → ℕ → Point
low b k t m = two_numbers 1 (tag b) (neg_ℤ (pos k)) (tag t) (neg_ℤ (pos m))

module _ (b k t m : ℕ) (h : b + 1 < t) where
  pub low_point : IsPoint (low b k t m)
  low_point = two_numbers-is 1 (tag b) (neg_ℤ (pos k)) (tag t) (neg_ℤ (pos m)) (omega arith)

  at_low : (u : Slot) → number_at (low b k t m) (slot u) ≡ cond (same_slot u (tag t)) (neg_ℤ (pos m)) (cond (same_slot u (tag b)) (neg_ℤ (pos k)) (pos 0))
  at_low u = two_numbers-at 1 (tag b) (neg_ℤ (pos k)) (tag t) (neg_ℤ (pos m)) u

  by_tests : (x y : Bool) → y ≡ false → cond x (neg_ℤ (pos m)) (cond y (neg_ℤ (pos k)) (pos 0)) ≤ℤ pos 0
  by_tests true y e = omega (arith, ints)
  by_tests false y e = rw e (omega (arith, ints))

  tag_low : (n : ℕ) → b + 1 < n → number_at (low b k t m) (slot (tag n)) ≤ℤ pos 0
  tag_low n g = subst (λ z. z ≤ℤ pos 0) (sym (at_low (tag n)))
      (by_tests (same_slot (tag n) (tag t)) (same_slot (tag n) (tag b)) (tag_apart n b (λ e. absurd (omega (arith, e, g)))))

  chosen : (x y : Bool) → x ≡ false → y ≡ false → cond x (neg_ℤ (pos m)) (cond y (neg_ℤ (pos k)) (pos 0)) ≡ pos 0
  chosen x y e f = rw (e, f) refl

  total : (x y : Bool) → x ≡ false → y ≡ true → cond x (neg_ℤ (pos m)) (cond y (neg_ℤ (pos k)) (pos 0)) ≡ neg_ℤ (pos k)
  total x y e f = rw (e, f) refl

  slack_low : number_at (low b k t m) (slot (tag (b + 1))) ≡ pos 0
  slack_low = at_low (tag (b + 1)) ∙ chosen (same_slot (tag (b + 1)) (tag t)) (same_slot (tag (b + 1)) (tag b)) (less_apart (b + 1) t h) (tag_apart (b + 1) b (λ e. absurd (omega (arith, e))))

  total_low : number_at (low b k t m) (slot (tag b)) ≡ neg_ℤ (pos k)
  total_low = at_low (tag b) ∙ total (same_slot (tag b) (tag t)) (same_slot (tag b) (tag b)) (less_apart b t (omega (arith, h))) (same_slot_refl (tag b))

  coefs_low : (cs : List (Slot × ℤ)) → sum_at cs (low b k t m) ≡ coef_at cs (tag b) *ℤ neg_ℤ (pos k) +ℤ coef_at cs (tag t) *ℤ neg_ℤ (pos m)
  coefs_low cs = two_numbers-sum cs 1 (tag b) (neg_ℤ (pos k)) (tag t) (neg_ℤ (pos m)) (less_apart b t (omega (arith, h)))

  none_law : (x y u v : ℤ) → x ≡ pos 0 → y ≡ pos 0 → x *ℤ u +ℤ y *ℤ v ≡ pos 0
  none_law x y u v e f = rw (e, f) (rw (parts u, parts v) (simp ring_pos (diff_same _ _ _ _ (omega arith))))

  free_low : (cs : List (Slot × ℤ)) → AllBelow b cs → sum_at cs (low b k t m) ≡ pos 0
  free_low cs a = coefs_low cs ∙ none_law (coef_at cs (tag b)) (coef_at cs (tag t)) (neg_ℤ (pos k)) (neg_ℤ (pos m)) (free_at b cs b a (omega arith)) (free_at b cs t a (omega (arith, h)))

  slack_law : (w : ℤ) → w *ℤ pos 0 ≡ pos 0
  slack_law w = rw (parts w) (simp ring_pos (diff_same _ _ _ _ (omega arith)))

  low_law : (x v c : ℤ) → x ≤ℤ pos 0 → v ≡ pos 0 → unsigned_abs c < k → ((pos 1 *ℤ x +ℤ (v +ℤ (pos 1 *ℤ neg_ℤ (pos k) +ℤ pos 0))) +ℤ c *ℤ pos 1) ≤ℤ pos 0
  low_law x v c h e g = omega (arith, ints, h, e, g)

  tagged_low : (w : ℤ) (n : ℕ) (cs : List (Slot × ℤ)) (c : ℤ) → AllBelow b cs → b + 1 < n → unsigned_abs c < k → row_holds (normal_row (tagged b w n cs c)) (low b k t m) ≡ true
  unfolding row_holds
  tagged_low w n cs c a g s =
      let p = low b k t m in
      normal_row-holds (tagged b w n cs c) p (omega arith)
      ∙ weak_holds (row_at (tagged b w n cs c) p)
      (subst (λ z. (z +ℤ c *ℤ pos 1) ≤ℤ pos 0) (sym (tagged_sum b w n cs a g p
      ∙ ap (λ z. pos 1 *ℤ number_at p (slot (tag n)) +ℤ z) (ap₂ (λ y z. w *ℤ y +ℤ z) slack_low (ap₂ (λ y z. pos 1 *ℤ y +ℤ z) total_low (free_low cs a)))))
      (low_law (number_at p (slot (tag n))) (w *ℤ pos 0) c (tag_low n g) (slack_law w) s))

  by_op : (op : RowOp) (n : ℕ) (r : LinearConstraint) → AllBelow b r.coefs → b + 1 < n → unsigned_abs r.constant < k → conj_holds row_holds (traces_by op b n r) (low b k t m) ≡ true
  by_op Zero n r a g s =
      and_from (row_holds (normal_row (forward b n r)) (low b k t m)) _ (tagged_low (slack_of r.op) n r.coefs r.constant a g s)
      (and_from (row_holds (normal_row (backward b n r)) (low b k t m)) true (tagged_low (pos 0) (n + 1) (turned_coefs r.coefs) (neg_ℤ r.constant) (turned_below b r.coefs a) (omega (arith, g)) (turned_size r.constant k s)) refl)
  by_op AtMost n r a g s = and_from (row_holds (normal_row (forward b n r)) (low b k t m)) true (tagged_low (slack_of r.op) n r.coefs r.constant a g s) refl
  by_op Below n r a g s = and_from (row_holds (normal_row (forward b n r)) (low b k t m)) true (tagged_low (slack_of r.op) n r.coefs r.constant a g s) refl

  pub traces_low : (n : ℕ) (rs : List LinearConstraint) → AreBelow b rs → b + 1 < n → AllByRecursion (λ r. unsigned_abs r.constant < k) rs → conj_holds row_holds (traces b n rs) (low b k t m) ≡ true
  traces_low n [] a g s = refl
  traces_low n (r ∷ rs) a g s =
      conj_holds-append row_holds (traces_by r.op b n r) (traces b (n + 2) rs) (low b k t m)
      ∙ and_from (conj_holds row_holds (traces_by r.op b n r) (low b k t m)) (conj_holds row_holds (traces b (n + 2) rs) (low b k t m)) (by_op r.op n r a.0 g s.0) (traces_low (n + 2) rs a.1 (omega (arith, g)) s.1)

  -- what a row that holds there says of its coefficients
  low_value : (e : LinearConstraint) → row_holds e (low b k t m) ≡ true → ((coef_at e.coefs (tag b) *ℤ neg_ℤ (pos k) +ℤ coef_at e.coefs (tag t) *ℤ neg_ℤ (pos m)) +ℤ e.constant *ℤ pos 1) ≤ℤ pos 0
  unfolding row_holds
  low_value e i = subst (λ z. (z +ℤ e.constant *ℤ pos 1) ≤ℤ pos 0) (coefs_low e.coefs) (at_most_zero e.op (row_at e (low b k t m)) i)

-- ---- coefficients of tags

at_least_once : (j m : ℕ) → m ≤ suc j * m
at_least_once j m = grind arith

pub large : (a : ℤ) (m : ℕ) → a <ℤ pos 0 → pos m ≤ℤ (a *ℤ neg_ℤ (pos m))
large (pos n) m h = absurd (omega (arith, ints, h))
large (negsuc j) m h = subst (λ z. pos m ≤ℤ z) (sym (back_back (negsuc j) (pos m))) (let l = at_least_once j m in omega (arith, ints, l))

-- a row that holds at all such points has no negative coefficient there
pub tag_coef : (b k t : ℕ) → b + 1 < t → (e : LinearConstraint) → ((m : ℕ) → row_holds e (low b k t m) ≡ true) → pos 0 ≤ℤ coef_at e.coefs (tag t)
tag_coef b k t h e f = by_lt_z (coef_at e.coefs (tag t)) (pos 0)
    (λ l.
    let u = coef_at e.coefs (tag b) *ℤ neg_ℤ (pos k) in
    let m = unsigned_abs u + unsigned_abs e.constant + 1 in
    absurd (beyond u (coef_at e.coefs (tag t) *ℤ neg_ℤ (pos m)) e.constant (large (coef_at e.coefs (tag t)) m l) (low_value b k t m h e (f m))))
    (λ g. g)
  where
    beyond : (u v c : ℤ) → pos (unsigned_abs u + unsigned_abs c + 1) ≤ℤ v → ((u +ℤ v) +ℤ c *ℤ pos 1) ≤ℤ pos 0 → ⊥
    beyond u v c l g = absurd (omega (arith, ints, l, g))
