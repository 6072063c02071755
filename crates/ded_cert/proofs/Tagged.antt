-- Rows with tags: their coefficients, and what they come to at a point.
use Rattle.std.proofs.Common.{◌≡◌, ◌≢◌, ℕ, ◌+◌, ◌<◌, ◌≤◌, Bool, true, false, cond, List, [], ◌∷◌, arith, refl, sym, ap, ◌∙◌, true≢false}
use Rattle.std.proofs.lemmas.Bool.{false_from_ne_true}
use Rattle.std.specs.Prelude.{ℤ, pos, ◌+ℤ◌, ◌*ℤ◌}
use lib.IntN.{+ℤ_idl}
use Rattle.std.proofs.lemmas.Int.{ints}
use Rattle.ded_model.specs.declared.slot.Slot.{Slot}
use Rattle.ded_model.specs.Point.{slot, same_slot, Point, number_at}
use Rattle.ded_model.specs.Coefs.{AllBelow, coef_at, put, cut, with_coef}
use Rattle.ded_model.specs.Row.{sum_at}
use Rattle.ded_model.proofs.CoefLemmas.{coef_at-past}
use Rattle.ded_model.proofs.LineCoefs.{coef_at-put, coef_at-cut, coef_at-cut_here, coef_at-nonzero}
use Rattle.ded_model.proofs.Points.{same_slot_is, same_slot_refl}
use Rattle.ded_row.proofs.Mixes.{sum_at-cut, nothing_more}
use Rattle.ded_model.proofs.Sums.{sum_at-put, sum_at-nonzero}
use Rattle.ded_cert.specs.Tracing.{tag, tagged_coefs}

-- ---- a slot that wasn't there

cut_same : (s : Slot) (cs : List (Slot × ℤ)) (t : Slot) → coef_at cs s ≡ pos 0 → coef_at (cut s cs) t ≡ coef_at cs t
cut_same s cs t z = go (same_slot s t) refl
  where
    go : (b : Bool) → same_slot s t ≡ b → coef_at (cut s cs) t ≡ coef_at cs t
    go true e = coef_at-cut_here s cs t e ∙ sym (ap (coef_at cs) (sym (same_slot_is s t e)) ∙ z)
    go false e = coef_at-cut s cs t e

with_coef_at : (s : Slot) (a : ℤ) (cs : List (Slot × ℤ)) (t : Slot) → coef_at cs s ≡ pos 0 → coef_at (with_coef s a cs) t ≡ cond (same_slot s t) a (pos 0) +ℤ coef_at cs t
with_coef_at s a cs t z = coef_at-nonzero (put s a (cut s cs)) t ∙ coef_at-put s a (cut s cs) t ∙ ap (λ x. cond (same_slot s t) a (pos 0) +ℤ x) (cut_same s cs t z)

with_coef_sum : (s : Slot) (a : ℤ) (cs : List (Slot × ℤ)) (p : Point) → coef_at cs s ≡ pos 0 → sum_at (with_coef s a cs) p ≡ a *ℤ number_at p (slot s) +ℤ sum_at cs p
with_coef_sum s a cs p z =
    sum_at-nonzero (put s a (cut s cs)) p ∙ sum_at-put s a (cut s cs) p
    ∙ ap (λ x. a *ℤ number_at p (slot s) +ℤ x) (nothing_more (sum_at (cut s cs) p) (coef_at cs s) (number_at p (slot s)) (sum_at cs p) z (sum_at-cut s cs p))

-- ---- tags

pub tag_apart : (m n : ℕ) → m ≢ n → same_slot (tag m) (tag n) ≡ false
tag_apart m n h = false_from_ne_true (same_slot (tag m) (tag n)) (λ e. h (ap (λ (s : Slot). s.number) (same_slot_is (tag m) (tag n) e)))

-- a slot of a lesser number is none
pub below_apart : (s : Slot) (b m : ℕ) → s.number < b → b ≤ m → same_slot s (tag m) ≡ false
below_apart s b m h k = false_from_ne_true (same_slot s (tag m)) (λ e. differ (ap (λ (t : Slot). t.number) (same_slot_is s (tag m) e)))
  where
    differ : s.number ≡ m → ⊥
    differ e = absurd (omega (arith, e, h, k))

-- coefficients below b have no tag from b on
pub free_at : (b : ℕ) (cs : List (Slot × ℤ)) (m : ℕ) → AllBelow b cs → b ≤ m → coef_at cs (tag m) ≡ pos 0
free_at b [] m h k = refl
free_at b (c ∷ cs) m h k = coef_at-past (tag m) c cs (below_apart c.0 b m h.0 k) ∙ free_at b cs m h.1 k

none_of : (b : Bool) (a x : ℤ) → b ≡ false → x ≡ pos 0 → cond b a (pos 0) +ℤ x ≡ pos 0
none_of true a x e f = absurd (true≢false e)
none_of false a x e f = +ℤ_idl x ∙ f

pub less_apart : (m n : ℕ) → m < n → same_slot (tag m) (tag n) ≡ false
less_apart m n h = tag_apart m n (λ e. absurd (omega (arith, e, h)))

module _ (b : ℕ) (w : ℤ) (n : ℕ) (cs : List (Slot × ℤ)) (below : AllBelow b cs) (h : b + 1 < n) where
  abbrev first : List (Slot × ℤ)
  first = with_coef (tag b) (pos 1) cs

  abbrev second : List (Slot × ℤ)
  second = with_coef (tag (b + 1)) w first

  free_first : coef_at cs (tag b) ≡ pos 0
  free_first = free_at b cs b below (omega arith)

  free_second : coef_at first (tag (b + 1)) ≡ pos 0
  free_second = with_coef_at (tag b) (pos 1) cs (tag (b + 1)) free_first
      ∙ none_of (same_slot (tag b) (tag (b + 1))) (pos 1) (coef_at cs (tag (b + 1))) (less_apart b (b + 1) (omega arith)) (free_at b cs (b + 1) below (omega arith))

  free_third : coef_at second (tag n) ≡ pos 0
  free_third = with_coef_at (tag (b + 1)) w first (tag n) free_second
      ∙ none_of (same_slot (tag (b + 1)) (tag n)) w (coef_at first (tag n)) (less_apart (b + 1) n h)
      (with_coef_at (tag b) (pos 1) cs (tag n) free_first
      ∙ none_of (same_slot (tag b) (tag n)) (pos 1) (coef_at cs (tag n)) (less_apart b n (omega (arith, h))) (free_at b cs n below (omega (arith, h))))

  -- the coefficient of a slot
  pub tagged_at : (t : Slot) → coef_at (tagged_coefs b w n cs) t ≡ cond (same_slot (tag n) t) (pos 1) (pos 0) +ℤ (cond (same_slot (tag (b + 1)) t) w (pos 0) +ℤ (cond (same_slot (tag b) t) (pos 1) (pos 0) +ℤ coef_at cs t))
  tagged_at t =
      with_coef_at (tag n) (pos 1) second t free_third
      ∙ ap (λ x. cond (same_slot (tag n) t) (pos 1) (pos 0) +ℤ x) (with_coef_at (tag (b + 1)) w first t free_second
      ∙ ap (λ x. cond (same_slot (tag (b + 1)) t) w (pos 0) +ℤ x) (with_coef_at (tag b) (pos 1) cs t free_first))

  parted : (x y z : Bool) (u : ℤ) → x ≡ false → y ≡ false → z ≡ false → cond x (pos 1) (pos 0) +ℤ (cond y w (pos 0) +ℤ (cond z (pos 1) (pos 0) +ℤ u)) ≡ u
  parted x y z u e f g = rw (e, f, g) (omega (arith, ints))

  -- of one that isn't among the three
  pub tagged_at_other : (t : Slot) → same_slot (tag n) t ≡ false → same_slot (tag (b + 1)) t ≡ false → same_slot (tag b) t ≡ false → coef_at (tagged_coefs b w n cs) t ≡ coef_at cs t
  tagged_at_other t e f g = tagged_at t ∙ parted (same_slot (tag n) t) (same_slot (tag (b + 1)) t) (same_slot (tag b) t) (coef_at cs t) e f g

  -- of the tag
  pub tagged_at_tag : coef_at (tagged_coefs b w n cs) (tag n) ≡ pos 1
  tagged_at_tag = tagged_at (tag n)
      ∙ here (same_slot (tag n) (tag n)) (same_slot (tag (b + 1)) (tag n)) (same_slot (tag b) (tag n)) (coef_at cs (tag n)) (same_slot_refl (tag n)) (less_apart (b + 1) n h) (less_apart b n (omega (arith, h))) (free_at b cs n below (omega (arith, h)))
    where
      here : (x y z : Bool) (u : ℤ) → x ≡ true → y ≡ false → z ≡ false → u ≡ pos 0 → cond x (pos 1) (pos 0) +ℤ (cond y w (pos 0) +ℤ (cond z (pos 1) (pos 0) +ℤ u)) ≡ pos 1
      here x y z u e f g i = rw (e, f, g, i) refl

  -- of another tag
  pub tagged_at_no_tag : (m : ℕ) → b + 1 < m → n ≢ m → coef_at (tagged_coefs b w n cs) (tag m) ≡ pos 0
  tagged_at_no_tag m k d =
      tagged_at_other (tag m) (tag_apart n m d) (less_apart (b + 1) m k) (less_apart b m (omega (arith, k))) ∙ free_at b cs m below (omega (arith, k))

  -- of the total
  pub tagged_at_total : coef_at (tagged_coefs b w n cs) (tag b) ≡ pos 1
  tagged_at_total = tagged_at (tag b)
      ∙ here (same_slot (tag n) (tag b)) (same_slot (tag (b + 1)) (tag b)) (same_slot (tag b) (tag b)) (coef_at cs (tag b))
      (tag_apart n b (λ e. absurd (omega (arith, e, h)))) (tag_apart (b + 1) b (λ e. absurd (omega (arith, e)))) (same_slot_refl (tag b)) free_first
    where
      here : (x y z : Bool) (u : ℤ) → x ≡ false → y ≡ false → z ≡ true → u ≡ pos 0 → cond x (pos 1) (pos 0) +ℤ (cond y w (pos 0) +ℤ (cond z (pos 1) (pos 0) +ℤ u)) ≡ pos 1
      here x y z u e f g i = rw (e, f, g, i) refl

  -- of the slack
  pub tagged_at_slack : coef_at (tagged_coefs b w n cs) (tag (b + 1)) ≡ w
  tagged_at_slack = tagged_at (tag (b + 1))
      ∙ here (same_slot (tag n) (tag (b + 1))) (same_slot (tag (b + 1)) (tag (b + 1))) (same_slot (tag b) (tag (b + 1))) (coef_at cs (tag (b + 1)))
      (tag_apart n (b + 1) (λ e. absurd (omega (arith, e, h)))) (same_slot_refl (tag (b + 1))) (less_apart b (b + 1) (omega arith)) (free_at b cs (b + 1) below (omega arith))
    where
      here : (x y z : Bool) (u : ℤ) → x ≡ false → y ≡ true → z ≡ false → u ≡ pos 0 → cond x (pos 1) (pos 0) +ℤ (cond y w (pos 0) +ℤ (cond z (pos 1) (pos 0) +ℤ u)) ≡ w
      here x y z u e f g i = rw (e, f, g, i) (omega (arith, ints))

  -- the sum at a point
  pub tagged_sum : (p : Point) → sum_at (tagged_coefs b w n cs) p ≡ pos 1 *ℤ number_at p (slot (tag n)) +ℤ (w *ℤ number_at p (slot (tag (b + 1))) +ℤ (pos 1 *ℤ number_at p (slot (tag b)) +ℤ sum_at cs p))
  tagged_sum p =
      with_coef_sum (tag n) (pos 1) second p free_third
      ∙ ap (λ x. pos 1 *ℤ number_at p (slot (tag n)) +ℤ x) (with_coef_sum (tag (b + 1)) w first p free_second
      ∙ ap (λ x. w *ℤ number_at p (slot (tag (b + 1))) +ℤ x) (with_coef_sum (tag b) (pos 1) cs p free_first))
