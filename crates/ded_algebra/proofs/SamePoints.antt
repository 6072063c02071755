-- Points: the same value from one point to the next.
use Rattle.std.proofs.Common.{◌≡◌, ◌≢◌, ℕ, ◌<◌, arith, ap, ◌∙◌}
use Rattle.std.specs.Prelude.{ℤ, pos, ◌*ℤ◌}
use Rattle.std.proofs.lemmas.Int.{ints}
use Rattle.std.proofs.Math.IntN.{*ℤ_comm}
use Rattle.ded_model.specs.Point.{Key, Point, IsSameAt, number_at}
use Rattle.ded_row.proofs.Scaling.{cancel_factor}
use Rattle.ded_model.proofs.Values.{swap_law}

-- a factor above 0 can be left out
pub cancelled : (n : ℕ) (x y : ℤ) → 0 < n → x *ℤ pos n ≡ y *ℤ pos n → x ≡ y
cancelled n x y h e = cancel_factor (pos n) x y (above n h) (*ℤ_comm (pos n) x ∙ e ∙ *ℤ_comm y (pos n))
  where
    above : (n : ℕ) → 0 < n → pos n ≢ pos 0
    above n h e = omega (arith, ints)

-- the same value at two points, and at the second and a third one
pub same_trans : (p q r : Point) (k : Key) → 0 < q.den → IsSameAt p q k → IsSameAt q r k → IsSameAt p r k
same_trans p q r k i a b = record {
  number = cancelled q.den (number_at p k *ℤ pos r.den) (number_at r k *ℤ pos p.den) i
      (swap_law (number_at p k) (pos r.den) (pos q.den) ∙ ap (λ z. z *ℤ pos r.den) a.number ∙ swap_law (number_at q k) (pos p.den) (pos r.den)
      ∙ ap (λ z. z *ℤ pos p.den) b.number ∙ swap_law (number_at r k) (pos q.den) (pos p.den));
  text = a.text ∙ b.text;
}
