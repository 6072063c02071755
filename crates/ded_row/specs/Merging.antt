-- The first slot of two lists of coefficients.
use Rattle.std.specs.Prelude.{◌≡◌, ℤ, pos, List, ◌∷◌}
use Rattle.ded_model.specs.declared.slot.Slot.{Slot}
use Rattle.ded_model.specs.Coefs.{AllAbove}

-- s is the first slot of xs and ys, with the coefficients a and b, 0 where it has none; xs' and ys' are left after it
pub data IsFirst (xs ys : List (Slot × ℤ)) (s : Slot) (a b : ℤ) (xs' ys' : List (Slot × ℤ)) : Type 0 where
  in_left : xs ≡ (s, a) ∷ xs' → ys ≡ ys' → b ≡ pos 0 → AllAbove s.number ys → IsFirst xs ys s a b xs' ys'
  in_right : xs ≡ xs' → ys ≡ (s, b) ∷ ys' → a ≡ pos 0 → AllAbove s.number xs → IsFirst xs ys s a b xs' ys'
  in_both : xs ≡ (s, a) ∷ xs' → ys ≡ (s, b) ∷ ys' → IsFirst xs ys s a b xs' ys'
