-- Laws of data that several crates cite.
use Rattle.std.proofs.Common.{◌≡◌, ◌<◌, arith, true, ℕ, suc, List, [], ◌∷◌, get_or, Fits, w8, refl}
use Rattle.std.specs.Prelude.{ℤ, pos, ◌<ℤ◌, ◌-ℤ◌}
use Rattle.std.proofs.lemmas.Int.{ints}
use Rattle.ded_model.specs.Sum.{denominator}
use Rattle.ded_model.specs.Constraint.{LinearConstraint}
use Rattle.ded_model.specs.Point.{Point, AllBytes, Key, IsSameAt}
use Rattle.ded_model.specs.Row.{row_at, row_holds}
use Rattle.ded_model.proofs.Core.{Meets}
use Rattle.ded_model.proofs.Eliminating.{meets-decides}
use Rattle.ded_model.specs.declared.row.RowOp.TheVariants.{Zero}
use Rattle.ded_model.specs.Bound.{Fraction}

pub denominator_is : (m : ℤ) → pos 0 <ℤ m → pos (denominator m) ≡ m
unfolding denominator
denominator_is m h = omega (arith, ints, h)

pub row_from : (r : LinearConstraint) (p : Point) → row_holds r p ≡ true → Meets r.op (row_at r p)
unfolding row_holds
row_from r p h = (meets-decides r.op (row_at r p)).0 h

-- what a slice of bytes has
pub all_bytes : (xs : List ℕ) → ((i : ℕ) → Fits w8 (get_or xs i 0)) → AllBytes xs
all_bytes [] h = tt
all_bytes (x ∷ xs) h = let k : Fits w8 x = h 0 in (omega (arith, k), all_bytes xs (λ i. h (suc i)))

-- the denominator of a single name
pub one : denominator (pos 1) ≡ 1
unfolding denominator
one = refl

pub level_turned : (a b : ℤ) → a ≡ b → Meets Zero (b -ℤ a)
level_turned a b e = omega (arith, ints)

pub fraction_with : (a b c d : ℤ) → a ≡ c → b ≡ d → ◌≡◌ {A = Fraction} (record { num = a; den = b }) (record { num = c; den = d })
fraction_with a b c d e f = rw (e, f) refl

-- the same point
pub same_self : (p : Point) (k : Key) → IsSameAt p p k
same_self p k = record { number = refl; text = refl }
