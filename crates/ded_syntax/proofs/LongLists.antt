-- Divisors of lists that are put together, and how long a coefficient is.
use Rattle.std.proofs.Common.{◌≡◌, ℕ, ◌<◌, Bool, true, false, List, [], ◌∷◌, ◌++◌, refl, arith}
use Rattle.std.specs.Prelude.{◌^◌, ℤ, unsigned_abs, if◌then◌else◌}
use Rattle.std.specs.Str.{bytes_eq}
use Rattle.ded_num.specs.Gcd.{nat_gcd, gcd_from}
use Rattle.ded_model.specs.Sum.{ArePartsWithin}
use Rattle.ded_model.specs.LongRows.{coefficient}

pub gcd_split : (g : ℕ) (xs ys : List ℤ) → gcd_from g (xs ++ ys) ≡ gcd_from (gcd_from g xs) ys
gcd_split g [] ys = refl
gcd_split g (x ∷ xs) ys = gcd_split (nat_gcd g (unsigned_abs x)) xs ys

pub coefficient_within : (ps : List (List ℕ × ℤ)) (n : List ℕ) → ArePartsWithin 112 ps → unsigned_abs (coefficient ps n) < 2 ^ 112
coefficient_within [] n h = omega arith
coefficient_within (p ∷ ps) n h = either (bytes_eq p.0 n) (coefficient_within ps n h.1)
  where
    either : (b : Bool) → unsigned_abs (coefficient ps n) < 2 ^ 112 → unsigned_abs (if b then p.1 else coefficient ps n) < 2 ^ 112
    either true m = h.0
    either false m = m
