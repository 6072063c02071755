-- A fraction in lowest terms, from its terms and what both were divided by.
use Rattle.std.proofs.Common.{◌≡◌, ℕ, arith, sym, ap, ◌∙◌}
use Rattle.std.specs.Prelude.{ℤ, pos, ◌*ℤ◌, ◌<ℤ◌, unsigned_abs}
use Rattle.std.proofs.lemmas.Int.{ints}
use Rattle.ded_num.specs.Gcd.{nat_gcd}
use Rattle.ded_num.proofs.Ring.{parts, ring, diff_same}
use Rattle.ded_simplex.specs.Ends.{IsValue}

same_law : (num den by : ℤ) → (num *ℤ by) *ℤ den ≡ num *ℤ (den *ℤ by)
same_law num den by = rw (parts num, parts den, parts by) (simp ring (diff_same _ _ _ _ (omega arith)))

one : (n : ℕ) → pos n ≡ pos 1 → n ≡ 1
one n h = omega (arith, ints)

pub value_of : (n d num den by : ℤ) → pos 0 <ℤ d → pos 0 <ℤ den → pos (nat_gcd (unsigned_abs num) (unsigned_abs den)) ≡ pos 1 → num *ℤ by ≡ n → den *ℤ by ≡ d → IsValue n d (record { num = num; den = den })
value_of n d num den by o p g e f = record {
  over = o;
  positive = p;
  lowest = one (nat_gcd (unsigned_abs num) (unsigned_abs den)) g;
  same = ap (λ z. z *ℤ den) (sym e) ∙ same_law num den by ∙ ap (λ z. num *ℤ z) f;
}
