-- Lists that are equal element by element, for a test that tells equal elements alone, are the same.
use mathlib.Core.Bool.{true≢false}
use mathlib.Core.Path.{refl, sym}
use Rattle.std.specs.Prelude.{◌≡◌, Bool, true, List, [], ◌∷◌}
use Rattle.std.specs.Cmp.{first_so, second_so}
use Rattle.std.specs.Cmp.Lexicographic.{pointwise}

module _ {K : Type 0} {E : K → K → Bool} (same : (x y : K) → E x y ≡ true → x ≡ y) where
  pub lists_same : (xs ys : List K) → pointwise E xs ys ≡ true → xs ≡ ys
  lists_same [] [] h = refl
  lists_same [] (y ∷ ys) h = absurd (true≢false (sym h))
  lists_same (x ∷ xs) [] h = absurd (true≢false (sym h))
  lists_same (x ∷ xs) (y ∷ ys) h = λ i. same x y (first_so (E x y) (pointwise E xs ys) h) i ∷ lists_same xs ys (second_so (E x y) (pointwise E xs ys) h) i
