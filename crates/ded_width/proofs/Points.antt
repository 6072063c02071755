-- Pairs of numbers in a list, up to the sign of both.
use Rattle.std.proofs.Common.{◌≡◌, true, false, ◌&&◌, ◌||◌, List, [], ◌∷◌, ◌++◌, inl, inr, refl, sym, ap₂, ◌∙◌, true≢false}
use Rattle.std.specs.Prelude.{ℤ}
use lib.IntN.{neg_ℤ}
use Rattle.std.specs.Ordering.{int_eq}
use Rattle.std.proofs.lemmas.Bool.Decides.{Decides-int_eq}
use Rattle.ded_num.proofs.Tests.{both}
use Rattle.ded_num.proofs.Signs.{twice_turned}
use Rattle.ded_model.proofs.Rows.{or_left, or_right}
use Rattle.ded_model.proofs.Members.{or_split}
use Rattle.ded_width.specs.Orderly.{is_point}

same : (a : ℤ) → int_eq a a ≡ true
same a = (Decides-int_eq a a).1 refl

-- the first pair
pub point_here : (a c : ℤ) (ps : List (ℤ × ℤ)) → is_point ((a, c) ∷ ps) a c ≡ true
point_here a c ps =
    or_left _ _ (or_left (int_eq a a && int_eq c c) (int_eq a (neg_ℤ a) && int_eq c (neg_ℤ c)) (both _ _ (same a) (same c)))

-- of a pair, with both numbers turned
turned_test : (x y a c : ℤ) → ((int_eq x a && int_eq y c) || (int_eq x (neg_ℤ a) && int_eq y (neg_ℤ c))) ≡ true
    → ((int_eq x (neg_ℤ a) && int_eq y (neg_ℤ c)) || (int_eq x (neg_ℤ (neg_ℤ a)) && int_eq y (neg_ℤ (neg_ℤ c)))) ≡ true
turned_test x y a c h = elim (or_split (int_eq x a && int_eq y c) _ h) [
  | inl e ↦ or_right (int_eq x (neg_ℤ a) && int_eq y (neg_ℤ c)) _ (ap₂ (λ u v. int_eq x u && int_eq y v) (twice_turned a) (twice_turned c) ∙ e)
  | inr e ↦ or_left _ _ e
]

pub point_turned : (ps : List (ℤ × ℤ)) (a c : ℤ) → is_point ps a c ≡ true → is_point ps (neg_ℤ a) (neg_ℤ c) ≡ true
point_turned [] a c h = h
point_turned (p ∷ ps) a c h = elim (or_split _ (is_point ps a c) h) [
  | inl e ↦ or_left _ _ (turned_test p.0 p.1 a c e)
  | inr e ↦ or_right ((int_eq p.0 (neg_ℤ a) && int_eq p.1 (neg_ℤ c)) || (int_eq p.0 (neg_ℤ (neg_ℤ a)) && int_eq p.1 (neg_ℤ (neg_ℤ c)))) _ (point_turned ps a c e)
]

-- in more pairs
pub point_left : (ps qs : List (ℤ × ℤ)) (a c : ℤ) → is_point ps a c ≡ true → is_point (ps ++ qs) a c ≡ true
point_left [] qs a c h = absurd (none h)
  where
    none : false ≡ true → ⊥
    none e = true≢false (sym e)
point_left (p ∷ ps) qs a c h = elim (or_split ((int_eq p.0 a && int_eq p.1 c) || (int_eq p.0 (neg_ℤ a) && int_eq p.1 (neg_ℤ c))) (is_point ps a c) h) [
  | inl e ↦ or_left _ _ e
  | inr e ↦ or_right ((int_eq p.0 a && int_eq p.1 c) || (int_eq p.0 (neg_ℤ a) && int_eq p.1 (neg_ℤ c))) _ (point_left ps qs a c e)
]

pub point_right : (ps qs : List (ℤ × ℤ)) (a c : ℤ) → is_point qs a c ≡ true → is_point (ps ++ qs) a c ≡ true
point_right [] qs a c h = h
point_right (p ∷ ps) qs a c h = or_right ((int_eq p.0 a && int_eq p.1 c) || (int_eq p.0 (neg_ℤ a) && int_eq p.1 (neg_ℤ c))) _ (point_right ps qs a c h)
