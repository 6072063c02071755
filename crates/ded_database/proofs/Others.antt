-- Names without one of them, gathered one after another.
use Rattle.std.proofs.Common.{◌≡◌, ℕ, Bool, true, false, not, ◌||◌, ◌&&◌, List, [], ◌∷◌, ◌++◌, refl, sym, ap, ◌∙◌, subst, true≢false, bytes_eq}
use Rattle.std.specs.List.{list_any}
use Rattle.std.proofs.lemmas.Slice.Eq.{bytes_eq-Decides}
use Rattle.ded_plan.proofs.ScannedNames.{any_more}

-- one that isn't the name is added
pub one_added : (n x m : List ℕ) (xs ys : List (List ℕ)) → bytes_eq x m ≡ false → list_any (bytes_eq n) ys ≡ (list_any (bytes_eq n) xs && not (bytes_eq n m))
    → list_any (bytes_eq n) (ys ++ x ∷ []) ≡ (list_any (bytes_eq n) (xs ++ x ∷ []) && not (bytes_eq n m))
one_added n x m xs ys o e =
    any_more n x ys ∙ ap (λ b. b || bytes_eq n x) e
    ∙ by (bytes_eq n x) (bytes_eq n m) (λ i. subst (λ k. bytes_eq k m ≡ false) (sym ((bytes_eq-Decides n x).0 i)) o) (list_any (bytes_eq n) xs)
    ∙ sym (ap (λ b. b && not (bytes_eq n m)) (any_more n x xs))
  where
    by : (b e : Bool) → (b ≡ true → e ≡ false) → (a : Bool) → ((a && not e) || b) ≡ ((a || b) && not e)
    by true true h a = absurd (true≢false (h refl))
    by true false h true = refl
    by true false h false = refl
    by false true h true = refl
    by false true h false = refl
    by false false h true = refl
    by false false h false = refl

-- the name itself isn't
pub one_passed : (n x m : List ℕ) (xs ys : List (List ℕ)) → bytes_eq x m ≡ true → list_any (bytes_eq n) ys ≡ (list_any (bytes_eq n) xs && not (bytes_eq n m))
    → list_any (bytes_eq n) ys ≡ (list_any (bytes_eq n) (xs ++ x ∷ []) && not (bytes_eq n m))
one_passed n x m xs ys o e =
    e ∙ by (bytes_eq n x) (bytes_eq n m) (λ i. subst (λ k. bytes_eq k m ≡ true) (sym ((bytes_eq-Decides n x).0 i)) o) (list_any (bytes_eq n) xs)
    ∙ sym (ap (λ b. b && not (bytes_eq n m)) (any_more n x xs))
  where
    by : (b e : Bool) → (b ≡ true → e ≡ true) → (a : Bool) → (a && not e) ≡ ((a || b) && not e)
    by true true h true = refl
    by true true h false = refl
    by true false h a = absurd (true≢false (sym (h refl)))
    by false true h true = refl
    by false true h false = refl
    by false false h true = refl
    by false false h false = refl
