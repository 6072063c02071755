-- Lists of names.
use Rattle.std.proofs.Common.{◌≡◌, ℕ, Bool, true, inl, inr, List, [], ◌∷◌, sym, subst, true≢false, bytes_eq}
use Rattle.std.specs.List.{AllByRecursion, list_any}
use Rattle.std.proofs.lemmas.Slice.Eq.{bytes_eq-Decides}
use Rattle.ded_model.proofs.Rows.{or_left, or_right}
use Rattle.ded_model.proofs.Members.{or_split}
use Rattle.ded_model.proofs.Bools.{bytes_eq-refl}

-- what is so of each name of a list is so of one that stands there
pub of_named : (P : List ℕ → Type 0) (names : List (List ℕ)) (n : List ℕ) → AllByRecursion P names → list_any (bytes_eq n) names ≡ true → P n
of_named P [] n k h = absurd (true≢false (sym h))
of_named P (m ∷ ms) n k h = elim (or_split (bytes_eq n m) (list_any (bytes_eq n) ms) h) [ inl e ↦ subst P (sym ((bytes_eq-Decides n m).0 e)) k.0 | inr e ↦ of_named P ms n k.1 e ]

-- and the other way round
pub all_named : (P : List ℕ → Type 0) (names : List (List ℕ)) → ((n : List ℕ) → list_any (bytes_eq n) names ≡ true → P n) → AllByRecursion P names
all_named P [] h = tt
all_named P (m ∷ ms) h = (h m (or_left (bytes_eq m m) (list_any (bytes_eq m) ms) (bytes_eq-refl m)), all_named P ms (λ n e. h n (or_right (bytes_eq n m) (list_any (bytes_eq n) ms) e)))

-- some name of the list passes a test
pub some_named : (test : List ℕ → Bool) (names : List (List ℕ)) (X : Type 0) → ((n : List ℕ) → list_any (bytes_eq n) names ≡ true → test n ≡ true → X) → list_any test names ≡ true → X
some_named test [] X h e = absurd (true≢false (sym e))
some_named test (m ∷ ms) X h e =
    elim (or_split (test m) (list_any test ms) e) [
      | inl k ↦ h m (or_left (bytes_eq m m) (list_any (bytes_eq m) ms) (bytes_eq-refl m)) k
      | inr k ↦ some_named test ms X (λ n i j. h n (or_right (bytes_eq n m) (list_any (bytes_eq n) ms) i) j) k
    ]

-- and one that stands there and passes it settles that
pub named_passes : (test : List ℕ → Bool) (names : List (List ℕ)) (n : List ℕ) → list_any (bytes_eq n) names ≡ true → test n ≡ true → list_any test names ≡ true
named_passes test [] n i e = absurd (true≢false (sym i))
named_passes test (m ∷ ms) n i e =
    elim (or_split (bytes_eq n m) (list_any (bytes_eq n) ms) i) [
      | inl k ↦ or_left (test m) (list_any test ms) (subst (λ x. test x ≡ true) ((bytes_eq-Decides n m).0 k) e)
      | inr k ↦ or_right (test m) (list_any test ms) (named_passes test ms n k e)
    ]
