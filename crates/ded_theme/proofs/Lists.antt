-- Lists: what is left of one from a place on, an element of it, and tests of all its elements.
use Rattle.std.specs.Prelude.{Result, Ok, Err, IfOk}
use Rattle.std.proofs.Common.{◌≡◌, ℕ, zero, suc, ◌+◌, ◌<◌, ◌≤◌, Bool, true, ◌&&◌, List, [], ◌∷◌, ◌++◌, length, take, drop, get_or, arith, refl, sym, ap, ap₂, ◌∙◌, subst, add-one}
use Rattle.std.proofs.Math.Seq.{drop-cons, take-suc}
use Rattle.std.proofs.Math.ListN.{drop_of_length-le}
use Rattle.ded_model.proofs.Points.{and_left, and_right}
use Rattle.ded_model.proofs.Rows.{or_left, or_right}
use Rattle.std.specs.List.{list_all, list_any, AllByRecursion}
use Rattle.std.proofs.lemmas.Bool.{and_from}

-- ---- tests

-- ---- lists

module _ {A : Type 0} where
  -- what is left begins with the element
  pub rest_from : (xs : List A) (i : ℕ) (x : A) → i < length xs → x ≡ get_or xs i x → drop i xs ≡ x ∷ drop (i + 1) xs
  rest_from xs i x h e = drop-cons xs i x h ∙ ap₂ (λ y k. y ∷ drop k xs) (sym e) (sym (add-one i))

  -- what is done ends with it
  pub done_to : (xs : List A) (i : ℕ) (x : A) → i < length xs → x ≡ get_or xs i x → take (i + 1) xs ≡ take i xs ++ x ∷ []
  done_to xs i x h e = ap (λ k. take k xs) (add-one i) ∙ take-suc xs i x h ∙ ap (λ y. take i xs ++ y ∷ []) (sym e)

  -- at the end nothing is left
  pub at_end : (xs : List A) (i : ℕ) → length xs ≤ i → drop i xs ≡ []
  at_end xs i h = drop_of_length-le xs h

  -- what holds of all holds of what is left
  pub all-drop : (P : A → Type 0) (xs : List A) (i : ℕ) → AllByRecursion P xs → AllByRecursion P (drop i xs)
  all-drop P xs zero h = h
  all-drop P [] (suc i) h = tt
  all-drop P (x ∷ xs) (suc i) h = all-drop P xs i h.1

  -- and of what is done
  pub all-take : (P : A → Type 0) (xs : List A) (i : ℕ) → AllByRecursion P xs → AllByRecursion P (take i xs)
  all-take P xs zero h = tt
  all-take P [] (suc i) h = tt
  all-take P (x ∷ xs) (suc i) h = (h.0, all-take P xs i h.1)

  -- at the end all is done
  pub all_done : (xs : List A) (i : ℕ) → length xs ≤ i → take i xs ≡ xs
  all_done [] zero h = refl
  all_done [] (suc i) h = refl
  all_done (x ∷ xs) zero h = absurd (omega arith)
  all_done (x ∷ xs) (suc i) h = ap (λ ys. x ∷ ys) (all_done xs i (omega (arith, h)))

  -- and of the element
  pub all-at : (P : A → Type 0) (xs : List A) (i : ℕ) (x : A) → i < length xs → x ≡ get_or xs i x → AllByRecursion P xs → P x
  all-at P xs i x l e h = (subst (AllByRecursion P) (rest_from xs i x l e) (all-drop P xs i h)).0

  -- what holds of all and of one more
  pub all-append : (P : A → Type 0) (xs : List A) (x : A) → AllByRecursion P xs → P x → AllByRecursion P (xs ++ x ∷ [])
  all-append P [] x h k = (k, tt)
  all-append P (y ∷ xs) x h k = (h.0, all-append P xs x h.1 k)

  pub all-front : (P : A → Type 0) (xs : List A) (x : A) → AllByRecursion P (xs ++ x ∷ []) → AllByRecursion P xs
  all-front P [] x h = tt
  all-front P (y ∷ xs) x h = (h.0, all-front P xs x h.1)

  pub all-last : (P : A → Type 0) (xs : List A) (x : A) → AllByRecursion P (xs ++ x ∷ []) → P x
  all-last P [] x h = h.0
  all-last P (y ∷ xs) x h = all-last P xs x h.1

  -- what follows for each element
  pub all_weaker : (P Q : A → Type 0) (xs : List A) → ((x : A) → P x → Q x) → AllByRecursion P xs → AllByRecursion Q xs
  all_weaker P Q [] f h = tt
  all_weaker P Q (x ∷ xs) f h = (f x h.0, all_weaker P Q xs f h.1)

  pub all_of : (P : A → Type 0) (xs : List A) → ((x : A) → P x) → AllByRecursion P xs
  all_of P [] f = tt
  all_of P (x ∷ xs) f = (f x, all_of P xs f)

  -- of two facts a third
  pub all_both : (P Q R : A → Type 0) (xs : List A) → ((x : A) → P x → Q x → R x) → AllByRecursion P xs → AllByRecursion Q xs → AllByRecursion R xs
  all_both P Q R [] f h k = tt
  all_both P Q R (x ∷ xs) f h k = (f x h.0 k.0, all_both P Q R xs f h.1 k.1)

  -- a test of all, as a fact of each
  pub all_from_test : (t : A → Bool) (xs : List A) → list_all t xs ≡ true → AllByRecursion (λ x. t x ≡ true) xs
  all_from_test t [] h = tt
  all_from_test t (x ∷ xs) h = (and_left (t x) _ h, all_from_test t xs (and_right (t x) _ h))

  pub test_from_all : (t : A → Bool) (xs : List A) → AllByRecursion (λ x. t x ≡ true) xs → list_all t xs ≡ true
  test_from_all t [] h = refl
  test_from_all t (x ∷ xs) h = and_from (t x) _ h.0 (test_from_all t xs h.1)

  -- a test of all that passes at the element
  pub test-at : (t : A → Bool) (xs : List A) (i : ℕ) (x : A) → i < length xs → x ≡ get_or xs i x → list_all t xs ≡ true → t x ≡ true
  test-at t xs i x l e h = all-at (λ y. t y ≡ true) xs i x l e (all_from_test t xs h)

  -- a test of some that passes for what is left
  pub any-drop : (t : A → Bool) (xs : List A) (i : ℕ) → list_any t (drop i xs) ≡ true → list_any t xs ≡ true
  any-drop t xs zero h = h
  any-drop t [] (suc i) h = h
  any-drop t (x ∷ xs) (suc i) h = or_right (t x) _ (any-drop t xs i h)

  -- a test of some that passes at the element
  pub any-at : (t : A → Bool) (xs : List A) (i : ℕ) (x : A) → i < length xs → x ≡ get_or xs i x → t x ≡ true → list_any t xs ≡ true
  any-at t xs i x l e h = any-drop t xs i (ap (list_any t) (rest_from xs i x l e) ∙ or_left (t x) _ h)

  -- tests that agree
  pub list_all-same : (t u : A → Bool) (xs : List A) → ((x : A) → t x ≡ u x) → list_all t xs ≡ list_all u xs
  list_all-same t u [] f = refl
  list_all-same t u (x ∷ xs) f = ap₂ (λ b c. b && c) (f x) (list_all-same t u xs f)

-- ---- answers

-- what follows of a result
pub if_ok_weaker : {A E : Type 0} (P Q : A → Type 0) (r : Result A E) → ((x : A) → P x → Q x) → IfOk r P → IfOk r Q
if_ok_weaker P Q (Ok x) f h = f x h
if_ok_weaker P Q (Err e) f h = h
