-- Loops over lists of conjunctions: what is done at each step, and the element that comes next.
use Rattle.std.proofs.Common.{◌≡◌, ℕ, zero, suc, ◌+◌, ◌<◌, ◌≤◌, Bool, true, List, [], ◌∷◌, ◌++◌, Vec, Global, length, take, get_or, arith, refl, sym, ap, ◌∙◌, subst, add-one, append_assoc, append-nil}
use Rattle.std.proofs.Math.Seq.{take-suc}
use Rattle.std.specs.List.{list_any, AllByRecursion}
use Rattle.ded_model.proofs.Rows.{or_left, or_right}
use Rattle.ded_genrel.specs.Lists.{conjs_of, AreNormal, pairs_with, pairs}

module _ {A : Type 0} where
  -- what is done ends with the element
  pub done_to : (xs : List A) (i : ℕ) (x : A) → i < length xs → x ≡ get_or xs i x → take (i + 1) xs ≡ take i xs ++ x ∷ []
  done_to xs i x h e = ap (λ k. take k xs) (add-one i) ∙ take-suc xs i x h ∙ ap (λ y. take i xs ++ y ∷ []) (sym e)

  -- what holds of all and of one more
  pub all-push : (P : A → Type 0) (xs : List A) (x : A) → AllByRecursion P xs → P x → AllByRecursion P (xs ++ x ∷ [])
  all-push P [] x h k = (k, tt)
  all-push P (y ∷ xs) x h k = (h.0, all-push P xs x h.1 k)

  -- what holds of all of two lists
  pub all-append : (P : A → Type 0) (xs ys : List A) → AllByRecursion P xs → AllByRecursion P ys → AllByRecursion P (xs ++ ys)
  all-append P [] ys h k = k
  all-append P (x ∷ xs) ys h k = (h.0, all-append P xs ys h.1 k)

  -- what follows for each element
  pub all_weaker : (P Q : A → Type 0) (xs : List A) → ((x : A) → P x → Q x) → AllByRecursion P xs → AllByRecursion Q xs
  all_weaker P Q [] f h = tt
  all_weaker P Q (x ∷ xs) f h = (f x h.0, all_weaker P Q xs f h.1)

  -- ---- conjunctions

  pub conjs_of-append : (xs ys : List (Vec A Global)) → conjs_of (xs ++ ys) ≡ conjs_of xs ++ conjs_of ys
  conjs_of-append [] ys = refl
  conjs_of-append (x ∷ xs) ys = ap (λ zs. x.items ∷ zs) (conjs_of-append xs ys)

  -- what is done ends with the conjunction
  pub conjs_to : (xs : List (Vec A Global)) (i : ℕ) (x : Vec A Global) → i < length xs → x ≡ get_or xs i x → conjs_of (take (i + 1) xs) ≡ conjs_of (take i xs) ++ x.items ∷ []
  conjs_to xs i x h e = ap conjs_of (ap (λ k. take k xs) (add-one i) ∙ take-suc xs i x h ∙ ap (λ y. take i xs ++ y ∷ []) (sym e)) ∙ conjs_of-append (take i xs) (x ∷ [])

  -- at the end they are all done
  pub conjs_done : (xs : List (Vec A Global)) (i : ℕ) → length xs ≤ i → conjs_of (take i xs) ≡ conjs_of xs
  conjs_done [] zero h = refl
  conjs_done [] (suc i) h = refl
  conjs_done (x ∷ xs) zero h = absurd (omega arith)
  conjs_done (x ∷ xs) (suc i) h = ap (λ ys. x.items ∷ ys) (conjs_done xs i (omega (arith, h)))

  -- the conjunction is normal where all are
  pub normal-at : (normal : A → Type 0) (xs : List (Vec A Global)) (i : ℕ) (x : Vec A Global) → i < length xs → x ≡ get_or xs i x → AreNormal normal (conjs_of xs) → AllByRecursion normal x.items
  normal-at normal [] i x l e h = absurd (omega (arith, l))
  normal-at normal (y ∷ xs) zero x l e h = subst (λ (z : Vec A Global). AllByRecursion normal z.items) (sym e) h.0
  normal-at normal (y ∷ xs) (suc i) x l e h = normal-at normal xs i x (omega (arith, l)) e h.1

  -- some conjunction passes a test that this one passes
  pub conjs-any-at : (test : List A → Bool) (xs : List (Vec A Global)) (i : ℕ) (x : Vec A Global) → i < length xs → x ≡ get_or xs i x → test x.items ≡ true → list_any test (conjs_of xs) ≡ true
  conjs-any-at test [] i x l e h = absurd (omega (arith, l))
  conjs-any-at test (y ∷ xs) zero x l e h = or_left (test y.items) (list_any test (conjs_of xs)) (subst (λ (z : Vec A Global). test z.items ≡ true) e h)
  conjs-any-at test (y ∷ xs) (suc i) x l e h = or_right (test y.items) (list_any test (conjs_of xs)) (conjs-any-at test xs i x (omega (arith, l)) e h)

  -- ---- pairs

  pub pairs_with-append : (c : List A) (xs ys : List (List A)) → pairs_with c (xs ++ ys) ≡ pairs_with c xs ++ pairs_with c ys
  pairs_with-append c [] ys = refl
  pairs_with-append c (x ∷ xs) ys = ap (λ zs. (c ++ x) ∷ zs) (pairs_with-append c xs ys)

  pub pairs-push : (xs ys : List (List A)) (c : List A) → pairs (xs ++ c ∷ []) ys ≡ pairs xs ys ++ pairs_with c ys
  pairs-push [] ys c = append-nil (pairs_with c ys)
  pairs-push (x ∷ xs) ys c = ap (λ zs. pairs_with x ys ++ zs) (pairs-push xs ys c) ∙ sym (append_assoc (pairs_with x ys) (pairs xs ys) (pairs_with c ys))

  -- the pairs done so far, and the next one at the end
  pub paired-more : (old new next : List (List A)) (c : List A) (xs : List (Vec A Global)) (i : ℕ) (x : Vec A Global) (both : List A) → i < length xs → x ≡ get_or xs i x → both ≡ c ++ x.items
      → new ≡ old ++ pairs_with c (conjs_of (take i xs)) → next ≡ new ++ both ∷ [] → next ≡ old ++ pairs_with c (conjs_of (take (i + 1) xs))
  paired-more old new next c xs i x both l e b h k =
      k ∙ ap (λ ys. ys ++ both ∷ []) h ∙ append_assoc old (pairs_with c (conjs_of (take i xs))) (both ∷ []) ∙ ap (λ y. old ++ (pairs_with c (conjs_of (take i xs)) ++ y ∷ [])) b
      ∙ ap (λ ys. old ++ ys) (sym (ap (pairs_with c) (conjs_to xs i x l e) ∙ pairs_with-append c (conjs_of (take i xs)) (x.items ∷ [])))

  -- and the pairs of the next conjunction
  pub met-more : (out next others : List (List A)) (xs : List (Vec A Global)) (i : ℕ) (x : Vec A Global) → i < length xs → x ≡ get_or xs i x → out ≡ pairs (conjs_of (take i xs)) others → next ≡ out ++ pairs_with x.items others
      → next ≡ pairs (conjs_of (take (i + 1) xs)) others
  met-more out next others xs i x l e h k =
      k ∙ ap (λ ys. ys ++ pairs_with x.items others) h ∙ sym (pairs-push (conjs_of (take i xs)) others x.items) ∙ ap (λ ys. pairs ys others) (sym (conjs_to xs i x l e))
