-- Parts of a list in the same order: what is true of them where it is of the whole list.
use Rattle.std.proofs.Common.{List, [], ◌∷◌, ◌++◌, map, inl, inr, refl, sym, ap, subst}
use Rattle.std.specs.List.{AllByRecursion}
use Rattle.ded_model.specs.Sublists.{IsSublistWithout}

module _ {A : Type 0} (Left : A → Type 0) where
  pub sublist_refl : (xs : List A) → IsSublistWithout Left xs xs
  sublist_refl [] = refl
  sublist_refl (x ∷ xs) = inr (xs, refl, sublist_refl xs)

  pub sublist_none : (xs : List A) → AllByRecursion Left xs → IsSublistWithout Left [] xs
  sublist_none [] h = refl
  sublist_none (x ∷ xs) h = inl (h.0, sublist_none xs h.1)

  pub sublist_append : (us xs vs ys : List A) → IsSublistWithout Left us xs → IsSublistWithout Left vs ys → IsSublistWithout Left (us ++ vs) (xs ++ ys)
  sublist_append us [] vs ys n k = subst (λ (us : List A). IsSublistWithout Left (us ++ vs) ys) (sym n) k
  sublist_append us (x ∷ xs) vs ys (inl m) k = inl (m.0, sublist_append us xs vs ys m.1 k)
  sublist_append us (x ∷ xs) vs ys (inr m) k = inr (m.0 ++ vs, ap (λ (us : List A). us ++ vs) m.1, sublist_append m.0 xs vs ys m.2 k)

  pub sublist_trans : (us xs ys : List A) → IsSublistWithout Left us xs → IsSublistWithout Left xs ys → IsSublistWithout Left us ys
  sublist_trans us xs [] n k = subst (IsSublistWithout Left us) k n
  sublist_trans us xs (y ∷ ys) n (inl m) = inl (m.0, sublist_trans us xs ys n m.1)
  sublist_trans us xs (y ∷ ys) n (inr m) = elim (subst (IsSublistWithout Left us) m.1 n) [
    | inl a ↦ inl (a.0, sublist_trans us m.0 ys a.1 m.2)
    | inr b ↦ inr (b.0, b.1, sublist_trans b.0 m.0 ys b.2 m.2)
  ]

  -- what holds of all holds of all that are left
  pub sublist_all : (P : A → Type 0) (us xs : List A) → IsSublistWithout Left us xs → AllByRecursion P xs → AllByRecursion P us
  sublist_all P us [] n h = subst (AllByRecursion P) (sym n) h
  sublist_all P us (x ∷ xs) (inl m) h = sublist_all P us xs m.1 h.1
  sublist_all P us (x ∷ xs) (inr m) h = subst (AllByRecursion P) (sym m.1) (h.0, sublist_all P m.0 xs m.2 h.1)

-- with other elements in their places
pub sublist_map : {A B : Type 0} (f : A → B) (Left : B → Type 0) (us xs : List A) → IsSublistWithout (λ x. Left (f x)) us xs → IsSublistWithout Left (map f us) (map f xs)
sublist_map f Left us [] n = ap (map f) n
sublist_map f Left us (x ∷ xs) (inl m) = inl (m.0, sublist_map f Left us xs m.1)
sublist_map f Left us (x ∷ xs) (inr m) = inr (map f m.0, ap (map f) m.1, sublist_map f Left m.0 xs m.2)
