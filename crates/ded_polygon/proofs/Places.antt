-- Elements of lists and their places.
use Rattle.std.proofs.Common.{◌≡◌, ℕ, zero, suc, ◌<◌, List, [], ◌∷◌, length, get_or, inl, inr, refl, sym, subst, ◌∙◌, arith}
use Rattle.std.proofs.lemmas.List.{get_or_default}
use Rattle.ded_polygon.specs.Plane.{In}

-- what stands at a place is one of the list
pub in_at : {A : Type 0} (xs : List A) (k : ℕ) (d : A) → k < length xs → In (get_or xs k d) xs
in_at [] k d h = absurd (omega arith)
in_at (x ∷ xs) zero d h = inl refl
in_at (x ∷ xs) (suc k) d h = inr (in_at xs k d (omega arith))

-- what is one of the list stands at a place
pub place_in : {A : Type 0} (xs : List A) (x : A) (d : A) → In x xs → (k : ℕ) × (k < length xs) × (get_or xs k d ≡ x)
place_in [] x d i = absurd i
place_in (y ∷ xs) x d (inl e) = (0, omega arith, sym e)
place_in (y ∷ xs) x d (inr i) = let p = place_in xs x d i in (suc p.0, let h = p.1 in omega arith, p.2)

-- an element that is read at a place
pub in_read : {A : Type 0} (xs : List A) (k : ℕ) (x : A) → k < length xs → x ≡ get_or xs k x → In x xs
in_read xs k x h e = subst (λ y. In y xs) (sym e) (in_at xs k x h)

-- with another default
pub read_as : {A : Type 0} (xs : List A) (k : ℕ) (x d : A) → k < length xs → x ≡ get_or xs k x → get_or xs k d ≡ x
read_as xs k x d h e = get_or_default xs k d x h ∙ sym e
