-- Every element of a list, and some element, by recursion: with append, map and `flat`, in both directions. Std's `All` goes
-- by index; `every_all` and `all_every` lead there and back.
use Rattle.std.proofs.Common.{◌⊎◌, inl, inr, ⊎_elim, List, [], ◌∷◌, ◌++◌, map}
use Rattle.std.specs.List.{All}
use Rattle.std.proofs.lemmas.List.Elements.{All-nil, All-cons, All-head, All-tail}

abbrev pub Every : {A : Type 0} → (A → Type 0) → List A → Type 0
Every P [] = Unit {0}
Every P (x ∷ xs) = P x × Every P xs

abbrev pub Some : {A : Type 0} → (A → Type 0) → List A → Type 0
Some P [] = ⊥
Some P (x ∷ xs) = P x ⊎ Some P xs

abbrev pub flat : {A B : Type 0} → (A → List B) → List A → List B
flat f [] = []
flat f (x ∷ xs) = f x ++ flat f xs

module _ {A : Type 0} (P : A → Type 0) where
  pub every-append : (xs ys : List A) → Every P xs → Every P ys → Every P (xs ++ ys)
  every-append [] ys h k = k
  every-append (x ∷ xs) ys h k = (h.0, every-append xs ys h.1 k)

  pub every-left : (xs ys : List A) → Every P (xs ++ ys) → Every P xs
  every-left [] ys h = tt
  every-left (x ∷ xs) ys h = (h.0, every-left xs ys h.1)

  pub every-right : (xs ys : List A) → Every P (xs ++ ys) → Every P ys
  every-right [] ys h = h
  every-right (x ∷ xs) ys h = every-right xs ys h.1

  pub some-left : (xs ys : List A) → Some P xs → Some P (xs ++ ys)
  some-left [] ys h = absurd h
  some-left (x ∷ xs) ys (inl h) = inl h
  some-left (x ∷ xs) ys (inr h) = inr (some-left xs ys h)

  pub some-right : (xs ys : List A) → Some P ys → Some P (xs ++ ys)
  some-right [] ys h = h
  some-right (x ∷ xs) ys h = inr (some-right xs ys h)

  pub some-append : (xs ys : List A) → Some P (xs ++ ys) → Some P xs ⊎ Some P ys
  some-append [] ys h = inr h
  some-append (x ∷ xs) ys (inl h) = inl (inl h)
  some-append (x ∷ xs) ys (inr h) = ⊎_elim (λ (k : Some P xs). inl (inr k)) (λ k. inr k) (some-append xs ys h)

  pub every_all : (xs : List A) → Every P xs → All P xs
  every_all [] h = All-nil P
  every_all (x ∷ xs) h = All-cons P x xs h.0 (every_all xs h.1)

  pub all_every : (xs : List A) → All P xs → Every P xs
  all_every [] h = tt
  all_every (x ∷ xs) h = (All-head P x xs h, all_every xs (All-tail P x xs h))

  pub every_if : (xs : List A) → ((x : A) → P x) → Every P xs
  every_if [] h = tt
  every_if (x ∷ xs) h = (h x, every_if xs h)

module _ {A B : Type 0} (f : A → B) (P : B → Type 0) where
  pub every-map : (xs : List A) → Every (λ x. P (f x)) xs → Every P (map f xs)
  every-map [] h = tt
  every-map (x ∷ xs) h = (h.0, every-map xs h.1)

  pub every-unmap : (xs : List A) → Every P (map f xs) → Every (λ x. P (f x)) xs
  every-unmap [] h = tt
  every-unmap (x ∷ xs) h = (h.0, every-unmap xs h.1)

  pub some-map : (xs : List A) → Some (λ x. P (f x)) xs → Some P (map f xs)
  some-map [] h = absurd h
  some-map (x ∷ xs) (inl h) = inl h
  some-map (x ∷ xs) (inr h) = inr (some-map xs h)

  pub some-unmap : (xs : List A) → Some P (map f xs) → Some (λ x. P (f x)) xs
  some-unmap [] h = absurd h
  some-unmap (x ∷ xs) (inl h) = inl h
  some-unmap (x ∷ xs) (inr h) = inr (some-unmap xs h)

module _ {A B : Type 0} (f : A → List B) (P : B → Type 0) where
  pub every-flat : (xs : List A) → Every (λ x. Every P (f x)) xs → Every P (flat f xs)
  every-flat [] h = tt
  every-flat (x ∷ xs) h = every-append P (f x) (flat f xs) h.0 (every-flat xs h.1)

  pub every-unflat : (xs : List A) → Every P (flat f xs) → Every (λ x. Every P (f x)) xs
  every-unflat [] h = tt
  every-unflat (x ∷ xs) h = (every-left P (f x) (flat f xs) h, every-unflat xs (every-right P (f x) (flat f xs) h))

  pub some-flat : (xs : List A) → Some (λ x. Some P (f x)) xs → Some P (flat f xs)
  some-flat [] h = absurd h
  some-flat (x ∷ xs) (inl h) = some-left P (f x) (flat f xs) h
  some-flat (x ∷ xs) (inr h) = some-right P (f x) (flat f xs) (some-flat xs h)

  pub some-unflat : (xs : List A) → Some P (flat f xs) → Some (λ x. Some P (f x)) xs
  some-unflat [] h = absurd h
  some-unflat (x ∷ xs) h = ⊎_elim (λ (k : Some P (f x)). inl k) (λ k. inr (some-unflat xs k)) (some-append P (f x) (flat f xs) h)

module _ {A : Type 0} (P Q : A → Type 0) where
  pub every_weaker : (xs : List A) → ((x : A) → P x → Q x) → Every P xs → Every Q xs
  every_weaker [] f h = tt
  every_weaker (x ∷ xs) f h = (f x h.0, every_weaker xs f h.1)

  pub some_weaker : (xs : List A) → ((x : A) → P x → Q x) → Some P xs → Some Q xs
  some_weaker [] f h = absurd h
  some_weaker (x ∷ xs) f (inl h) = inl (f x h)
  some_weaker (x ∷ xs) f (inr h) = inr (some_weaker xs f h)

  -- an element of each of the two
  pub some_both : (xs : List A) → Every P xs → Some Q xs → Some (λ x. P x × Q x) xs
  some_both [] e h = absurd h
  some_both (x ∷ xs) e (inl h) = inl (e.0, h)
  some_both (x ∷ xs) e (inr h) = inr (some_both xs e.1 h)

module _ {A : Type 0} (P : A → Type 0) (R : Type 0) where
  -- what follows from any element
  pub from_some : (xs : List A) → ((x : A) → P x → R) → Some P xs → R
  from_some [] f h = absurd h
  from_some (x ∷ xs) f (inl h) = f x h
  from_some (x ∷ xs) f (inr h) = from_some xs f h
