-- Lists of which equal elements are kept once.
use Rattle.std.proofs.Common.{◌≡◌, Bool, true, ◌||◌, false, List, [], ◌∷◌, ◌++◌, length, map, ◌<◌, inl, inr, arith, refl, sym, ap, ◌∙◌, subst, true≢false, append-nil, append_assoc}
use Rattle.std.specs.Prelude.{if◌then◌else◌}
use Rattle.std.specs.Cmp.{IsEquivalence}
use Rattle.std.specs.List.{AllByRecursion, IsDistinct, list_any}
use Rattle.std.proofs.lemmas.List.Folds.{list_any-append}
use Rattle.indexmap.specs.IndexSet.{insert_key, insert_all}
use Rattle.ded_model.proofs.Rows.{or_left, or_right}
use Rattle.ded_model.proofs.Members.{or_split}
use Rattle.std.proofs.Math.Bool.{or-false}
use Rattle.ded_model.specs.Sublists.{IsSublist}
use Rattle.ded_model.proofs.Sublists.{sublist_refl}
use Rattle.ded_model.proofs.Bools.{or_known}

-- ---- lists with one element more

module _ {A : Type 0} where
  pub sublist_push : (xs ys : List A) (y : A) → IsSublist xs ys → IsSublist (xs ++ y ∷ []) (ys ++ y ∷ [])
  sublist_push xs [] y h = subst (λ us. IsSublist (us ++ y ∷ []) (y ∷ [])) (sym h) (sublist_refl (λ x. Unit {0}) (y ∷ []))
  sublist_push xs (z ∷ ys) y (inl h) = inl (tt, sublist_push xs ys y h.1)
  sublist_push xs (z ∷ ys) y (inr h) = inr (h.0 ++ y ∷ [], ap (λ us. us ++ y ∷ []) h.1, sublist_push h.0 ys y h.2)

  pub sublist_skip : (xs ys : List A) (y : A) → IsSublist xs ys → IsSublist xs (ys ++ y ∷ [])
  sublist_skip xs [] y h = inl (tt, h)
  sublist_skip xs (z ∷ ys) y (inl h) = inl (tt, sublist_skip xs ys y h.1)
  sublist_skip xs (z ∷ ys) y (inr h) = inr (h.0, h.1, sublist_skip h.0 ys y h.2)

-- ---- one after another, each once

-- the first list is the second without elements that are equal to an earlier one: what is so of some of them is so of some that stay
pub record IsOnce {X : Type 0} (ks xs : List X) : Type 0 where
  pub kept : IsSublist ks xs
  pub some : (f : X → Bool) → list_any f ks ≡ list_any f xs

any-push : {X : Type 0} (f : X → Bool) (xs : List X) (x : X) → list_any f (xs ++ x ∷ []) ≡ (list_any f xs || f x)
any-push f xs x = list_any-append f xs (x ∷ []) ∙ ap (λ b. list_any f xs || b) (or-false (f x))

module _ {X : Type 0} (eq : X → X → Bool) (same : (x y : X) → eq x y ≡ true → x ≡ y) where
  known : (f : X → Bool) (ks : List X) (x : X) → list_any (eq x) ks ≡ true → f x ≡ true → list_any f ks ≡ true
  known f [] x h e = absurd (true≢false (sym h))
  known f (k ∷ ks) x h e = elim (or_split (eq x k) (list_any (eq x) ks) h) [
    | inl i ↦ or_left (f k) (list_any f ks) (subst (λ y. f y ≡ true) (same x k i) e)
    | inr i ↦ or_right (f k) (list_any f ks) (known f ks x i e)
  ]

  once_more : (done ks : List X) (x : X) → IsOnce ks done → IsOnce (insert_key eq ks x) (done ++ x ∷ [])
  once_more done ks x d = by (list_any (eq x) ks) refl
    where
      by : (b : Bool) → list_any (eq x) ks ≡ b → IsOnce (if list_any (eq x) ks then ks else ks ++ x ∷ []) (done ++ x ∷ [])
      by true e = subst (λ b. IsOnce (if b then ks else ks ++ x ∷ []) (done ++ x ∷ [])) (sym e) (record {
        kept = sublist_skip ks done x d.kept;
        some = λ f. or_known (list_any f ks) (f x) (known f ks x e) ∙ ap (λ b. b || f x) (d.some f) ∙ sym (any-push f done x);
      })
      by false e = subst (λ b. IsOnce (if b then ks else ks ++ x ∷ []) (done ++ x ∷ [])) (sym e) (record {
        kept = sublist_push ks done x d.kept;
        some = λ f. any-push f ks x ∙ ap (λ b. b || f x) (d.some f) ∙ sym (any-push f done x);
      })

  once_rest : (xs done ks : List X) → IsOnce ks done → IsOnce (insert_all eq ks xs) (done ++ xs)
  once_rest [] done ks d = subst (IsOnce ks) (sym (append-nil done)) d
  once_rest (x ∷ xs) done ks d =
      subst (IsOnce (insert_all eq (insert_key eq ks x) xs)) (append_assoc done (x ∷ []) xs)
      (once_rest xs (done ++ x ∷ []) (insert_key eq ks x) (once_more done ks x d))

  pub once_all : (xs : List X) → IsOnce (insert_all eq [] xs) xs
  once_all xs = once_rest xs [] [] (record { kept = refl; some = λ f. refl })

-- ---- fewer than two

module _ {X : Type 0} (eq : X → X → Bool) where
  pub short_once : (xs : List X) → length xs < 2 → xs ≡ insert_all eq [] xs
  short_once [] h = refl
  short_once (x ∷ []) h = refl
  short_once (x ∷ y ∷ xs) h = absurd (omega (arith, h))

  pub short_distinct : (xs : List X) → length xs < 2 → IsDistinct eq xs
  unfolding IsDistinct
  short_distinct [] h = tt
  short_distinct (x ∷ []) h = (tt, tt)
  short_distinct (x ∷ y ∷ xs) h = absurd (omega (arith, h))

-- ---- elements that are told apart by a part of them

module _ {X Y : Type 0} (part : X → Y) (eq : Y → Y → Bool) where
  eq_part : X → X → Bool
  eq_part x y = eq (part x) (part y)

  any_map : (f : Y → Bool) (xs : List X) → list_any f (map part xs) ≡ list_any (λ x. f (part x)) xs
  any_map f [] = refl
  any_map f (x ∷ xs) = ap (λ b. f (part x) || b) (any_map f xs)

  map-push : (xs : List X) (x : X) → map part (xs ++ x ∷ []) ≡ map part xs ++ part x ∷ []
  map-push [] x = refl
  map-push (y ∷ xs) x = ap (λ ys. part y ∷ ys) (map-push xs x)

  key_map : (ks : List X) (x : X) → map part (insert_key (λ x y. eq (part x) (part y)) ks x) ≡ insert_key eq (map part ks) (part x)
  key_map ks x = by (list_any (λ y. eq (part x) (part y)) ks) ∙ ap (λ b. if b then map part ks else (map part ks ++ part x ∷ [])) (sym (any_map (eq (part x)) ks))
    where
      by : (b : Bool) → map part (if b then ks else ks ++ x ∷ []) ≡ (if b then map part ks else (map part ks ++ part x ∷ []))
      by true = refl
      by false = map-push ks x

  pub parts_all : (xs ks : List X) → map part (insert_all (λ x y. eq (part x) (part y)) ks xs) ≡ insert_all eq (map part ks) (map part xs)
  parts_all [] ks = refl
  parts_all (x ∷ xs) ks = parts_all xs (insert_key (λ x y. eq (part x) (part y)) ks x) ∙ ap (λ ys. insert_all eq ys (map part xs)) (key_map ks x)

  apart_map : (x : X) (xs : List X) → AllByRecursion (λ y. eq (part x) (part y) ≡ false) xs → AllByRecursion (λ y. eq (part x) y ≡ false) (map part xs)
  apart_map x [] h = tt
  apart_map x (y ∷ xs) h = (h.0, apart_map x xs h.1)

  pub parts_distinct : (xs : List X) → IsDistinct (λ x y. eq (part x) (part y)) xs → IsDistinct eq (map part xs)
  unfolding IsDistinct
  parts_distinct [] h = tt
  parts_distinct (x ∷ xs) h = (apart_map x xs h.0, parts_distinct xs h.1)

-- what is the same is told to be equal
pub told : {X : Type 0} {eq : X → X → Bool} → IsEquivalence eq → (x y : X) → x ≡ y → eq x y ≡ true
told {eq = eq} laws x y e = subst (λ z. eq x z ≡ true) e (laws.refl x)
