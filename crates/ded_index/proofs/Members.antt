-- Lists of entries: what is so of all of them or of some, and edits.
use Rattle.std.proofs.Common.{◌≡◌, ℕ, suc, ◌+◌, Bool, true, false, cond, List, [], ◌∷◌, ◌++◌, length, inl, inr, arith, refl, ap, ◌∙◌}
use Rattle.std.specs.List.{AllByRecursion}
use Rattle.ded_index.specs.declared.entry.BoxEntry.{BoxEntry}
use Rattle.ded_index.specs.declared.tree.BoxNode.{BoxNode}
use Rattle.ded_index.specs.Entries.{Box, SomeEntry, ids_in, near_first, first_of}
use Rattle.ded_box.specs.Boxes.{boxes_meet}
use Rattle.ded_box.specs.Intervals.{intervals_meet}
use Rattle.ded_index.specs.Trees.{entries_of}

module _ {A : Type 0} (P : A → Type 0) where
  pub all-append : (xs ys : List A) → AllByRecursion P xs → AllByRecursion P ys → AllByRecursion P (xs ++ ys)
  all-append [] ys h k = k
  all-append (x ∷ xs) ys h k = (h.0, all-append xs ys h.1 k)

  pub all-left : (xs ys : List A) → AllByRecursion P (xs ++ ys) → AllByRecursion P xs
  all-left [] ys h = tt
  all-left (x ∷ xs) ys h = (h.0, all-left xs ys h.1)

  pub all-right : (xs ys : List A) → AllByRecursion P (xs ++ ys) → AllByRecursion P ys
  all-right [] ys h = h
  all-right (x ∷ xs) ys h = all-right xs ys h.1

pub all-weaker : {A : Type 0} (P Q : A → Type 0) (xs : List A) → ((x : A) → P x → Q x) → AllByRecursion P xs → AllByRecursion Q xs
all-weaker P Q [] f h = tt
all-weaker P Q (x ∷ xs) f h = (f x h.0, all-weaker P Q xs f h.1)

-- two facts of each
pub all-both : {A : Type 0} (P Q R : A → Type 0) (xs : List A) → ((x : A) → P x → Q x → R x) → AllByRecursion P xs → AllByRecursion Q xs → AllByRecursion R xs
all-both P Q R [] f h k = tt
all-both P Q R (x ∷ xs) f h k = (f x h.0 k.0, all-both P Q R xs f h.1 k.1)

pub some-left : (P : BoxEntry → Type 0) (xs ys : List BoxEntry) → SomeEntry P xs → SomeEntry P (xs ++ ys)
some-left P [] ys h = absurd h
some-left P (x ∷ xs) ys (inl h) = inl h
some-left P (x ∷ xs) ys (inr h) = inr (some-left P xs ys h)

pub some-right : (P : BoxEntry → Type 0) (xs ys : List BoxEntry) → SomeEntry P ys → SomeEntry P (xs ++ ys)
some-right P [] ys h = h
some-right P (x ∷ xs) ys h = inr (some-right P xs ys h)

-- what is so of some and of all is so of one
pub some-all : (P Q R : BoxEntry → Type 0) (xs : List BoxEntry) → ((x : BoxEntry) → P x → Q x → R x) → SomeEntry P xs → AllByRecursion Q xs → SomeEntry R xs
some-all P Q R [] f h k = absurd h
some-all P Q R (x ∷ xs) f (inl h) k = inl (f x h k.0)
some-all P Q R (x ∷ xs) f (inr h) k = inr (some-all P Q R xs f h k.1)

-- ---- numbers and counts of two lists

pub ids_in-append : (w : Box) (xs ys : List BoxEntry) → ids_in w (xs ++ ys) ≡ ids_in w xs ++ ids_in w ys
ids_in-append w [] ys = refl
ids_in-append w (x ∷ xs) ys = choose (boxes_meet x.bounds w) x.id (ids_in w xs) (ids_in w ys) (ids_in w (xs ++ ys)) (ids_in-append w xs ys)
  where
    choose : (b : Bool) (i : ℕ) (is js ks : List ℕ) → ks ≡ is ++ js → cond b (i ∷ ks) ks ≡ cond b (i ∷ is) is ++ js
    choose true i is js ks e = ap (λ zs. i ∷ zs) e
    choose false i is js ks e = e

pub near_first-append : (w : Box) (xs ys : List BoxEntry) → near_first w (xs ++ ys) ≡ near_first w xs + near_first w ys
near_first-append w [] ys = omega arith
near_first-append w (x ∷ xs) ys =
    let n : ℕ = cond (intervals_meet (first_of x.bounds) (first_of w)) 1 0 in
    ap (λ k. n + k) (near_first-append w xs ys) ∙ regroup n (near_first w xs) (near_first w ys)
  where
    regroup : (a b c : ℕ) → a + (b + c) ≡ (a + b) + c
    regroup a b c = omega arith

pub entries_of-append : (xs ys : List BoxNode) → entries_of (xs ++ ys) ≡ entries_of xs ++ entries_of ys
entries_of-append [] ys = refl
entries_of-append (x ∷ xs) ys = ap (λ zs. x.entry ∷ zs) (entries_of-append xs ys)

pub entries_of-length : (xs : List BoxNode) → length (entries_of xs) ≡ length xs
entries_of-length [] = refl
entries_of-length (x ∷ xs) = ap suc (entries_of-length xs)
