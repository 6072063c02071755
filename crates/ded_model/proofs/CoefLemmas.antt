-- Setting a coefficient: what `with_coef` makes of a list of coefficients, place by place.
use Rattle.std.proofs.Common.{◌≡◌, ◌≢◌, ℕ, suc, ◌+◌, ◌<◌, ◌≤◌, Bool, true, false, nat_lt, List, [], ◌∷◌, length, arith, refl, sym, ap, ◌∙◌, subst, true≢false, add-one}
use Rattle.std.specs.Prelude.{ℤ, pos, ◌+ℤ◌, if◌then◌else◌, insert, remove, slice_set}
use Rattle.std.specs.Ordering.{int_eq}
use Rattle.std.proofs.lemmas.Bool.Decides.{nat_tests, Decides-int_eq}
use lib.IntN.{+ℤ_idl, +ℤ_idr}
use Rattle.ded_num.specs.Length.{IsShort}
use Rattle.ded_model.specs.declared.slot.Sort.{Sort}
use Rattle.ded_model.specs.declared.slot.Slot.{Slot}
use Rattle.ded_model.specs.declared.slot.Sort.TheVariants.{Rat}
use Rattle.ded_model.specs.Point.{same_slot, same_sort}
use Rattle.ded_model.specs.Coefs.{AllAbove, AreCoefs, coef_at, put, nonzero, cut, with_coef, place_of, is_taken}

-- ---- slots and their numbers

pub lesser_slot : (c s : Slot) → c.number < s.number → same_slot c s ≡ false
lesser_slot c s h = grind (arith, nat_tests)

pub greater_slot : (c s : Slot) → s.number < c.number → same_slot c s ≡ false
greater_slot c s h = grind (arith, nat_tests)

pub same_number : (c s : Slot) → same_slot c s ≡ true → c.number ≡ s.number
same_number c s e = grind (arith, nat_tests)

same_sort_rational : (t u : Sort) → t ≡ Rat → u ≡ Rat → same_sort t u ≡ true
same_sort_rational t u e f = rw (e, f) refl

-- two rational slots with one number are the same
pub same_by_number : (c s : Slot) → c.sort ≡ Rat → s.sort ≡ Rat → c.number ≡ s.number → same_slot c s ≡ true
same_by_number c s e f h = let r = same_sort_rational c.sort s.sort e f in grind (arith, nat_tests)

one_slot : (m n : ℕ) (t u : Sort) → m ≡ n → t ≡ u → let a : Slot = record { number = m; sort = t } in let b : Slot = record { number = n; sort = u } in a ≡ b
one_slot m n t u e f = rw (e, f) refl

pub equal_by_number : (c s : Slot) → c.sort ≡ Rat → s.sort ≡ Rat → c.number ≡ s.number → c ≡ s
equal_by_number c s e f h = one_slot c.number s.number c.sort s.sort h (e ∙ sym f)

pub not_lesser : (m n : ℕ) → nat_lt m n ≡ false → n ≤ m
not_lesser m n e = grind (arith, nat_tests)

pub is_lesser : (m n : ℕ) → nat_lt m n ≡ true → m < n
is_lesser m n e = grind (arith, nat_tests)

not_less : (m n : ℕ) → n ≤ m → nat_lt m n ≡ false
not_less m n h = grind (arith, nat_tests)

pub less : (m n : ℕ) → m < n → nat_lt m n ≡ true
less m n h = grind (arith, nat_tests)

-- another rational slot that is not less is greater
greater_by_test : (c s : Slot) → c.sort ≡ Rat → s.sort ≡ Rat → nat_lt c.number s.number ≡ false → same_slot c s ≡ false → s.number < c.number
greater_by_test c s e f l n =
    let low : s.number ≤ c.number = not_lesser c.number s.number l in
    let apart : c.number ≢ s.number = λ h. true≢false (sym (same_by_number c s e f h) ∙ n) in
    omega arith

-- ---- tests of numbers

pub not_zero : (a : ℤ) → a ≢ pos 0 → int_eq a (pos 0) ≡ false
not_zero a n = go (int_eq a (pos 0)) refl
  where
    go : (b : Bool) → int_eq a (pos 0) ≡ b → b ≡ false
    go true e = absurd (n ((Decides-int_eq a (pos 0)).0 e))
    go false e = refl

pub is_zero : (a : ℤ) → a ≡ pos 0 → int_eq a (pos 0) ≡ true
is_zero a e = (Decides-int_eq a (pos 0)).1 e

-- ---- lists above a number

pub above_lesser : (m n : ℕ) (cs : List (Slot × ℤ)) → m ≤ n → AllAbove n cs → AllAbove m cs
above_lesser m n [] h k = tt
above_lesser m n (c ∷ cs) h k = (omega (arith, k.0), above_lesser m n cs h k.1)

choose_false : {A : Type 0} (b : Bool) (x y : A) → b ≡ false → (if b then x else y) ≡ y
choose_false b x y e = rw e refl

choose_true : {A : Type 0} (b : Bool) (x y : A) → b ≡ true → (if b then x else y) ≡ x
choose_true b x y e = rw e refl

pub cut-above : (s : Slot) (cs : List (Slot × ℤ)) → AllAbove s.number cs → cut s cs ≡ cs
cut-above s [] h = refl
cut-above s (c ∷ cs) h = choose_false (same_slot c.0 s) (cut s cs) (c ∷ cut s cs) (greater_slot c.0 s h.0) ∙ ap (λ xs. c ∷ xs) (cut-above s cs h.1)

pub put-above : (s : Slot) (a : ℤ) (cs : List (Slot × ℤ)) → AllAbove s.number cs → put s a cs ≡ (s, a) ∷ cs
put-above s a [] h = refl
put-above s a (c ∷ cs) h =
    choose_false (same_slot c.0 s) ((c.0, a +ℤ c.1) ∷ cs) (if nat_lt s.number c.0.number then (s, a) ∷ c ∷ cs else c ∷ put s a cs) (greater_slot c.0 s h.0)
    ∙ choose_true (nat_lt s.number c.0.number) ((s, a) ∷ c ∷ cs) (c ∷ put s a cs) (less s.number c.0.number h.0)

pub nonzero-coefs : (cs : List (Slot × ℤ)) → AreCoefs cs → nonzero cs ≡ cs
nonzero-coefs [] h = refl
nonzero-coefs (c ∷ cs) h = choose_false (int_eq c.1 (pos 0)) (nonzero cs) (c ∷ nonzero cs) (not_zero c.1 h.2) ∙ ap (λ xs. c ∷ xs) (nonzero-coefs cs h.4)

-- ---- setting a coefficient

-- past a lesser slot
with_coef-lesser : (s : Slot) (a : ℤ) (c : Slot × ℤ) (cs : List (Slot × ℤ)) → c.0.number < s.number → c.1 ≢ pos 0 → with_coef s a (c ∷ cs) ≡ c ∷ with_coef s a cs
with_coef-lesser s a c cs h n =
    ap (λ xs. nonzero (put s a xs)) (choose_false (same_slot c.0 s) (cut s cs) (c ∷ cut s cs) (lesser_slot c.0 s h))
    ∙ ap nonzero (choose_false (same_slot c.0 s) ((c.0, a +ℤ c.1) ∷ cut s cs) (if nat_lt s.number c.0.number then (s, a) ∷ c ∷ cut s cs else c ∷ put s a (cut s cs)) (lesser_slot c.0 s h)
    ∙ choose_false (nat_lt s.number c.0.number) ((s, a) ∷ c ∷ cut s cs) (c ∷ put s a (cut s cs)) (let l : c.0.number ≤ s.number = omega arith in not_less s.number c.0.number l))
    ∙ choose_false (int_eq c.1 (pos 0)) (nonzero (put s a (cut s cs))) (c ∷ nonzero (put s a (cut s cs))) (not_zero c.1 n)

-- in front of greater slots
with_coef-above : (s : Slot) (a : ℤ) (cs : List (Slot × ℤ)) → AllAbove s.number cs → AreCoefs cs → with_coef s a cs ≡ (if int_eq a (pos 0) then cs else (s, a) ∷ cs)
with_coef-above s a cs h k =
    ap (λ xs. nonzero (put s a xs)) (cut-above s cs h) ∙ ap nonzero (put-above s a cs h)
    ∙ ap (λ xs. (if int_eq a (pos 0) then xs else (s, a) ∷ xs)) (nonzero-coefs cs k)

-- in the place of the slot itself
with_coef-same : (s : Slot) (a : ℤ) (c : Slot × ℤ) (cs : List (Slot × ℤ)) → same_slot c.0 s ≡ true → AllAbove s.number cs → AreCoefs cs → with_coef s a (c ∷ cs) ≡ (if int_eq a (pos 0) then cs else (s, a) ∷ cs)
with_coef-same s a c cs e h k =
    ap (λ xs. nonzero (put s a xs)) (choose_true (same_slot c.0 s) (cut s cs) (c ∷ cut s cs) e) ∙ with_coef-above s a cs h k

-- ---- what the code does

module _ (s : Slot) (rational : s.sort ≡ Rat) where
  place-taken : (c : Slot × ℤ) (cs : List (Slot × ℤ)) → nat_lt c.0.number s.number ≡ true → place_of s (c ∷ cs) ≡ suc (place_of s cs)
  place-taken c cs e = choose_true (nat_lt c.0.number s.number) (place_of s cs + 1) 0 e ∙ add-one (place_of s cs)

  place-here : (c : Slot × ℤ) (cs : List (Slot × ℤ)) → nat_lt c.0.number s.number ≡ false → place_of s (c ∷ cs) ≡ 0
  place-here c cs e = choose_false (nat_lt c.0.number s.number) (place_of s cs + 1) 0 e

  taken-later : (c : Slot × ℤ) (cs : List (Slot × ℤ)) (b : Bool) → nat_lt c.0.number s.number ≡ true → is_taken s (c ∷ cs) ≡ b → is_taken s cs ≡ b
  taken-later c cs b e h = sym (choose_true (nat_lt c.0.number s.number) (is_taken s cs) (same_slot c.0 s) e) ∙ h

  taken-here : (c : Slot × ℤ) (cs : List (Slot × ℤ)) (b : Bool) → nat_lt c.0.number s.number ≡ false → is_taken s (c ∷ cs) ≡ b → same_slot c.0 s ≡ b
  taken-here c cs b e h = sym (choose_false (nat_lt c.0.number s.number) (is_taken s cs) (same_slot c.0 s) e) ∙ h

  -- the slots behind one that isn't less are above
  above_here : (c : Slot × ℤ) (cs : List (Slot × ℤ)) → AreCoefs (c ∷ cs) → nat_lt c.0.number s.number ≡ false → same_slot c.0 s ≡ false → AllAbove s.number (c ∷ cs)
  above_here c cs k e n =
      let h : s.number < c.0.number = greater_by_test c.0 s k.0 rational e n in
      let low : s.number ≤ c.0.number = omega arith in
      (h, above_lesser s.number c.0.number cs low k.3)

  above_same : (c : Slot × ℤ) (cs : List (Slot × ℤ)) → AreCoefs (c ∷ cs) → same_slot c.0 s ≡ true → AllAbove s.number cs
  above_same c cs k e = subst (λ n. AllAbove n cs) (same_number c.0 s e) k.3

  -- an absent slot is inserted
  pub insert-place : (a : ℤ) → a ≢ pos 0 → (cs : List (Slot × ℤ)) → AreCoefs cs → is_taken s cs ≡ false → insert cs (place_of s cs) (s, a) ≡ with_coef s a cs
  insert-place a n [] k t = sym (choose_false (int_eq a (pos 0)) [] ((s, a) ∷ []) (not_zero a n))
  insert-place a n (c ∷ cs) k t = go (nat_lt c.0.number s.number) refl (λ e. insert-place a n cs k.4 (taken-later c cs false e t))
    where
      go : (b : Bool) → nat_lt c.0.number s.number ≡ b → (nat_lt c.0.number s.number ≡ true → insert cs (place_of s cs) (s, a) ≡ with_coef s a cs) → insert (c ∷ cs) (place_of s (c ∷ cs)) (s, a) ≡ with_coef s a (c ∷ cs)
      go true e i =
          ap (λ p. insert (c ∷ cs) p (s, a)) (place-taken c cs e) ∙ ap (λ xs. c ∷ xs) (i e)
          ∙ sym (with_coef-lesser s a c cs (is_lesser c.0.number s.number e) k.2)
      go false e i =
          ap (λ p. insert (c ∷ cs) p (s, a)) (place-here c cs e)
          ∙ sym (choose_false (int_eq a (pos 0)) (c ∷ cs) ((s, a) ∷ c ∷ cs) (not_zero a n))
          ∙ sym (with_coef-above s a (c ∷ cs) (above_here c cs k e (taken-here c cs false e t)) k)

  -- an absent slot stays absent at 0
  pub absent-place : (a : ℤ) → a ≡ pos 0 → (cs : List (Slot × ℤ)) → AreCoefs cs → is_taken s cs ≡ false → cs ≡ with_coef s a cs
  absent-place a z [] k t = sym (choose_true (int_eq a (pos 0)) [] ((s, a) ∷ []) (is_zero a z))
  absent-place a z (c ∷ cs) k t = go (nat_lt c.0.number s.number) refl (λ e. absent-place a z cs k.4 (taken-later c cs false e t))
    where
      go : (b : Bool) → nat_lt c.0.number s.number ≡ b → (nat_lt c.0.number s.number ≡ true → cs ≡ with_coef s a cs) → c ∷ cs ≡ with_coef s a (c ∷ cs)
      go true e i = ap (λ xs. c ∷ xs) (i e) ∙ sym (with_coef-lesser s a c cs (is_lesser c.0.number s.number e) k.2)
      go false e i =
          sym (choose_true (int_eq a (pos 0)) (c ∷ cs) ((s, a) ∷ c ∷ cs) (is_zero a z))
          ∙ sym (with_coef-above s a (c ∷ cs) (above_here c cs k e (taken-here c cs false e t)) k)

  -- a slot that stands there gets another number
  pub set-place : (a : ℤ) → a ≢ pos 0 → (cs : List (Slot × ℤ)) → AreCoefs cs → is_taken s cs ≡ true → slice_set cs (place_of s cs) (s, a) ≡ with_coef s a cs
  set-place a n [] k t = absurd (true≢false (sym t))
  set-place a n (c ∷ cs) k t = go (nat_lt c.0.number s.number) refl (λ e. set-place a n cs k.4 (taken-later c cs true e t))
    where
      go : (b : Bool) → nat_lt c.0.number s.number ≡ b → (nat_lt c.0.number s.number ≡ true → slice_set cs (place_of s cs) (s, a) ≡ with_coef s a cs) → slice_set (c ∷ cs) (place_of s (c ∷ cs)) (s, a) ≡ with_coef s a (c ∷ cs)
      go true e i =
          ap (λ p. slice_set (c ∷ cs) p (s, a)) (place-taken c cs e) ∙ ap (λ xs. c ∷ xs) (i e)
          ∙ sym (with_coef-lesser s a c cs (is_lesser c.0.number s.number e) k.2)
      go false e i =
          let same = taken-here c cs true e t in
          ap (λ p. slice_set (c ∷ cs) p (s, a)) (place-here c cs e)
          ∙ sym (choose_false (int_eq a (pos 0)) cs ((s, a) ∷ cs) (not_zero a n))
          ∙ sym (with_coef-same s a c cs same (above_same c cs k same) k.4)

  -- or is taken away
  pub remove-place : (a : ℤ) → a ≡ pos 0 → (cs : List (Slot × ℤ)) → AreCoefs cs → is_taken s cs ≡ true → remove cs (place_of s cs) ≡ with_coef s a cs
  remove-place a z [] k t = absurd (true≢false (sym t))
  remove-place a z (c ∷ cs) k t = go (nat_lt c.0.number s.number) refl (λ e. remove-place a z cs k.4 (taken-later c cs true e t))
    where
      go : (b : Bool) → nat_lt c.0.number s.number ≡ b → (nat_lt c.0.number s.number ≡ true → remove cs (place_of s cs) ≡ with_coef s a cs) → remove (c ∷ cs) (place_of s (c ∷ cs)) ≡ with_coef s a (c ∷ cs)
      go true e i =
          ap (λ p. remove (c ∷ cs) p) (place-taken c cs e) ∙ ap (λ xs. c ∷ xs) (i e)
          ∙ sym (with_coef-lesser s a c cs (is_lesser c.0.number s.number e) k.2)
      go false e i =
          let same = taken-here c cs true e t in
          ap (λ p. remove (c ∷ cs) p) (place-here c cs e)
          ∙ sym (choose_true (int_eq a (pos 0)) cs ((s, a) ∷ cs) (is_zero a z))
          ∙ sym (with_coef-same s a c cs same (above_same c cs k same) k.4)

  -- the place lies within the list, or at its end
  pub place-within : (cs : List (Slot × ℤ)) → place_of s cs ≤ length cs
  place-within [] = omega arith
  place-within (c ∷ cs) = go (nat_lt c.0.number s.number) (place-within cs)
    where
      go : (b : Bool) → place_of s cs ≤ length cs → (if b then place_of s cs + 1 else 0) ≤ length (c ∷ cs)
      go true h = omega arith
      go false h = omega arith

  pub place-below : (cs : List (Slot × ℤ)) → is_taken s cs ≡ true → place_of s cs < length cs
  place-below [] t = absurd (true≢false (sym t))
  place-below (c ∷ cs) t = go (nat_lt c.0.number s.number) (place-below cs) t
    where
      go : (b : Bool) → (is_taken s cs ≡ true → place_of s cs < length cs) → (if b then is_taken s cs else same_slot c.0 s) ≡ true → (if b then place_of s cs + 1 else 0) < length (c ∷ cs)
      go true h t = let k = h t in omega arith
      go false h t = omega arith

  -- ---- what is made keeps what lists of coefficients keep

  above-with : (a : ℤ) (n : ℕ) (cs : List (Slot × ℤ)) → n < s.number → AreCoefs cs → AllAbove n cs → AllAbove n (with_coef s a cs)
  above-with a n [] h k l = go (int_eq a (pos 0))
    where
      go : (b : Bool) → AllAbove n (if b then [] else (s, a) ∷ [])
      go true = tt
      go false = (h, tt)
  above-with a n (c ∷ cs) h k l = go (nat_lt c.0.number s.number) refl (same_slot c.0 s) refl (above-with a n cs h k.4 l.1)
    where
      front : (b : Bool) (xs : List (Slot × ℤ)) → AllAbove n xs → AllAbove n (if b then xs else (s, a) ∷ xs)
      front true xs j = j
      front false xs j = (h, j)

      go : (b : Bool) → nat_lt c.0.number s.number ≡ b → (d : Bool) → same_slot c.0 s ≡ d → AllAbove n (with_coef s a cs) → AllAbove n (with_coef s a (c ∷ cs))
      go true e d f i = subst (λ xs. AllAbove n xs) (sym (with_coef-lesser s a c cs (is_lesser c.0.number s.number e) k.2)) (l.0, i)
      go false e true f i = subst (λ xs. AllAbove n xs) (sym (with_coef-same s a c cs f (above_same c cs k f) k.4)) (front (int_eq a (pos 0)) cs l.1)
      go false e false f i = subst (λ xs. AllAbove n xs) (sym (with_coef-above s a (c ∷ cs) (above_here c cs k e f) k)) (front (int_eq a (pos 0)) (c ∷ cs) l)

  front_coefs : (a : ℤ) → IsShort a → (cs : List (Slot × ℤ)) → AllAbove s.number cs → AreCoefs cs → (b : Bool) → int_eq a (pos 0) ≡ b → AreCoefs (if b then cs else (s, a) ∷ cs)
  front_coefs a h cs l k true e = k
  front_coefs a h cs l k false e = (rational, h, (λ z. true≢false (sym (is_zero a z) ∙ e)), l, k)

  pub AreCoefs-with_coef : (a : ℤ) → IsShort a → (cs : List (Slot × ℤ)) → AreCoefs cs → AreCoefs (with_coef s a cs)
  AreCoefs-with_coef a h [] k = front_coefs a h [] tt tt (int_eq a (pos 0)) refl
  AreCoefs-with_coef a h (c ∷ cs) k = go (nat_lt c.0.number s.number) refl (same_slot c.0 s) refl (AreCoefs-with_coef a h cs k.4)
    where
      go : (b : Bool) → nat_lt c.0.number s.number ≡ b → (d : Bool) → same_slot c.0 s ≡ d → AreCoefs (with_coef s a cs) → AreCoefs (with_coef s a (c ∷ cs))
      go true e d f i =
          let l = is_lesser c.0.number s.number e in
          subst AreCoefs (sym (with_coef-lesser s a c cs l k.2)) (k.0, k.1, k.2, above-with a c.0.number cs l k.4 k.3, i)
      go false e true f i = subst AreCoefs (sym (with_coef-same s a c cs f (above_same c cs k f) k.4)) (front_coefs a h cs (above_same c cs k f) k.4 (int_eq a (pos 0)) refl)
      go false e false f i = subst AreCoefs (sym (with_coef-above s a (c ∷ cs) (above_here c cs k e f) k)) (front_coefs a h (c ∷ cs) (above_here c cs k e f) k (int_eq a (pos 0)) refl)

-- ---- the coefficient of a slot

-- a slot below all others has none
pub coef_at-above : (s : Slot) (cs : List (Slot × ℤ)) → AllAbove s.number cs → coef_at cs s ≡ pos 0
coef_at-above s [] h = refl
coef_at-above s (c ∷ cs) h = ap (λ b. (if b then c.1 else pos 0) +ℤ coef_at cs s) (greater_slot c.0 s h.0) ∙ +ℤ_idl (coef_at cs s) ∙ coef_at-above s cs h.1

-- the first of the slot is the only one
pub coef_at-here : (s : Slot) (c : Slot × ℤ) (cs : List (Slot × ℤ)) → same_slot c.0 s ≡ true → AllAbove c.0.number cs → coef_at (c ∷ cs) s ≡ c.1
coef_at-here s c cs e h =
    ap (λ b. (if b then c.1 else pos 0) +ℤ coef_at cs s) e
    ∙ ap (λ z. c.1 +ℤ z) (coef_at-above s cs (subst (λ n. AllAbove n cs) (same_number c.0 s e) h)) ∙ +ℤ_idr c.1

pub coef_at-past : (s : Slot) (c : Slot × ℤ) (cs : List (Slot × ℤ)) → same_slot c.0 s ≡ false → coef_at (c ∷ cs) s ≡ coef_at cs s
coef_at-past s c cs e = ap (λ b. (if b then c.1 else pos 0) +ℤ coef_at cs s) e ∙ +ℤ_idl (coef_at cs s)
