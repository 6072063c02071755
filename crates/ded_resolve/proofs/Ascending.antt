-- Lists of coefficients in ascending order that have the same coefficients are the same.
--
-- The first slot of each would otherwise have a coefficient in the one list and none in the other.
use Rattle.std.proofs.Common.{◌≡◌, ◌≢◌, ℕ, ◌+◌, ◌<◌, nat_lt, Bool, true, false, cond, List, [], ◌∷◌, arith, refl, sym, ap, ap₂, ◌∙◌, subst}
use Rattle.std.specs.Prelude.{ℤ, pos, ◌+ℤ◌, ◌*ℤ◌}
use Rattle.std.specs.Ordering.{int_eq}
use Rattle.ded_model.specs.declared.slot.Slot.{Slot}
use Rattle.ded_model.specs.declared.slot.Sort.TheVariants.{Rat}
use Rattle.ded_model.specs.Point.{same_slot}
use Rattle.ded_model.specs.Coefs.{AllAbove, AreCoefs, coef_at, put, put_all, mixed, nonzero, cut, with_coef}
use Rattle.ded_model.proofs.Points.{same_slot_is, same_slot_refl}
use Rattle.ded_model.proofs.CoefLemmas.{above_lesser, equal_by_number, coef_at-above, coef_at-here, coef_at-past, is_lesser}
use Rattle.ded_model.proofs.LineCoefs.{AllNonzero, nonzero-nonzero, coef_at-put, coef_at-nonzero, coef_at-cut, coef_at-cut_here}
use lib.IntN.{+ℤ_idl, +ℤ_idr}
use Rattle.ded_model.proofs.SlotLists.{above_by_tests}
use Rattle.ded_model.proofs.CoefLists.{AllAbove-put}

-- rational slots in ascending order
abbrev pub Ascend : List (Slot × ℤ) → Type 0
Ascend [] = Unit {0}
Ascend (c ∷ cs) = (c.0.sort ≡ Rat) × AllAbove c.0.number cs × Ascend cs

-- rational slots in any order
abbrev pub AllRational : List (Slot × ℤ) → Type 0
AllRational [] = Unit {0}
AllRational (c ∷ cs) = (c.0.sort ≡ Rat) × AllRational cs

-- what is kept ascends, and is rational
pub ascend-kept : (cs : List (Slot × ℤ)) → AreCoefs cs → Ascend cs
ascend-kept [] h = tt
ascend-kept (c ∷ cs) h = (h.0, h.3, ascend-kept cs h.4)

pub rational-kept : (cs : List (Slot × ℤ)) → AreCoefs cs → AllRational cs
rational-kept [] h = tt
rational-kept (c ∷ cs) h = (h.0, rational-kept cs h.4)

pub nonzero-kept : (cs : List (Slot × ℤ)) → AreCoefs cs → AllNonzero cs
nonzero-kept [] h = tt
nonzero-kept (c ∷ cs) h = (h.2, nonzero-kept cs h.4)

-- ---- putting

pub ascend-put : (s : Slot) (z : ℤ) (cs : List (Slot × ℤ)) → s.sort ≡ Rat → Ascend cs → Ascend (put s z cs)
ascend-put s z [] r h = (r, tt, tt)
ascend-put s z (c ∷ cs) r h = go (same_slot c.0 s) refl (nat_lt s.number c.0.number) refl (ascend-put s z cs r h.2)
  where
    go : (b : Bool) → same_slot c.0 s ≡ b → (d : Bool) → nat_lt s.number c.0.number ≡ d → Ascend (put s z cs)
        → Ascend (cond b ((c.0, z +ℤ c.1) ∷ cs) (cond d ((s, z) ∷ c ∷ cs) (c ∷ put s z cs)))
    go true e d f i = h
    go false e true f i = let l : s.number < c.0.number = is_lesser s.number c.0.number f in (r, (l, above_lesser s.number c.0.number cs (omega (arith, l)) h.1), h)
    go false e false f i = (h.0, AllAbove-put c.0.number s z cs (above_by_tests c.0 s h.0 r e f) h.1, i)

ascend-put_all : (k : ℤ) (xs ys : List (Slot × ℤ)) → AllRational xs → Ascend ys → Ascend (put_all k xs ys)
ascend-put_all k [] ys r h = h
ascend-put_all k (x ∷ xs) ys r h = ascend-put x.0 (k *ℤ x.1) (put_all k xs ys) r.0 (ascend-put_all k xs ys r.1 h)

pub ascend-mixed : (k : ℤ) (xs : List (Slot × ℤ)) (m : ℤ) (ys : List (Slot × ℤ)) → AllRational xs → AllRational ys → Ascend (mixed k xs m ys)
ascend-mixed k xs m ys h l = ascend-put_all k xs (put_all m ys []) h (ascend-put_all m ys [] l tt)

-- ---- leaving zeros out

above-nonzero : (n : ℕ) (cs : List (Slot × ℤ)) → AllAbove n cs → AllAbove n (nonzero cs)
above-nonzero n [] h = tt
above-nonzero n (c ∷ cs) h = go (int_eq c.1 (pos 0)) (above-nonzero n cs h.1)
  where
    go : (b : Bool) → AllAbove n (nonzero cs) → AllAbove n (cond b (nonzero cs) (c ∷ nonzero cs))
    go true i = i
    go false i = (h.0, i)

pub ascend-nonzero : (cs : List (Slot × ℤ)) → Ascend cs → Ascend (nonzero cs)
ascend-nonzero [] h = tt
ascend-nonzero (c ∷ cs) h = go (int_eq c.1 (pos 0)) (ascend-nonzero cs h.2)
  where
    go : (b : Bool) → Ascend (nonzero cs) → Ascend (cond b (nonzero cs) (c ∷ nonzero cs))
    go true i = i
    go false i = (h.0, above-nonzero c.0.number cs h.1, i)

-- ---- the same coefficients

-- the first slot of the one isn't below that of the other
first_below : (x : Slot × ℤ) (xs : List (Slot × ℤ)) (y : Slot × ℤ) (ys : List (Slot × ℤ)) → Ascend (x ∷ xs) → x.1 ≢ pos 0 → Ascend (y ∷ ys)
    → coef_at (x ∷ xs) x.0 ≡ coef_at (y ∷ ys) x.0 → x.0.number < y.0.number → ⊥
first_below x xs y ys h n l e k =
    n (sym (coef_at-here x.0 x xs (same_slot_refl x.0) h.1) ∙ e ∙ coef_at-above x.0 (y ∷ ys) (k, above_lesser x.0.number y.0.number ys (omega (arith, k)) l.1))

-- two lists with the same coefficients behind a first slot have the same coefficients
same_rest : (x y : Slot × ℤ) (xs ys : List (Slot × ℤ)) → AllAbove x.0.number xs → AllAbove y.0.number ys → x.0 ≡ y.0 → ((s : Slot) → coef_at (x ∷ xs) s ≡ coef_at (y ∷ ys) s)
    → (s : Slot) → coef_at xs s ≡ coef_at ys s
same_rest x y xs ys h l e same s = go (same_slot x.0 s) refl
  where
    go : (b : Bool) → same_slot x.0 s ≡ b → coef_at xs s ≡ coef_at ys s
    go true f =
        let here : x.0 ≡ s = same_slot_is x.0 s f in
        coef_at-above s xs (subst (λ t. AllAbove t.number xs) here h) ∙ sym (coef_at-above s ys (subst (λ t. AllAbove t.number ys) (sym e ∙ here) l))
    go false f = sym (coef_at-past s x xs f) ∙ same s ∙ coef_at-past s y ys (ap (λ t. same_slot t s) (sym e) ∙ f)

pub same_lists : (xs ys : List (Slot × ℤ)) → Ascend xs → AllNonzero xs → Ascend ys → AllNonzero ys → ((s : Slot) → coef_at xs s ≡ coef_at ys s) → xs ≡ ys
same_lists [] [] h n l m same = refl
same_lists [] (y ∷ ys) h n l m same = absurd (m.0 (sym (coef_at-here y.0 y ys (same_slot_refl y.0) l.1) ∙ sym (same y.0)))
same_lists (x ∷ xs) [] h n l m same = absurd (n.0 (sym (coef_at-here x.0 x xs (same_slot_refl x.0) h.1) ∙ same x.0))
same_lists (x ∷ xs) (y ∷ ys) h n l m same =
    let number : x.0.number ≡ y.0.number = level x.0.number y.0.number (first_below x xs y ys h n.0 l (same x.0)) (first_below y ys x xs l m.0 h (sym (same y.0))) in
    let slot : x.0 ≡ y.0 = equal_by_number x.0 y.0 h.0 l.0 number in
    let value : x.1 ≡ y.1 = sym (coef_at-here x.0 x xs (same_slot_refl x.0) h.1) ∙ same x.0 ∙ coef_at-here x.0 y ys (ap (λ t. same_slot t x.0) (sym slot) ∙ same_slot_refl x.0) l.1 in
    ap₂ (λ (c : Slot × ℤ) cs. c ∷ cs) (pair x y slot value) (same_lists xs ys h.2 n.1 l.2 m.1 (same_rest x y xs ys h.1 l.1 slot same))
  where
    level : (k m : ℕ) → (k < m → ⊥) → (m < k → ⊥) → k ≡ m
    level k m f g = grind arith

    pair : (x y : Slot × ℤ) → x.0 ≡ y.0 → x.1 ≡ y.1 → x ≡ y
    pair x y e f = ap₂ (λ (s : Slot) (z : ℤ). (s, z)) e f

-- what is kept is the list without zeros that has its coefficients
pub kept_is : (cs ds : List (Slot × ℤ)) → AreCoefs cs → Ascend ds → ((s : Slot) → coef_at cs s ≡ coef_at ds s) → cs ≡ nonzero ds
kept_is cs ds h l same =
    same_lists cs (nonzero ds) (ascend-kept cs h) (nonzero-kept cs h) (ascend-nonzero ds l) (nonzero-nonzero ds) (λ s. same s ∙ sym (coef_at-nonzero ds s))

-- ---- setting a coefficient

-- the slot has the new one, and the others are as before
pub coef_at-with_coef : (s : Slot) (a : ℤ) (cs : List (Slot × ℤ)) (t : Slot) → coef_at (with_coef s a cs) t ≡ cond (same_slot s t) a (coef_at cs t)
coef_at-with_coef s a cs t = coef_at-nonzero (put s a (cut s cs)) t ∙ coef_at-put s a (cut s cs) t ∙ go (same_slot s t) refl
  where
    go : (b : Bool) → same_slot s t ≡ b → cond b a (pos 0) +ℤ coef_at (cut s cs) t ≡ cond b a (coef_at cs t)
    go true e = ap (λ z. a +ℤ z) (coef_at-cut_here s cs t e) ∙ +ℤ_idr a
    go false e = +ℤ_idl (coef_at (cut s cs) t) ∙ coef_at-cut s cs t e
