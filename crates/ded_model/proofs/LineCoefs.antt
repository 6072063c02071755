-- The coefficients of combinations, each summed up over the list.
--
-- Putting a number at a slot adds it to that slot's coefficient, cutting a slot out makes its coefficient 0 and leaves the
-- others, and leaving zeros out changes none. So the coefficients of a combination are read off without any order of slots.
use Rattle.std.proofs.Common.{◌≡◌, ◌≢◌, nat_lt, Bool, true, false, cond, List, [], ◌∷◌, ◌⊎◌, inl, inr, refl, sym, ◌∙◌, ap, true≢false, arith}
use Rattle.std.specs.Prelude.{ℤ, pos, ◌+ℤ◌, ◌*ℤ◌}
use lib.IntN.{+ℤ_idl, +ℤ_idr}
use Rattle.std.specs.Ordering.{int_eq}
use Rattle.std.proofs.lemmas.Int.{ints}
use Rattle.std.proofs.lemmas.Bool.Decides.{Decides-int_eq}
use Rattle.std.proofs.Math.IntN.{*ℤ-zero}
use Rattle.ded_model.specs.declared.slot.Slot.{Slot}
use Rattle.ded_model.specs.Point.{same_slot}
use Rattle.ded_model.specs.Coefs.{coef_at, put, put_all, mixed, nonzero, cut}
use Rattle.ded_num.proofs.Ring.{parts, ring, diff_same}
use Rattle.ded_model.proofs.Points.{same_slot_is}

-- ---- put

-- more of a coefficient that is there
plus_here : (b : Bool) (z c r : ℤ) → cond b (z +ℤ c) (pos 0) +ℤ r ≡ cond b z (pos 0) +ℤ (cond b c (pos 0) +ℤ r)
plus_here true z c r = omega (arith, ints)
plus_here false z c r = sym (+ℤ_idl (pos 0 +ℤ r))

-- a number goes past another one
pub plus_past : (x y r : ℤ) → y +ℤ (x +ℤ r) ≡ x +ℤ (y +ℤ r)
plus_past x y r = omega (arith, ints)

-- one place of the list
put_step : (s : Slot) (z : ℤ) (c : Slot × ℤ) (cs : List (Slot × ℤ)) (t : Slot) (b b' : Bool) → same_slot c.0 s ≡ b → coef_at (put s z cs) t ≡ cond (same_slot s t) z (pos 0) +ℤ coef_at cs t
    → coef_at (cond b ((c.0, z +ℤ c.1) ∷ cs) (cond b' ((s, z) ∷ c ∷ cs) (c ∷ put s z cs))) t ≡ cond (same_slot s t) z (pos 0) +ℤ (cond (same_slot c.0 t) c.1 (pos 0) +ℤ coef_at cs t)
put_step s z c cs t true b' e ih =
    plus_here (same_slot c.0 t) z c.1 (coef_at cs t) ∙ ap (λ x. cond (same_slot x t) z (pos 0) +ℤ (cond (same_slot c.0 t) c.1 (pos 0) +ℤ coef_at cs t)) (same_slot_is c.0 s e)
put_step s z c cs t false true e ih = refl
put_step s z c cs t false false e ih = ap (λ x. cond (same_slot c.0 t) c.1 (pos 0) +ℤ x) ih ∙ plus_past (cond (same_slot s t) z (pos 0)) (cond (same_slot c.0 t) c.1 (pos 0)) (coef_at cs t)

-- the coefficient at the slot grows by the number
pub coef_at-put : (s : Slot) (z : ℤ) (cs : List (Slot × ℤ)) (t : Slot) → coef_at (put s z cs) t ≡ cond (same_slot s t) z (pos 0) +ℤ coef_at cs t
coef_at-put s z [] t = refl
coef_at-put s z (c ∷ cs) t = put_step s z c cs t (same_slot c.0 s) (nat_lt s.number c.0.number) refl (coef_at-put s z cs t)

-- a multiple of a coefficient and of the rest
times_part : (b : Bool) (k c x y : ℤ) → cond b (k *ℤ c) (pos 0) +ℤ (k *ℤ x +ℤ y) ≡ k *ℤ (cond b c (pos 0) +ℤ x) +ℤ y
times_part true k c x y = rw (parts k, parts c, parts x, parts y) (simp ring (diff_same _ _ _ _ (omega arith)))
times_part false k c x y = +ℤ_idl (k *ℤ x +ℤ y) ∙ ap (λ w. k *ℤ w +ℤ y) (sym (+ℤ_idl x))

-- with the multiples of a list
pub coef_at-put_all : (k : ℤ) (cs ys : List (Slot × ℤ)) (t : Slot) → coef_at (put_all k cs ys) t ≡ k *ℤ coef_at cs t +ℤ coef_at ys t
coef_at-put_all k [] ys t = sym (ap (λ w. w +ℤ coef_at ys t) (*ℤ-zero k) ∙ +ℤ_idl (coef_at ys t))
coef_at-put_all k (c ∷ cs) ys t =
    coef_at-put c.0 (k *ℤ c.1) (put_all k cs ys) t ∙ ap (λ w. cond (same_slot c.0 t) (k *ℤ c.1) (pos 0) +ℤ w) (coef_at-put_all k cs ys t)
    ∙ times_part (same_slot c.0 t) k c.1 (coef_at cs t) (coef_at ys t)

-- of two lists
pub coef_at-mixed : (k : ℤ) (xs : List (Slot × ℤ)) (m : ℤ) (ys : List (Slot × ℤ)) (t : Slot) → coef_at (mixed k xs m ys) t ≡ k *ℤ coef_at xs t +ℤ m *ℤ coef_at ys t
coef_at-mixed k xs m ys t = coef_at-put_all k xs (put_all m ys []) t ∙ ap (λ w. k *ℤ coef_at xs t +ℤ w) (coef_at-put_all m ys [] t ∙ +ℤ_idr (m *ℤ coef_at ys t))

-- ---- cut and nonzero

-- a part that is 0 does not count
skip_here : (b : Bool) (c x : ℤ) → ((b ≡ false) ⊎ (c ≡ pos 0)) → cond b c (pos 0) +ℤ x ≡ x
skip_here true c x (inl e) = absurd (true≢false e)
skip_here true c x (inr e) = ap (λ w. w +ℤ x) e ∙ +ℤ_idl x
skip_here false c x h = +ℤ_idl x

-- one place of the list that is cut
cut_other : (s t : Slot) (c : Slot × ℤ) (cs : List (Slot × ℤ)) (b : Bool) → same_slot c.0 s ≡ b → same_slot s t ≡ false → coef_at (cut s cs) t ≡ coef_at cs t
    → coef_at (cond b (cut s cs) (c ∷ cut s cs)) t ≡ coef_at (c ∷ cs) t
cut_other s t c cs true e n ih = ih ∙ sym (skip_here (same_slot c.0 t) c.1 (coef_at cs t) (inl (ap (λ x. same_slot x t) (same_slot_is c.0 s e) ∙ n)))
cut_other s t c cs false e n ih = ap (λ w. cond (same_slot c.0 t) c.1 (pos 0) +ℤ w) ih

-- cutting leaves the other slots
pub coef_at-cut : (s : Slot) (cs : List (Slot × ℤ)) (t : Slot) → same_slot s t ≡ false → coef_at (cut s cs) t ≡ coef_at cs t
coef_at-cut s [] t n = refl
coef_at-cut s (c ∷ cs) t n = cut_other s t c cs (same_slot c.0 s) refl n (coef_at-cut s cs t n)

-- at the slot itself
cut_here : (s t : Slot) (c : Slot × ℤ) (cs : List (Slot × ℤ)) (b : Bool) → same_slot c.0 s ≡ b → s ≡ t → coef_at (cut s cs) t ≡ pos 0 → coef_at (cond b (cut s cs) (c ∷ cut s cs)) t ≡ pos 0
cut_here s t c cs true e n ih = ih
cut_here s t c cs false e n ih = skip_here (same_slot c.0 t) c.1 (coef_at (cut s cs) t) (inl (ap (λ x. same_slot c.0 x) (sym n) ∙ e)) ∙ ih

-- the slot that is cut out has the coefficient 0
pub coef_at-cut_here : (s : Slot) (cs : List (Slot × ℤ)) (t : Slot) → same_slot s t ≡ true → coef_at (cut s cs) t ≡ pos 0
coef_at-cut_here s [] t n = refl
coef_at-cut_here s (c ∷ cs) t n = cut_here s t c cs (same_slot c.0 s) refl (same_slot_is s t n) (coef_at-cut_here s cs t n)

-- leaving out zeros changes no coefficient
nonzero_step : (t : Slot) (c : Slot × ℤ) (cs : List (Slot × ℤ)) (b : Bool) → int_eq c.1 (pos 0) ≡ b → coef_at (nonzero cs) t ≡ coef_at cs t
    → coef_at (cond b (nonzero cs) (c ∷ nonzero cs)) t ≡ coef_at (c ∷ cs) t
nonzero_step t c cs true e ih = ih ∙ sym (skip_here (same_slot c.0 t) c.1 (coef_at cs t) (inr ((Decides-int_eq c.1 (pos 0)).0 e)))
nonzero_step t c cs false e ih = ap (λ w. cond (same_slot c.0 t) c.1 (pos 0) +ℤ w) ih

-- of the whole list
pub coef_at-nonzero : (cs : List (Slot × ℤ)) (t : Slot) → coef_at (nonzero cs) t ≡ coef_at cs t
coef_at-nonzero [] t = refl
coef_at-nonzero (c ∷ cs) t = nonzero_step t c cs (int_eq c.1 (pos 0)) refl (coef_at-nonzero cs t)

-- no coefficient is 0
abbrev pub AllNonzero : List (Slot × ℤ) → Type 0
AllNonzero [] = Unit {0}
AllNonzero (c ∷ cs) = (c.1 ≢ pos 0) × AllNonzero cs

-- none is left
some_nonzero : (c : Slot × ℤ) (cs : List (Slot × ℤ)) (b : Bool) → int_eq c.1 (pos 0) ≡ b → AllNonzero cs → AllNonzero (cond b cs (c ∷ cs))
some_nonzero c cs true e ih = ih
some_nonzero c cs false e ih = (λ z. true≢false (sym ((Decides-int_eq c.1 (pos 0)).1 z) ∙ e), ih)

-- of the whole list
pub nonzero-nonzero : (cs : List (Slot × ℤ)) → AllNonzero (nonzero cs)
nonzero-nonzero [] = tt
nonzero-nonzero (c ∷ cs) = some_nonzero c (nonzero cs) (int_eq c.1 (pos 0)) refl (nonzero-nonzero cs)
