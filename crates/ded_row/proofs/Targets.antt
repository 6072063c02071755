-- Coefficients set at their new slots.
--
-- Where two slots get two slots, each coefficient is set at a slot that has none, so it is added there: the sum at the new
-- slots is the sum at the old ones, and the new slots are those that the old ones get.
use Rattle.std.proofs.Common.{◌≡◌, ◌≢◌, ℕ, zero, suc, ◌+◌, ◌<◌, Bool, true, false, cond, ◌||◌, List, [], ◌∷◌, ◌⊎◌, inl, inr, length, drop, arith, refl, sym, ap, ap₂, ◌∙◌, subst, true≢false}
use Rattle.std.specs.Prelude.{ℤ, pos, ◌+ℤ◌, ◌*ℤ◌}
use Rattle.std.proofs.lemmas.Bool.{false_from_ne_true}
use Rattle.std.proofs.lemmas.Int.{ints}
use lib.IntN.{+ℤ_idl, +ℤ_idr}
use Rattle.ded_num.proofs.Signs.{plus_swap}
use Rattle.ded_model.specs.declared.slot.Slot.{Slot}
use Rattle.ded_model.specs.declared.slot.Sort.TheVariants.{Rat}
use Rattle.ded_model.specs.Constraint.{LinearConstraint}
use Rattle.ded_model.specs.Point.{same_slot, Point, slot, number_at}
use Rattle.ded_model.specs.Coefs.{AllAbove, AreCoefs, coef_at, put, cut, with_coef}
use Rattle.ded_model.specs.Row.{sum_at, sign_meets, row_holds, row_mentions}
use Rattle.ded_model.specs.Normal.{normal_row}
use Rattle.ded_model.proofs.Points.{same_slot_is, same_slot_refl}
use Rattle.ded_model.proofs.Rows.{or_left, or_right}
use Rattle.ded_model.proofs.CoefLemmas.{greater_slot, coef_at-here, coef_at-past}
use Rattle.ded_model.proofs.LineCoefs.{coef_at-put, coef_at-nonzero}
use Rattle.ded_model.proofs.LineSlots.{has_slot, put_slots, cut_slots, nonzero_slots}
use Rattle.ded_model.specs.Renaming.{renamed, renamed_onto, IsOneToOne, KeepsSorts, HaveOneValue, IsRenamedPoint}
use Rattle.ded_model.proofs.CoefLists.{drop-kept}
use Rattle.ded_row.specs.Renaming.{renamed_row}
use Rattle.ded_row.proofs.FirstSlots.{entry, split}
use Rattle.ded_model.proofs.Normals.{normal_row-holds}
use Rattle.ded_row.proofs.Forms.{row_mentions-normal}
use Rattle.ded_model.proofs.Sums.{sum_at-put, sum_at-nonzero}

-- ---- the walk

-- the slot at a place is mentioned
pub has_entry : (xs : List (Slot × ℤ)) (i : ℕ) → i < length xs → has_slot xs (entry xs i).0 ≡ true
has_entry [] i h = absurd (omega arith)
has_entry (x ∷ xs) zero h = or_left (same_slot x.0 x.0) (has_slot xs x.0) (same_slot_refl x.0)
has_entry (x ∷ xs) (suc i) h = or_right (same_slot x.0 (entry xs i).0) (has_slot xs (entry xs i).0) (has_entry xs i (omega arith))

-- its new slot is rational
pub target_rational : (map : List (Slot × Slot)) (r : LinearConstraint) (xs : List (Slot × ℤ)) (i : ℕ) → KeepsSorts map (row_mentions r) → xs ≡ r.coefs → AreCoefs xs → i < length xs → (renamed map (entry xs i).0).sort ≡ Rat
unfolding row_mentions
target_rational map r xs i h e k l =
    h.sort (entry xs i).0 (ap (λ ys. has_slot ys (entry xs i).0) (sym e) ∙ has_entry xs i l) ∙ (subst AreCoefs (split xs i l) (drop-kept xs i k)).0

-- a step of it
pub onto_step : (map : List (Slot × Slot)) (out xs : List (Slot × ℤ)) (i : ℕ) → i < length xs
    → renamed_onto map (with_coef (renamed map (entry xs i).0) (entry xs i).1 out) (drop (i + 1) xs) ≡ renamed_onto map out (drop i xs)
onto_step map out xs i l = sym (ap (renamed_onto map out) (split xs i l))

-- ---- a coefficient at an absent slot

-- nothing to cut
pub cut-absent : (s : Slot) (cs : List (Slot × ℤ)) → has_slot cs s ≡ false → cut s cs ≡ cs
cut-absent s [] h = refl
cut-absent s (c ∷ cs) h = go (same_slot c.0 s) h (cut-absent s cs)
  where
    go : (b : Bool) → (b || has_slot cs s) ≡ false → (has_slot cs s ≡ false → cut s cs ≡ cs) → cond b (cut s cs) (c ∷ cut s cs) ≡ c ∷ cs
    go true e ih = absurd (true≢false e)
    go false e ih = ap (λ xs. c ∷ xs) (ih e)

-- the sum grows by it
sum_at-with_coef : (s : Slot) (a : ℤ) (cs : List (Slot × ℤ)) (p : Point) → has_slot cs s ≡ false → sum_at (with_coef s a cs) p ≡ a *ℤ number_at p (slot s) +ℤ sum_at cs p
sum_at-with_coef s a cs p h = sum_at-nonzero (put s a (cut s cs)) p ∙ ap (λ xs. sum_at (put s a xs) p) (cut-absent s cs h) ∙ sum_at-put s a cs p

-- its slots are that one and those before
pub with_coef_slots : (s : Slot) (a : ℤ) (cs : List (Slot × ℤ)) (t : Slot) → has_slot (with_coef s a cs) t ≡ true → (same_slot s t ≡ true) ⊎ (has_slot cs t ≡ true)
with_coef_slots s a cs t h = elim (put_slots s a (cut s cs) t (nonzero_slots (put s a (cut s cs)) t h)) [ inl e ↦ inl e | inr e ↦ inr (cut_slots s cs t e).1 ]

-- ---- all coefficients

-- a slot below all others is absent
pub absent-below : (s : Slot) (cs : List (Slot × ℤ)) → AllAbove s.number cs → has_slot cs s ≡ false
absent-below s [] h = refl
absent-below s (c ∷ cs) h = ap (λ b. b || has_slot cs s) (greater_slot c.0 s h.0) ∙ absent-below s cs h.1

-- no new slot of the coefficients that are left is taken
pub record AreFree (map : List (Slot × Slot)) (out cs : List (Slot × ℤ)) : Type 0 where
  pub free : (s : Slot) → has_slot cs s ≡ true → has_slot out (renamed map s) ≡ false
  pub apart : (s t : Slot) → has_slot cs s ≡ true → has_slot cs t ≡ true → renamed map s ≡ renamed map t → s ≡ t

-- so it is after each step
pub free_step : (map : List (Slot × Slot)) (out : List (Slot × ℤ)) (c : Slot × ℤ) (cs : List (Slot × ℤ)) → AreFree map out (c ∷ cs) → AreCoefs (c ∷ cs) → AreFree map (with_coef (renamed map c.0) c.1 out) cs
free_step map out c cs h k = record {
  free = λ s e. false_from_ne_true (has_slot (with_coef (renamed map c.0) c.1 out) (renamed map s)) (λ f. elim (with_coef_slots (renamed map c.0) c.1 out (renamed map s) f) [
    | inl g ↦ (let same = h.apart c.0 s (or_left _ _ (same_slot_refl c.0)) (or_right (same_slot c.0 s) _ e) (same_slot_is (renamed map c.0) (renamed map s) g) in
        true≢false (sym e ∙ ap (has_slot cs) (sym same) ∙ absent-below c.0 cs k.3))
    | inr g ↦ true≢false (sym g ∙ h.free s (or_right (same_slot c.0 s) _ e))
  ]);
  apart = λ s t e f g. h.apart s t (or_right (same_slot c.0 s) _ e) (or_right (same_slot c.0 t) _ f) g;
}

-- the sum at the new slots
sum_at-onto : (map : List (Slot × Slot)) (out cs : List (Slot × ℤ)) (p q : Point) → AreFree map out cs → AreCoefs cs → ((s : Slot) → has_slot cs s ≡ true → number_at q (slot (renamed map s)) ≡ number_at p (slot s))
    → sum_at (renamed_onto map out cs) q ≡ sum_at out q +ℤ sum_at cs p
sum_at-onto map out [] p q h k n = sym (none (sum_at out q))
  where
    none : (z : ℤ) → z +ℤ pos 0 ≡ z
    none z = omega (arith, ints)
sum_at-onto map out (c ∷ cs) p q h k n =
    let x = c.1 *ℤ number_at p (slot c.0) in
    sum_at-onto map (with_coef (renamed map c.0) c.1 out) cs p q (free_step map out c cs h k) k.4 (λ s e. n s (or_right (same_slot c.0 s) _ e))
    ∙ ap (λ z. z +ℤ sum_at cs p) (sum_at-with_coef (renamed map c.0) c.1 out q (h.free c.0 (or_left _ _ (same_slot_refl c.0))) ∙ ap (λ m. c.1 *ℤ m +ℤ sum_at out q) (n c.0 (or_left _ _ (same_slot_refl c.0))))
    ∙ plus_swap x (sum_at out q) (sum_at cs p)

-- at first all are free
free_first : (map : List (Slot × Slot)) (r : LinearConstraint) → IsOneToOne map (row_mentions r) → AreFree map [] r.coefs
unfolding row_mentions
free_first map r h = record { free = λ s e. refl; apart = λ s t e f g. h.apart s t e f g }

-- a slot of the coefficients is rational
pub is_rational : (s : Slot) (cs : List (Slot × ℤ)) → AreCoefs cs → has_slot cs s ≡ true → s.sort ≡ Rat
is_rational s [] k e = absurd (true≢false (sym e))
is_rational s (c ∷ cs) k e = go (same_slot c.0 s) refl e (is_rational s cs k.4)
  where
    go : (b : Bool) → same_slot c.0 s ≡ b → (b || has_slot cs s) ≡ true → (has_slot cs s ≡ true → s.sort ≡ Rat) → s.sort ≡ Rat
    go true f g ih = ap (λ t. t.sort) (sym (same_slot_is c.0 s f)) ∙ k.0
    go false f g ih = ih g

-- the renamed row holds where the row does
pub renamed-holds : (map : List (Slot × Slot)) (r : LinearConstraint) (p q : Point) → IsOneToOne map (row_mentions r) → AreCoefs r.coefs → 0 < p.den → IsRenamedPoint map (row_mentions r) p q → row_holds (normal_row (renamed_row map r)) q ≡ row_holds r p
unfolding row_holds row_mentions
renamed-holds map r p q h k l n =
    let positive : 0 < q.den = subst (λ d. 0 < d) (sym n.den) l in
    normal_row-holds (renamed_row map r) q positive
    ∙ ap (λ s. sign_meets r.op (s +ℤ r.constant *ℤ pos q.den)) (sum_at-onto map [] r.coefs p q (free_first map r h) k (λ s e. subst (λ t. HaveOneValue t p (slot s) q (slot (renamed map s))) (is_rational s r.coefs k e) (n.value s e)) ∙ +ℤ_idl (sum_at r.coefs p))
    ∙ ap (λ d. sign_meets r.op (sum_at r.coefs p +ℤ r.constant *ℤ pos d)) n.den

-- ---- slots

-- the new slots come from slots of the row
onto_slots : (map : List (Slot × Slot)) (out cs : List (Slot × ℤ)) (t : Slot) → has_slot (renamed_onto map out cs) t ≡ true → (has_slot out t ≡ true) ⊎ ((s : Slot) × (has_slot cs s ≡ true) × (renamed map s ≡ t))
onto_slots map out [] t h = inl h
onto_slots map out (c ∷ cs) t h = elim (onto_slots map (with_coef (renamed map c.0) c.1 out) cs t h) [
  | inl e ↦ elim (with_coef_slots (renamed map c.0) c.1 out t e) [
    | inl f ↦ inr (c.0, or_left _ _ (same_slot_refl c.0), same_slot_is (renamed map c.0) t f)
    | inr f ↦ inl f
  ]
  | inr e ↦ inr (e.0, or_right (same_slot c.0 e.0) _ e.1, e.2)
]

pub renamed_only : (map : List (Slot × Slot)) (r : LinearConstraint) (t : Slot) → row_mentions (normal_row (renamed_row map r)) t ≡ true → (s : Slot) × (row_mentions r s ≡ true) × (renamed map s ≡ t)
unfolding row_mentions
renamed_only map r t h = elim (onto_slots map [] r.coefs t (sym (row_mentions-normal (renamed_row map r) t) ∙ h)) [ inl e ↦ absurd (true≢false (sym e)) | inr e ↦ e ]

-- ---- coefficients

-- the coefficients grow by the one that is set
pub coef_at-with_coef : (s : Slot) (a : ℤ) (cs : List (Slot × ℤ)) (t : Slot) → has_slot cs s ≡ false → coef_at (with_coef s a cs) t ≡ cond (same_slot s t) a (pos 0) +ℤ coef_at cs t
coef_at-with_coef s a cs t h = coef_at-nonzero (put s a (cut s cs)) t ∙ ap (λ xs. coef_at (put s a xs) t) (cut-absent s cs h) ∙ coef_at-put s a cs t

-- two slots are the same where their new ones are
same_target : (map : List (Slot × Slot)) (t s : Slot) → (renamed map t ≡ renamed map s → t ≡ s) → same_slot (renamed map t) (renamed map s) ≡ same_slot t s
same_target map t s h = go (same_slot t s) refl (same_slot (renamed map t) (renamed map s)) refl
  where
    go : (b : Bool) → same_slot t s ≡ b → (d : Bool) → same_slot (renamed map t) (renamed map s) ≡ d → d ≡ b
    go true e true f = refl
    go true e false f = sym f ∙ ap (λ u. same_slot (renamed map u) (renamed map s)) (same_slot_is t s e) ∙ same_slot_refl (renamed map s)
    go false e true f = sym (same_slot_refl s) ∙ ap (λ u. same_slot u s) (sym (h (same_slot_is (renamed map t) (renamed map s) f))) ∙ e
    go false e false f = refl

-- the coefficient of a slot at its new slot
coef_at-onto : (map : List (Slot × Slot)) (out cs : List (Slot × ℤ)) (s : Slot) → AreFree map out cs → AreCoefs cs → ((t : Slot) → has_slot cs t ≡ true → renamed map t ≡ renamed map s → t ≡ s)
    → coef_at (renamed_onto map out cs) (renamed map s) ≡ coef_at out (renamed map s) +ℤ coef_at cs s
coef_at-onto map out [] s h k n = sym (+ℤ_idr (coef_at out (renamed map s)))
coef_at-onto map out (c ∷ cs) s h k n =
    coef_at-onto map (with_coef (renamed map c.0) c.1 out) cs s (free_step map out c cs h k) k.4 (λ t e f. n t (or_right (same_slot c.0 t) _ e) f)
    ∙ ap (λ z. z +ℤ coef_at cs s) (coef_at-with_coef (renamed map c.0) c.1 out (renamed map s) (h.free c.0 (or_left _ _ (same_slot_refl c.0)))
    ∙ ap (λ b. cond b c.1 (pos 0) +ℤ coef_at out (renamed map s)) (same_target map c.0 s (n c.0 (or_left _ _ (same_slot_refl c.0)))))
    ∙ plus_swap (cond (same_slot c.0 s) c.1 (pos 0)) (coef_at out (renamed map s)) (coef_at cs s)

-- a slot that is mentioned has a coefficient other than 0
pub coef_at-mentioned : (cs : List (Slot × ℤ)) (s : Slot) → AreCoefs cs → has_slot cs s ≡ true → coef_at cs s ≢ pos 0
coef_at-mentioned [] s k h e = true≢false (sym h)
coef_at-mentioned (c ∷ cs) s k h e = go (same_slot c.0 s) refl (coef_at-mentioned cs s k.4)
  where
    go : (b : Bool) → same_slot c.0 s ≡ b → (has_slot cs s ≡ true → coef_at cs s ≢ pos 0) → ⊥
    go true f ih = k.2 (sym (coef_at-here s c cs f k.3) ∙ e)
    go false f ih = ih (sym (ap (λ b. b || has_slot cs s) f) ∙ h) (sym (coef_at-past s c cs f) ∙ e)

-- one that isn't has none
pub coef_at-absent : (cs : List (Slot × ℤ)) (s : Slot) → has_slot cs s ≡ false → coef_at cs s ≡ pos 0
coef_at-absent [] s h = refl
coef_at-absent (c ∷ cs) s h = go (same_slot c.0 s) refl (coef_at-absent cs s)
  where
    go : (b : Bool) → same_slot c.0 s ≡ b → (has_slot cs s ≡ false → coef_at cs s ≡ pos 0) → coef_at (c ∷ cs) s ≡ pos 0
    go true f ih = absurd (true≢false (sym (ap (λ b. b || has_slot cs s) f) ∙ h))
    go false f ih = coef_at-past s c cs f ∙ ih (sym (ap (λ b. b || has_slot cs s) f) ∙ h)

-- each slot of the row is mentioned at its new slot
pub renamed_mentions : (map : List (Slot × Slot)) (r : LinearConstraint) (s : Slot) → IsOneToOne map (row_mentions r) → AreCoefs r.coefs → row_mentions r s ≡ true → row_mentions (normal_row (renamed_row map r)) (renamed map s) ≡ true
unfolding row_mentions
renamed_mentions map r s h k e = row_mentions-normal (renamed_row map r) (renamed map s) ∙ go (has_slot (renamed_onto map [] r.coefs) (renamed map s)) refl
  where
    go : (b : Bool) → has_slot (renamed_onto map [] r.coefs) (renamed map s) ≡ b → b ≡ true
    go true f = refl
    go false f = absurd (coef_at-mentioned r.coefs s k e
        (sym (coef_at-onto map [] r.coefs s (free_first map r h) k (λ t g i. h.apart t s g e i) ∙ +ℤ_idl (coef_at r.coefs s)) ∙ coef_at-absent (renamed_onto map [] r.coefs) (renamed map s) f))

-- ---- the row

-- what the code makes
pub renamed_row_is : (map : List (Slot × Slot)) (r r' : LinearConstraint) (cs : List (Slot × ℤ)) (z : ℤ) → cs ≡ renamed_onto map [] r'.coefs → z ≡ r.constant → r ≡ r'
    → ◌≡◌ {A = LinearConstraint} (record { coefs = cs; constant = z; op = r.op }) (renamed_row map r')
renamed_row_is map r r' cs z e f g =
    ap₂ (λ (xs : List (Slot × ℤ)) (y : ℤ). record { coefs = xs; constant = y; op = r.op }) (e ∙ ap (λ (q : LinearConstraint). renamed_onto map [] q.coefs) (sym g)) f ∙ ap (renamed_row map) g

-- one slot for another that the row doesn't mention
pub one_pair : (r : LinearConstraint) (x y : Slot) → AreCoefs r.coefs → coef_at r.coefs y ≡ pos 0 → IsOneToOne ((x, y) ∷ []) (row_mentions r)
unfolding row_mentions
one_pair r x y k z = record { apart = λ s t e f g. go s t e f (same_slot x s) refl (same_slot x t) refl g }
  where
    go : (s t : Slot) → has_slot r.coefs s ≡ true → has_slot r.coefs t ≡ true → (b : Bool) → same_slot x s ≡ b → (d : Bool) → same_slot x t ≡ d → cond b y s ≡ cond d y t → s ≡ t
    go s t e f true p true q g = sym (same_slot_is x s p) ∙ same_slot_is x t q
    go s t e f true p false q g = absurd (coef_at-mentioned r.coefs t k f (ap (coef_at r.coefs) (sym g) ∙ z))
    go s t e f false p true q g = absurd (coef_at-mentioned r.coefs s k e (ap (coef_at r.coefs) g ∙ z))
    go s t e f false p false q g = g
