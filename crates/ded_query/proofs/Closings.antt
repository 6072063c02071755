-- Quantifiers round a formula, over any atoms: it holds below them somewhere where it holds round it, and the other way, where no key
-- that it mentions is left over.
--
-- A point whose value at a key is of the quantifier's sort has an extension that is the same point, by this value. So what holds at
-- such a point holds with the quantifiers there (`closed_here`), and with nothing left over it holds everywhere (`closed_anywhere`).
use Rattle.std.proofs.Common.{◌≡◌, ℕ, ◌*◌, Bool, true, false, not, ◌||◌, ◌⊎◌, inl, inr, List, [], ◌∷◌, ◌++◌, arith, refl, sym, ap, ap₂, ◌∙◌, subst, true≢false}
use Rattle.std.specs.Prelude.{ℤ, pos, ◌*ℤ◌}
use Rattle.std.proofs.Math.IntN.{zero-*ℤ}
use Rattle.ded_model.specs.declared.slot.Slot.{Slot}
use Rattle.ded_model.specs.declared.slot.Sort.{Sort}
use Rattle.ded_model.specs.declared.slot.Sort.TheVariants.{Rat, Text}
use Rattle.ded_model.specs.Point.{Key, slot, name, number, text, Point, IsPoint, IsSameAt, IsExtension, same_key, same_slot, stands_in, number_at, text_at, all_times}
use Rattle.ded_model.specs.Logic.{Logic, Sat, mentions}
use Rattle.ded_model.specs.Row.{at_slot}
use Rattle.ded_model.proofs.Logics.{RespectsValues, Sat-same}
use Rattle.ded_model.proofs.Members.{or_split}
use Rattle.ded_model.proofs.Points.{and_left, and_right, same_key_is, same_key_refl, same_slot_is, same_slot_refl, number_at-extended, number_at-kept, text_at-number_extended, text_at-number_kept, text_at-extended, text_at-kept, number_at-text_extended, number_at-text_kept, positive-extension}
use Rattle.ded_model.proofs.PointTexts.{extension-point, point-bytes}
use Rattle.ded_model.proofs.Rows.{or_left, or_right}
use Rattle.ded_model.proofs.Unused.{extension_same}
use Rattle.ded_sorts.proofs.Scopes.{IsOnlyOf}
use Rattle.ded_query.specs.Closing.{closing}

-- the point's value at the slot is of the slot's sort
abbrev pub IsOwnAt : Point → Slot → Type 0
IsOwnAt p s = IsOnlyOf s.sort (number_at p (slot s)) (text_at p (slot s))

-- ---- an extension by the point's own value

own : Sort → Point → Key → Point
own Rat p k = record { den = p.den * 1; coords = all_times 1 p.coords ++ (k, number (number_at p k)) ∷ [] }
own Text p k = record { den = p.den; coords = p.coords ++ (k, text (text_at p k)) ∷ [] }

own_is : (s : Sort) (p : Point) (k : Key) → IsPoint p → IsExtension s p k (own s p k)
unfolding own
own_is Rat p k i = record { factor = 1; positive = omega arith; value = number_at p k; den = refl; coords = refl }
own_is Text p k i = record { value = text_at p k; bytes = point-bytes p k i; den = refl; coords = refl }

-- it is the same point
own_same : (s : Sort) (p : Point) (k : Key) (i : IsPoint p) → IsOnlyOf s (number_at p k) (text_at p k) → (j : Key) (b : Bool) → same_key j k ≡ b → IsSameAt p (own s p k) j
unfolding own own_is
own_same Rat p k i o j true e = record {
  number = ap₂ (λ (n : ℤ) (d : ℕ). n *ℤ pos d) (ap (number_at p) (same_key_is j k e) ∙ sym (number_at-extended p k (own Rat p k) (own_is Rat p k i) j e)) (omega arith);
  text = ap (text_at p) (same_key_is j k e) ∙ o ∙ sym (text_at-number_extended p k (own Rat p k) (own_is Rat p k i) j e);
}
own_same Rat p k i o j false e = extension_same Rat p (own Rat p k) k j (own_is Rat p k i) e
own_same Text p k i o j true e = record {
  number = ap (λ (n : ℤ). n *ℤ pos p.den) (ap (number_at p) (same_key_is j k e) ∙ o ∙ sym (number_at-text_extended p k (own Text p k) (own_is Text p k i) j e));
  text = ap (text_at p) (same_key_is j k e) ∙ sym (text_at-extended p k (own Text p k) (own_is Text p k i) j e);
}
own_same Text p k i o j false e = extension_same Text p (own Text p k) k j (own_is Text p k i) e

-- ---- what an extension has

new_own : (t : Sort) (k : Key) (p q : Point) → IsExtension t p k q → (j : Key) → same_key j k ≡ true → IsOnlyOf t (number_at q j) (text_at q j)
new_own Rat k p q x j e = text_at-number_extended p k q x j e
new_own Text k p q x j e = number_at-text_extended p k q x j e

kept_own : (t r : Sort) (k : Key) (p q : Point) → IsExtension t p k q → (j : Key) → same_key j k ≡ false → IsOnlyOf r (number_at p j) (text_at p j) → IsOnlyOf r (number_at q j) (text_at q j)
kept_own Rat Rat k p q x j e o = text_at-number_kept p k q x j e ∙ o
kept_own Rat Text k p q x j e o = number_at-kept p k q x j e ∙ ap (λ (n : ℤ). n *ℤ pos x.factor) o ∙ zero-*ℤ (pos x.factor)
kept_own Text Rat k p q x j e o = text_at-kept p k q x j e ∙ o
kept_own Text Text k p q x j e o = number_at-text_kept p k q x j e ∙ o

-- ---- below the quantifiers

-- what is one of the slots, or had a value of its sort before the first of them, has one behind it or is one of the others
next_own : (u : Slot) (p q : Point) → IsExtension u.sort p (slot u) q → (ss : List Slot) (s : Slot) (b : Bool) → same_key (slot s) (slot u) ≡ b → ((same_slot u s || stands_in ss s) ≡ true) ⊎ IsOwnAt p s
    → (stands_in ss s ≡ true) ⊎ IsOwnAt q s
next_own u p q x ss s true f h =
    inr (subst (λ t. IsOnlyOf t (number_at q (slot s)) (text_at q (slot s))) (sym (ap (λ (v : Slot). v.sort) (same_slot_is s u f))) (new_own u.sort (slot u) p q x (slot s) f))
next_own u p q x ss s false f (inr o) = inr (kept_own u.sort s.sort (slot u) p q x (slot s) f o)
next_own u p q x ss s false f (inl h) =
    elim (or_split (same_slot u s) (stands_in ss s) h) [
      | inl e ↦ absurd (true≢false (sym (ap (λ v. same_key (slot s) (slot v)) (same_slot_is u s e) ∙ same_key_refl (slot s)) ∙ f))
      | inr e ↦ inl e
    ]

module _ {L : Type 0} (H : L → Point → Type 0) (f : Logic L) where
  -- the formula holds at some point, whose values at the slots are of their sorts
  pub below : (ss : List Slot) (p : Point) → IsPoint p → Sat H (closing ss f) p → (q : Point) × IsPoint q × Sat H f q × ((s : Slot) → (stands_in ss s ≡ true) ⊎ IsOwnAt p s → IsOwnAt q s)
  below [] p i h = (p, i, h, λ s e. elim e [ inl a ↦ absurd (true≢false (sym a)) | inr o ↦ o ])
  below (u ∷ ss) p i h =
      let r = below ss h.0 (extension-point u.sort p h.0 (slot u) i h.1) h.2 in
      (r.0, r.1, r.2, λ s e. r.3 s (next_own u p h.0 h.1 ss s (same_key (slot s) (slot u)) refl e))

-- ---- what is left over

module _ {L : Type 0} (in_atom : L → Key → Bool) (f : Logic L) where
  -- what is mentioned round the quantifiers is mentioned below them, and is none of the slots
  left_over : (ss : List Slot) (j : Key) → mentions in_atom (closing ss f) j ≡ true → (mentions in_atom f j ≡ true) × ((s : Slot) → stands_in ss s ≡ true → same_key j (slot s) ≡ false)
  left_over [] j m = (m, λ s e. absurd (true≢false (sym e)))
  left_over (u ∷ ss) j m =
      let r = left_over ss j (and_right (not (same_key j (slot u))) (mentions in_atom (closing ss f) j) m) in
      let n : same_key j (slot u) ≡ false = other (same_key j (slot u)) (and_left (not (same_key j (slot u))) (mentions in_atom (closing ss f) j) m) in (
        r.0,
        λ s e. elim (or_split (same_slot u s) (stands_in ss s) e) [ inl a ↦ subst (λ v. same_key j (slot v) ≡ false) (same_slot_is u s a) n | inr b ↦ r.1 s b ],
      )
    where
      other : (b : Bool) → not b ≡ true → b ≡ false
      other true e = absurd (true≢false (sym e))
      other false e = refl

  -- so nothing is, where all that is mentioned below them are the slots
  pub closes : (ss : List Slot) → ((j : Key) → mentions in_atom f j ≡ true → at_slot (stands_in ss) j ≡ true) → (j : Key) → mentions in_atom (closing ss f) j ≡ true → ⊥
  closes ss o j m = let r = left_over ss j m in by j (o j r.0) r.1
    where
      by : (k : Key) → at_slot (stands_in ss) k ≡ true → ((s : Slot) → stands_in ss s ≡ true → same_key k (slot s) ≡ false) → ⊥
      by (slot s) e n = true≢false (sym (same_key_refl (slot s)) ∙ n s e)
      by (name x) e n = true≢false (sym e)

-- ---- round the formula

module _ {L : Type 0} (H : L → Point → Type 0) (in_atom : L → Key → Bool) (R : RespectsValues H in_atom) (f : Logic L) where
  -- at a point whose values at the slots are of their sorts
  pub closed_here : (ss : List Slot) (p : Point) → IsPoint p → ((s : Slot) → stands_in ss s ≡ true → IsOwnAt p s) → Sat H f p → Sat H (closing ss f) p
  closed_here [] p i o h = h
  closed_here (s ∷ ss) p i o h =
      let x = own_is s.sort p (slot s) i in
      let j = positive-extension s.sort p (slot s) (own s.sort p (slot s)) i.positive x in (
        own s.sort p (slot s),
        x,
        Sat-same H in_atom R (closing ss f) p (own s.sort p (slot s)) i.positive j (λ k m. own_same s.sort p (slot s) i (o s (or_left (same_slot s s) (stands_in ss s) (same_slot_refl s))) k (same_key k (slot s)) refl)
            (closed_here ss p i (λ u e. o u (or_right (same_slot s u) (stands_in ss u) e)) h),
      )

  -- at any other point
  pub closed_anywhere : (ss : List Slot) (p q : Point) → IsPoint p → IsPoint q → ((j : Key) → mentions in_atom f j ≡ true → at_slot (stands_in ss) j ≡ true) → Sat H (closing ss f) p → Sat H (closing ss f) q
  closed_anywhere ss p q i j o h = Sat-same H in_atom R (closing ss f) p q i.positive j.positive (λ k m. absurd (closes in_atom f ss o k m)) h
