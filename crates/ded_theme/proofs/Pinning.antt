-- A slot to which an equality gives a source: the source in its place is the elimination of the slot.
use Rattle.std.proofs.Common.{◌≡◌, ℕ, ◌<◌, ◌⊎◌, inl, inr, ⊎_elim, Bool, true, false, cond, List, [], ◌∷◌, length, get_or, arith, refl, sym, ap, ◌∙◌, subst, true≢false}
use Rattle.std.specs.Prelude.{◌↔◌, IsTrue}
use Rattle.ded_model.specs.declared.slot.Slot.{Slot}
use Rattle.ded_model.specs.declared.tuple.ThemeAtom.{ThemeAtom}
use Rattle.ded_model.specs.declared.tuple.ThemeAtom.TheVariants.{EqText, NeText, EqSlot, NeSlot}
use Rattle.ded_model.specs.Point.{slot, Point, IsPoint, IsExtension, same_slot}
use Rattle.ded_model.specs.Row.{theme_holds, theme_mentions}
use Rattle.ded_model.specs.Normal.{IsNormalTheme}
use Rattle.ded_model.specs.Cell.{conj_holds}
use Rattle.ded_model.proofs.Points.{same_slot_is}
use Rattle.ded_theory.specs.Conjunctions.{conj_mentions}
use Rattle.ded_theory.specs.Eliminations.{SomeExtension}
use Rattle.ded_theme.specs.Sources.{Source, at, quoted, is_at, text_of, texts, left, right, is_equality, compares}
use Rattle.ded_theme.specs.Replacing.{replaced, replaced_holds, replaced_mentions, IsPartner, IsPinned}
use Rattle.ded_model.proofs.Rows.{or_left, or_right}
use Rattle.std.proofs.lemmas.Bool.{or_cases, false_from_ne_true}
use Rattle.ded_theme.proofs.Lists.{test-at, any-at, list_all-same}
use Rattle.ded_theme.proofs.Comparing.{theme_holds-is, theme_mentions-is, left_normal, right_normal, compares-equal, compares-by}
use Rattle.ded_theme.proofs.Extending.{is_at-text, is_at-sort, source-bytes, other-text, other-source, extended_by}

-- ---- the sides of one atom

pub two_numbers : (s t u : Slot) → s.number < t.number → s ≡ u → t ≡ u → ⊥
two_numbers s t u l e f = let d : s.number ≡ t.number = ap (λ (x : Slot). x.number) (e ∙ sym f) in absurd (omega arith)

-- the sides of a normal atom aren't one slot
pub sides_apart : (a : ThemeAtom) (s : Slot) → IsNormalTheme a → is_at s (left a) ≡ true → is_at s (right a) ≡ false
sides_apart (EqText x t) s n h = refl
sides_apart (NeText x t) s n h = refl
sides_apart (EqSlot x y) s n h = false_from_ne_true (same_slot y s) (λ k. two_numbers x y s n.2 (same_slot_is x s h) (same_slot_is y s k))
sides_apart (NeSlot x y) s n h = false_from_ne_true (same_slot y s) (λ k. two_numbers x y s n.2 (same_slot_is x s h) (same_slot_is y s k))

-- an equality that holds gives both sides one text
pub sides_equal : (a : ThemeAtom) (p : Point) → is_equality a ≡ true → theme_holds a p ≡ true → text_of (left a) (texts p) ≡ text_of (right a) (texts p)
sides_equal a p e h = compares-equal (left a) (right a) (texts p) (subst (λ b. compares b (left a) (right a) (texts p) ≡ true) e (sym (theme_holds-is a p) ∙ h))

pub mentions_left : (a : ThemeAtom) (s : Slot) → is_at s (left a) ≡ true → theme_mentions a s ≡ true
mentions_left a s h = theme_mentions-is a s ∙ or_left _ _ h

pub mentions_right : (a : ThemeAtom) (s : Slot) → is_at s (right a) ≡ true → theme_mentions a s ≡ true
mentions_right a s h = theme_mentions-is a s ∙ or_right (is_at s (left a)) _ h

pub mentions_neither : (a : ThemeAtom) (s : Slot) → is_at s (left a) ≡ false → is_at s (right a) ≡ false → theme_mentions a s ≡ true → ⊥
mentions_neither a s h k m = elim (or_cases _ _ (sym (theme_mentions-is a s) ∙ m)) [ inl x ↦ true≢false (sym x ∙ h) | inr x ↦ true≢false (sym x ∙ k) ]

-- an equality of the slot gives it the other side
pub partner_right : (s : Slot) (a : ThemeAtom) → IsNormalTheme a → is_equality a ≡ true → is_at s (left a) ≡ true → IsPartner s (right a) a
partner_right s a n e h = record {
  equal = λ p k. sym (is_at-text s (left a) (texts p) h) ∙ sides_equal a p e k;
  other = sides_apart a s n h;
  sort = is_at-sort s (left a) h (left_normal a n);
  normal = right_normal a n;
  mentioned = λ t k. mentions_right a t k;
}

pub partner_left : (s : Slot) (a : ThemeAtom) → IsNormalTheme a → is_equality a ≡ true → is_at s (left a) ≡ false → is_at s (right a) ≡ true → IsPartner s (left a) a
partner_left s a n e f h = record {
  equal = λ p k. sym (is_at-text s (right a) (texts p) h) ∙ sym (sides_equal a p e k);
  other = f;
  sort = is_at-sort s (right a) h (right_normal a n);
  normal = left_normal a n;
  mentioned = λ t k. mentions_left a t k;
}

-- one atom of a conjunction does
pub pinned_by : (s : Slot) (w : Source) (atoms : List ThemeAtom) (i : ℕ) (a : ThemeAtom) → i < length atoms → a ≡ get_or atoms i a → IsPartner s w a → IsPinned s w atoms
pinned_by s w atoms i a l e h = record {
  equal = λ p k. h.equal p (test-at (λ b. theme_holds b p) atoms i a l e k);
  other = h.other;
  sort = h.sort;
  normal = h.normal;
  mentioned = λ t k. any-at (λ b. theme_mentions b t) atoms i a l e (h.mentioned t k);
}

-- ---- the source in place of the slot

module _ (s : Slot) (w : Source) (p q : Point) (x : IsExtension s.sort p (slot s) q) (o : is_at s w ≡ false) (e : texts q s ≡ text_of w (texts q)) where
  -- a source has the text that it has after
  replaced-text : (v : Source) → text_of (replaced s w v) (texts p) ≡ text_of v (texts q)
  replaced-text (at t) = by (same_slot t s) refl
    where
      by : (b : Bool) → same_slot t s ≡ b → text_of (cond b w (at t)) (texts p) ≡ texts q t
      by true h = sym (ap (texts q) (same_slot_is t s h) ∙ e ∙ other-source s p q x w o)
      by false h = sym (other-text s p q x t h)
  replaced-text (quoted t) = refl

  -- so an atom holds alike
  replaced-atom : (a : ThemeAtom) → replaced_holds s w a p ≡ theme_holds a q
  replaced-atom a = compares-by (is_equality a) _ _ (left a) (right a) (texts p) (texts q) (replaced-text (left a)) (replaced-text (right a)) ∙ sym (theme_holds-is a q)

  -- and a conjunction
  replaced-conj : (atoms : List ThemeAtom) → conj_holds (replaced_holds s w) atoms p ≡ conj_holds theme_holds atoms q
  replaced-conj atoms = list_all-same (λ a. replaced_holds s w a p) (λ a. theme_holds a q) atoms replaced-atom

-- the atoms with the source in place of the slot hold where some extension satisfies the atoms
pub pinned_exact : (s : Slot) (w : Source) (atoms : List ThemeAtom) (p : Point) → IsPoint p → IsPinned s w atoms → IsTrue (conj_holds (replaced_holds s w) atoms p) ↔ SomeExtension s (conj_holds theme_holds atoms) p
pinned_exact s w atoms p n h = (there, back)
  where
    there : IsTrue (conj_holds (replaced_holds s w) atoms p) → SomeExtension s (conj_holds theme_holds atoms) p
    there k =
        let y = extended_by s p (text_of w (texts p)) h.sort (source-bytes p w n h.normal) in
        let e = y.2 ∙ sym (other-source s p y.0 y.1 w h.other) in
        (y.0, y.1, sym (replaced-conj s w p y.0 y.1 h.other e atoms) ∙ k)

    back : SomeExtension s (conj_holds theme_holds atoms) p → IsTrue (conj_holds (replaced_holds s w) atoms p)
    back y = replaced-conj s w p y.0 y.1 h.other (h.equal y.0 y.2) atoms ∙ y.2

-- ---- what is mentioned then

other_slot : (s t : Slot) (w : Source) → is_at s w ≡ false → is_at t w ≡ true → same_slot t s ≡ false
other_slot s t w o h = false_from_ne_true (same_slot t s) (λ k. true≢false (sym h ∙ ap (λ u. is_at u w) (same_slot_is t s k) ∙ o))

replaced_is_at : (s : Slot) (w : Source) (t : Slot) (v : Source) → is_at s w ≡ false → is_at t (replaced s w v) ≡ true → (same_slot t s ≡ false) × ((is_at t v ≡ true) ⊎ (is_at t w ≡ true))
replaced_is_at s w t (at u) o h = by (same_slot u s) refl h
  where
    by : (b : Bool) → same_slot u s ≡ b → is_at t (cond b w (at u)) ≡ true → (same_slot t s ≡ false) × ((same_slot u t ≡ true) ⊎ (is_at t w ≡ true))
    by true e k = (other_slot s t w o k, inr k)
    by false e k = (sym (ap (λ z. same_slot z s) (same_slot_is u t k)) ∙ e, inl k)
replaced_is_at s w t (quoted u) o h = absurd (true≢false (sym h))

pub replaced_only : (s : Slot) (w : Source) (a : ThemeAtom) (t : Slot) → is_at s w ≡ false → replaced_mentions s w a t ≡ true → (same_slot t s ≡ false) × ((theme_mentions a t ≡ true) ⊎ (is_at t w ≡ true))
replaced_only s w a t o h = elim (or_cases _ _ h) [
  | inl k ↦ let y = replaced_is_at s w t (left a) o k in (y.0, ⊎_elim (λ (z : is_at t (left a) ≡ true). inl (mentions_left a t z)) (λ z. inr z) y.1)
  | inr k ↦ let y = replaced_is_at s w t (right a) o k in (y.0, ⊎_elim (λ (z : is_at t (right a) ≡ true). inl (mentions_right a t z)) (λ z. inr z) y.1)
]

all_only : (s : Slot) (w : Source) (atoms : List ThemeAtom) (t : Slot) → is_at s w ≡ false → conj_mentions (replaced_mentions s w) atoms t ≡ true → (same_slot t s ≡ false) × ((conj_mentions theme_mentions atoms t ≡ true) ⊎ (is_at t w ≡ true))
all_only s w [] t o h = absurd (true≢false (sym h))
all_only s w (a ∷ atoms) t o h = elim (or_cases _ _ h) [
  | inl k ↦ let y = replaced_only s w a t o k in (y.0, ⊎_elim (λ (z : theme_mentions a t ≡ true). inl (or_left _ _ z)) (λ z. inr z) y.1)
  | inr k ↦ let y = all_only s w atoms t o k in (y.0, ⊎_elim (λ (z : conj_mentions theme_mentions atoms t ≡ true). inl (or_right (theme_mentions a t) _ z)) (λ z. inr z) y.1)
]

-- the slot is gone, and no other one has come
pub pinned_slots : (s : Slot) (w : Source) (atoms : List ThemeAtom) (t : Slot) → IsPinned s w atoms → conj_mentions (replaced_mentions s w) atoms t ≡ true → (same_slot t s ≡ false) × (conj_mentions theme_mentions atoms t ≡ true)
pinned_slots s w atoms t h m = let y = all_only s w atoms t h.other m in (y.0, ⊎_elim (λ z. z) (λ z. h.mentioned t z) y.1)
