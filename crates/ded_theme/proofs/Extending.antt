-- Extensions at a slot: what text sources have there, and an extension by a text that is longer than any other.
use Rattle.std.proofs.Common.{◌≡◌, ℕ, ◌*◌, true, false, List, [], ◌∷◌, ◌++◌, arith, refl, sym, ap, ◌∙◌, subst, true≢false}
use Rattle.std.specs.Prelude.{pos}
use Rattle.ded_model.specs.declared.slot.Slot.{Slot}
use Rattle.ded_model.specs.declared.slot.Sort.{Sort}
use Rattle.ded_model.specs.declared.slot.Sort.TheVariants.{Rat, Text}
use Rattle.ded_model.specs.Point.{slot, number, text, Point, IsPoint, AllBytes, IsExtension, IsTextExtension, same_slot, absent, last_from, text_at, all_times}
use Rattle.ded_model.proofs.Points.{same_slot_is, same_slot_refl, text_at-extended}
use Rattle.ded_model.proofs.Unused.{extension_same}
use Rattle.ded_model.proofs.Texts.{zeros, zeros-bytes, text_extended, text_extended_is}
use Rattle.ded_theme.specs.Sources.{Source, at, quoted, is_at, text_of, texts, IsNormalSource}
use Rattle.ded_model.proofs.PointTexts.{last-value, text-bytes}
use Rattle.ded_model.proofs.SlotLists.{rational_no_text}

-- ---- sources at a slot

-- the slot's text
pub is_at-text : (s : Slot) (v : Source) (f : Slot → List ℕ) → is_at s v ≡ true → text_of v f ≡ f s
is_at-text s (at t) f h = ap f (same_slot_is t s h)
is_at-text s (quoted t) f h = absurd (true≢false (sym h))

-- and its sort
pub is_at-sort : (s : Slot) (v : Source) → is_at s v ≡ true → IsNormalSource v → s.sort ≡ Text
is_at-sort s (at t) h n = subst (λ (u : Slot). u.sort ≡ Text) (same_slot_is t s h) n
is_at-sort s (quoted t) h n = absurd (true≢false (sym h))

-- ---- the texts of a point are bytes

pub point-bytes : (p : Point) (s : Slot) → IsPoint p → AllBytes (texts p s)
unfolding text_at
point-bytes p s n = text-bytes (last_from absent p.coords (slot s)) (last-value absent p.coords (slot s) tt n.bytes)

pub source-bytes : (p : Point) (w : Source) → IsPoint p → IsNormalSource w → AllBytes (text_of w (texts p))
source-bytes p (at s) n h = point-bytes p s n
source-bytes p (quoted t) n h = h

-- ---- an extension

module _ (s : Slot) (p q : Point) (x : IsExtension s.sort p (slot s) q) where
  -- leaves the texts of other slots
  pub other-text : (t : Slot) → same_slot t s ≡ false → texts q t ≡ texts p t
  other-text t h = sym (extension_same s.sort p q (slot s) (slot t) x h).text

  -- and those of other sources
  pub other-source : (v : Source) → is_at s v ≡ false → text_of v (texts q) ≡ text_of v (texts p)
  other-source (at t) h = other-text t h
  other-source (quoted t) h = refl

-- the extension by a text
pub extended_by : (s : Slot) (p : Point) (t : List ℕ) → s.sort ≡ Text → AllBytes t → (q : Point) × IsExtension s.sort p (slot s) q × (texts q s ≡ t)
extended_by s p t e h =
    let q = text_extended (slot s) t p in
    let x : IsTextExtension p (slot s) q = text_extended_is (slot s) t p h in
    (q, subst (λ z. IsExtension z p (slot s) q) (sym e) x, text_at-extended p (slot s) q x (slot s) (same_slot_refl s))

-- some extension, by so many zeros where it is one by a text
pub extended_far : (s : Slot) (p : Point) (n : ℕ) → (q : Point) × IsExtension s.sort p (slot s) q × (s.sort ≡ Text → texts q s ≡ zeros n)
extended_far s p n = by s.sort refl
  where
    by : (z : Sort) → s.sort ≡ z → (q : Point) × IsExtension s.sort p (slot s) q × (s.sort ≡ Text → texts q s ≡ zeros n)
    by Text e = let y = extended_by s p (zeros n) e (zeros-bytes n) in (y.0, y.1, λ _. y.2)
    by Rat e =
        let q : Point = record { den = p.den * 1; coords = all_times 1 p.coords ++ (slot s, number (pos 0)) ∷ [] } in
        (q, subst (λ z. IsExtension z p (slot s) q) (sym e) (record { factor = 1; positive = omega arith; value = pos 0; den = refl; coords = refl }), λ f. absurd (rational_no_text (sym e ∙ f)))
