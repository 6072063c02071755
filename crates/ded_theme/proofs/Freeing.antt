-- A slot of which there are only disequalities: the atoms without it are its elimination.
--
-- The texts at a point from which the slot is to differ are finitely many, and zeros, more of them than all those texts have
-- bytes, are none of them.
use Rattle.std.proofs.Common.{◌≡◌, ℕ, suc, ◌+◌, ◌<◌, inl, inr, Bool, true, false, not, cond, List, [], ◌∷◌, length, arith, refl, sym, ap, ◌∙◌, true≢false}
use Rattle.std.specs.Prelude.{◌↔◌, IsTrue}
use Rattle.std.specs.List.{AllByRecursion}
use Rattle.ded_model.specs.declared.slot.Slot.{Slot}
use Rattle.ded_model.specs.declared.slot.Sort.TheVariants.{Text}
use Rattle.ded_model.specs.declared.tuple.ThemeAtom.{ThemeAtom}
use Rattle.ded_model.specs.Point.{slot, Point, IsExtension, same_slot}
use Rattle.ded_model.specs.Row.{theme_holds, theme_mentions}
use Rattle.ded_model.specs.Normal.{IsNormalTheme}
use Rattle.ded_model.specs.Cell.{conj_holds}
use Rattle.ded_model.proofs.Points.{same_slot_is}
use Rattle.ded_model.proofs.Texts.{zeros, zeros-length}
use Rattle.ded_theory.specs.Conjunctions.{conj_mentions}
use Rattle.ded_theory.specs.Eliminations.{SomeExtension}
use Rattle.ded_theme.specs.Sources.{Source, is_at, text_of, texts, left, right, is_equality}
use Rattle.ded_theme.specs.Replacing.{IsFree, kept}
use Rattle.ded_model.proofs.Points.{and_left, and_right}
use Rattle.ded_model.proofs.Rows.{or_left, or_right}
use Rattle.std.proofs.lemmas.Bool.{or_cases, false_from_ne_true, and_from}
use Rattle.ded_theme.proofs.Comparing.{theme_holds-is, theme_mentions-is, left_normal, right_normal, compares-other, compares-by}
use Rattle.ded_theme.proofs.Extending.{is_at-text, is_at-sort, other-source, extended_far}
use Rattle.ded_theme.proofs.Pinning.{sides_apart, mentions_left, mentions_right}

-- ---- lengths

size : ThemeAtom → Point → ℕ
size a p = length (text_of (left a) (texts p)) + length (text_of (right a) (texts p))

sizes : List ThemeAtom → Point → ℕ
sizes [] p = 0
sizes (a ∷ atoms) p = size a p + sizes atoms p

longer : (t u : List ℕ) (n : ℕ) → t ≡ zeros n → length u < n → t ≡ u → ⊥
longer t u n e l h = let k : length u ≡ n = ap length (sym h ∙ e) ∙ zeros-length n in absurd (omega arith)

-- ---- one atom

left_apart : (a : ThemeAtom) (s : Slot) → IsNormalTheme a → is_at s (right a) ≡ true → is_at s (left a) ≡ false
left_apart a s m k = false_from_ne_true (is_at s (left a)) (λ g. true≢false (sym k ∙ sides_apart a s m g))

not_mentioned : (a : ThemeAtom) (s : Slot) → theme_mentions a s ≡ false → (is_at s (left a) ≡ false) × (is_at s (right a) ≡ false)
not_mentioned a s h = (
  false_from_ne_true (is_at s (left a)) (λ k. true≢false (sym (mentions_left a s k) ∙ h)),
  false_from_ne_true (is_at s (right a)) (λ k. true≢false (sym (mentions_right a s k) ∙ h)),
)

module _ (s : Slot) (p q : Point) (x : IsExtension s.sort p (slot s) q) where
  -- an atom that doesn't mention the slot holds alike
  pub same_without : (a : ThemeAtom) → theme_mentions a s ≡ false → theme_holds a p ≡ theme_holds a q
  same_without a h =
      let k = not_mentioned a s h in
      theme_holds-is a p
      ∙ compares-by (is_equality a) (left a) (right a) (left a) (right a) (texts p) (texts q) (sym (other-source s p q x (left a) k.0)) (sym (other-source s p q x (right a) k.1))
      ∙ sym (theme_holds-is a q)

  -- a disequality of a slot that has a text longer than the other side holds
  far_sides : (n : ℕ) (v w : Source) → texts q s ≡ zeros n → is_at s v ≡ true → is_at s w ≡ false → length (text_of w (texts p)) < n → text_of v (texts q) ≡ text_of w (texts q) → ⊥
  far_sides n v w z h k l e = longer (texts q s) (text_of w (texts p)) n z l (sym (is_at-text s v (texts q) h) ∙ e ∙ other-source s p q x w k)

  far-atom : (n : ℕ) (a : ThemeAtom) → IsNormalTheme a → (s.sort ≡ Text → texts q s ≡ zeros n) → size a p < n → is_equality a ≡ false → theme_mentions a s ≡ true → theme_holds a q ≡ true
  unfolding size
  far-atom n a m z l e h = theme_holds-is a q ∙ compares-other (is_equality a) (left a) (right a) (texts q) apart ∙ ap not e
    where
      apart : text_of (left a) (texts q) ≡ text_of (right a) (texts q) → ⊥
      apart f = elim (or_cases _ _ (sym (theme_mentions-is a s) ∙ h)) [
        | inl k ↦ far_sides n (left a) (right a) (z (is_at-sort s (left a) k (left_normal a m))) k (sides_apart a s m k) (omega (arith, l)) f
        | inr k ↦ far_sides n (right a) (left a) (z (is_at-sort s (right a) k (right_normal a m))) k (left_apart a s m k) (omega (arith, l)) (sym f)
      ]

-- ---- the conjunction

module _ (s : Slot) (p q : Point) (x : IsExtension s.sort p (slot s) q) where
  -- what is kept holds where some extension satisfies all
  kept_sound : (atoms : List ThemeAtom) → conj_holds theme_holds atoms q ≡ true → conj_holds theme_holds (kept s atoms) p ≡ true
  kept_sound [] h = refl
  kept_sound (a ∷ atoms) h = by (theme_mentions a s) refl (kept_sound atoms (and_right (theme_holds a q) _ h))
    where
      by : (b : Bool) → theme_mentions a s ≡ b → conj_holds theme_holds (kept s atoms) p ≡ true → conj_holds theme_holds (cond b (kept s atoms) (a ∷ kept s atoms)) p ≡ true
      by true e k = k
      by false e k = and_from (theme_holds a p) _ (same_without s p q x a e ∙ and_left (theme_holds a q) _ h) k

  kept_exact : (n : ℕ) (atoms : List ThemeAtom) → AllByRecursion IsNormalTheme atoms → IsFree s atoms → (s.sort ≡ Text → texts q s ≡ zeros n) → sizes atoms p < n → conj_holds theme_holds (kept s atoms) p ≡ true → conj_holds theme_holds atoms q ≡ true
  unfolding sizes
  kept_exact n [] m f z l h = refl
  kept_exact n (a ∷ atoms) m f z l h = by (theme_mentions a s) refl h (kept_exact n atoms m.1 f.1 z (omega (arith, l)))
    where
      by : (b : Bool) → theme_mentions a s ≡ b → conj_holds theme_holds (cond b (kept s atoms) (a ∷ kept s atoms)) p ≡ true
          → (conj_holds theme_holds (kept s atoms) p ≡ true → conj_holds theme_holds atoms q ≡ true) → conj_holds theme_holds (a ∷ atoms) q ≡ true
      by true e k rest = and_from (theme_holds a q) _ (far-atom s p q x n a m.0 z (omega (arith, l)) (f.0 e) e) (rest k)
      by false e k rest = and_from (theme_holds a q) _ (sym (same_without s p q x a e) ∙ and_left (theme_holds a p) _ k) (rest (and_right (theme_holds a p) _ k))

pub free_exact : (s : Slot) (atoms : List ThemeAtom) (p : Point) → AllByRecursion IsNormalTheme atoms → IsFree s atoms → IsTrue (conj_holds theme_holds (kept s atoms) p) ↔ SomeExtension s (conj_holds theme_holds atoms) p
free_exact s atoms p m f = (there, λ y. kept_sound s p y.0 y.1 atoms y.2)
  where
    there : IsTrue (conj_holds theme_holds (kept s atoms) p) → SomeExtension s (conj_holds theme_holds atoms) p
    there h =
        let n = suc (sizes atoms p) in
        let y = extended_far s p n in
        (y.0, y.1, kept_exact s p y.0 y.1 n atoms m f y.2 (omega arith) h)

-- what is kept is normal
pub kept_normal : (s : Slot) (atoms : List ThemeAtom) → AllByRecursion IsNormalTheme atoms → AllByRecursion IsNormalTheme (kept s atoms)
kept_normal s [] m = tt
kept_normal s (a ∷ atoms) m = by (theme_mentions a s) (kept_normal s atoms m.1)
  where
    by : (b : Bool) → AllByRecursion IsNormalTheme (kept s atoms) → AllByRecursion IsNormalTheme (cond b (kept s atoms) (a ∷ kept s atoms))
    by true k = k
    by false k = (m.0, k)

-- and doesn't mention the slot
pub kept_slots : (s : Slot) (atoms : List ThemeAtom) (t : Slot) → conj_mentions theme_mentions (kept s atoms) t ≡ true → (same_slot t s ≡ false) × (conj_mentions theme_mentions atoms t ≡ true)
kept_slots s [] t h = absurd (true≢false (sym h))
kept_slots s (a ∷ atoms) t h = by (theme_mentions a s) refl h (kept_slots s atoms t)
  where
    by : (b : Bool) → theme_mentions a s ≡ b → conj_mentions theme_mentions (cond b (kept s atoms) (a ∷ kept s atoms)) t ≡ true
        → (conj_mentions theme_mentions (kept s atoms) t ≡ true → (same_slot t s ≡ false) × (conj_mentions theme_mentions atoms t ≡ true))
        → (same_slot t s ≡ false) × (conj_mentions theme_mentions (a ∷ atoms) t ≡ true)
    by true e k rest = let y = rest k in (y.0, or_right (theme_mentions a t) _ y.1)
    by false e k rest = elim (or_cases _ _ k) [
      | inl z ↦ (false_from_ne_true (same_slot t s) (λ g. true≢false (sym z ∙ ap (theme_mentions a) (same_slot_is t s g) ∙ e)), or_left _ _ z)
      | inr z ↦ let y = rest z in (y.0, or_right (theme_mentions a t) _ y.1)
    ]
