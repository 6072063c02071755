-- Renamed and turned atoms, and that text atoms have no lines.
use Rattle.std.proofs.Common.{◌≡◌, ◌<◌, inl, inr, Bool, true, false, not, List, [], ◌∷◌, refl, sym, ap, ◌∙◌, subst}
use Rattle.ded_model.specs.declared.slot.Slot.{Slot}
use Rattle.ded_model.specs.declared.slot.Sort.TheVariants.{Text}
use Rattle.ded_model.specs.declared.tuple.ThemeAtom.{ThemeAtom}
use Rattle.ded_model.specs.declared.tuple.ThemeAtom.TheVariants.{EqText, NeText, EqSlot, NeSlot}
use Rattle.ded_model.specs.Point.{slot, Point}
use Rattle.ded_model.specs.Row.{theme_holds, theme_mentions}
use Rattle.ded_model.specs.Normal.{IsNormalTheme}
use Rattle.ded_model.specs.Lines.{Line, In, IsSubset}
use Rattle.ded_model.specs.Renaming.{renamed, IsOneToOne, KeepsSorts, HaveOneValue, IsRenamedPoint}
use Rattle.ded_model.proofs.Points.{same_slot_is, same_slot_refl}
use Rattle.ded_theory.specs.Conjunctions.{conj_lines}
use Rattle.ded_theme.specs.Sources.{at, quoted, is_at, texts, left, right}
use Rattle.ded_theme.specs.Replacing.{slots_atom}
use Rattle.ded_theme.specs.Turning.{renamed_atom, turned_atom}
use Rattle.std.proofs.Math.Bool.{not-not}
use Rattle.std.proofs.lemmas.Bool.{or_cases}
use Rattle.ded_theme.proofs.Comparing.{theme_holds-is, compares-by, text_atom-holds, text_atom-normal, text_atom-sources, slots_atom-holds, slots_atom-normal, slots_atom-mentions}
use Rattle.ded_theme.proofs.Pinning.{mentions_left, mentions_right, two_numbers}

-- ---- lines

-- text atoms have none
no_lines : {A : Type 0} (atoms : List A) → conj_lines (λ _. []) atoms ≡ []
no_lines [] = refl
no_lines (a ∷ atoms) = no_lines atoms

pub lines-within : {A : Type 0} (atoms : List A) (ls : List Line) → IsSubset (conj_lines (λ _. []) atoms) ls
lines-within atoms ls l h = let k : In l [] = subst (In l) (no_lines atoms) h in absurd k

-- ---- turned atoms

pub turned-holds : (a : ThemeAtom) (p : Point) → theme_holds (turned_atom a) p ≡ not (theme_holds a p)
unfolding theme_holds
turned-holds (EqText s t) p = refl
turned-holds (NeText s t) p = sym (not-not _)
turned-holds (EqSlot s t) p = refl
turned-holds (NeSlot s t) p = sym (not-not _)

pub turned-normal : (a : ThemeAtom) → IsNormalTheme a → IsNormalTheme (turned_atom a)
turned-normal (EqText s t) n = n
turned-normal (NeText s t) n = n
turned-normal (EqSlot s t) n = n
turned-normal (NeSlot s t) n = n

pub turned-mentions : (a : ThemeAtom) (s : Slot) → theme_mentions (turned_atom a) s ≡ theme_mentions a s
unfolding theme_mentions
turned-mentions (EqText s t) u = refl
turned-mentions (NeText s t) u = refl
turned-mentions (EqSlot s t) u = refl
turned-mentions (NeSlot s t) u = refl

-- ---- renamed atoms

-- the text of a slot that the atom mentions, at its new slot
new_text : (map : List (Slot × Slot)) (test : Slot → Bool) (p q : Point) (s : Slot) → IsRenamedPoint map test p q → s.sort ≡ Text → test s ≡ true → texts q (renamed map s) ≡ texts p s
new_text map test p q s r e m = subst (λ z. HaveOneValue z p (slot s) q (slot (renamed map s))) e (r.value s m)

first_mentioned : (a : ThemeAtom) (s : Slot) → left a ≡ at s → theme_mentions a s ≡ true
first_mentioned a s e = mentions_left a s (ap (is_at s) e ∙ same_slot_refl s)

second_mentioned : (a : ThemeAtom) (s : Slot) → right a ≡ at s → theme_mentions a s ≡ true
second_mentioned a s e = mentions_right a s (ap (is_at s) e ∙ same_slot_refl s)

pub renamed-holds : (map : List (Slot × Slot)) (a : ThemeAtom) (p q : Point) → IsNormalTheme a → IsRenamedPoint map (theme_mentions a) p q → theme_holds (renamed_atom map a) q ≡ theme_holds a p
renamed-holds map (EqText s t) p q n r =
    text_atom-holds true (renamed map s) t q
    ∙ compares-by true (at (renamed map s)) (quoted t) (at s) (quoted t) (texts q) (texts p) (new_text map (theme_mentions (EqText s t)) p q s r n.0 (first_mentioned (EqText s t) s refl)) refl
    ∙ sym (theme_holds-is (EqText s t) p)
renamed-holds map (NeText s t) p q n r =
    text_atom-holds false (renamed map s) t q
    ∙ compares-by false (at (renamed map s)) (quoted t) (at s) (quoted t) (texts q) (texts p) (new_text map (theme_mentions (NeText s t)) p q s r n.0 (first_mentioned (NeText s t) s refl)) refl
    ∙ sym (theme_holds-is (NeText s t) p)
renamed-holds map (EqSlot s t) p q n r =
    slots_atom-holds true (renamed map s) (renamed map t) q
    ∙ compares-by true (at (renamed map s)) (at (renamed map t)) (at s) (at t) (texts q) (texts p)
    (new_text map (theme_mentions (EqSlot s t)) p q s r n.0 (first_mentioned (EqSlot s t) s refl)) (new_text map (theme_mentions (EqSlot s t)) p q t r n.1 (second_mentioned (EqSlot s t) t refl))
    ∙ sym (theme_holds-is (EqSlot s t) p)
renamed-holds map (NeSlot s t) p q n r =
    slots_atom-holds false (renamed map s) (renamed map t) q
    ∙ compares-by false (at (renamed map s)) (at (renamed map t)) (at s) (at t) (texts q) (texts p)
    (new_text map (theme_mentions (NeSlot s t)) p q s r n.0 (first_mentioned (NeSlot s t) s refl)) (new_text map (theme_mentions (NeSlot s t)) p q t r n.1 (second_mentioned (NeSlot s t) t refl))
    ∙ sym (theme_holds-is (NeSlot s t) p)

-- two slots stay two
apart : (map : List (Slot × Slot)) (a : ThemeAtom) (s t : Slot) → IsOneToOne map (theme_mentions a) → theme_mentions a s ≡ true → theme_mentions a t ≡ true → s.number < t.number → renamed map s ≡ renamed map t → ⊥
apart map a s t one m k l e = two_numbers s t t l (one.apart s t m k e) refl

pub renamed-normal : (map : List (Slot × Slot)) (a : ThemeAtom) → IsNormalTheme a → IsOneToOne map (theme_mentions a) → KeepsSorts map (theme_mentions a) → IsNormalTheme (renamed_atom map a)
renamed-normal map (EqText s t) n one keeps = text_atom-normal true (renamed map s) t (keeps.sort s (first_mentioned (EqText s t) s refl) ∙ n.0) n.1
renamed-normal map (NeText s t) n one keeps = text_atom-normal false (renamed map s) t (keeps.sort s (first_mentioned (NeText s t) s refl) ∙ n.0) n.1
renamed-normal map (EqSlot s t) n one keeps =
    let i = first_mentioned (EqSlot s t) s refl in
    let j = second_mentioned (EqSlot s t) t refl in
    slots_atom-normal true (renamed map s) (renamed map t) (keeps.sort s i ∙ n.0) (keeps.sort t j ∙ n.1) (apart map (EqSlot s t) s t one i j n.2)
renamed-normal map (NeSlot s t) n one keeps =
    let i = first_mentioned (NeSlot s t) s refl in
    let j = second_mentioned (NeSlot s t) t refl in
    slots_atom-normal false (renamed map s) (renamed map t) (keeps.sort s i ∙ n.0) (keeps.sort t j ∙ n.1) (apart map (NeSlot s t) s t one i j n.2)

-- each new slot is one of the old ones renamed
abbrev pub IsFromOld : List (Slot × Slot) → ThemeAtom → Slot → Type 0
IsFromOld map a t = (s : Slot) × (theme_mentions a s ≡ true) × (renamed map s ≡ t)

from_slots : (map : List (Slot × Slot)) (a : ThemeAtom) (e : Bool) (s t u : Slot) → theme_mentions a s ≡ true → theme_mentions a t ≡ true
    → theme_mentions (slots_atom e (renamed map s) (renamed map t)) u ≡ true → IsFromOld map a u
from_slots map a e s t u i j h = elim (or_cases _ _ (sym (slots_atom-mentions e (renamed map s) (renamed map t) u) ∙ h)) [
  | inl k ↦ (s, i, same_slot_is (renamed map s) u k)
  | inr k ↦ (t, j, same_slot_is (renamed map t) u k)
]

pub renamed-slots : (map : List (Slot × Slot)) (a : ThemeAtom) (u : Slot) → theme_mentions (renamed_atom map a) u ≡ true → IsFromOld map a u
renamed-slots map (EqText s t) u h = (s, first_mentioned (EqText s t) s refl, same_slot_is (renamed map s) u (text_atom-sources true (renamed map s) t _ u refl h))
renamed-slots map (NeText s t) u h = (s, first_mentioned (NeText s t) s refl, same_slot_is (renamed map s) u (text_atom-sources false (renamed map s) t _ u refl h))
renamed-slots map (EqSlot s t) u h = from_slots map (EqSlot s t) true s t u (first_mentioned (EqSlot s t) s refl) (second_mentioned (EqSlot s t) t refl) h
renamed-slots map (NeSlot s t) u h = from_slots map (NeSlot s t) false s t u (first_mentioned (NeSlot s t) s refl) (second_mentioned (NeSlot s t) t refl) h
