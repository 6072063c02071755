-- Text atoms as comparisons: when they hold and what they mention, and the atoms that are made of comparisons.
use Rattle.std.proofs.Common.{◌≡◌, ℕ, ◌<◌, ◌||◌, Bool, true, false, not, cond, List, arith, refl, sym, ap, ap₂, ◌∙◌, true≢false, bytes_eq}
use Rattle.std.specs.Prelude.{nat_lt, if◌then◌else◌}
use Rattle.std.proofs.Math.Bool.{or-false, or_comm}
use Rattle.std.proofs.lemmas.Bool.Decides.{nat_tests}
use Rattle.ded_num.proofs.Tests.{from_same_texts, bytes_eq-of, bytes_eq-swap}
use Rattle.ded_model.specs.declared.slot.Slot.{Slot}
use Rattle.ded_model.specs.declared.slot.Sort.TheVariants.{Text}
use Rattle.ded_model.specs.declared.tuple.ThemeAtom.{ThemeAtom}
use Rattle.ded_model.specs.declared.tuple.ThemeAtom.TheVariants.{EqText, NeText, EqSlot, NeSlot}
use Rattle.ded_model.specs.Point.{Point, AllBytes, same_slot}
use Rattle.ded_model.specs.Row.{theme_holds, theme_mentions}
use Rattle.ded_model.specs.Normal.{IsNormalTheme}
use Rattle.ded_model.proofs.Points.{same_slot_is, same_slot_refl}
use Rattle.ded_model.proofs.CoefLemmas.{is_lesser}
use Rattle.ded_model.proofs.SlotLists.{slot_same_parts}
use Rattle.ded_theme.specs.declared.substitution.Made.TheVariants.{Always, Never, Atom}
use Rattle.ded_theme.specs.Sources.{Source, at, quoted, is_at, text_of, texts, left, right, is_equality, compares, IsNormalSource}
use Rattle.ded_theme.specs.Replacing.{text_atom, slots_atom, made_holds, made_mentions, IsNormalMade}

-- ---- atoms as comparisons

-- an atom holds where its comparison does
pub theme_holds-is : (a : ThemeAtom) (p : Point) → theme_holds a p ≡ compares (is_equality a) (left a) (right a) (texts p)
unfolding theme_holds
theme_holds-is (EqText s t) p = refl
theme_holds-is (NeText s t) p = refl
theme_holds-is (EqSlot s t) p = refl
theme_holds-is (NeSlot s t) p = refl

-- it mentions its sources
pub theme_mentions-is : (a : ThemeAtom) (s : Slot) → theme_mentions a s ≡ (is_at s (left a) || is_at s (right a))
unfolding theme_mentions
theme_mentions-is (EqText s t) u = sym (or-false (same_slot s u))
theme_mentions-is (NeText s t) u = sym (or-false (same_slot s u))
theme_mentions-is (EqSlot s t) u = refl
theme_mentions-is (NeSlot s t) u = refl

-- the sources of a normal atom are normal
pub left_normal : (a : ThemeAtom) → IsNormalTheme a → IsNormalSource (left a)
left_normal (EqText s t) n = n.0
left_normal (NeText s t) n = n.0
left_normal (EqSlot s t) n = n.0
left_normal (NeSlot s t) n = n.0

pub right_normal : (a : ThemeAtom) → IsNormalTheme a → IsNormalSource (right a)
right_normal (EqText s t) n = n.1
right_normal (NeText s t) n = n.1
right_normal (EqSlot s t) n = n.1
right_normal (NeSlot s t) n = n.1

-- ---- comparisons

-- texts that aren't equal are found to differ
pub other_texts : (s t : List ℕ) → (s ≡ t → ⊥) → bytes_eq s t ≡ false
other_texts s t n = by (bytes_eq s t) refl
  where
    by : (b : Bool) → bytes_eq s t ≡ b → bytes_eq s t ≡ false
    by true e = absurd (n (from_same_texts s t e))
    by false e = e

pub compares-swap : (e : Bool) (v w : Source) (f : Slot → List ℕ) → compares e v w f ≡ compares e w v f
compares-swap true v w f = bytes_eq-swap (text_of v f) (text_of w f)
compares-swap false v w f = ap not (bytes_eq-swap (text_of v f) (text_of w f))

-- a comparison of equal texts
pub compares-same : (e : Bool) (v w : Source) (f : Slot → List ℕ) → text_of v f ≡ text_of w f → compares e v w f ≡ e
compares-same true v w f h = bytes_eq-of (text_of v f) (text_of w f) h
compares-same false v w f h = ap not (bytes_eq-of (text_of v f) (text_of w f) h)

-- a comparison of texts that differ
pub compares-other : (e : Bool) (v w : Source) (f : Slot → List ℕ) → (text_of v f ≡ text_of w f → ⊥) → compares e v w f ≡ not e
compares-other true v w f h = other_texts (text_of v f) (text_of w f) h
compares-other false v w f h = ap not (other_texts (text_of v f) (text_of w f) h)

-- an equality that holds
pub compares-equal : (v w : Source) (f : Slot → List ℕ) → compares true v w f ≡ true → text_of v f ≡ text_of w f
compares-equal v w f h = from_same_texts (text_of v f) (text_of w f) h

-- a comparison goes by the texts of its sources
pub compares-by : (e : Bool) (v w x y : Source) (f g : Slot → List ℕ) → text_of v f ≡ text_of x g → text_of w f ≡ text_of y g → compares e v w f ≡ compares e x y g
compares-by true v w x y f g h k = ap₂ bytes_eq h k
compares-by false v w x y f g h k = ap not (ap₂ bytes_eq h k)

-- ---- atoms made of comparisons

-- an atom of a slot and a text
pub text_atom-holds : (e : Bool) (s : Slot) (t : List ℕ) (p : Point) → theme_holds (text_atom e s t) p ≡ compares e (at s) (quoted t) (texts p)
unfolding theme_holds
text_atom-holds true s t p = refl
text_atom-holds false s t p = refl

pub text_atom-normal : (e : Bool) (s : Slot) (t : List ℕ) → s.sort ≡ Text → AllBytes t → IsNormalTheme (text_atom e s t)
text_atom-normal true s t h k = (h, k)
text_atom-normal false s t h k = (h, k)

pub text_atom-mentions : (e : Bool) (s : Slot) (t : List ℕ) (u : Slot) → theme_mentions (text_atom e s t) u ≡ same_slot s u
unfolding theme_mentions
text_atom-mentions true s t u = refl
text_atom-mentions false s t u = refl

pub text_atom-sources : (e : Bool) (s : Slot) (t : List ℕ) (a : ThemeAtom) (u : Slot) → a ≡ text_atom e s t → theme_mentions a u ≡ true → same_slot s u ≡ true
text_atom-sources e s t a u h m = sym (ap (λ b. theme_mentions b u) h ∙ text_atom-mentions e s t u) ∙ m

-- an atom of two slots, in either order
pub slots_atom-holds : (e : Bool) (s t : Slot) (p : Point) → theme_holds (slots_atom e s t) p ≡ compares e (at s) (at t) (texts p)
unfolding theme_holds
slots_atom-holds e s t p = by e (nat_lt s.number t.number) refl
  where
    by : (e b : Bool) → nat_lt s.number t.number ≡ b → theme_holds (slots_atom e s t) p ≡ compares e (at s) (at t) (texts p)
    by true true h = rw h refl
    by false true h = rw h refl
    by true false h = rw h (bytes_eq-swap (texts p t) (texts p s))
    by false false h = rw h (ap not (bytes_eq-swap (texts p t) (texts p s)))

above : (m n : ℕ) → nat_lt m n ≡ false → (m ≡ n → ⊥) → n < m
above m n h k = grind (arith, nat_tests, h, k)

-- two text slots that differ have two numbers
pub numbers_differ : (s t : Slot) → s.sort ≡ Text → t.sort ≡ Text → (s ≡ t → ⊥) → s.number ≡ t.number → ⊥
numbers_differ s t h k n e = n (slot_same_parts s t e (h ∙ sym k))

pub slots_atom-normal : (e : Bool) (s t : Slot) → s.sort ≡ Text → t.sort ≡ Text → (s ≡ t → ⊥) → IsNormalTheme (slots_atom e s t)
slots_atom-normal e s t h k n = by e (nat_lt s.number t.number) refl
  where
    by : (e b : Bool) → nat_lt s.number t.number ≡ b → IsNormalTheme (slots_atom e s t)
    by true true l = rw l (h, k, is_lesser s.number t.number l)
    by false true l = rw l (h, k, is_lesser s.number t.number l)
    by true false l = rw l (k, h, above s.number t.number l (numbers_differ s t h k n))
    by false false l = rw l (k, h, above s.number t.number l (numbers_differ s t h k n))

pub slots_atom-mentions : (e : Bool) (s t u : Slot) → theme_mentions (slots_atom e s t) u ≡ (same_slot s u || same_slot t u)
unfolding theme_mentions
slots_atom-mentions e s t u = by e (nat_lt s.number t.number) refl
  where
    by : (e b : Bool) → nat_lt s.number t.number ≡ b → theme_mentions (slots_atom e s t) u ≡ (same_slot s u || same_slot t u)
    by true true l = rw l refl
    by false true l = rw l refl
    by true false l = rw l (or_comm (same_slot t u) (same_slot s u))
    by false false l = rw l (or_comm (same_slot t u) (same_slot s u))

-- ---- what comparisons come to

pub decided-holds : (e : Bool) (p : Point) → made_holds (if e then Always else Never) p ≡ e
decided-holds true p = refl
decided-holds false p = refl

pub decided-normal : (e : Bool) → IsNormalMade (if e then Always else Never)
decided-normal true = tt
decided-normal false = tt

pub decided-mentions : (e : Bool) (t : Slot) → made_mentions (if e then Always else Never) t ≡ false
decided-mentions true t = refl
decided-mentions false t = refl

-- two slots compared
module _ (e : Bool) (s t : Slot) where
  pub slots_made-holds : (p : Point) → made_holds (if same_slot s t then (if e then Always else Never) else Atom (slots_atom e s t)) p ≡ compares e (at s) (at t) (texts p)
  slots_made-holds p = by (same_slot s t) refl
    where
      by : (b : Bool) → same_slot s t ≡ b → made_holds (cond b (if e then Always else Never) (Atom (slots_atom e s t))) p ≡ compares e (at s) (at t) (texts p)
      by true h = decided-holds e p ∙ sym (compares-same e (at s) (at t) (texts p) (ap (texts p) (same_slot_is s t h)))
      by false h = slots_atom-holds e s t p

  pub slots_made-normal : s.sort ≡ Text → t.sort ≡ Text → IsNormalMade (if same_slot s t then (if e then Always else Never) else Atom (slots_atom e s t))
  slots_made-normal h k = by (same_slot s t) refl
    where
      by : (b : Bool) → same_slot s t ≡ b → IsNormalMade (cond b (if e then Always else Never) (Atom (slots_atom e s t)))
      by true l = decided-normal e
      by false l = slots_atom-normal e s t h k (λ z. true≢false (sym (same_slot_refl t) ∙ ap (λ x. same_slot x t) (sym z) ∙ l))

  pub slots_made-mentions : (u : Slot) → made_mentions (if same_slot s t then (if e then Always else Never) else Atom (slots_atom e s t)) u ≡ true → (same_slot s u || same_slot t u) ≡ true
  slots_made-mentions u = by (same_slot s t)
    where
      by : (b : Bool) → made_mentions (cond b (if e then Always else Never) (Atom (slots_atom e s t))) u ≡ true → (same_slot s u || same_slot t u) ≡ true
      by true h = absurd (true≢false (sym h ∙ decided-mentions e u))
      by false h = sym (slots_atom-mentions e s t u) ∙ h
