-- A point that satisfies a conjunction, from its rules: each class without a text of its own gets zeros, more of them than
-- any quoted text has bytes, and for two slots not as many.
use Rattle.std.proofs.Common.{◌≡◌, ℕ, suc, ◌+◌, ◌*◌, ◌≤◌, Bool, true, false, not, cond, inl, inr, List, [], ◌∷◌, ◌++◌, length, arith, refl, sym, ap, ◌∙◌, true≢false}
use Rattle.std.specs.Prelude.{if◌then◌else◌}
use Rattle.std.specs.List.{AllByRecursion}
use Rattle.ded_model.specs.declared.slot.Slot.{Slot}
use Rattle.ded_model.specs.declared.slot.Sort.{Sort}
use Rattle.ded_model.specs.declared.slot.Sort.TheVariants.{Rat, Text}
use Rattle.ded_model.specs.declared.tuple.ThemeAtom.{ThemeAtom}
use Rattle.ded_model.specs.Point.{Key, slot, Value, text, Point, IsPoint, AllBytes, AreValues, same_slot, stands_in, absent, last_from, as_text, text_at}
use Rattle.ded_model.specs.Row.{theme_holds}
use Rattle.ded_model.specs.Normal.{IsNormalTheme}
use Rattle.ded_model.specs.Cell.{conj_holds, HoldsSomewhere}
use Rattle.ded_model.proofs.Points.{same_slot_is, same_slot_refl}
use Rattle.ded_model.proofs.Texts.{zeros, zeros-bytes, zeros-length}
use Rattle.ded_theme.specs.Sources.{Source, at, quoted, text_of, texts, left, right, is_equality, compares, IsNormalSource}
use Rattle.ded_theme.specs.Classes.{class_of, IsShortSource, AreShortSources, AreRulesOf, AreSplit}
use Rattle.ded_model.proofs.Rows.{or_left, or_right}
use Rattle.std.proofs.lemmas.Bool.{or_cases}
use Rattle.ded_model.proofs.SlotLists.{slot_same_parts}
use Rattle.ded_theme.proofs.Lists.{all_both, test_from_all}
use Rattle.ded_theme.proofs.Comparing.{theme_holds-is, left_normal, right_normal, compares-same, compares-other, compares-by}
use Rattle.ded_theme.proofs.Ruling.{class_short, class_quoted}

-- ---- a number for each slot

sort_number : Sort → ℕ
sort_number Rat = 0
sort_number Text = 1

slot_number : Slot → ℕ
slot_number s = 2 * s.number + sort_number s.sort

parts_equal : (m n : ℕ) (x y : Sort) → 2 * m + sort_number x ≡ 2 * n + sort_number y → (m ≡ n) × (x ≡ y)
unfolding sort_number
parts_equal m n Rat Rat e = (omega (arith, e), refl)
parts_equal m n Rat Text e = absurd (omega (arith, e))
parts_equal m n Text Rat e = absurd (omega (arith, e))
parts_equal m n Text Text e = (omega (arith, e), refl)

slot_equal : (s t : Slot) → slot_number s ≡ slot_number t → s ≡ t
unfolding slot_number
slot_equal s t e = let h = parts_equal s.number t.number s.sort t.sort e in slot_same_parts s t h.0 h.1

-- ---- a text for each class

filled : ℕ → Source → List ℕ
filled n (at s) = zeros (suc (n + slot_number s))
filled n (quoted t) = t

filled-bytes : (n : ℕ) (w : Source) → IsShortSource n w → AllBytes (filled n w)
unfolding filled
filled-bytes n (at s) h = zeros-bytes (suc (n + slot_number s))
filled-bytes n (quoted t) h = h.0

too_long : (n : ℕ) (s : Slot) (t : List ℕ) → length t ≤ n → t ≡ zeros (suc (n + slot_number s)) → ⊥
too_long n s t h e = let k : length t ≡ suc (n + slot_number s) = ap length e ∙ zeros-length (suc (n + slot_number s)) in absurd (omega arith)

-- two classes get two texts
filled-apart : (n : ℕ) (v w : Source) → IsShortSource n v → IsShortSource n w → filled n v ≡ filled n w → v ≡ w
unfolding filled
filled-apart n (at s) (at t) h k e =
    let l : suc (n + slot_number s) ≡ suc (n + slot_number t) = sym (zeros-length (suc (n + slot_number s))) ∙ ap length e ∙ zeros-length (suc (n + slot_number t)) in
    ap at (slot_equal s t (omega arith))
filled-apart n (at s) (quoted t) h k e = absurd (too_long n s t k.1 (sym e))
filled-apart n (quoted t) (at s) h k e = absurd (too_long n s t h.1 e)
filled-apart n (quoted t) (quoted u) h k e = ap quoted e

-- the texts of the slots
abbrev values : ℕ → List (Slot × Source) → Slot → List ℕ
values n rs s = filled n (class_of rs (at s))

values-text : (n : ℕ) (rs : List (Slot × Source)) (w : Source) → text_of w (values n rs) ≡ filled n (class_of rs w)
unfolding filled
values-text n rs (at s) = refl
values-text n rs (quoted t) = sym (ap (filled n) (class_quoted rs t))

-- an atom holds of them
values-atom : (n : ℕ) (rs : List (Slot × Source)) (a : ThemeAtom) → AreShortSources n rs → IsShortSource n (left a) × IsShortSource n (right a)
    → (is_equality a ≡ true → class_of rs (left a) ≡ class_of rs (right a)) → (is_equality a ≡ false → class_of rs (left a) ≡ class_of rs (right a) → ⊥)
    → compares (is_equality a) (left a) (right a) (values n rs) ≡ true
values-atom n rs a h k j d = by (is_equality a) refl
  where
    by : (b : Bool) → is_equality a ≡ b → compares (is_equality a) (left a) (right a) (values n rs) ≡ true
    by true e = compares-same (is_equality a) (left a) (right a) (values n rs) (values-text n rs (left a) ∙ ap (filled n) (j e) ∙ sym (values-text n rs (right a))) ∙ e
    by false e = compares-other (is_equality a) (left a) (right a) (values n rs)
        (λ f. d e (filled-apart n (class_of rs (left a)) (class_of rs (right a)) (class_short n rs (left a) h k.0) (class_short n rs (right a) h k.1)
        (sym (values-text n rs (left a)) ∙ f ∙ values-text n rs (right a)))) ∙ ap not e

-- ---- a point with given texts

coordinates : (Slot → List ℕ) → List Slot → List (Key × Value)
coordinates f [] = []
coordinates f (s ∷ ss) = (slot s, text (f s)) ∷ coordinates f ss

coordinates-bytes : (f : Slot → List ℕ) (ss : List Slot) → ((s : Slot) → AllBytes (f s)) → AreValues (coordinates f ss)
unfolding coordinates
coordinates-bytes f [] h = tt
coordinates-bytes f (s ∷ ss) h = (h s, coordinates-bytes f ss h)

chosen : (f : Slot → List ℕ) (s t : Slot) (v : Value) (b : Bool) → same_slot s t ≡ b → v ≡ text (f s) → cond b (text (f t)) v ≡ text (f s)
chosen f s t v true e h = ap (λ u. text (f u)) (sym (same_slot_is s t e))
chosen f s t v false e h = h

-- what is there stays
last_stays : (f : Slot → List ℕ) (ss : List Slot) (s : Slot) (v : Value) → v ≡ text (f s) → last_from v (coordinates f ss) (slot s) ≡ text (f s)
unfolding coordinates
last_stays f [] s v h = h
last_stays f (t ∷ ss) s v h = last_stays f ss s (if same_slot s t then text (f t) else v) (chosen f s t v (same_slot s t) refl h)

-- each slot of the list has its text
last_found : (f : Slot → List ℕ) (ss : List Slot) (s : Slot) (v : Value) → stands_in ss s ≡ true → last_from v (coordinates f ss) (slot s) ≡ text (f s)
unfolding coordinates
last_found f [] s v h = absurd (true≢false (sym h))
last_found f (t ∷ ss) s v h = elim (or_cases (same_slot t s) _ h) [
  | inl e ↦ last_stays f ss s (if same_slot s t then text (f t) else v) (here (same_slot_is t s e))
  | inr k ↦ last_found f ss s (if same_slot s t then text (f t) else v) k
]
  where
    here : t ≡ s → cond (same_slot s t) (text (f t)) v ≡ text (f s)
    here e = ap (λ b. cond b (text (f t)) v) (ap (same_slot s) e ∙ same_slot_refl s) ∙ ap (λ u. text (f u)) e

point_with : (Slot → List ℕ) → List Slot → Point
point_with f ss = record { den = 1; coords = coordinates f ss }

point_with_is : (f : Slot → List ℕ) (ss : List Slot) → ((s : Slot) → AllBytes (f s)) → IsPoint (point_with f ss)
unfolding point_with
point_with_is f ss h = record { positive = omega arith; bytes = coordinates-bytes f ss h }

point_with-text : (f : Slot → List ℕ) (ss : List Slot) (s : Slot) → stands_in ss s ≡ true → texts (point_with f ss) s ≡ f s
unfolding point_with text_at
point_with-text f ss s h = ap as_text (last_found f ss s absent h)

-- ---- the slots of the atoms

source_slots : Source → List Slot
source_slots (at s) = s ∷ []
source_slots (quoted t) = []

all_slots : List ThemeAtom → List Slot
all_slots [] = []
all_slots (a ∷ atoms) = source_slots (left a) ++ (source_slots (right a) ++ all_slots atoms)

in_left : (ss ts : List Slot) (s : Slot) → stands_in ss s ≡ true → stands_in (ss ++ ts) s ≡ true
in_left [] ts s h = absurd (true≢false (sym h))
in_left (t ∷ ss) ts s h = elim (or_cases (same_slot t s) _ h) [ inl e ↦ or_left _ _ e | inr k ↦ or_right (same_slot t s) _ (in_left ss ts s k) ]

in_right : (ss ts : List Slot) (s : Slot) → stands_in ts s ≡ true → stands_in (ss ++ ts) s ≡ true
in_right [] ts s h = h
in_right (t ∷ ss) ts s h = or_right (same_slot t s) _ (in_right ss ts s h)

-- the texts of a point agree with others on a source
Agrees : Point → (Slot → List ℕ) → Source → Type 0
Agrees p f v = text_of v (texts p) ≡ text_of v f

agrees : (p : Point) (f : Slot → List ℕ) (v : Source) → ((s : Slot) → stands_in (source_slots v) s ≡ true → texts p s ≡ f s) → Agrees p f v
unfolding source_slots Agrees
agrees p f (at s) h = h s (or_left _ _ (same_slot_refl s))
agrees p f (quoted t) h = refl

agree_all : (p : Point) (f : Slot → List ℕ) (atoms : List ThemeAtom) → ((s : Slot) → stands_in (all_slots atoms) s ≡ true → texts p s ≡ f s)
    → AllByRecursion (λ a. Agrees p f (left a) × Agrees p f (right a)) atoms
unfolding all_slots
agree_all p f [] h = tt
agree_all p f (a ∷ atoms) h =
    let ls = source_slots (left a) in
    let rs = source_slots (right a) in
    let ts = all_slots atoms in (
      (
        agrees p f (left a) (λ s k. h s (in_left ls (rs ++ ts) s k)),
        agrees p f (right a) (λ s k. h s (in_right ls (rs ++ ts) s (in_left rs ts s k))),
      ),
      agree_all p f atoms (λ s k. h s (in_right ls (rs ++ ts) s (in_right rs ts s k))),
    )

-- ---- lengths

source_size : Source → ℕ
source_size (at s) = 0
source_size (quoted t) = length t

total_size : List ThemeAtom → ℕ
total_size [] = 0
total_size (a ∷ atoms) = source_size (left a) + source_size (right a) + total_size atoms

short_source : (n : ℕ) (v : Source) → IsNormalSource v → source_size v ≤ n → IsShortSource n v
unfolding source_size
short_source n (at s) h l = tt
short_source n (quoted t) h l = (h, l)

short_atoms : (n : ℕ) (atoms : List ThemeAtom) → AllByRecursion IsNormalTheme atoms → total_size atoms ≤ n → AllByRecursion (λ a. IsShortSource n (left a) × IsShortSource n (right a)) atoms
unfolding total_size
short_atoms n [] m l = tt
short_atoms n (a ∷ atoms) m l = (
  (short_source n (left a) (left_normal a m.0) (omega (arith, l)), short_source n (right a) (right_normal a m.0) (omega (arith, l))),
  short_atoms n atoms m.1 (omega (arith, l)),
)

-- ---- a point that satisfies all

pub somewhere : (atoms : List ThemeAtom) (rs : List (Slot × Source)) → AllByRecursion IsNormalTheme atoms → AreRulesOf atoms rs → AreSplit rs atoms → HoldsSomewhere (conj_holds theme_holds atoms)
unfolding Agrees
somewhere atoms rs m h d =
    let n = total_size atoms in
    let short = short_atoms n atoms m (omega arith) in
    let f = values n rs in
    let p = point_with f (all_slots atoms) in
    let bytes = λ (s : Slot). filled-bytes n (class_of rs (at s)) (class_short n rs (at s) (h.short n short) tt) in
    let held = all_both (λ a. is_equality a ≡ true → class_of rs (left a) ≡ class_of rs (right a)) (λ a. is_equality a ≡ false → class_of rs (left a) ≡ class_of rs (right a) → ⊥)
    (λ a. IsShortSource n (left a) × IsShortSource n (right a) → compares (is_equality a) (left a) (right a) f ≡ true) atoms
    (λ a j e k. values-atom n rs a (h.short n short) k j e) h.joined d in
    let true_of_values = all_both (λ a. IsShortSource n (left a) × IsShortSource n (right a) → compares (is_equality a) (left a) (right a) f ≡ true) (λ a. IsShortSource n (left a) × IsShortSource n (right a))
    (λ a. compares (is_equality a) (left a) (right a) f ≡ true) atoms (λ a j k. j k) held short in (
      p,
      point_with_is f (all_slots atoms) bytes,
      test_from_all (λ a. theme_holds a p) atoms
          (all_both (λ a. compares (is_equality a) (left a) (right a) f ≡ true) (λ a. Agrees p f (left a) × Agrees p f (right a)) (λ a. theme_holds a p ≡ true) atoms
          (λ a e k. theme_holds-is a p ∙ compares-by (is_equality a) (left a) (right a) (left a) (right a) (texts p) f k.0 k.1 ∙ e)
          true_of_values (agree_all p f atoms (point_with-text f (all_slots atoms)))),
    )
