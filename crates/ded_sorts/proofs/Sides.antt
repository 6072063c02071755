-- Comparisons of texts: the goal of `=` and of `!=` holds where the texts are the same, or differ.
--
-- Each side is a slot or a quoted text, so its text is read from the point or is there (`side_text`). A goal of two slots
-- names the one of lesser number first, and two slots that are the same have one text.
use Rattle.std.proofs.Common.{◌≡◌, ℕ, nat_lt, Bool, true, false, not, cond, List, refl, sym, ap, ◌∙◌, true≢false}
use Rattle.std.specs.Prelude.{pos, ◌↔◌, IsTrue}
use Rattle.std.specs.Str.{bytes_eq}
use Rattle.ded_num.proofs.Tests.{bytes_eq-of, bytes_eq-swap}
use Rattle.ded_model.specs.declared.slot.Slot.{Slot}
use Rattle.ded_model.specs.declared.formula.CompareOp.{CompareOp}
use Rattle.ded_model.specs.declared.formula.CompareOp.TheVariants.{Less, LessEq, Equal, NotEqual, GreaterEq, Greater}
use Rattle.ded_model.specs.declared.tuple.ThemeAtom.TheVariants.{EqSlot, NeSlot}
use Rattle.ded_model.specs.Point.{slot, Point, text_at, same_slot}
use Rattle.ded_model.specs.Row.{theme_holds}
use Rattle.ded_model.specs.Logic.{always, never, atom, Sat}
use Rattle.ded_model.specs.Goal.{GoalAtomHolds, GoalForm, theme}
use Rattle.ded_model.specs.Value.{OperandValue, values_compare, is_same_value, Meaning}
use Rattle.ded_model.specs.Slotted.{TextSide, at, word, texts_goal, same_text_goal, other_text_goal}
use Rattle.ded_model.specs.Known.{is_equality}
use Rattle.ded_model.proofs.Points.{same_slot_is}
use Rattle.ded_sorts.proofs.Sums.{iff_true}

-- the text of a side
abbrev pub side_text : TextSide → Point → List ℕ
side_text (at s) q = text_at q (slot s)
side_text (word t) q = t

-- the value is the text of the side
pub record IsSideValue (v : OperandValue) (l : TextSide) (q : Point) : Type 0 where
  pub number : v.number ≡ pos 0
  pub over : v.over ≡ 1
  pub text : v.text ≡ side_text l q

-- ---- tests

-- ---- goals

module _ (I : Meaning) (q : Point) where
  -- a goal holds where a test is passed
  abbrev Means : GoalForm → Bool → Type 0
  Means g b = Sat (GoalAtomHolds I) g q ↔ IsTrue b

  -- the goal that is true
  always_means : (b : Bool) → b ≡ true → Means always b
  always_means b e = (λ h. e, λ h. tt)

  -- the goal that is false
  never_means : (b : Bool) → b ≡ false → Means never b
  never_means b e = (λ h. absurd h, λ h. true≢false (sym h ∙ e))

  -- a choice of the two
  truth_means : (b : Bool) → Means (cond b always never) b
  truth_means true = always_means true refl
  truth_means false = never_means false refl

  -- turned
  turned_means : (b : Bool) → Means (cond b never always) (not b)
  turned_means true = never_means false refl
  turned_means false = always_means true refl

  -- two slots
  same_slots_mean : (s t : Slot) (b b' : Bool) → same_slot s t ≡ b
      → Means (cond b always (cond b' (atom (theme (EqSlot s t))) (atom (theme (EqSlot t s))))) (bytes_eq (text_at q (slot s)) (text_at q (slot t)))
  unfolding theme_holds
  same_slots_mean s t true b' e = always_means _ (bytes_eq-of _ _ (ap (λ u. text_at q (slot u)) (same_slot_is s t e)))
  same_slots_mean s t false true e = iff_true _ _ refl
  same_slots_mean s t false false e = iff_true _ _ (bytes_eq-swap (text_at q (slot t)) (text_at q (slot s)))

  -- two slots that differ
  other_slots_mean : (s t : Slot) (b b' : Bool) → same_slot s t ≡ b
      → Means (cond b never (cond b' (atom (theme (NeSlot s t))) (atom (theme (NeSlot t s))))) (not (bytes_eq (text_at q (slot s)) (text_at q (slot t))))
  unfolding theme_holds
  other_slots_mean s t true b' e = never_means _ (ap not (bytes_eq-of _ _ (ap (λ u. text_at q (slot u)) (same_slot_is s t e))))
  other_slots_mean s t false true e = iff_true _ _ refl
  other_slots_mean s t false false e = iff_true _ _ (ap not (bytes_eq-swap (text_at q (slot t)) (text_at q (slot s))))

  -- two sides
  same_text_means : (l r : TextSide) → Means (same_text_goal l r) (bytes_eq (side_text l q) (side_text r q))
  unfolding theme_holds
  same_text_means (at s) (at t) = same_slots_mean s t (same_slot s t) (nat_lt s.number t.number) refl
  same_text_means (at s) (word t) = iff_true _ _ refl
  same_text_means (word t) (at s) = iff_true _ _ (bytes_eq-swap (text_at q (slot s)) t)
  same_text_means (word t) (word u) = truth_means (bytes_eq t u)

  -- two sides that differ
  other_text_means : (l r : TextSide) → Means (other_text_goal l r) (not (bytes_eq (side_text l q) (side_text r q)))
  unfolding theme_holds
  other_text_means (at s) (at t) = other_slots_mean s t (same_slot s t) (nat_lt s.number t.number) refl
  other_text_means (at s) (word t) = iff_true _ _ refl
  other_text_means (word t) (at s) = iff_true _ _ (ap not (bytes_eq-swap (text_at q (slot s)) t))
  other_text_means (word t) (word u) = turned_means (bytes_eq t u)

-- two texts are the same value where they are equal
same_means : (v w : OperandValue) (l r : TextSide) (q : Point) → IsSideValue v l q → IsSideValue w r q → is_same_value v w ≡ bytes_eq (side_text l q) (side_text r q)
same_means v w l r q e f = rw (e.number, e.over, e.text, f.number, f.over, f.text) refl

-- the goal of a comparison of equality holds where the texts compare so
pub texts_mean : (I : Meaning) (v w : OperandValue) (l r : TextSide) (op : CompareOp) (q : Point) → is_equality op ≡ true → IsSideValue v l q → IsSideValue w r q
    → Sat (GoalAtomHolds I) (texts_goal l op r) q ↔ IsTrue (values_compare v op w)
texts_mean I v w l r Less q i e f = absurd (true≢false (sym i))
texts_mean I v w l r LessEq q i e f = absurd (true≢false (sym i))
texts_mean I v w l r Equal q i e f = rw (same_means v w l r q e f) (same_text_means I q l r)
texts_mean I v w l r NotEqual q i e f = rw (same_means v w l r q e f) (other_text_means I q l r)
texts_mean I v w l r GreaterEq q i e f = absurd (true≢false (sym i))
texts_mean I v w l r Greater q i e f = absurd (true≢false (sym i))
