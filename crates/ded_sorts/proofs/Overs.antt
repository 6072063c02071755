-- The slots that the goal of an atom is over: those of its rows and sums have one property, the others another.
--
-- Rows and sums take their slots from the sums of the operands: putting, mixing, leaving out zeros and dividing bring in no
-- other slot. Text atoms take theirs from the sides, and arguments from single names.
use Rattle.std.proofs.Common.{◌≡◌, nat_lt, Bool, true, false, ◌||◌, cond, List, [], ◌∷◌, refl, bytes_eq}
use Rattle.std.specs.Prelude.{ℤ, pos, ◌+ℤ◌, ◌*ℤ◌}
use lib.IntN.{neg_ℤ}
use Rattle.std.specs.Ordering.{int_eq}
use Rattle.ded_model.specs.declared.slot.Slot.{Slot}
use Rattle.ded_model.specs.declared.row.RowOp.{RowOp}
use Rattle.ded_model.specs.declared.row.RowOp.TheVariants.{Zero, AtMost, Below}
use Rattle.ded_model.specs.declared.formula.CompareOp.{CompareOp}
use Rattle.ded_model.specs.declared.formula.CompareOp.TheVariants.{Less, LessEq, Equal, NotEqual, GreaterEq, Greater}
use Rattle.ded_model.specs.declared.formula.Operand.{Operand}
use Rattle.ded_model.specs.declared.tuple.ThemeAtom.{ThemeAtom}
use Rattle.ded_model.specs.declared.tuple.ThemeAtom.TheVariants.{EqText, NeText, EqSlot, NeSlot}
use Rattle.ded_model.specs.declared.goal.Place.{Place}
use Rattle.ded_model.specs.declared.goal.Place.TheVariants.{At, Value, Quoted}
use Rattle.ded_model.specs.Sum.{SlotSum, denominator}
use Rattle.ded_model.specs.Coefs.{put, put_all, mixed, nonzero}
use Rattle.ded_model.specs.Normal.{divisor_of, coefs_over, normal_with, normal_row}
use Rattle.ded_model.specs.Point.{same_slot}
use Rattle.ded_model.specs.Logic.{always, never, atom, AllAtoms}
use Rattle.ded_model.specs.Goal.{GoalAtom, linear, theme, member, GoalForm}
use Rattle.ded_model.specs.Slotted.{SlotScope, slot_sum, difference_row, sums_goal, TextSide, at, word, text_side, same_text_goal, other_text_goal, texts_goal, is_text_operand, compare_goal}
use Rattle.ded_model.proofs.Bools.{or_false_left, or_false_right}

-- the slot of each coefficient has the property
abbrev pub AreSlots : (Slot → Type 0) → List (Slot × ℤ) → Type 0
AreSlots Q [] = Unit {0}
AreSlots Q (c ∷ cs) = Q c.0 × AreSlots Q cs

-- the slot of a side has it
abbrev pub IsSideOver : (Slot → Type 0) → TextSide → Type 0
IsSideOver R (at s) = R s
IsSideOver R (word t) = Unit {0}

-- the slots of a text atom
abbrev pub IsThemeOver : (Slot → Type 0) → ThemeAtom → Type 0
IsThemeOver R (EqText s t) = R s
IsThemeOver R (NeText s t) = R s
IsThemeOver R (EqSlot s t) = R s × R t
IsThemeOver R (NeSlot s t) = R s × R t

-- the slots of sums among places have the one, those of single slots the other
abbrev pub ArePlacesOver : (Slot → Type 0) → (Slot → Type 0) → List Place → Type 0
ArePlacesOver Q R [] = Unit {0}
ArePlacesOver Q R (At s ∷ ts) = R s × ArePlacesOver Q R ts
ArePlacesOver Q R (Value t ∷ ts) = AreSlots Q t.coefs × ArePlacesOver Q R ts
ArePlacesOver Q R (Quoted t ∷ ts) = ArePlacesOver Q R ts

-- the slots of rows and sums have the one property, the others the other one
abbrev pub IsOver : (Slot → Type 0) → (Slot → Type 0) → GoalAtom → Type 0
IsOver Q R (linear r) = AreSlots Q r.coefs
IsOver Q R (theme a) = IsThemeOver R a
IsOver Q R (member n ts) = ArePlacesOver Q R ts

-- ---- coefficients

module _ (Q : Slot → Type 0) where
  -- a choice of lists
  either_slots : (b : Bool) (xs ys : List (Slot × ℤ)) → AreSlots Q xs → AreSlots Q ys → AreSlots Q (cond b xs ys)
  either_slots true xs ys e f = e
  either_slots false xs ys e f = f

  -- a number more at a slot
  pub put_slots : (s : Slot) (z : ℤ) (cs : List (Slot × ℤ)) → Q s → AreSlots Q cs → AreSlots Q (put s z cs)
  put_slots s z [] h e = (h, tt)
  put_slots s z (c ∷ cs) h e =
      either_slots (same_slot c.0 s) ((c.0, z +ℤ c.1) ∷ cs) (cond (nat_lt s.number c.0.number) ((s, z) ∷ c ∷ cs) (c ∷ put s z cs))
      e (either_slots (nat_lt s.number c.0.number) ((s, z) ∷ c ∷ cs) (c ∷ put s z cs) (h, e) (e.0, put_slots s z cs h e.1))

  -- the multiples of a list more
  put_all_slots : (k : ℤ) (cs ys : List (Slot × ℤ)) → AreSlots Q cs → AreSlots Q ys → AreSlots Q (put_all k cs ys)
  put_all_slots k [] ys e f = f
  put_all_slots k (c ∷ cs) ys e f = put_slots c.0 (k *ℤ c.1) (put_all k cs ys) e.0 (put_all_slots k cs ys e.1 f)

  -- without zeros
  pub nonzero_slots : (cs : List (Slot × ℤ)) → AreSlots Q cs → AreSlots Q (nonzero cs)
  nonzero_slots [] e = tt
  nonzero_slots (c ∷ cs) e = either_slots (int_eq c.1 (pos 0)) (nonzero cs) (c ∷ nonzero cs) (nonzero_slots cs e.1) (e.0, nonzero_slots cs e.1)

  -- divided
  divided_slots : (k : ℤ) (cs : List (Slot × ℤ)) → AreSlots Q cs → AreSlots Q (coefs_over k cs)
  divided_slots k [] e = tt
  divided_slots k (c ∷ cs) e = (e.0, divided_slots k cs e.1)

  -- in normal form
  normal_slots : (op : RowOp) (m : ℤ) (cs : List (Slot × ℤ)) → AreSlots Q cs → AreSlots Q (normal_with (record { coefs = cs; constant = m; op = op }) cs).coefs
  normal_slots op m [] e = tt
  normal_slots op m (c ∷ cs) e = divided_slots (divisor_of op m (c ∷ cs)) (c ∷ cs) e

  -- the normal row of a difference
  difference_slots : (l r : SlotSum) (op : RowOp) → AreSlots Q l.coefs → AreSlots Q r.coefs → AreSlots Q (normal_row (difference_row l r op)).coefs
  unfolding normal_row
  difference_slots l r op e f =
      let a = pos (denominator r.over) in
      let b = pos (denominator l.over) in
      let cs = nonzero (mixed a l.coefs (neg_ℤ b) r.coefs) in
      normal_slots op (difference_row l r op).constant cs
      (nonzero_slots (mixed a l.coefs (neg_ℤ b) r.coefs) (put_all_slots a l.coefs (put_all (neg_ℤ b) r.coefs []) e (put_all_slots (neg_ℤ b) r.coefs [] f tt)))

-- ---- goals of atoms

module _ (Q R : Slot → Type 0) where
  -- the goal of a comparison of sums
  sums_over : (l r : SlotSum) (op : CompareOp) → AreSlots Q l.coefs → AreSlots Q r.coefs → AllAtoms (IsOver Q R) (sums_goal l op r)
  sums_over l r Less e f = difference_slots Q l r Below e f
  sums_over l r LessEq e f = difference_slots Q l r AtMost e f
  sums_over l r Equal e f = difference_slots Q l r Zero e f
  sums_over l r NotEqual e f = difference_slots Q l r Zero e f
  sums_over l r GreaterEq e f = difference_slots Q r l AtMost f e
  sums_over l r Greater e f = difference_slots Q r l Below f e

  -- a choice of goals
  either_over : (b : Bool) (g g' : GoalForm) → AllAtoms (IsOver Q R) g → AllAtoms (IsOver Q R) g' → AllAtoms (IsOver Q R) (cond b g g')
  either_over true g g' e f = e
  either_over false g g' e f = f

  -- two texts that are the same
  same_over : (l r : TextSide) → IsSideOver R l → IsSideOver R r → AllAtoms (IsOver Q R) (same_text_goal l r)
  same_over (at s) (at t) e f =
      let in_order = cond (nat_lt s.number t.number) (atom (theme (EqSlot s t))) (atom (theme (EqSlot t s))) in
      either_over (same_slot s t) always in_order tt (either_over (nat_lt s.number t.number) (atom (theme (EqSlot s t))) (atom (theme (EqSlot t s))) (e, f) (f, e))
  same_over (at s) (word t) e f = e
  same_over (word t) (at s) e f = f
  same_over (word t) (word u) e f = either_over (bytes_eq t u) always never tt tt

  -- two texts that differ
  other_over : (l r : TextSide) → IsSideOver R l → IsSideOver R r → AllAtoms (IsOver Q R) (other_text_goal l r)
  other_over (at s) (at t) e f =
      let in_order = cond (nat_lt s.number t.number) (atom (theme (NeSlot s t))) (atom (theme (NeSlot t s))) in
      either_over (same_slot s t) never in_order tt (either_over (nat_lt s.number t.number) (atom (theme (NeSlot s t))) (atom (theme (NeSlot t s))) (e, f) (f, e))
  other_over (at s) (word t) e f = e
  other_over (word t) (at s) e f = f
  other_over (word t) (word u) e f = either_over (bytes_eq t u) never always tt tt

  -- the goal of a comparison of texts
  texts_over : (l r : TextSide) (op : CompareOp) → IsSideOver R l → IsSideOver R r → AllAtoms (IsOver Q R) (texts_goal l op r)
  texts_over l r Less e f = tt
  texts_over l r LessEq e f = tt
  texts_over l r Equal e f = same_over l r e f
  texts_over l r NotEqual e f = other_over l r e f
  texts_over l r GreaterEq e f = tt
  texts_over l r Greater e f = tt

  -- the goal of a comparison
  pub comparison_over : (slots : SlotScope) (l : Operand) (op : CompareOp) (r : Operand) → (is_text_operand slots l ≡ false → AreSlots Q (slot_sum slots l).coefs)
      → (is_text_operand slots r ≡ false → AreSlots Q (slot_sum slots r).coefs) → IsSideOver R (text_side slots l) → IsSideOver R (text_side slots r)
      → AllAtoms (IsOver Q R) (compare_goal slots l op r)
  comparison_over slots l op r el er sl sr = by_test (is_text_operand slots l || is_text_operand slots r) refl
    where
      by_test : (b : Bool) → (is_text_operand slots l || is_text_operand slots r) ≡ b
          → AllAtoms (IsOver Q R) (cond b (texts_goal (text_side slots l) op (text_side slots r)) (sums_goal (slot_sum slots l) op (slot_sum slots r)))
      by_test true e = texts_over (text_side slots l) (text_side slots r) op sl sr
      by_test false e = sums_over (slot_sum slots l) (slot_sum slots r) op (el (or_false_left _ _ e)) (er (or_false_right (is_text_operand slots l) _ e))
