-- What eliminating slots one after another leaves of rows.
use Rattle.std.proofs.Common.{zero}
use Rattle.std.specs.Prelude.{◌≡◌, ◌↔◌, IsTrue, ℕ, suc, ◌+◌, ◌*◌, ◌<◌, ℤ, pos, ◌+ℤ◌, ◌*ℤ◌, true, false, List, [], ◌∷◌, length}
use Rattle.ded_model.specs.declared.slot.Slot.{Slot}
use Rattle.ded_model.specs.Constraint.{LinearConstraint}
use Rattle.ded_model.specs.Coefs.{coef_at}
use Rattle.ded_model.specs.Point.{slot, Point, IsPoint, same_slot, number_at, stands_in}
use Rattle.ded_model.specs.Cell.{conj_holds}
use Rattle.ded_model.specs.Row.{row_holds, row_mentions}
use Rattle.ded_model.specs.Lines.{Line, In, IsSubset, AreWithin, row_lines, elim_at}
use Rattle.ded_theory.specs.Conjunctions.{conj_mentions, conj_lines}
use Rattle.ded_theory.specs.Eliminations.{SomeExtension}

-- the sum of the coefficients of slots, each times its number
abbrev pub weigh : List (Slot × ℤ) → List (Slot × ℤ) → ℤ
weigh [] cs = pos 0
weigh (w ∷ ws) cs = w.1 *ℤ coef_at cs w.0 +ℤ weigh ws cs

-- with a multiple of the constant
abbrev pub value_of : List (Slot × ℤ) → ℤ → LinearConstraint → ℤ
value_of ws k l = weigh ws l.coefs +ℤ k *ℤ l.constant

-- how many digits lines of b digits have at most after n eliminations
abbrev pub digits_after : ℕ → ℕ → ℕ
digits_after b zero = b
digits_after b (suc n) = 2 * digits_after b n + 1

-- the numbers of the one point at all slots but these are those of the other one, over another denominator
pub record KeepsNumbers (done : List Slot) (p q : Point) : Type 0 where
  pub factor : ℕ
  pub positive : 0 < factor
  pub kept : (t : Slot) → stands_in done t ≡ false → number_at q (slot t) ≡ number_at p (slot t) *ℤ pos factor

-- what the elimination of a slot leaves of the rows
pub record IsStep (rows : List LinearConstraint) (s : Slot) (left : List LinearConstraint) : Type 0 where
  pub holds : (p : Point) → IsPoint p → IsTrue (conj_holds row_holds left p) ↔ SomeExtension s (conj_holds row_holds rows) p
  pub slots : (u : Slot) → conj_mentions row_mentions left u ≡ true → (same_slot u s ≡ false) × (conj_mentions row_mentions rows u ≡ true)
  pub lines : IsSubset (conj_lines row_lines left) (elim_at s (conj_lines row_lines rows))

-- what is left of the rows after the slots are eliminated: it holds where the rows hold, and each point where it does has one where
-- they do and which differs at these slots alone; it mentions none of these; its lines have as many digits as that many eliminations
-- make, and whatever sum of numbers is 0 in each line of the rows is so in each of its lines
pub record IsProjected (rows : List LinearConstraint) (done : List Slot) (left : List LinearConstraint) : Type 0 where
  pub holds : (p : Point) → IsPoint p → conj_holds row_holds rows p ≡ true → conj_holds row_holds left p ≡ true
  pub back : (p : Point) → IsPoint p → conj_holds row_holds left p ≡ true → (q : Point) × IsPoint q × (conj_holds row_holds rows q ≡ true) × KeepsNumbers done p q
  pub without : (s : Slot) → conj_mentions row_mentions left s ≡ true → stands_in done s ≡ false
  pub within : (b : ℕ) → AreWithin b (conj_lines row_lines rows) → AreWithin (digits_after b (length done)) (conj_lines row_lines left)
  pub vanish : (ws : List (Slot × ℤ)) (k : ℤ) → ((l : Line) → In l (conj_lines row_lines rows) → value_of ws k l ≡ pos 0)
      → (l : Line) → In l (conj_lines row_lines left) → value_of ws k l ≡ pos 0

-- lines of b digits have at least 64 digits after some eliminations, of fewer than n slots
pub record GetLong (rows : List LinearConstraint) (n : ℕ) : Type 0 where
  pub steps : ℕ
  pub fewer : steps < n
  pub long : (b : ℕ) → AreWithin b (conj_lines row_lines rows) → 63 < digits_after b steps
