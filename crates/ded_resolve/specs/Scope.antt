-- The names in scope at a place of a formula, and which sums have short coefficients at rational slots there.
use Rattle.std.specs.Prelude.{◌≡◌, ◌≢◌, ℕ, ◌<◌, ℤ, pos, false, List, [], ◌∷◌}
use Rattle.std.specs.List.{list_any}
use Rattle.ded_num.specs.Length.{IsWithin}
use Rattle.ded_model.specs.declared.slot.Slot.{Slot}
use Rattle.ded_model.specs.declared.slot.Sort.TheVariants.{Rat, Text}
use Rattle.ded_model.specs.declared.formula.Operand.{Operand}
use Rattle.ded_model.specs.declared.formula.Operand.TheVariants.{Single, Sum, Quoted}
use Rattle.ded_model.specs.Point.{same_sort}
use Rattle.ded_model.specs.Logic.{Scope}
use Rattle.ded_model.specs.Sum.{SlotSum}
use Rattle.ded_model.specs.Coefs.{coef_at}
use Rattle.ded_model.specs.Slotted.{SlotScope, slot_of, slot_sum}
use Rattle.ded_model.specs.Known.{is_unbound_name, sort_in}
use Rattle.ded_model.specs.Plain.{AreOnce}

-- the scope round a quantifier
abbrev pub without_nearest : SlotScope → SlotScope
without_nearest [] = []
without_nearest (v ∷ scope) = scope

-- the keys of a scope, each with what its slot ranges over
abbrev pub sorts_of : SlotScope → Scope
sorts_of [] = []
sorts_of (v ∷ scope) = (v.0, v.1.sort) ∷ sorts_of scope

-- all slots have other numbers
abbrev pub AllOther : ℕ → SlotScope → Type 0
AllOther n [] = Unit {0}
AllOther n (v ∷ scope) = (v.1.number ≢ n) × AllOther n scope

-- no two slots have one number
abbrev pub AreApart : SlotScope → Type 0
AreApart [] = Unit {0}
AreApart (v ∷ scope) = AllOther v.1.number scope × AreApart scope

-- all slots have numbers below n
abbrev pub AllUnder : ℕ → SlotScope → Type 0
AllUnder n [] = Unit {0}
AllUnder n (v ∷ scope) = (v.1.number < n) × AllUnder n scope

-- no two slots have one number, and all numbers are below the next one
pub record IsNumbered (scope : SlotScope) (next : ℕ) : Type 0 where
  pub apart : AreApart scope
  pub under : AllUnder next scope

-- each name stands once, is bound, and has a rational slot of its own
pub record AreSummable (scope : SlotScope) (parts : List (List ℕ × ℤ)) : Type 0 where
  pub apart : AreApart scope
  pub once : AreOnce parts
  pub bound : list_any (λ c. is_unbound_name (sorts_of scope) c.0) parts ≡ false
  pub rational : list_any (λ c. same_sort (sort_in (sorts_of scope) c.0) Text) parts ≡ false

-- an operand that is a number: a rational variable, or a sum of them
abbrev pub IsSummable : SlotScope → Operand → Type 0
IsSummable scope (Single x) = (slot_of scope x).sort ≡ Rat
IsSummable scope (Sum t) = AreSummable scope t.parts
IsSummable scope (Quoted t) = Unit {0}

-- an operand of an atom: a sum has to be one of rational variables
abbrev pub IsPlaceable : SlotScope → Operand → Type 0
IsPlaceable scope (Single x) = Unit {0}
IsPlaceable scope (Sum t) = IsSummable scope (Sum t)
IsPlaceable scope (Quoted t) = Unit {0}

-- each sum among the operands of an atom is one of rational variables
abbrev pub ArePlaceable : SlotScope → List Operand → Type 0
ArePlaceable scope [] = Unit {0}
ArePlaceable scope (t ∷ ts) = IsPlaceable scope t × ArePlaceable scope ts

-- each coefficient has at most 112 digits
abbrev pub AreSmall : List (Slot × ℤ) → Type 0
AreSmall cs = (s : Slot) → IsWithin 112 (coef_at cs s)

-- so have the coefficients and the constant of the sum
pub record IsSmall (t : SlotSum) : Type 0 where
  pub coefs : AreSmall t.coefs
  pub constant : IsWithin 112 t.constant

-- a side of a comparison as a sum over the comparison's denominator m; a sum is over m already
abbrev pub sum_over : ℤ → SlotScope → Operand → SlotSum
sum_over m scope (Single x) = record { coefs = (slot_of scope x, m) ∷ []; constant = pos 0; over = m }
sum_over m scope (Sum t) = slot_sum scope (Sum t)
sum_over m scope (Quoted t) = record { coefs = []; constant = pos 0; over = m }
