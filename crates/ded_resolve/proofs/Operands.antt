-- Which operands are numbers, and which may be arguments.
use Rattle.std.proofs.Common.{◌≡◌, ℕ, zero, suc, ◌<◌, false, List, [], ◌∷◌, length, get_or, arith}
use Rattle.std.specs.List.{list_any}
use Rattle.ded_model.specs.declared.formula.Operand.{Operand}
use Rattle.ded_model.specs.declared.formula.Operand.TheVariants.{Single, Sum, Quoted}
use Rattle.ded_model.specs.Slotted.{SlotScope, slot_of, is_text_operand}
use Rattle.ded_model.specs.Known.{is_unbound_operand, is_text_sum}
use Rattle.ded_model.specs.Plain.{IsPlainOperand, ArePlainOperands}
use Rattle.ded_resolve.specs.Scope.{sorts_of, AreApart, IsSummable, IsPlaceable, ArePlaceable}
use Rattle.ded_model.proofs.Bools.{or_false_left, or_false_right}
use Rattle.ded_model.proofs.SlotLists.{rational}

-- an operand that is no text is a number
pub summable : (scope : SlotScope) (t : Operand) → AreApart scope → IsPlainOperand t → is_unbound_operand (sorts_of scope) t ≡ false → is_text_sum (sorts_of scope) t ≡ false → is_text_operand scope t ≡ false
    → IsSummable scope t
summable scope (Single x) h p b s e = rational (slot_of scope x).sort e
summable scope (Sum t) h p b s e = record { apart = h; once = p.1; bound = b; rational = s }
summable scope (Quoted t) h p b s e = tt

-- an argument
pub placeable : (scope : SlotScope) (t : Operand) → AreApart scope → IsPlainOperand t → is_unbound_operand (sorts_of scope) t ≡ false → is_text_sum (sorts_of scope) t ≡ false → IsPlaceable scope t
placeable scope (Single x) h p b s = tt
placeable scope (Sum t) h p b s = record { apart = h; once = p.1; bound = b; rational = s }
placeable scope (Quoted t) h p b s = tt

pub all_placeable : (scope : SlotScope) (ts : List Operand) → AreApart scope → ArePlainOperands ts → list_any (is_unbound_operand (sorts_of scope)) ts ≡ false → list_any (is_text_sum (sorts_of scope)) ts ≡ false
    → ArePlaceable scope ts
all_placeable scope [] h p b s = tt
all_placeable scope (t ∷ ts) h p b s = (
  placeable scope t h p.0 (or_false_left _ _ b) (or_false_left _ _ s),
  all_placeable scope ts h p.1 (or_false_right (is_unbound_operand (sorts_of scope) t) _ b) (or_false_right (is_text_sum (sorts_of scope) t) _ s),
)

-- the one at a place
pub placeable_at : (scope : SlotScope) (ts : List Operand) (i : ℕ) (d : Operand) → ArePlaceable scope ts → i < length ts → IsPlaceable scope (get_or ts i d)
placeable_at scope [] i d h l = absurd (omega arith)
placeable_at scope (t ∷ ts) zero d h l = h.0
placeable_at scope (t ∷ ts) (suc i) d h l = placeable_at scope ts i d h.1 (omega arith)
