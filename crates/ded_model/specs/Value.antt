-- The values of operands and places at a point, and of the arguments that they make.
use Rattle.std.specs.Prelude.{ℕ, ◌*◌, ℤ, pos, ◌+ℤ◌, ◌*ℤ◌, int_lt, int_le, Bool, not, ◌&&◌, List, [], ◌∷◌, map}
use Rattle.std.specs.Str.{bytes_eq}
use Rattle.std.specs.Ordering.{int_eq}
use Rattle.ded_model.specs.declared.slot.Sort.{Sort}
use Rattle.ded_model.specs.declared.slot.Sort.TheVariants.{Rat, Text}
use Rattle.ded_model.specs.declared.slot.Slot.{Slot}
use Rattle.ded_model.specs.declared.formula.CompareOp.{CompareOp}
use Rattle.ded_model.specs.declared.formula.CompareOp.TheVariants.{Less, LessEq, Equal, NotEqual, GreaterEq, Greater}
use Rattle.ded_model.specs.declared.formula.Operand.{Operand}
use Rattle.ded_model.specs.declared.formula.Operand.TheVariants.{Single, Sum, Quoted}
use Rattle.ded_model.specs.declared.goal.Place.{Place}
use Rattle.ded_model.specs.declared.goal.Place.TheVariants as place
use Rattle.ded_model.specs.Point.{slot, name, Point, number_at, text_at}
use Rattle.ded_model.specs.Row.{sum_at}
use Rattle.ded_model.specs.Sum.{denominator}

-- the value of an operand at a point: `number` over the point's denominator times `over`, and a text. A number has the
-- empty text, and a text the number 0.
pub record OperandValue : Type 0 where
  pub number : ℤ
  pub over : ℕ
  pub text : List ℕ

-- ---- operands, at a point by names

-- the sum of the coefficients times the numbers of the names
abbrev pub parts_at : List (List ℕ × ℤ) → Point → ℤ
parts_at [] p = pos 0
parts_at (c ∷ cs) p = c.1 *ℤ number_at p (name c.0) +ℤ parts_at cs p

-- the value of an operand at a point by names: what the point has at a variable, the sum over its denominator, or the
-- quoted text
abbrev pub operand_value : Operand → Point → OperandValue
operand_value (Single x) p = record { number = number_at p (name x); over = 1; text = text_at p (name x) }
operand_value (Sum t) p = record { number = parts_at t.parts p +ℤ t.constant *ℤ pos p.den; over = denominator t.over; text = [] }
operand_value (Quoted t) p = record { number = pos 0; over = 1; text = t }

-- ---- comparisons

-- the number of the one value, over the denominators of both
abbrev pub crosswise : OperandValue → OperandValue → ℤ
crosswise a b = a.number *ℤ pos b.over

-- the first number is less than the second one
abbrev pub is_below : OperandValue → OperandValue → Bool
is_below a b = int_lt (crosswise a b) (crosswise b a)

-- the first number is at most the second one
abbrev pub is_at_most : OperandValue → OperandValue → Bool
is_at_most a b = int_le (crosswise a b) (crosswise b a)

-- two numbers have the empty text, and two texts have the number 0
abbrev pub is_same_value : OperandValue → OperandValue → Bool
is_same_value a b = int_eq (crosswise a b) (crosswise b a) && bytes_eq a.text b.text

-- whether the two values compare as the sign says; the signs of order look at the numbers alone
abbrev pub values_compare : OperandValue → CompareOp → OperandValue → Bool
values_compare a Less b = is_below a b
values_compare a LessEq b = is_at_most a b
values_compare a Equal b = is_same_value a b
values_compare a NotEqual b = not (is_same_value a b)
values_compare a GreaterEq b = is_at_most b a
values_compare a Greater b = is_below b a

-- the values of both operands compare as the sign says
unfoldable pub compare_holds : Operand → CompareOp → Operand → Point → Bool
compare_holds l op r p = values_compare (operand_value l p) op (operand_value r p)

-- ---- places, at a point by slots

-- the number or the text at a slot, as its sort says
abbrev pub sorted_value : Sort → ℤ → List ℕ → OperandValue
sorted_value Rat n t = record { number = n; over = 1; text = [] }
sorted_value Text n t = record { number = pos 0; over = 1; text = t }

-- the value of a slot at a point: a number or a text, as the slot's sort says
abbrev pub slot_value : Point → Slot → OperandValue
slot_value p s = sorted_value s.sort (number_at p (slot s)) (text_at p (slot s))

-- the value of a place at a point by slots: that of the slot, that of the sum over its denominator, or the quoted text
abbrev pub place_value : Place → Point → OperandValue
place_value (place.At s) p = slot_value p s
place_value (place.Value t) p = record { number = sum_at t.coefs p +ℤ t.constant *ℤ pos p.den; over = denominator t.over; text = [] }
place_value (place.Quoted t) p = record { number = pos 0; over = 1; text = t }

-- ---- arguments

-- the number and the text of an argument, the number over a denominator that all arguments share
abbrev pub Argument : Type 0
Argument = ℤ × List ℕ

-- the product of the denominators, 1 where there are none
abbrev pub overs : List OperandValue → ℕ
overs [] = 1
overs (v ∷ vs) = v.over * overs vs

-- the argument with its number multiplied by m
abbrev pub argument_times : ℕ → Argument → Argument
argument_times m a = (a.0 *ℤ pos m, a.1)

-- the values as arguments over the product of their denominators
abbrev pub arguments : List OperandValue → List Argument
arguments [] = []
arguments (v ∷ vs) = (v.number *ℤ pos (overs vs), v.text) ∷ map (argument_times v.over) (arguments vs)

-- what each name means of a denominator and arguments
abbrev pub Meaning : Type 1
Meaning = List ℕ → ℕ → List Argument → Type 0

-- a name holds of values at a point with the denominator
abbrev pub NameHolds : Meaning → List ℕ → ℕ → List OperandValue → Type 0
NameHolds I n den vs = I n (den * overs vs) (arguments vs)
