-- The values of operands, places and slots as linear forms and words: a number is a linear form over the point's denominator
-- times a number that no point changes, and a text is a word. So are the arguments that the values make: over the product of
-- all denominators each number is its form times a constant, and the product itself does not depend on the point.
use Rattle.std.proofs.Common.{◌≡◌, ℕ, ◌*◌, Bool, List, [], ◌∷◌, map, refl, ap, ◌∙◌, bytes_eq}
use Rattle.std.specs.Prelude.{ℤ, pos, ◌+ℤ◌, ◌*ℤ◌, int_lt, int_le, IsTrue}
use Rattle.std.specs.Ordering.{int_eq}
use Rattle.ded_num.proofs.Signs.{times_swap}
use Rattle.ded_model.specs.declared.slot.Sort.{Sort}
use Rattle.ded_model.specs.declared.slot.Sort.TheVariants.{Rat, Text}
use Rattle.ded_model.specs.declared.slot.Slot.{Slot}
use Rattle.ded_model.specs.declared.formula.CompareOp.{CompareOp}
use Rattle.ded_model.specs.declared.formula.CompareOp.TheVariants.{Less, LessEq, Equal, NotEqual, GreaterEq, Greater}
use Rattle.ded_model.specs.declared.formula.Operand.{Operand}
use Rattle.ded_model.specs.declared.formula.Operand.TheVariants.{Single, Sum, Quoted}
use Rattle.ded_model.specs.declared.goal.Place.{Place}
use Rattle.ded_model.specs.declared.goal.Place.TheVariants as place
use Rattle.ded_model.specs.Point.{Key, slot, name, Point, number_at, text_at}
use Rattle.ded_model.specs.Sum.{denominator}
use Rattle.ded_model.specs.Value.{OperandValue, parts_at, operand_value, crosswise, is_below, is_at_most, is_same_value, values_compare, compare_holds, sorted_value, slot_value, place_value, Argument, overs, argument_times, arguments}
use Rattle.ded_model.proofs.Terms.{Linear, keys_at, linear_at, scale, unit, const, linear-scale, linear-unit, linear-zero, Word, at, quoted, word_at, Put}
use Rattle.ded_model.proofs.Definable.{Definable}
use Rattle.ded_model.proofs.Atoms.{like_test, not_test, and_test, lt_definable, le_definable, eq_definable, text_definable, row_keys, row_keys-at}

-- ---- values
-- a linear form over the point's denominator times `over`, and a word
pub record ValueForm : Type 0 where
  pub number : Linear
  pub over : ℕ
  pub word : Word

abbrev pub value_of : ValueForm → Point → OperandValue
value_of v p = record { number = linear_at v.number p; over = v.over; text = word_at v.word p }

abbrev pub part_keys : List (List ℕ × ℤ) → List (Key × ℤ)
part_keys [] = []
part_keys (c ∷ cs) = (name c.0, c.1) ∷ part_keys cs

pub part_keys-at : (cs : List (List ℕ × ℤ)) (p : Point) → keys_at (part_keys cs) p ≡ parts_at cs p
part_keys-at [] p = refl
part_keys-at (c ∷ cs) p = ap (λ z. c.1 *ℤ number_at p (name c.0) +ℤ z) (part_keys-at cs p)

abbrev quoted_form : List ℕ → ValueForm
quoted_form t = record { number = const (pos 0); over = 1; word = quoted t }

abbrev pub operand_form : Operand → ValueForm
operand_form (Single x) = record { number = unit (name x); over = 1; word = at (name x) }
operand_form (Sum t) = record { number = record { coefs = part_keys t.parts; constant = t.constant }; over = denominator t.over; word = quoted [] }
operand_form (Quoted t) = quoted_form t

pub operand_form-is : (t : Operand) (p : Point) → value_of (operand_form t) p ≡ operand_value t p
operand_form-is (Single x) p = rw (linear-unit (name x) p) refl
operand_form-is (Sum t) p = rw (part_keys-at t.parts p) refl
operand_form-is (Quoted t) p = rw (linear-zero p) refl

abbrev sorted_form : Sort → Key → ValueForm
sorted_form Rat k = record { number = unit k; over = 1; word = quoted [] }
sorted_form Text k = record { number = const (pos 0); over = 1; word = at k }

abbrev pub slot_form : Slot → ValueForm
slot_form s = sorted_form s.sort (slot s)

pub slot_form-is : (s : Slot) (p : Point) → value_of (slot_form s) p ≡ slot_value p s
slot_form-is s p = by s.sort (slot s)
  where
    by : (t : Sort) (k : Key) → value_of (sorted_form t k) p ≡ sorted_value t (number_at p k) (text_at p k)
    by Rat k = rw (linear-unit k p) refl
    by Text k = rw (linear-zero p) refl

abbrev pub place_form : Place → ValueForm
place_form (place.At s) = slot_form s
place_form (place.Value t) = record { number = record { coefs = row_keys t.coefs; constant = t.constant }; over = denominator t.over; word = quoted [] }
place_form (place.Quoted t) = quoted_form t

pub place_form-is : (t : Place) (p : Point) → value_of (place_form t) p ≡ place_value t p
place_form-is (place.At s) p = slot_form-is s p
place_form-is (place.Value t) p = rw (row_keys-at t.coefs p) refl
place_form-is (place.Quoted t) p = rw (linear-zero p) refl

-- ---- comparisons, crosswise
abbrev pub cross : ValueForm → ValueForm → Linear
cross v w = scale (pos w.over) v.number

pub cross-is : (v w : ValueForm) (p : Point) → linear_at (cross v w) p ≡ crosswise (value_of v p) (value_of w p)
cross-is v w p = linear-scale (pos w.over) v.number p ∙ times_swap (pos w.over) (linear_at v.number p)

-- a test of two numbers
unfoldable pub crossed : (test : ℤ → ℤ → Bool) (v w : ValueForm) → Definable (λ p. IsTrue (test (linear_at (cross v w) p) (linear_at (cross w v) p)))
    → Definable (λ p. IsTrue (test (crosswise (value_of v p) (value_of w p)) (crosswise (value_of w p) (value_of v p))))
crossed test v w D =
    like_test (λ p. test (linear_at (cross v w) p) (linear_at (cross w v) p)) (λ p. test (crosswise (value_of v p) (value_of w p)) (crosswise (value_of w p) (value_of v p)))
    (λ p. rw (cross-is v w p, cross-is w v p) refl) D

unfoldable pub below_definable : (v w : ValueForm) → Definable (λ p. IsTrue (is_below (value_of v p) (value_of w p)))
below_definable v w = crossed int_lt v w (lt_definable (cross v w) (cross w v))

unfoldable pub at_most_definable : (v w : ValueForm) → Definable (λ p. IsTrue (is_at_most (value_of v p) (value_of w p)))
at_most_definable v w = crossed int_le v w (le_definable (cross v w) (cross w v))

unfoldable pub same_value_definable : (v w : ValueForm) → Definable (λ p. IsTrue (is_same_value (value_of v p) (value_of w p)))
same_value_definable v w =
    and_test (λ p. int_eq (crosswise (value_of v p) (value_of w p)) (crosswise (value_of w p) (value_of v p))) (λ p. bytes_eq (word_at v.word p) (word_at w.word p))
    (crossed int_eq v w (eq_definable (cross v w) (cross w v))) (text_definable v.word w.word)

unfoldable pub values_definable : (v : ValueForm) (op : CompareOp) (w : ValueForm) → Definable (λ p. IsTrue (values_compare (value_of v p) op (value_of w p)))
values_definable v Less w = below_definable v w
values_definable v LessEq w = at_most_definable v w
values_definable v Equal w = same_value_definable v w
values_definable v NotEqual w = not_test (λ p. is_same_value (value_of v p) (value_of w p)) (same_value_definable v w)
values_definable v GreaterEq w = at_most_definable w v
values_definable v Greater w = below_definable w v

unfoldable pub compare_definable : (l : Operand) (op : CompareOp) (r : Operand) → Definable (λ p. IsTrue (compare_holds l op r p))
unfolding compare_holds
compare_definable l op r =
    like_test (λ p. values_compare (value_of (operand_form l) p) op (value_of (operand_form r) p)) (λ p. compare_holds l op r p)
    (λ p. rw (operand_form-is l p, operand_form-is r p) refl) (values_definable (operand_form l) op (operand_form r))

-- ---- arguments
abbrev pub args : List Put → Point → List Argument
args [] p = []
args (t ∷ ts) p = (linear_at t.number p, word_at t.word p) ∷ args ts p

abbrev pub values_at : List ValueForm → Point → List OperandValue
values_at vs p = map (λ v. value_of v p) vs

-- the product of the denominators, at every point
abbrev pub form_overs : List ValueForm → ℕ
form_overs [] = 1
form_overs (v ∷ vs) = v.over * form_overs vs

pub form_overs-is : (vs : List ValueForm) (p : Point) → form_overs vs ≡ overs (values_at vs p)
form_overs-is [] p = refl
form_overs-is (v ∷ vs) p = ap (λ n. v.over * n) (form_overs-is vs p)

abbrev pub put_times : ℕ → Put → Put
put_times m t = record { number = scale (pos m) t.number; word = t.word }

abbrev pub puts : List ValueForm → List Put
puts [] = []
puts (v ∷ vs) = record { number = scale (pos (form_overs vs)) v.number; word = v.word } ∷ map (put_times v.over) (puts vs)

args-times : (m : ℕ) (ts : List Put) (p : Point) → args (map (put_times m) ts) p ≡ map (argument_times m) (args ts p)
args-times m [] p = refl
args-times m (t ∷ ts) p = rw (linear-scale (pos m) t.number p, times_swap (pos m) (linear_at t.number p), args-times m ts p) refl

-- the arguments that the values make
pub puts-are : (vs : List ValueForm) (p : Point) → args (puts vs) p ≡ arguments (values_at vs p)
puts-are [] p = refl
puts-are (v ∷ vs) p =
    rw (
      linear-scale (pos (form_overs vs)) v.number p,
      times_swap (pos (form_overs vs)) (linear_at v.number p),
      form_overs-is vs p,
      args-times v.over (puts vs) p,
      puts-are vs p,
    ) refl
