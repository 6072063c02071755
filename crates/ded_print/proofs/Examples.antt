-- The definitions on what is known of each text.
use Rattle.std.proofs.Common.{◌≡◌, ℕ, List, [], ◌∷◌, refl, arith}
use Rattle.std.specs.Prelude.{ℤ, pos, negsuc, codes}
use Rattle.ded_model.specs.declared.name.Column.{Column}
use Rattle.ded_model.specs.declared.slot.Slot.{Slot}
use Rattle.ded_model.specs.declared.slot.Sort.TheVariants.{Rat, Text}
use Rattle.ded_model.specs.declared.bound.Bound.TheVariants.{Infinite, Excluded, Included}
use Rattle.ded_model.specs.declared.row.RowOp.{RowOp}
use Rattle.ded_model.specs.declared.row.RowOp.TheVariants.{Zero, AtMost, Below}
use Rattle.ded_model.specs.declared.tuple.ThemeAtom.TheVariants.{EqText, NeText}
use Rattle.ded_model.specs.declared.tuple.BothAtom.TheVariants.{First, Second}
use Rattle.ded_num.specs.Gcd.{nat_gcd}
use Rattle.ded_model.specs.Bound.{Fraction}
use Rattle.ded_model.specs.Constraint.{LinearConstraint}
use Rattle.ded_model.specs.Normal.{normal_row}
use Rattle.ded_model.specs.Logic.{atom, some_of, exists, minus, negation, every_of, none, also}
use Rattle.ded_model.specs.PlanForm.{scan, rows}
use Rattle.ded_model.specs.Point.{slot}
use Rattle.ded_model.specs.Row.{Atom}
use Rattle.ded_print.specs.Boxes.{spans_text}
use Rattle.ded_print.specs.Lines.{line_text, lines_text, number_reply_text}
use Rattle.ded_print.specs.Numbers.{number_text, count_text, integer_text, fraction_text}
use Rattle.ded_print.specs.Plans.{plan_text}
use Rattle.ded_print.specs.Told.{IsToldPlan}
use Rattle.ded_print.specs.Tuples.{column_names, row_text, theme_text, tuple_text, answer_text, stored_text}

-- ---- what the examples speak of

abbrev number_column : List ℕ → Column
number_column x = record { name = x; sort = Rat }

abbrev text_column : List ℕ → Column
text_column x = record { name = x; sort = Text }

-- rational columns x, y, z, and a text column n
abbrev heading : List Column
heading = number_column (codes "x") ∷ number_column (codes "y") ∷ text_column (codes "n") ∷ number_column (codes "z") ∷ []

abbrev x : Slot
x = record { number = 0; sort = Rat }

abbrev y : Slot
y = record { number = 1; sort = Rat }

abbrev n : Slot
n = record { number = 2; sort = Text }

abbrev row : List (Slot × ℤ) → ℤ → RowOp → LinearConstraint
row cs k op = record { coefs = cs; constant = k; op = op }

abbrev over : ℤ → ℤ → Fraction
over a b = record { num = a; den = b }

-- ---- numbers

no_digits_are_lost : number_text 0 ≡ codes "0"
unfolding number_text
no_digits_are_lost = refl

a_number : number_text 10230 ≡ codes "10230"
unfolding number_text
a_number = refl

a_long_number : number_text 170141183460469231731687303715884105727 ≡ codes "170141183460469231731687303715884105727"
unfolding number_text
a_long_number = refl

a_negative_number : integer_text (negsuc 119) ≡ codes "-120"
unfolding number_text
a_negative_number = refl

a_fraction : fraction_text (over (negsuc 1) (pos 4)) ≡ codes "-1/2"
unfolding number_text nat_gcd
a_fraction = refl

a_whole_fraction : fraction_text (over (pos 0) (pos 7)) ≡ codes "0"
unfolding number_text nat_gcd
a_whole_fraction = refl

-- ---- rows

at_least : row_text (column_names heading) (row ((x, negsuc 0) ∷ []) (pos 0) AtMost) ≡ codes "x >= 0"
unfolding number_text
at_least = refl

at_most : row_text (column_names heading) (row ((x, pos 1) ∷ (y, pos 2) ∷ []) (negsuc 3) AtMost) ≡ codes "x + 2*y <= 4"
unfolding number_text
at_most = refl

equal : row_text (column_names heading) (row ((x, pos 2) ∷ (y, negsuc 2) ∷ []) (pos 1) Zero) ≡ codes "2*x - 3*y = -1"
unfolding number_text
equal = refl

a_difference : row_text (column_names heading) (row ((x, pos 1) ∷ (y, negsuc 0) ∷ []) (pos 0) Zero) ≡ codes "x - y = 0"
unfolding number_text
a_difference = refl

turned : row_text (column_names heading) (row ((x, negsuc 1) ∷ (y, pos 3) ∷ []) (pos 5) Below) ≡ codes "2*x - 3*y > 5"
unfolding number_text
turned = refl

a_false_row : row_text (column_names heading) (row [] (pos 0) Below) ≡ codes "0 < 0"
unfolding number_text
a_false_row = refl

-- ---- text atoms and tuples

two_texts : theme_text (column_names heading) (NeText n (codes "it's")) ≡ codes "n != 'it''s'"
unfolding number_text
two_texts = refl

a_tuple : tuple_text (column_names heading) (Second (EqText n (codes "a")) ∷ First (row ((x, negsuc 0) ∷ []) (pos 95) AtMost) ∷ First (row ((y, negsuc 0) ∷ []) (pos 495) AtMost) ∷ []) ≡ codes "{ n = 'a', x >= 95, y >= 495 }"
unfolding number_text
a_tuple = refl

an_empty_tuple : tuple_text (column_names heading) [] ≡ codes "{ }"
unfolding number_text
an_empty_tuple = refl

abbrev below_0 : List Atom
below_0 = First (row ((x, pos 1) ∷ []) (pos 0) Below) ∷ []

abbrev above_1 : List Atom
above_1 = First (row ((x, negsuc 0) ∷ []) (pos 1) Below) ∷ []

an_answer : answer_text heading (below_0 ∷ above_1 ∷ []) ≡ lines_text (codes "answer 2" ∷ codes "{ x < 0 }" ∷ codes "{ x > 1 }" ∷ codes "end" ∷ [])
unfolding number_text
an_answer = refl

no_tuples : answer_text heading [] ≡ lines_text (codes "answer 0" ∷ codes "end" ∷ [])
unfolding number_text
no_tuples = refl

stored_tuples : stored_text heading ((1, below_0) ∷ (12, []) ∷ []) ≡ lines_text (codes "tuples 2" ∷ codes "1 { x < 0 }" ∷ codes "12 { }" ∷ codes "end" ∷ [])
unfolding number_text
stored_tuples = refl

-- ---- boxes

a_box : spans_text heading ((Excluded (over (pos 0) (pos 1)), Included (over (pos 4) (pos 1))) ∷ (Infinite, Infinite) ∷ (Included (over (negsuc 0) (pos 2)), Excluded (over (pos 3) (pos 1))) ∷ []) ≡ lines_text (codes "x in (0, 4]" ∷ codes "y in (-inf, inf)" ∷ codes "z in [-1/2, 3)" ∷ [])
unfolding number_text nat_gcd
a_box = refl

-- ---- plans

abbrev difference : List Atom
difference = First (row ((x, pos 1) ∷ (y, negsuc 0) ∷ []) (pos 0) Zero) ∷ []

a_plan : plan_text (some_of (also (exists Rat (slot y) (atom (scan (codes "T") (x ∷ y ∷ [])))) (also (exists Rat (slot y) (atom (rows difference))) none)))
    ≡ lines_text (codes "plan 5" ∷ codes "union 2" ∷ codes "  project v1" ∷ codes "    scan T(v0, v1)" ∷ codes "  project v1" ∷ codes "    rows { v0 - v1 = 0 }" ∷ codes "end" ∷ [])
unfolding number_text count_text
a_plan = refl

another_plan : plan_text (exists Text (slot n) (minus (every_of (also (atom (scan (codes "N") (n ∷ []))) none)) (negation (atom (rows [])))))
    ≡ lines_text (codes "plan 6" ∷ codes "project v2 text" ∷ codes "  minus" ∷ codes "    join 1" ∷ codes "      scan N(v2)" ∷ codes "    not" ∷ codes "      rows { }" ∷ codes "end" ∷ [])
unfolding number_text count_text
another_plan = refl

one_is_some : pos 1 ≡ pos 0 → ⊥
one_is_some e = cc

minus_is_some : negsuc 0 ≡ pos 0 → ⊥
minus_is_some e = cc

-- such a plan is told by its lines
a_told_plan : IsToldPlan (λ m. Rat ∷ Rat ∷ []) (some_of (also (exists Rat (slot y) (atom (scan (codes "T") (x ∷ y ∷ [])))) (also (exists Rat (slot y) (atom (rows difference))) none)))
unfolding normal_row nat_gcd
a_told_plan = ((refl, ((omega arith, tt), refl)), ((refl, (((refl, omega arith, one_is_some, (omega arith, tt), (refl, omega arith, minus_is_some, tt, tt)), record { normal = refl }, refl), tt, tt)), tt))

-- ---- replies of one line

a_number_reply : number_reply_text 7 ≡ line_text (codes "tuple 7")
unfolding number_text
a_number_reply = refl
