-- Worked questions and their answers. Each is a theorem on the definition alone, in which no code takes part: the
-- definition's own decision procedure computes the answer, so a definition that answers one of them otherwise does not
-- check. Each question stands first, with what it says in the language of the user, then its answer.
use Rattle.std.proofs.Common.{ℕ, List, [], ◌∷◌, refl}
use Rattle.std.specs.Prelude.{ℤ, pos, negsuc}
use Rattle.ded_model.specs.declared.slot.Sort.TheVariants.{Rat, Text}
use Rattle.ded_model.specs.declared.slot.Slot.{Slot}
use Rattle.ded_model.specs.declared.formula.CompareOp.{CompareOp}
use Rattle.ded_model.specs.declared.formula.CompareOp.TheVariants.{Less, LessEq, Equal, NotEqual, GreaterEq, Greater}
use Rattle.ded_model.specs.declared.formula.Operand.{Operand}
use Rattle.ded_model.specs.declared.formula.Operand.TheVariants.{Single, Sum, Quoted}
use Rattle.ded_model.specs.declared.name.Column.{Column}
use Rattle.ded_model.specs.declared.row.RowOp.{RowOp}
use Rattle.ded_model.specs.declared.row.RowOp.TheVariants.{Zero, AtMost, Below}
use Rattle.ded_model.specs.declared.tuple.BothAtom.TheVariants.{First}
use Rattle.ded_model.specs.Form.{Form, compare, member}
use Rattle.ded_model.specs.Logic.{atom, every_of, some_of, implies, exists, forall, none, also}
use Rattle.ded_model.specs.Point.{name}
use Rattle.ded_model.specs.Row.{Atom}
use Rattle.ded_model.specs.Catalogue.{Entry, relation, view, Catalogue, IsTruth}
use Rattle.ded_laws.proofs.Computing.{truth, is_true, is_false}

-- ---- how formulas are written
abbrev x : List ℕ
x = 120 ∷ []

abbrev y : List ℕ
y = 121 ∷ []

abbrev z : List ℕ
z = 122 ∷ []

abbrev u : List ℕ
u = 117 ∷ []

abbrev n : List ℕ
n = 110 ∷ []

-- c / m, and a * v
abbrev ratio : ℤ → ℤ → Operand
ratio c m = Sum (record { parts = []; constant = c; over = m })

abbrev num : ℕ → Operand
num c = ratio (pos c) (pos 1)

abbrev times_of : ℕ → List ℕ → Operand
times_of a v = Sum (record { parts = (v, pos a) ∷ []; constant = pos 0; over = pos 1 })

abbrev compares : Operand → CompareOp → Operand → Form
compares l op r = atom (compare l op r)

abbrev both : Form → Form → Form
both f g = every_of (also f (also g none))

abbrev either : Form → Form → Form
either f g = some_of (also f (also g none))

abbrev some : List ℕ → Form → Form
some v f = exists Rat (name v) f

abbrev each : List ℕ → Form → Form
each v f = forall Rat (name v) f

-- ---- how catalogues are written
abbrev e_name : List ℕ
e_name = 69 ∷ []

abbrev p_name : List ℕ
p_name = 80 ∷ []

abbrev s_name : List ℕ
s_name = 83 ∷ []

abbrev t_name : List ℕ
t_name = 84 ∷ []

abbrev v_name : List ℕ
v_name = 86 ∷ []

abbrev catalogue : List Entry → Catalogue
catalogue es = record { limit = 100; entries = es }

abbrev no_names : Catalogue
no_names = catalogue []

abbrev column : List ℕ → Column
column v = record { name = v; sort = Rat }

abbrev nth_slot : ℕ → Slot
nth_slot i = record { number = i; sort = Rat }

abbrev row : List (Slot × ℤ) → ℤ → RowOp → Atom
row cs c op = First (record { coefs = cs; constant = c; op = op })

-- a * the column i + c = 0
abbrev equals : ℕ → ℕ → ℤ → Atom
equals a i c = row ((nth_slot i, pos a) ∷ []) c Zero

-- ---- comparisons and connectives
-- 3 <= 7
abbrev three_at_most_seven : Form
three_at_most_seven = compares (num 3) LessEq (num 7)

three_is_at_most_seven : IsTruth no_names three_at_most_seven
unfolding truth
three_is_at_most_seven = is_true no_names three_at_most_seven refl

-- 3 < 2 or 1 = 1 and 2 = 2
abbrev or_of_and : Form
or_of_and = either (compares (num 3) Less (num 2)) (both (compares (num 1) Equal (num 1)) (compares (num 2) Equal (num 2)))

or_holds_by_its_second_part : IsTruth no_names or_of_and
unfolding truth
or_holds_by_its_second_part = is_true no_names or_of_and refl

-- 1 = 1 or 1 = 1 and 1 = 2
abbrev and_binds_first : Form
and_binds_first = either (compares (num 1) Equal (num 1)) (both (compares (num 1) Equal (num 1)) (compares (num 1) Equal (num 2)))

or_holds_by_its_first_part : IsTruth no_names and_binds_first
unfolding truth
or_holds_by_its_first_part = is_true no_names and_binds_first refl

-- 1 = 2 implies (1 = 2 implies 1 = 2)
abbrev false_implies : Form
false_implies = implies (compares (num 1) Equal (num 2)) (implies (compares (num 1) Equal (num 2)) (compares (num 1) Equal (num 2)))

false_implies_anything : IsTruth no_names false_implies
unfolding truth
false_implies_anything = is_true no_names false_implies refl

-- ---- rational quantifiers
-- exists x (2*x = 1)
abbrev twice_is_one : Form
twice_is_one = some x (compares (times_of 2 x) Equal (num 1))

numbers_are_rational : IsTruth no_names twice_is_one
unfolding truth
numbers_are_rational = is_true no_names twice_is_one refl

-- exists x (x > 0 and x < 0)
abbrev in_strict_gap : Form
in_strict_gap = some x (both (compares (Single x) Greater (num 0)) (compares (Single x) Less (num 0)))

strict_bounds_exclude : ¬ IsTruth no_names in_strict_gap
unfolding truth
strict_bounds_exclude = is_false no_names in_strict_gap refl

-- exists x (x >= 0 and x <= 0)
abbrev in_weak_gap : Form
in_weak_gap = some x (both (compares (Single x) GreaterEq (num 0)) (compares (Single x) LessEq (num 0)))

weak_bounds_meet : IsTruth no_names in_weak_gap
unfolding truth
weak_bounds_meet = is_true no_names in_weak_gap refl

-- forall x forall y (x < y implies exists z (x < z and z < y))
abbrev third_between : Form
third_between = each x (each y (implies (compares (Single x) Less (Single y)) (some z (both (compares (Single x) Less (Single z)) (compares (Single z) Less (Single y))))))

order_is_dense : IsTruth no_names third_between
unfolding truth
order_is_dense = is_true no_names third_between refl

-- exists x forall y (y <= x)
abbrev above_all : Form
above_all = some x (each y (compares (Single y) LessEq (Single x)))

no_number_is_greatest : ¬ IsTruth no_names above_all
unfolding truth
no_number_is_greatest = is_false no_names above_all refl

-- exists x (M*x < M-1 and (M-1)*x > M-2), where M is 2^63-1
abbrev between_close_fractions : Form
between_close_fractions = some x (both (compares (times_of 9223372036854775807 x) Less (num 9223372036854775806)) (compares (times_of 9223372036854775806 x) Greater (num 9223372036854775805)))

wide_numbers_are_exact : IsTruth no_names between_close_fractions
unfolding truth
wide_numbers_are_exact = is_true no_names between_close_fractions refl

-- exists x (x = 1/2 and 2*x = 1)
abbrev half_twice : Form
half_twice = some x (both (compares (Single x) Equal (ratio (pos 1) (pos 2))) (compares (times_of 2 x) Equal (num 1)))

fractions_are_values : IsTruth no_names half_twice
unfolding truth
fractions_are_values = is_true no_names half_twice refl

-- ---- texts
-- exists n text (n != 'a' and n != 'b')
abbrev third_text : Form
third_text = exists Text (name n) (both (compares (Single n) NotEqual (Quoted (97 ∷ []))) (compares (Single n) NotEqual (Quoted (98 ∷ []))))

some_text_is_neither : IsTruth no_names third_text
unfolding truth
some_text_is_neither = is_true no_names third_text refl

-- ---- relations and views
-- T(x, y) with the given tuples, and V(x) := exists y (T(x, y))
abbrev with_view : List (ℕ × List Atom) → Catalogue
with_view ts = catalogue (relation t_name (column x ∷ column y ∷ []) 2 ts ∷ view v_name (column x ∷ []) (some y (atom (member t_name (Single x ∷ Single y ∷ [])))) ∷ [])

-- {x = 1, y = 1}, and {x = 2, y = 5} too
abbrev before : Catalogue
before = with_view ((1, equals 1 0 (negsuc 0) ∷ equals 1 1 (negsuc 0) ∷ []) ∷ [])

abbrev after : Catalogue
after = with_view ((1, equals 1 0 (negsuc 0) ∷ equals 1 1 (negsuc 0) ∷ []) ∷ (2, equals 1 0 (negsuc 1) ∷ equals 1 1 (negsuc 4) ∷ []) ∷ [])

-- V(2)
abbrev view_at_two : Form
view_at_two = atom (member v_name (num 2 ∷ []))

view_fails_before_the_insert : ¬ IsTruth before view_at_two
unfolding truth
view_fails_before_the_insert = is_false before view_at_two refl

view_follows_the_insert : IsTruth after view_at_two
unfolding truth
view_follows_the_insert = is_true after view_at_two refl

-- T(x, y) = {x > 0, y >= 0, x + 2*y <= 4}
abbrev triangle : Catalogue
triangle = catalogue (relation t_name (column x ∷ column y ∷ []) 1 ((
  1,
  row ((nth_slot 0, negsuc 0) ∷ []) (pos 0) Below ∷ row ((nth_slot 1, negsuc 0) ∷ []) (pos 0) AtMost ∷ row ((nth_slot 0, pos 1) ∷ (nth_slot 1, pos 2) ∷ []) (negsuc 3) AtMost ∷ [],
) ∷ []) ∷ [])

-- T(x, x), and exists u (T(x, u) and u = x)
abbrev repeated : Form
repeated = atom (member t_name (Single x ∷ Single x ∷ []))

abbrev equated : Form
equated = some u (both (atom (member t_name (Single x ∷ Single u ∷ []))) (compares (Single u) Equal (Single x)))

repeated_name_equates : IsTruth triangle (each x (implies repeated equated))
unfolding truth
repeated_name_equates = is_true triangle (each x (implies repeated equated)) refl

equated_name_repeats : IsTruth triangle (each x (implies equated repeated))
unfolding truth
equated_name_repeats = is_true triangle (each x (implies equated repeated)) refl

-- E(x) without tuples
abbrev nothing_stored : Catalogue
nothing_stored = catalogue (relation e_name (column x ∷ []) 0 [] ∷ [])

-- forall x (E(x) implies x > 5)
abbrev stored_are_great : Form
stored_are_great = each x (implies (atom (member e_name (Single x ∷ []))) (compares (Single x) Greater (num 5)))

all_of_nothing : IsTruth nothing_stored stored_are_great
unfolding truth
all_of_nothing = is_true nothing_stored stored_are_great refl

-- forall x (E(x))
abbrev all_stored : Form
all_stored = each x (atom (member e_name (Single x ∷ [])))

nothing_holds_all : ¬ IsTruth nothing_stored all_stored
unfolding truth
nothing_holds_all = is_false nothing_stored all_stored refl

-- ---- arguments with denominators
-- S(x) = {2*x = 1}
abbrev half_stored : Catalogue
half_stored = catalogue (relation s_name (column x ∷ []) 1 ((1, equals 2 0 (negsuc 0) ∷ []) ∷ []) ∷ [])

-- S(1/2)
abbrev at_half : Form
at_half = atom (member s_name (ratio (pos 1) (pos 2) ∷ []))

half_is_stored : IsTruth half_stored at_half
unfolding truth
half_is_stored = is_true half_stored at_half refl

-- S(1/3)
abbrev at_third : Form
at_third = atom (member s_name (ratio (pos 1) (pos 3) ∷ []))

third_is_not_stored : ¬ IsTruth half_stored at_third
unfolding truth
third_is_not_stored = is_false half_stored at_third refl

-- exists x (S((x + 1)/3) and x > 0)
abbrev at_third_of_sum : Form
at_third_of_sum = some x (both (atom (member s_name (Sum (record { parts = (x, pos 1) ∷ []; constant = pos 1; over = pos 3 }) ∷ []))) (compares (Single x) Greater (num 0)))

argument_may_be_a_sum : IsTruth half_stored at_third_of_sum
unfolding truth
argument_may_be_a_sum = is_true half_stored at_third_of_sum refl

-- P(x, y) = {2*x = 1, 3*y = 1}
abbrev pair_stored : Catalogue
pair_stored = catalogue (relation p_name (column x ∷ column y ∷ []) 1 ((1, equals 2 0 (negsuc 0) ∷ equals 3 1 (negsuc 0) ∷ []) ∷ []) ∷ [])

-- P(1/2, 1/3)
abbrev at_pair : Form
at_pair = atom (member p_name (ratio (pos 1) (pos 2) ∷ ratio (pos 1) (pos 3) ∷ []))

denominators_may_differ : IsTruth pair_stored at_pair
unfolding truth
denominators_may_differ = is_true pair_stored at_pair refl

-- P(1/3, 1/2)
abbrev at_turned_pair : Form
at_turned_pair = atom (member p_name (ratio (pos 1) (pos 3) ∷ ratio (pos 1) (pos 2) ∷ []))

arguments_keep_their_order : ¬ IsTruth pair_stored at_turned_pair
unfolding truth
arguments_keep_their_order = is_false pair_stored at_turned_pair refl

-- exists z (V(z/3) and z > 5), where V(x) := exists y (T(x, y))
abbrev view_at_third : Form
view_at_third = some z (both (atom (member v_name (Sum (record { parts = (z, pos 1) ∷ []; constant = pos 0; over = pos 3 }) ∷ []))) (compares (Single z) Greater (num 5)))

view_takes_fractions : IsTruth after view_at_third
unfolding truth
view_takes_fractions = is_true after view_at_third refl

view_took_no_such_fraction : ¬ IsTruth before view_at_third
unfolding truth
view_took_no_such_fraction = is_false before view_at_third refl
