-- The tests of formulas, goals and plans compute: the list of conjunctions that the proof makes, evaluated at the point. So a
-- question with given numbers is answered by the definition itself, and its answer is proved by `refl`.
use Rattle.std.proofs.Common.{◌≡◌, Bool, true, false, not, ◌&&◌, cond, List, [], ◌∷◌, arith, refl, sym, ◌∙◌, true≢false}
use Rattle.std.specs.Prelude.{ℤ, pos, int_lt, int_le}
use Rattle.std.specs.Bool.{Decides}
use Rattle.std.specs.List.{list_all, list_any}
use Rattle.std.proofs.lemmas.Int.{ints}
use Rattle.std.proofs.lemmas.Bool.Decides.{Decides-and, Decides-or, Decides-like}
use Rattle.ded_model.specs.Form.{Form}
use Rattle.ded_model.specs.Goal.{GoalForm}
use Rattle.ded_model.specs.PlanForm.{PlanForm}
use Rattle.ded_model.specs.Point.{Point, number_at, text_at}
use Rattle.ded_model.specs.Row.{row_holds, theme_holds, atom_holds, tuple_holds, tuples_hold}
use Rattle.ded_model.specs.Sum.{denominator}
use Rattle.ded_model.specs.Value.{compare_holds}
use Rattle.ded_model.specs.Made.{reading}
use Rattle.ded_model.specs.Catalogue.{Catalogue, stored, meaning, Holds, GoalHolds, PlanHolds, origin, IsTruth}
use Rattle.ded_model.proofs.Core.{Meets}
use Rattle.ded_model.proofs.Lists.{Every, Some}
use Rattle.ded_model.proofs.Terms.{linear_at, test_at, Line, Claim, Conj, op_of, LineHolds, ClaimHolds, ConjHolds, SomeHolds}
use Rattle.ded_model.proofs.Definable.{Definable, like, always_definable, never_definable, line_definable, claim_definable, not_definable, either_definable, both_definable, implies_definable, exists_definable, forall_definable, put_definable, solve, solve_every, solve_some}
use Rattle.ded_model.proofs.Atoms.{like_test, not_test, and_test, or_test, true_test, false_test, lt_definable, le_definable, eq_definable, text_definable, sign_definable, row_definable, theme_definable, atom_definable, tuple_definable, tuples_definable}
use Rattle.ded_laws.proofs.ValueForms.{crossed, below_definable, at_most_definable, same_value_definable, values_definable, compare_definable}
use Rattle.ded_laws.proofs.Closures.{den_definable, within_definable, above_definable, all_within_definable, some_new_definable, every_new_definable, new_definable, close_formula_definable, inside_formula_definable, fact_definable, at_columns, close_definable, inside_definable}
use Rattle.ded_laws.proofs.Decided.{read_as_definable, read_definable, stored_definable, name_definable, form_atom_definable, entry_definable, choose_definable, meaning_from_definable, meaning_definable, goal_atom_definable, plan_atom_definable, Holds_definable, goal_definable, plan_definable}

abbrev same_bool : Bool → Bool → Bool
same_bool true b = b
same_bool false b = not b

abbrev line_test : Point → Line → Bool
line_test p l = cond l.strict (int_lt (linear_at l.sum p) (pos 0)) (int_le (linear_at l.sum p) (pos 0))

abbrev claim_test : Point → Claim → Bool
claim_test p c = same_bool (test_at c.test p) c.value

abbrev conj_test : Point → Conj → Bool
conj_test p c = list_all (line_test p) c.lines && list_all (claim_test p) c.claims

abbrev list_test : List Conj → Point → Bool
list_test cs p = list_any (conj_test p) cs

same_bool-decides : (a b : Bool) → Decides (same_bool a b) (a ≡ b)
same_bool-decides true true = (λ e. refl, λ e. refl)
same_bool-decides true false = (λ e. sym e, λ e. sym e)
same_bool-decides false true = (λ e. e, λ e. e)
same_bool-decides false false = (λ e. refl, λ e. refl)

sign-decides : (b : Bool) (z : ℤ) → Decides (cond b (int_lt z (pos 0)) (int_le z (pos 0))) (Meets (op_of b) z)
sign-decides true z = (λ e. grind (arith, ints), λ e. grind (arith, ints))
sign-decides false z = (λ e. grind (arith, ints), λ e. grind (arith, ints))

every-decides : {A : Type 0} (t : A → Bool) (P : A → Type 0) → ((a : A) → Decides (t a) (P a)) → (xs : List A) → Decides (list_all t xs) (Every P xs)
every-decides t P d [] = (λ e. tt, λ h. refl)
every-decides t P d (x ∷ xs) = Decides-and (t x) (list_all t xs) (d x) (every-decides t P d xs)

some-decides : {A : Type 0} (t : A → Bool) (P : A → Type 0) → ((a : A) → Decides (t a) (P a)) → (xs : List A) → Decides (list_any t xs) (Some P xs)
some-decides t P d [] = (λ e. absurd (true≢false (sym e)), λ h. absurd h)
some-decides t P d (x ∷ xs) = Decides-or (t x) (list_any t xs) (d x) (some-decides t P d xs)

conj-decides : (p : Point) (c : Conj) → Decides (conj_test p c) (ConjHolds p c)
conj-decides p c =
    let l = every-decides (line_test p) (LineHolds p) (λ l. sign-decides l.strict (linear_at l.sum p)) c.lines in
    let k = every-decides (claim_test p) (ClaimHolds p) (λ c. same_bool-decides (test_at c.test p) c.value) c.claims in
    Decides-like (conj_test p c) (λ h. record { lines = h.0; claims = h.1 }) (λ h. (h.lines, h.claims)) (Decides-and (list_all (line_test p) c.lines) (list_all (claim_test p) c.claims) l k)

list-decides : (cs : List Conj) (p : Point) → Decides (list_test cs p) (SomeHolds cs p)
list-decides cs p = some-decides (conj_test p) (ConjHolds p) (conj-decides p) cs

abbrev pub test_of : (P : Point → Type 0) → Definable P → Point → Bool
test_of P D p = list_test D.list p

pub test_of-decides : (P : Point → Type 0) (D : Definable P) (p : Point) → Decides (test_of P D p) (P p)
test_of-decides P D p = Decides-like (test_of P D p) (D.is p).1 (D.is p).0 (list-decides D.list p)

-- ---- formulas, goals and plans
-- whether it holds at a point over a catalogue. To unfold one of the tests is to unfold all that it computes with.
unfoldable pub formula_test : Catalogue → Form → Point → Bool
unfolding row_holds theme_holds atom_holds tuple_holds tuples_hold compare_holds meaning stored reading den_definable within_definable above_definable all_within_definable some_new_definable every_new_definable new_definable close_formula_definable inside_formula_definable fact_definable at_columns close_definable inside_definable read_as_definable read_definable stored_definable denominator number_at text_at like always_definable never_definable line_definable claim_definable not_definable either_definable both_definable implies_definable exists_definable forall_definable put_definable solve solve_every solve_some like_test not_test and_test or_test true_test false_test lt_definable le_definable eq_definable text_definable sign_definable row_definable theme_definable atom_definable tuple_definable tuples_definable crossed below_definable at_most_definable same_value_definable values_definable compare_definable name_definable form_atom_definable entry_definable choose_definable meaning_from_definable meaning_definable Holds_definable
formula_test c f p = test_of (Holds c f) (Holds_definable c f) p

unfoldable pub goal_test : Catalogue → GoalForm → Point → Bool
unfolding row_holds theme_holds atom_holds tuple_holds tuples_hold compare_holds meaning stored reading den_definable within_definable above_definable all_within_definable some_new_definable every_new_definable new_definable close_formula_definable inside_formula_definable fact_definable at_columns close_definable inside_definable read_as_definable read_definable stored_definable denominator number_at text_at like always_definable never_definable line_definable claim_definable not_definable either_definable both_definable implies_definable exists_definable forall_definable put_definable solve solve_every solve_some like_test not_test and_test or_test true_test false_test lt_definable le_definable eq_definable text_definable sign_definable row_definable theme_definable atom_definable tuple_definable tuples_definable crossed below_definable at_most_definable same_value_definable values_definable compare_definable name_definable form_atom_definable entry_definable choose_definable meaning_from_definable meaning_definable goal_atom_definable goal_definable
goal_test c g p = test_of (GoalHolds c g) (goal_definable c g) p

unfoldable pub plan_test : Catalogue → PlanForm → Point → Bool
unfolding row_holds theme_holds atom_holds tuple_holds tuples_hold compare_holds meaning stored reading den_definable within_definable above_definable all_within_definable some_new_definable every_new_definable new_definable close_formula_definable inside_formula_definable fact_definable at_columns close_definable inside_definable read_as_definable read_definable stored_definable denominator number_at text_at like always_definable never_definable line_definable claim_definable not_definable either_definable both_definable implies_definable exists_definable forall_definable put_definable solve solve_every solve_some like_test not_test and_test or_test true_test false_test lt_definable le_definable eq_definable text_definable sign_definable row_definable theme_definable atom_definable tuple_definable tuples_definable crossed below_definable at_most_definable same_value_definable values_definable compare_definable name_definable form_atom_definable entry_definable choose_definable meaning_from_definable meaning_definable plan_atom_definable plan_definable
plan_test c f p = test_of (PlanHolds c f) (plan_definable c f) p

pub formula_test-decides : (c : Catalogue) (f : Form) (p : Point) → Decides (formula_test c f p) (Holds c f p)
unfolding formula_test
formula_test-decides c f p = test_of-decides (Holds c f) (Holds_definable c f) p

pub goal_test-decides : (c : Catalogue) (g : GoalForm) (p : Point) → Decides (goal_test c g p) (GoalHolds c g p)
unfolding goal_test
goal_test-decides c g p = test_of-decides (GoalHolds c g) (goal_definable c g) p

pub plan_test-decides : (c : Catalogue) (f : PlanForm) (p : Point) → Decides (plan_test c f p) (PlanHolds c f p)
unfolding plan_test
plan_test-decides c f p = test_of-decides (PlanHolds c f) (plan_definable c f) p

-- whether a closed formula is true
unfoldable pub truth : Catalogue → Form → Bool
unfolding formula_test
truth c f = formula_test c f origin

pub truth-decides : (c : Catalogue) (f : Form) → Decides (truth c f) (IsTruth c f)
unfolding truth
truth-decides c f = formula_test-decides c f origin

-- ---- what a test says
says_true : (b : Bool) (A : Type 0) → Decides b A → b ≡ true → A
says_true b A d e = d.0 e

says_false : (b : Bool) (A : Type 0) → Decides b A → b ≡ false → ¬ A
says_false b A d e a = true≢false (sym (d.1 a) ∙ e)

pub is_true : (c : Catalogue) (f : Form) → truth c f ≡ true → IsTruth c f
is_true c f e = says_true (truth c f) (IsTruth c f) (truth-decides c f) e

pub is_false : (c : Catalogue) (f : Form) → truth c f ≡ false → ¬ IsTruth c f
is_false c f e = says_false (truth c f) (IsTruth c f) (truth-decides c f) e

pub goal_holds : (c : Catalogue) (g : GoalForm) (p : Point) → goal_test c g p ≡ true → GoalHolds c g p
goal_holds c g p e = says_true (goal_test c g p) (GoalHolds c g p) (goal_test-decides c g p) e

pub goal_fails : (c : Catalogue) (g : GoalForm) (p : Point) → goal_test c g p ≡ false → ¬ GoalHolds c g p
goal_fails c g p e = says_false (goal_test c g p) (GoalHolds c g p) (goal_test-decides c g p) e

pub plan_holds : (c : Catalogue) (f : PlanForm) (p : Point) → plan_test c f p ≡ true → PlanHolds c f p
plan_holds c f p e = says_true (plan_test c f p) (PlanHolds c f p) (plan_test-decides c f p) e

pub plan_fails : (c : Catalogue) (f : PlanForm) (p : Point) → plan_test c f p ≡ false → ¬ PlanHolds c f p
plan_fails c f p e = says_false (plan_test c f p) (PlanHolds c f p) (plan_test-decides c f p) e
