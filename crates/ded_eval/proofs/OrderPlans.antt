-- Plans whose rows are all order rows, as the theory of order rows and text atoms reads them.
use Rattle.std.proofs.Common.{◌≡◌, ℕ, zero, suc, ◌+◌, ◌<◌, ◌≤◌, Bool, true, false, not, ◌||◌, Option, Some, None, List, [], ◌∷◌, length, get_or, drop, arith, add-one, refl, sym, ap, ◌∙◌, true≢false}
use Rattle.std.specs.List.{AllByRecursion, list_any}
use Rattle.std.proofs.lemmas.Bool.{and_from, and_parts}
use Rattle.std.proofs.lemmas.List.{drop_all}
use Rattle.ded_model.specs.declared.slot.Slot.{Slot}
use Rattle.ded_model.specs.declared.plan.Plan.{Plan}
use Rattle.ded_model.specs.declared.tuple.BothAtom.TheVariants.{First, Second}
use Rattle.ded_model.specs.Catalogue.{Entry, relation, view, Catalogue, tuples_of}
use Rattle.ded_model.specs.Entries.{entry_of, relation_in}
use Rattle.ded_model.specs.Known.{IsTupleOver}
use Rattle.ded_model.specs.Logic.{Logic, atom, always, never, negation, every_of, some_of, implies, minus, exists, forall, Logics, none, also, AllAtoms, AllAtomsOf, some_atom, some_atom_of}
use Rattle.ded_model.specs.Normal.{IsNormalTheme}
use Rattle.ded_model.specs.PlanForm.{PlanAtom, scan, rows, PlanForm, plan_form, plan_forms}
use Rattle.ded_model.specs.Row.{Atom}
use Rattle.std.specs.Option.{option_map}
use Rattle.ded_num.proofs.Tests.{or_false_both, not_false_true}
use Rattle.ded_elimination.specs.LinearAtoms.{IsLinearAtom}
use Rattle.ded_theory.specs.Both.{IsByKind}
use Rattle.ded_order.specs.OrderRows.{IsOrderAtom}
use Rattle.ded_algebra.specs.Evaluation.{IsAnyAtom, IsScannedFrom, IsScannable, IsEvaluable}
use Rattle.ded_atoms.specs.Laws.{IsOfRows}
use Rattle.ded_atoms.specs.Orders.{is_order_atom, are_orders, IsOrder}
use Rattle.ded_eval.specs.OrderPlans.{AreOrderRows, has_other, has_other_under, has_other_in}
use Rattle.ded_eval.proofs.PlansRead.{evaluable_weaker}

-- ---- atoms

-- atoms in the normal form of order rows are in that of rows
pub linear_normal : (t : List Atom) → AllByRecursion (IsByKind IsOrderAtom IsNormalTheme) t → AllByRecursion (IsByKind IsLinearAtom IsNormalTheme) t
linear_normal [] n = tt
linear_normal (First r ∷ t) n = (n.0.linear, linear_normal t n.1)
linear_normal (Second a ∷ t) n = (n.0, linear_normal t n.1)

order_read : (a : Atom) → is_order_atom a ≡ true → IsOfRows IsOrder a
order_read (First r) k = k
order_read (Second a) k = tt

-- such a plan can be evaluated over order rows and text atoms
pub evaluable_orders : (c : Catalogue) (f : PlanForm) → AreOrderRows c f → IsEvaluable (IsOfRows IsOrder) c f
evaluable_orders = evaluable_weaker (λ a. is_order_atom a ≡ true) (IsOfRows IsOrder) order_read

-- ---- a Bool that is found

both_false : (a b : Bool) → (a || b) ≡ false → (a ≡ false) × (b ≡ false)
both_false false b e = (refl, e)
both_false true b e = absurd (true≢false e)

-- ---- tuples

orders_all : (t : List Atom) → are_orders t ≡ true → AllByRecursion (λ a. is_order_atom a ≡ true) t
orders_all [] e = tt
orders_all (a ∷ t) e = (let parts = and_parts (is_order_atom a) (are_orders t) e in (parts.0, orders_all t parts.1))

all_orders : (t : List Atom) → AllByRecursion (λ a. is_order_atom a ≡ true) t → are_orders t ≡ true
all_orders [] k = refl
all_orders (a ∷ t) k = and_from (is_order_atom a) (are_orders t) k.0 (all_orders t k.1)

rows_all : (t : List Atom) → has_other t ≡ false → AllByRecursion (λ a. is_order_atom a ≡ true) t
rows_all t e = orders_all t (not_false_true (are_orders t) e)

all_rows : (t : List Atom) → AllByRecursion (λ a. is_order_atom a ≡ true) t → has_other t ≡ false
all_rows t k = ap not (all_orders t k)

module _ (Over : List Atom → Type 0) where
  tuples_all : (ts : List (List Atom)) → AllByRecursion (λ t. Over t × AllByRecursion IsAnyAtom t) ts → list_any has_other ts ≡ false → AllByRecursion (λ t. Over t × AllByRecursion (λ a. is_order_atom a ≡ true) t) ts
  tuples_all [] k e = tt
  tuples_all (t ∷ ts) k e = (let parts = both_false (has_other t) (list_any has_other ts) e in ((k.0.0, rows_all t parts.0), tuples_all ts k.1 parts.1))

  all_tuples : (ts : List (List Atom)) → AllByRecursion (λ t. Over t × AllByRecursion (λ a. is_order_atom a ≡ true) t) ts → list_any has_other ts ≡ false
  all_tuples [] k = refl
  all_tuples (t ∷ ts) k = or_false_both (has_other t) (list_any has_other ts) (all_rows t k.0.1) (all_tuples ts k.1)

scanned_all : (o : Option Entry) (ss : List Slot) → IsScannedFrom IsAnyAtom o ss → has_other_under (option_map tuples_of (relation_in o)) ≡ false → IsScannedFrom (λ a. is_order_atom a ≡ true) o ss
scanned_all None ss k e = k
scanned_all (Some (relation n h m ts)) ss k e = (k.0, tuples_all (IsTupleOver h) (tuples_of ts) k.1 e)
scanned_all (Some (view n h x)) ss k e = k

all_scanned : (o : Option Entry) (ss : List Slot) → IsScannedFrom (λ a. is_order_atom a ≡ true) o ss → has_other_under (option_map tuples_of (relation_in o)) ≡ false
all_scanned None ss k = absurd k
all_scanned (Some (relation n h m ts)) ss k = all_tuples (IsTupleOver h) (tuples_of ts) k.1
all_scanned (Some (view n h x)) ss k = absurd k

-- ---- plans

module _ (c : Catalogue) where
  atom_all : (a : PlanAtom) → IsScannable IsAnyAtom c a → has_other_in c a ≡ false → IsScannable (λ a. is_order_atom a ≡ true) c a
  atom_all (scan n ss) k e = scanned_all (entry_of c.entries n) ss k e
  atom_all (rows t) k e = rows_all t e

  all_atom : (a : PlanAtom) → IsScannable (λ a. is_order_atom a ≡ true) c a → has_other_in c a ≡ false
  all_atom (scan n ss) k = all_scanned (entry_of c.entries n) ss k
  all_atom (rows t) k = all_rows t k

module _ {L : Type 0} (P Q : L → Type 0) (test : L → Bool) where
  module _ (each : (a : L) → P a → test a ≡ false → Q a) where
    mutual
      passed : (g : Logic L) → AllAtoms P g → some_atom test g ≡ false → AllAtoms Q g
      passed (atom a) k e = each a k e
      passed always k e = tt
      passed never k e = tt
      passed (negation g) k e = passed g k e
      passed (every_of gs) k e = all_passed gs k e
      passed (some_of gs) k e = all_passed gs k e
      passed (implies g h) k e = (let parts = both_false (some_atom test g) (some_atom test h) e in (passed g k.0 parts.0, passed h k.1 parts.1))
      passed (minus g h) k e = (let parts = both_false (some_atom test g) (some_atom test h) e in (passed g k.0 parts.0, passed h k.1 parts.1))
      passed (exists s j g) k e = passed g k e
      passed (forall s j g) k e = passed g k e

      all_passed : (gs : Logics L) → AllAtomsOf P gs → some_atom_of test gs ≡ false → AllAtomsOf Q gs
      all_passed none k e = tt
      all_passed (also g gs) k e = (let parts = both_false (some_atom test g) (some_atom_of test gs) e in (passed g k.0 parts.0, all_passed gs k.1 parts.1))

  module _ (each : (a : L) → Q a → test a ≡ false) where
    mutual
      none_found : (g : Logic L) → AllAtoms Q g → some_atom test g ≡ false
      none_found (atom a) k = each a k
      none_found always k = refl
      none_found never k = refl
      none_found (negation g) k = none_found g k
      none_found (every_of gs) k = none_among gs k
      none_found (some_of gs) k = none_among gs k
      none_found (implies g h) k = or_false_both (some_atom test g) (some_atom test h) (none_found g k.0) (none_found h k.1)
      none_found (minus g h) k = or_false_both (some_atom test g) (some_atom test h) (none_found g k.0) (none_found h k.1)
      none_found (exists s j g) k = none_found g k
      none_found (forall s j g) k = none_found g k

      none_among : (gs : Logics L) → AllAtomsOf Q gs → some_atom_of test gs ≡ false
      none_among none k = refl
      none_among (also g gs) k = or_false_both (some_atom test g) (some_atom_of test gs) (none_found g k.0) (none_among gs k.1)

-- a plan that can be evaluated is one of order rows where none is found that is none
pub orders_alone : (c : Catalogue) (f : PlanForm) → IsEvaluable IsAnyAtom c f → some_atom (has_other_in c) f ≡ false → AreOrderRows c f
orders_alone c = passed (IsScannable IsAnyAtom c) (IsScannable (λ a. is_order_atom a ≡ true) c) (has_other_in c) (atom_all c)

-- and otherwise it isn't
pub others_beside : (c : Catalogue) (f : PlanForm) → some_atom (has_other_in c) f ≡ true → AreOrderRows c f → ⊥
others_beside c f e k = true≢false (sym e ∙ none_found (IsScannable IsAnyAtom c) (IsScannable (λ a. is_order_atom a ≡ true) c) (has_other_in c) (all_atom c) f k)

-- ---- the parts of a plan, one after another

module _ (test : PlanAtom → Bool) where
  -- what is found in those that are left is found in the next one, or in those behind it
  rest_found : (ps : List Plan) (i : ℕ) (p : Plan) → i < length ps → p ≡ get_or ps i p → some_atom_of test (plan_forms (drop i ps)) ≡ (some_atom test (plan_form p) || some_atom_of test (plan_forms (drop (i + 1) ps)))
  rest_found [] i p l e = absurd (omega (arith, l))
  rest_found (q ∷ ps) zero p l e = ap (λ x. some_atom test (plan_form x) || some_atom_of test (plan_forms ps)) (sym e)
  rest_found (q ∷ ps) (suc i) p l e =
      rest_found ps i p (omega (arith, l)) e
      ∙ ap (λ k. some_atom test (plan_form p) || some_atom_of test (plan_forms (drop k ps))) (add-one i)
      ∙ ap (λ k. some_atom test (plan_form p) || some_atom_of test (plan_forms (drop k (q ∷ ps)))) (sym (add-one (suc i)))

  pub found_here : (ps : List Plan) (i : ℕ) (p : Plan) → i < length ps → p ≡ get_or ps i p → some_atom test (plan_form p) ≡ true → some_atom_of test (plan_forms (drop i ps)) ≡ some_atom_of test (plan_forms ps) → true ≡ some_atom_of test (plan_forms ps)
  found_here ps i p l e f so_far = ap (λ b. b || some_atom_of test (plan_forms (drop (i + 1) ps))) (sym f) ∙ sym (rest_found ps i p l e) ∙ so_far

  pub found_behind : (ps : List Plan) (i : ℕ) (p : Plan) → i < length ps → p ≡ get_or ps i p → some_atom test (plan_form p) ≡ false → some_atom_of test (plan_forms (drop i ps)) ≡ some_atom_of test (plan_forms ps) → some_atom_of test (plan_forms (drop (i + 1) ps)) ≡ some_atom_of test (plan_forms ps)
  found_behind ps i p l e f so_far = ap (λ b. b || some_atom_of test (plan_forms (drop (i + 1) ps))) (sym f) ∙ sym (rest_found ps i p l e) ∙ so_far

  pub not_found : (ps : List Plan) (i : ℕ) → length ps ≤ i → some_atom_of test (plan_forms (drop i ps)) ≡ some_atom_of test (plan_forms ps) → false ≡ some_atom_of test (plan_forms ps)
  not_found ps i l so_far = ap (λ qs. some_atom_of test (plan_forms qs)) (sym (drop_all i ps l)) ∙ so_far
