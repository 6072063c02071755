-- What a question is answered.
use Rattle.std.proofs.Common.{◌≡◌, ◌≢◌, ℕ, ℤ, ◌≤◌, arith, Bool, true, false, ◌&&◌, List, [], ◌∷◌, refl, sym, ap, ◌∙◌, subst, true≢false}
use Rattle.std.specs.Prelude.{◌↔◌, IsTrue}
use Rattle.std.specs.List.{AllByRecursion, AllPairs}
use Rattle.std.proofs.lemmas.Bool.{false_from_ne_true}
use Rattle.ded_model.specs.declared.slot.Slot.{Slot}
use Rattle.ded_model.specs.declared.name.Column.{Column}
use Rattle.ded_model.specs.declared.tuple.BothAtom.TheVariants.{First, Second}
use Rattle.ded_model.specs.Catalogue.{Catalogue, IsTruth}
use Rattle.ded_model.specs.Cell.{IsReduced}
use Rattle.ded_model.specs.Form.{Form}
use Rattle.ded_model.specs.Goal.{GoalForm, goal_mentions}
use Rattle.ded_model.specs.Entries.{known}
use Rattle.ded_model.specs.Known.{IsAccepted, IsWellFormed, level_with}
use Rattle.ded_model.specs.Lines.{In, IsSubset, tuples_lines}
use Rattle.ded_model.specs.Made.{base}
use Rattle.ded_model.specs.Measure.{measures, goal_lines, goal_clashes, IsTight}
use Rattle.ded_model.specs.Normal.{IsNormalTuple}
use Rattle.ded_model.specs.Point.{slot, Point}
use Rattle.ded_model.specs.Row.{Atom, atom_holds, tuples_hold, tuples_mention}
use Rattle.ded_model.specs.Slotted.{goal_of}
use Rattle.ded_model.specs.Width.{IsNarrowList}
use Rattle.ded_width.specs.Orderly.{IsOrderly, IsShortReach, AreOrdered, reached_points}
use Rattle.ded_atoms.specs.Orders.{are_orders, AreOrderAtoms}
use Rattle.ded_sorts.proofs.Frees.{goal_free}
use Rattle.ded_views.proofs.Views.{name_level, view_accepted}
use Rattle.ded_query.specs.Gathering.{IsPosed, IsEvaluated, IsViewGoal}
use Rattle.ded_query.specs.Questions.{IsQuestion, IsAnswer}
use Rattle.ded_query.proofs.Arguments.{byte_arguments}
use Rattle.ded_query.proofs.Entries.{evaluated_over, evaluated_holds}
use Rattle.ded_query.proofs.Posed.{posed_of}

-- every level is at most 16
pub question_posed : (c : Catalogue) (h : List Column) (g : GoalForm) (f : Form) → IsWellFormed c → IsQuestion c h g f → IsPosed c g 16
question_posed c h g f w q = posed_of c h g f 16 q (λ n u. name_level c w n)

-- nor is that of a name that a view uses, so the goal of a view is posed as a question is
pub view_is_posed : (c : Catalogue) (n : List ℕ) (g : GoalForm) → IsWellFormed c → IsViewGoal c n g → IsPosed c g 16
view_is_posed c n g w v = question_posed c v.columns g v.formula w (record { goal = v.goal; accepted = view_accepted c w n v.own v.columns v.formula v.entry })

pub names_low : (c : Catalogue) (names : List (List ℕ)) → IsWellFormed c → AllByRecursion (λ n. level_with (known c (base n)) ≤ 16) names
names_low c [] w = tt
names_low c (n ∷ ns) w = (name_level c w (base n), names_low c ns w)

-- the formula isn't tight where its goal clashes
pub not_tight : (c : Catalogue) (h : List Column) (g : GoalForm) (f : Form) → IsQuestion c h g f → goal_clashes (measures c) g ≡ true → IsTight c h f → ⊥
unfolding IsTight
not_tight c h g f q e t = true≢false (sym e ∙ ap (goal_clashes (measures c)) q.goal ∙ t)

-- ---- closed questions

-- their tuples mention no slot
pub evaluated_closed : (c : Catalogue) (g : GoalForm) (f : Form) (ts : List (List Atom)) → IsQuestion c [] g f → IsEvaluated c g ts → (s : Slot) → tuples_mention ts s ≡ false
evaluated_closed c g f ts q e s =
    false_from_ne_true (tuples_mention ts s) (λ u. true≢false (sym (goal_free [] f q.accepted.bound (slot s) (subst (λ x. goal_mentions x (slot s) ≡ true) q.goal (e.slots s u)))))

-- and hold exactly where the formula is true
pub closed_truth : (c : Catalogue) (g : GoalForm) (f : Form) (ts : List (List Atom)) (b : Bool) → IsQuestion c [] g f → IsEvaluated c g ts → ((p : Point) → tuples_hold ts p ≡ b) → IsTrue b ↔ IsTruth c f
closed_truth c g f ts b q e all =
    subst (λ x. IsTrue x ↔ IsTruth c f) (all (record { den = 1; coords = [] })) (evaluated_holds c [] g f ts q e 1 [] (omega arith) tt)

-- ---- answers

-- such tuples have order rows alone
ordered_atoms : (ps : List (ℤ × ℤ)) (t : List Atom) → AreOrdered ps t → AreOrderAtoms t
ordered_atoms ps [] o = refl
ordered_atoms ps (First r ∷ t) o = ap (λ b. b && are_orders t) o.0.order ∙ ordered_atoms ps t o.1
ordered_atoms ps (Second a ∷ t) o = ordered_atoms ps t o

-- so none of them has anything superfluous
ordered_tuples : (ps : List (ℤ × ℤ)) (ts : List (List Atom)) → AllByRecursion (AreOrdered ps) ts → AllByRecursion (λ t. AreOrderAtoms t → IsReduced atom_holds t) ts
    → AllByRecursion (λ t. IsReduced atom_holds t × AreOrdered ps t) ts
ordered_tuples ps [] o r = tt
ordered_tuples ps (t ∷ ts) o r = ((r.0 (ordered_atoms ps t o.0), o.0), ordered_tuples ps ts o.1 r.1)

-- of normal tuples whose lines are those of a question, the rows are ordered where the question is orderly
abbrev pub OrderlyIsOrdered : Catalogue → Type 0
OrderlyIsOrdered c = (h : List Column) (f : Form) → IsAccepted (known c) h f → IsOrderly c h f → IsShortReach c h f
    → (ts : List (List Atom)) → AllByRecursion IsNormalTuple ts → IsSubset (tuples_lines ts) (goal_lines (measures c) (goal_of h f))
    → AllByRecursion (AreOrdered (reached_points c h f)) ts

pub answer_is : (c : Catalogue) (h : List Column) (g : GoalForm) (f : Form) (ts : List (List Atom)) → IsQuestion c h g f → IsEvaluated c g ts → AllByRecursion IsNormalTuple ts
    → AllByRecursion (λ t. IsNarrowList t → IsReduced atom_holds t) ts → AllPairs (λ t u. t ≢ u) ts → AllByRecursion (λ t. AreOrderAtoms t → IsReduced atom_holds t) ts → OrderlyIsOrdered c
    → IsAnswer c h f ts
answer_is c h g f ts q e k r once orders law = record {
  over = evaluated_over c h g f ts q e k;
  holds = λ d xs i a. evaluated_holds c h g f ts q e d xs i (byte_arguments h xs a);
  reduced = r;
  once = once;
  lines = lines;
  orderly = λ o s. ordered_tuples (reached_points c h f) ts (law h f q.accepted o s ts k lines) orders;
}
  where
    lines : IsSubset (tuples_lines ts) (goal_lines (measures c) (goal_of h f))
    lines l i = subst (λ x. In l (goal_lines (measures c) x)) q.goal (e.lines l i)
