-- Over catalogues that are alike on the names of a formula it holds alike, and has the same answers and plans.
use Rattle.std.proofs.Common.{◌≡◌, ℕ, Bool, true, List, sym, ap, ◌∙◌, subst}
use Rattle.std.specs.Prelude.{◌↔◌}
use Rattle.std.specs.List.{AllByRecursion}
use Rattle.ded_algebra.specs.Evaluation.{HaveSorts}
use Rattle.ded_model.specs.declared.name.Column.{Column}
use Rattle.ded_model.specs.Catalogue.{Catalogue, Holds, at_names}
use Rattle.ded_model.specs.Entries.{known}
use Rattle.ded_model.specs.Form.{Form, uses, speaks_of}
use Rattle.ded_model.specs.Known.{columns_with}
use Rattle.ded_model.specs.Lines.{IsSubset, tuples_lines}
use Rattle.ded_model.specs.Made.{base}
use Rattle.ded_model.specs.Measure.{Measure, measures, IsTight}
use Rattle.ded_model.specs.PlanForm.{PlanAtom, PlanForm, scan, rows}
use Rattle.ded_model.specs.Point.{Point}
use Rattle.ded_model.specs.Row.{Atom, atom_holds}
use Rattle.ded_model.specs.Cell.{IsReduced}
use Rattle.ded_model.specs.Slotted.{goal_of}
use Rattle.ded_model.proofs.Alike.{Holds-alike}
use Rattle.ded_width.specs.Orderly.{Order, orders, goal_reach, IsOrderly, IsShortReach, reached_points, AreOrdered}
use Rattle.ded_plan.specs.Plans.{SameHead, IsScanOf, IsPlanOf}
use Rattle.ded_query.specs.Questions.{IsAnswer}
use Rattle.ded_views.proofs.Atoms.{all_weaker}
use Rattle.ded_views.proofs.GoalNames.{goal_measure, measure_of_used, speaks_used}
use Rattle.ded_shared.proofs.NamesAlike.{AreAlike}
use Rattle.ded_shared.proofs.Orders.{reach_of_used}

module _ (c d : Catalogue) (names : List ℕ → Bool) (s : AreAlike c d names) (h : List Column) (f : Form) (within : (n : List ℕ) → speaks_of n f ≡ true → names n ≡ true) where
  used : (n : List ℕ) → uses n f ≡ true → names (base n) ≡ true
  used n u = within (base n) (speaks_used f n u)

  pub holds_alike : (p : Point) → Holds c f p ↔ Holds d f p
  holds_alike p = Holds-alike c d f p (λ n u. s.means n (used n u))

  measure_alike : goal_measure (measures d) (goal_of h f) ≡ goal_measure (measures c) (goal_of h f)
  measure_alike = measure_of_used (measures c) (measures d) h f (λ n u. s.measured n (used n u))

  order_alike : goal_reach (orders d) (goal_of h f) ≡ goal_reach (orders c) (goal_of h f)
  order_alike = reach_of_used (orders c) (orders d) h f (λ n u. s.ordered n (used n u))

  -- it is tight over both
  pub tight_back : IsTight d h f → IsTight c h f
  unfolding IsTight
  tight_back t = sym (ap (λ (m : Measure). m.clash) measure_alike) ∙ t

  orderly_back : IsOrderly d h f → IsOrderly c h f
  unfolding IsOrderly
  orderly_back o = sym (ap (λ (k : Order). k.orderly) order_alike) ∙ o

  short_back : IsShortReach d h f → IsShortReach c h f
  unfolding IsShortReach
  short_back o = sym (ap (λ (k : Order). k.short) order_alike) ∙ o

  points_alike : reached_points d h f ≡ reached_points c h f
  unfolding reached_points
  points_alike = ap (λ (k : Order). k.points) order_alike

  pub answer_alike : (ts : List (List Atom)) → IsAnswer c h f ts → IsAnswer d h f ts
  answer_alike ts a = record {
    over = a.over;
    holds = λ den xs p v.
        let one = a.holds den xs p v in
        let two = holds_alike (record { den = den; coords = at_names h xs }) in
        (λ t. two.0 (one.0 t), λ k. one.1 (two.1 k));
    reduced = a.reduced;
    once = a.once;
    lines = subst (IsSubset (tuples_lines ts)) (sym (ap (λ (m : Measure). m.lines) measure_alike)) a.lines;
    orderly = λ o k. subst (λ ps. AllByRecursion (λ t. IsReduced atom_holds t × AreOrdered ps t) ts) (sym points_alike) (a.orderly (orderly_back o) (short_back k));
  }

  -- ---- plans

  heads : (e : Catalogue) → ((n : List ℕ) → speaks_of n f ≡ true → SameHead (known d n) (known e n)) → (n : List ℕ) → speaks_of n f ≡ true → SameHead (known c n) (known e n)
  heads e same n u = subst (λ k. SameHead k (known e n)) (s.knows n (within n u)) (same n u)

  scans : (a : PlanAtom) → IsScanOf c f a → IsScanOf d f a
  scans (scan n ss) x = (x.0, subst (λ k. HaveSorts (columns_with k) ss) (sym (s.knows (base n) (used n x.0))) x.1)
  scans (rows t) x = x

  pub plan_alike : (plan : PlanForm) → IsPlanOf c h f plan → IsPlanOf d h f plan
  plan_alike plan p = record {
    pushed = p.pushed;
    scans = all_weaker (IsScanOf c f) (IsScanOf d f) scans plan p.scans;
    tidy = p.tidy;
    atoms = p.atoms;
    projections = p.projections;
    slots = p.slots;
    sorts = p.sorts;
    conjunctive = p.conjunctive;
    holds = λ e w same. p.holds e w (heads e same);
    lengths = λ e w same. p.lengths e w (heads e same);
    rank = λ e w same. p.rank e w (heads e same);
  }
