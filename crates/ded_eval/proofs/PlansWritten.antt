-- Lists of conjunctions that plans are evaluated to, written as normal tuples.
use Rattle.std.proofs.Common.{◌≡◌, Bool, List, [], sym, ap, ◌∙◌, subst}
use Rattle.ded_model.specs.declared.slot.Slot.{Slot}
use Rattle.ded_model.specs.Point.{Point}
use Rattle.ded_model.specs.Row.{Atom, row_holds, theme_holds, row_mentions, theme_mentions, tuple_holds, tuples_hold, tuples_mention}
use Rattle.ded_model.specs.Catalogue.{Catalogue}
use Rattle.ded_model.specs.Cell.{conj_holds}
use Rattle.ded_model.specs.Lines.{Line, IsSubset, row_lines, tuples_lines}
use Rattle.ded_model.specs.Measure.{stored_measures, plan_lines}
use Rattle.ded_model.specs.PlanForm.{PlanForm}
use Rattle.ded_model.proofs.Members.{subset_trans}
use Rattle.ded_theory.specs.Both.{by_kind}
use Rattle.ded_theory.proofs.Shared.{holds_alike}
use Rattle.ded_genrel.specs.Lists.{conjs_hold, conjs_mention, conjs_lines}
use Rattle.ded_genrel.proofs.OfAtoms.{lists_hold}
use Rattle.ded_algebra.specs.Evaluation.{IsEvaluationWithin}
use Rattle.ded_atoms.specs.Written.{IsWrittenAs}
use Rattle.ded_atoms.proofs.Shared.{lists_mention, lists_lines}

-- ---- conjunctions of rows and text atoms are tuples

-- so the list of a plan gives its tuples, at points inside
pub written_for : (c : Catalogue) (f : PlanForm) (inside : Point → Bool) (cs ts : List (List Atom))
    → IsEvaluationWithin c f inside (conjs_hold (by_kind row_holds theme_holds) cs) (conjs_mention (by_kind row_mentions theme_mentions) cs) (conjs_lines (by_kind row_lines (λ a. [])) cs)
    → IsWrittenAs cs ts → IsEvaluationWithin c f inside (tuples_hold ts) (tuples_mention ts) (tuples_lines ts)
written_for c f inside cs ts a w = record {
  holds = λ p i all. (let same = w.holds p ∙ sym (lists_hold cs p) in (λ x. (a.holds p i all).0 (sym same ∙ x), λ x. same ∙ (a.holds p i all).1 x));
  slots = λ s u. a.slots s (lists_mention cs s ∙ w.slots s u);
  lines = subset_trans (tuples_lines ts) (tuples_lines cs) (plan_lines (stored_measures c) f) w.lines (subst (λ ls. IsSubset ls (plan_lines (stored_measures c) f)) (lists_lines cs) a.lines);
}

-- the points of a tuple are those of its atoms
pub within_tuple : (c : Catalogue) (f : PlanForm) (t atoms : List Atom) (test : Point → Bool) (used : Slot → Bool) (ls : List Line) → atoms ≡ t
    → IsEvaluationWithin c f (conj_holds (by_kind row_holds theme_holds) atoms) test used ls → IsEvaluationWithin c f (tuple_holds t) test used ls
within_tuple c f t atoms test used ls e a = record {
  holds = λ p i inside. a.holds p i (ap (λ u. conj_holds (by_kind row_holds theme_holds) u p) e ∙ holds_alike t p ∙ inside);
  slots = a.slots;
  lines = a.lines;
}
