-- What a plan leaves of a list, at points inside of a window.
use Rattle.std.proofs.Common.{◌≡◌, Bool, true, false, not, ◌&&◌, ◌||◌, List, ◌++◌, ⊎_elim, sym, ◌∙◌, true≢false}
use Rattle.std.proofs.lemmas.Bool.{and_from, and_parts, not-true, not_from_false, false_from_ne_true}
use Rattle.ded_model.specs.declared.slot.Slot.{Slot}
use Rattle.ded_model.specs.Catalogue.{Catalogue}
use Rattle.ded_model.specs.Lines.{Line, IsSubset}
use Rattle.ded_model.specs.Logic.{negation, minus}
use Rattle.ded_model.specs.Measure.{stored_measures, plan_lines}
use Rattle.ded_model.specs.PlanForm.{PlanForm, plan_mentions}
use Rattle.ded_model.specs.Point.{slot, Point, IsPoint}
use Rattle.ded_model.proofs.Rows.{or_left, or_right}
use Rattle.ded_model.proofs.Members.{subset_trans, subset_append, or_split}
use Rattle.ded_genrel.specs.Lists.{conjs_hold, conjs_mention, conjs_lines}
use Rattle.ded_genrel.specs.Operations.{IsOperation}
use Rattle.ded_eval.specs.Joining.{IsJoinedWith}
use Rattle.ded_eval.proofs.Evaluated.{IsListFor}

module _ {A : Type 0} (h : A → Point → Bool) (m : A → Slot → Bool) (l : A → List Line) (c : Catalogue) (inside : Point → Bool) where
  -- what is left by a list that is the plan wherever, inside, the first list holds
  pub left_with : (g : PlanForm) (xs ys out : List (List A)) (inner : Point → Bool) → ((p : Point) → inside p ≡ true → conjs_hold h xs p ≡ true → inner p ≡ true) → IsListFor h m l inner c g ys
      → IsOperation h m l (λ p. conjs_hold h xs p && not (conjs_hold h ys p)) (λ s. conjs_mention m xs s || conjs_mention m ys s) (conjs_lines l xs ++ conjs_lines l ys) out → IsJoinedWith h m l c inside (negation g) xs out
  left_with g xs ys out inner narrow b o = record {
    within = λ p i x. (and_parts _ _ (sym (o.holds p i) ∙ x)).0;
    holds = λ p i w x. (
      λ y z. true≢false (sym ((b.holds p i (narrow p w x)).1 z) ∙ not-true _ (and_parts (conjs_hold h xs p) _ (sym (o.holds p i) ∙ y)).1),
      λ n. o.holds p i ∙ and_from _ _ x (not_from_false _ (false_from_ne_true _ (λ e. n ((b.holds p i (narrow p w x)).0 e)))),
    );
    slots = λ s u. ⊎_elim (λ (e : conjs_mention m xs s ≡ true). or_left _ _ e) (λ e. or_right (conjs_mention m xs s) _ (b.slots s e)) (or_split _ _ (o.slots s u));
    lines = subset_trans (conjs_lines l out) (conjs_lines l xs ++ conjs_lines l ys) (conjs_lines l xs ++ plan_lines (stored_measures c) g) o.lines
        (subset_append (conjs_lines l xs) (conjs_lines l ys) (conjs_lines l xs) (plan_lines (stored_measures c) g) (λ x i. i) b.lines);
  }

  -- what a plan leaves of the list of another one is their difference
  pub minus_of : (f g : PlanForm) (xs out : List (List A)) → IsListFor h m l inside c f xs → IsJoinedWith h m l c inside (negation g) xs out → IsListFor h m l inside c (minus f g) out
  minus_of f g xs out a o = record {
    holds = λ p i w. (
      λ x. (let y = o.within p i x in ((a.holds p i w).0 y, (o.holds p i w y).0 x)),
      λ x. (o.holds p i w ((a.holds p i w).1 x.0)).1 x.1,
    );
    slots = λ s u. ⊎_elim (λ (e : conjs_mention m xs s ≡ true). or_left _ _ (a.slots s e)) (λ e. or_right (plan_mentions f (slot s)) _ e) (or_split _ _ (o.slots s u));
    lines = subset_trans (conjs_lines l out) (conjs_lines l xs ++ plan_lines (stored_measures c) g) (plan_lines (stored_measures c) f ++ plan_lines (stored_measures c) g) o.lines
        (subset_append (conjs_lines l xs) (plan_lines (stored_measures c) g) (plan_lines (stored_measures c) f) (plan_lines (stored_measures c) g) a.lines (λ x i. i));
  }
