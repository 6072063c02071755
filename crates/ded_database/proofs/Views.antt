-- Marked views and the relation that is changed.
use Rattle.std.proofs.Common.{◌≡◌, ℕ, true, false, Some, List, refl, sym, ap, ◌∙◌, true≢false, bytes_eq}
use Rattle.std.proofs.lemmas.Bool.{false_from_ne_true}
use Rattle.ded_model.specs.Catalogue.{relation, view, Catalogue}
use Rattle.ded_model.specs.Entries.{known, entry_of}
use Rattle.ded_model.specs.Known.{IsWellFormed}
use Rattle.ded_model.specs.Measure.{measures}
use Rattle.ded_model.specs.PlanForm.{plan_form}
use Rattle.ded_model.specs.Slotted.{goal_of}
use Rattle.ded_sorts.specs.Causes.{is_relation_with}
use Rattle.ded_query.specs.Gathering.{IsViewPlan}
use Rattle.ded_views.specs.Reaching.{reaches}
use Rattle.ded_views.proofs.Changing.{entry_there, same_entry}
use Rattle.ded_views.proofs.Views.{name_known}
use Rattle.ded_database.specs.declared.mark.Mark.{Mark}
use Rattle.ded_database.specs.Marks.{mark_reaches, IsMark}
use Rattle.ded_database.specs.Upkeep.{IsTightView}
use Rattle.ded_database.proofs.Renewal.{tight_clash}
use Rattle.ded_database.proofs.ListsStaying.{HasOthers}
use Rattle.ded_query.proofs.GivenNames.{same_name}

-- a marked view isn't a relation
pub mark_other : (c : Catalogue) (n : List ℕ) (m : Mark) → IsWellFormed c → is_relation_with (known c n) ≡ true → IsMark c m → bytes_eq m.name n ≡ false
mark_other c n m w r k =
    false_from_ne_true (bytes_eq m.name n) (λ e. true≢false
    (sym r ∙ ap (λ j. is_relation_with (known c j)) (same_name m.name n e) ∙ ap is_relation_with (name_known c w m.name (view k.own k.columns k.formula) k.entry)))

-- so a mark reaches it where the view does
pub mark_reach : (c : Catalogue) (n : List ℕ) (m : Mark) → IsWellFormed c → is_relation_with (known c n) ≡ true → IsMark c m
    → (IsWellFormed c → IsMark c m → bytes_eq m.name n ≡ false → mark_reaches m n ≡ reaches c m.name n) → mark_reaches m n ≡ reaches c m.name n
mark_reach c n m w r k law = law w k (mark_other c n m w r k)

module _ (c d : Catalogue) (n : List ℕ) (x : HasOthers c d n) where
  -- the name of the change is a relation
  pub changes_relation : is_relation_with (known c n) ≡ true
  changes_relation =
      ap is_relation_with
      (name_known c x.formed_before n (relation n x.columns x.inserts x.tuples)
      (entry_there c x.changes.before x.changes.after (relation n x.columns x.inserts x.tuples) n x.formed_before x.changes.was refl))

  module _ (m : Mark) (k : IsMark c m) where
    -- the view is there after the change
    pub mark_entry : entry_of d.entries m.name ≡ Some (view k.own k.columns k.formula)
    mark_entry =
        same_entry c d n x.columns x.inserts x.inserts_after x.tuples x.tuples_after x.changes m.name (mark_other c n m x.formed_before changes_relation k) ∙ k.entry

    -- with the plan that is remembered of it
    pub mark_plan : IsViewPlan d m.name (plan_form m.plan)
    mark_plan = record { goal = goal_of k.columns k.formula; view = record { own = k.own; columns = k.columns; formula = k.formula; entry = mark_entry; goal = refl }; planned = k.planned }

    -- it is not tight where it clashes
    pub mark_clash : (measures d m.name).clash ≡ true → IsTightView d m.name → ⊥
    mark_clash = tight_clash d m.name k.own k.columns k.formula x.formed_after mark_entry
