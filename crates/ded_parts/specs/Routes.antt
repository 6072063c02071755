-- Plans that distribute over a relation by way of views.
use Rattle.std.specs.Prelude.{◌≡◌, ℕ, true, false, Some, List, [], ◌∷◌}
use Rattle.std.specs.Str.{bytes_eq}
use Rattle.ded_model.specs.declared.name.Column.{Column}
use Rattle.ded_model.specs.Catalogue.{view, Catalogue}
use Rattle.ded_model.specs.Entries.{entry_of}
use Rattle.ded_model.specs.Form.{Form}
use Rattle.ded_model.specs.Made.{base}
use Rattle.ded_model.specs.PlanForm.{PlanForm}
use Rattle.ded_model.specs.Uses.{plan_uses}
use Rattle.ded_views.specs.Reaching.{reaches}
use Rattle.ded_plan.specs.Plans.{IsPlanOf}
use Rattle.ded_keep.specs.Additive.{is_additive}

-- a view, and a plan of its formula
pub record PlannedView : Type 0 where
  pub name : List ℕ
  pub columns : List Column
  pub formula : Form
  pub plan : PlanForm

-- the catalogue has the view, and the plan is one of its formula
pub record IsPlannedView (d : Catalogue) (v : PlannedView) : Type 0 where
  pub there : entry_of d.entries v.name ≡ Some (view v.name v.columns v.formula)
  pub plans : IsPlanOf d v.columns v.formula v.plan

-- the plan scans the name m exactly once, under no complement and not in what a difference takes away, and no other name that it
-- scans reaches the relation n
pub record ScansAlone (d : Catalogue) (n m : List ℕ) (f : PlanForm) : Type 0 where
  pub once : is_additive m f ≡ true
  pub others : (k : List ℕ) → plan_uses k f ≡ true → bytes_eq m k ≡ false → reaches d (base k) n ≡ false

-- the plan distributes over the relation n by way of the views: it scans the first one so, that one's plan scans the next one so, and
-- the last one's plan scans the relation so; where there are no views, the plan itself does
abbrev pub DistributesBy : Catalogue → List ℕ → List PlannedView → PlanForm → Type 0
DistributesBy d n [] f = ScansAlone d n n f
DistributesBy d n (v ∷ vs) f = ScansAlone d n v.name f × IsPlannedView d v × DistributesBy d n vs v.plan
