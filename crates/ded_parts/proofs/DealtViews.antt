-- Answers over a relation whose tuples are dealt out, also by way of views.
--
-- By induction on the views. A view whose plan distributes holds of values exactly where it does over one of the parts, so it is dealt out as
-- the relation is.
use Rattle.std.proofs.Common.{◌≡◌, ℕ, ◌<◌, arith, true, List, [], ◌∷◌, length, Option, Some, None, refl, sym, ap, ◌∙◌, subst, bytes_eq}
use Rattle.std.specs.Prelude.{◌↔◌}
use Rattle.std.proofs.lemmas.Bool.{false_from_ne_true}
use Rattle.std.proofs.lemmas.Option.{none-some}
use Rattle.std.proofs.lemmas.Slice.Eq.{bytes_eq-Decides}
use Rattle.ded_model.proofs.Lists.{Some as SomeOf, some_weaker, some_both}
use Rattle.ded_model.proofs.Made.{plain_base}
use Rattle.ded_model.specs.declared.name.Column.{Column}
use Rattle.ded_model.specs.declared.slot.Slot.{Slot}
use Rattle.ded_model.specs.Catalogue.{Entry, relation, view, Catalogue, at_slots, at_names, meaning, Holds, PlanHolds}
use Rattle.ded_model.specs.Entries.{known, entry_of, columns_in}
use Rattle.ded_model.specs.Form.{Form}
use Rattle.ded_model.specs.Known.{Known, IsWellFormed}
use Rattle.ded_model.specs.Logic.{AllAtoms}
use Rattle.ded_model.specs.Made.{base}
use Rattle.ded_model.specs.PlanForm.{PlanAtom, scan, rows, PlanForm}
use Rattle.ded_model.specs.Point.{Point, IsPoint}
use Rattle.ded_model.specs.Value.{Argument}
use Rattle.ded_algebra.specs.Evaluation.{HaveSorts}
use Rattle.ded_sorts.proofs.KnownEntries.{columns_there}
use Rattle.ded_views.specs.Same.{AreByteArguments}
use Rattle.ded_views.proofs.Atoms.{all_weaker}
use Rattle.ded_views.proofs.Changing.{known_alike, same_entry}
use Rattle.ded_views.proofs.Views.{plain_there, view_means}
use Rattle.ded_plan.specs.Plans.{AreArguments, SameHead, IsScanOf, IsPlanOf}
use Rattle.ded_parts.specs.Parts.{IsPart, AreParts}
use Rattle.ded_parts.specs.Routes.{PlannedView, IsPlannedView, DistributesBy}
use Rattle.ded_parts.proofs.DealtPlans.{IsDealtScan, dealt_over, dealt_alone, same_others}
use Rattle.ded_parts.proofs.Owed.{slots_point}
use Rattle.ded_parts.proofs.PartNames.{there}

-- ---- what is known of names

same_head : (o : Option Known) → SameHead o o
same_head None = tt
same_head (Some k) = (refl, refl)

-- is the same over a part
part_heads : (d : Catalogue) (n : List ℕ) (c : Catalogue) → IsPart d n c → (m : List ℕ) → SameHead (known d m) (known c m)
part_heads d n c x m = subst (SameHead (known d m)) (sym (known_alike d c n x.columns x.inserts x.own_inserts x.tuples x.own_tuples x.changes m)) (same_head (known d m))

-- ---- values

-- byte arguments, as many as slots of the columns' sorts are, are values of the columns
values_of : (h : List Column) (ss : List Slot) (xs : List Argument) → HaveSorts h ss → length xs ≡ length ss → AreByteArguments xs → AreArguments h xs
values_of [] [] [] s l b = tt
values_of [] [] (x ∷ xs) s l b = absurd (omega (arith, l))
values_of [] (u ∷ ss) xs s l b = absurd s
values_of (c ∷ cs) [] xs s l b = absurd s
values_of (c ∷ cs) (u ∷ ss) [] s l b = absurd (omega (arith, l))
values_of (c ∷ cs) (u ∷ ss) (x ∷ xs) s l b = (b.0, values_of cs ss xs s.1 (omega (arith, l)) b.1)

-- ---- the law

module _ (d c : Catalogue) (n : List ℕ) (cs : List Catalogue) (w : IsWellFormed d) (a : AreParts d n (c ∷ cs)) where
  -- a view has the same entry over a part
  same_view : (e : Catalogue) → IsPart d n e → (v : List ℕ) (h : List Column) (f : Form) → entry_of d.entries v ≡ Some (view v h f) → entry_of e.entries v ≡ Some (view v h f)
  same_view e x v h f there_is = same_entry d e n x.columns x.inserts x.own_inserts x.tuples x.own_tuples x.changes v (false_from_ne_true (bytes_eq v n) other) ∙ there_is
    where
      other : bytes_eq v n ≡ true → ⊥
      other b = none-some (x.inserts)
          (ap (λ o. numbered o) (sym there_is ∙ ap (entry_of d.entries) ((bytes_eq-Decides v n).0 b) ∙ there d w n e x))
        where
          numbered : Option Entry → Option ℕ
          numbered None = None
          numbered (Some (relation k g i ts)) = Some i
          numbered (Some (view k g j)) = None

  -- what holds where something does over one of the parts holds where the same as that does
  over_parts : (A B : Type 0) (P Q : Catalogue → Type 0) → A ↔ B → ((e : Catalogue) → IsPart d n e → P e ↔ Q e) → A ↔ SomeOf P (c ∷ cs) → B ↔ SomeOf Q (c ∷ cs)
  over_parts A B P Q whole part parts = (λ y. to (parts.0 (whole.1 y)), λ y. whole.0 (parts.1 (from y)))
    where
      to : SomeOf P (c ∷ cs) → SomeOf Q (c ∷ cs)
      to y = some_weaker (λ e. IsPart d n e × P e) Q (c ∷ cs) (λ e z. (part e z.0).0 z.1) (some_both (IsPart d n) P (c ∷ cs) a.each y)

      from : SomeOf Q (c ∷ cs) → SomeOf P (c ∷ cs)
      from y = some_weaker (λ e. IsPart d n e × Q e) P (c ∷ cs) (λ e z. (part e z.0).1 z.1) (some_both (IsPart d n) Q (c ∷ cs) a.each y)

  -- the plan holds where it does over one of the parts
  abbrev IsDealtPlan : PlanForm → Type 0
  IsDealtPlan plan = (p : Point) → IsPoint p → PlanHolds d plan p ↔ SomeOf (λ e. PlanHolds e plan p) (c ∷ cs)

  -- a question holds where it does over one of the parts, if its plan does
  of_plan : (h : List Column) (f : Form) (plan : PlanForm) → IsPlanOf d h f plan → IsDealtPlan plan → (den : ℕ) (xs : List Argument) → 0 < den → AreArguments h xs
      → Holds d f (record { den = den; coords = at_names h xs }) ↔ SomeOf (λ e. Holds e f (record { den = den; coords = at_names h xs })) (c ∷ cs)
  of_plan h f plan x law den xs i v =
      let p : Point = record { den = den; coords = at_slots 0 h xs } in
      let q : Point = record { den = den; coords = at_names h xs } in
      over_parts (PlanHolds d plan p) (Holds d f q) (λ e. PlanHolds e plan p) (λ e. Holds e f q) (x.holds d w (λ m u. same_head (known d m)) den xs i v)
      (λ e y. x.holds e y.formed (λ m u. part_heads d n e y m) den xs i v) (law p (slots_point h xs den i v))

  -- a view whose plan does is dealt out
  dealt_view : (v : PlannedView) → IsPlannedView d v → IsDealtPlan v.plan → (den : ℕ) (xs : List Argument) → 0 < den → AreArguments v.columns xs
      → meaning d v.name den xs ↔ SomeOf (λ e. meaning e v.name den xs) (c ∷ cs)
  dealt_view v x law den xs i k =
      let q : Point = record { den = den; coords = at_names v.columns xs } in
      let whole = view_means d w v.name v.name v.columns v.formula x.there den xs in
      over_parts (Holds d v.formula q) (meaning d v.name den xs) (λ e. Holds e v.formula q) (λ e. meaning e v.name den xs) (whole.1, whole.0)
      (λ e y. let part = view_means e y.formed v.name v.name v.columns v.formula (same_view e y v.name v.columns v.formula x.there) den xs in (part.1, part.0))
      (of_plan v.columns v.formula v.plan x.plans law den xs i k)

  -- and so is each scan of it
  view_scans : (v : PlannedView) → IsPlannedView d v → IsDealtPlan v.plan → (g : Form) (f : PlanForm) → AllAtoms (IsScanOf d g) f → AllAtoms (IsDealtScan d v.name (c ∷ cs)) f
  view_scans v x law g f s = all_weaker (IsScanOf d g) (IsDealtScan d v.name (c ∷ cs)) step f s
    where
      own_columns : columns_in d (base v.name) ≡ v.columns
      own_columns = ap (columns_in d) (plain_base v.name (plain_there d w v.name (view v.name v.columns v.formula) x.there)) ∙ columns_there d v.name (view v.name v.columns v.formula) w x.there

      of_name : (ss : List Slot) → HaveSorts (columns_in d (base v.name)) ss → (den : ℕ) (xs : List Argument) → 0 < den → AreByteArguments xs → length xs ≡ length ss
          → meaning d v.name den xs ↔ SomeOf (λ e. meaning e v.name den xs) (c ∷ cs)
      of_name ss sorts den xs i b l = dealt_view v x law den xs i (values_of v.columns ss xs (subst (λ h. HaveSorts h ss) own_columns sorts) l b)

      step : (a : PlanAtom) → IsScanOf d g a → IsDealtScan d v.name (c ∷ cs) a
      step (scan k ss) used = λ e.
          subst (λ x. HaveSorts (columns_in d (base x)) ss → (den : ℕ) (xs : List Argument) → 0 < den → AreByteArguments xs → length xs ≡ length ss → meaning d x den xs ↔ SomeOf (λ c. meaning c x den xs) (c ∷ cs))
          ((bytes_eq-Decides v.name k).0 e) (of_name ss) used.1
      step (rows t) used = tt

  -- a plan that distributes by way of views
  by_views : (vs : List PlannedView) (g : Form) (f : PlanForm) → AllAtoms (IsScanOf d g) f → DistributesBy d n vs f → IsDealtPlan f
  by_views [] g f s k = dealt_alone d c n cs f w a k
  by_views (v ∷ vs) g f s k =
      dealt_over d v.name f k.0.once c cs (view_scans v k.1 (by_views vs v.formula v.plan k.1.plans.scans k.2) g f s) (same_others d c n cs f w a v.name k.0.others)

pub answers : (d c : Catalogue) (n : List ℕ) (cs : List Catalogue) (h : List Column) (f : Form) (plan : PlanForm) (vs : List PlannedView) → IsWellFormed d → AreParts d n (c ∷ cs) → IsPlanOf d h f plan
    → DistributesBy d n vs plan → (den : ℕ) (xs : List Argument) → 0 < den → AreArguments h xs
    → Holds d f (record { den = den; coords = at_names h xs }) ↔ SomeOf (λ e. Holds e f (record { den = den; coords = at_names h xs })) (c ∷ cs)
answers d c n cs h f plan vs w a x k den xs i v = of_plan d c n cs w a h f plan x (by_views d c n cs w a vs f plan x.scans k) den xs i v
