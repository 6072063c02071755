-- The list of a view to which an inserted tuple only adds.
use Rattle.std.proofs.Common.{◌≡◌, ℕ, Bool, true, false, ◌⊎◌, inl, inr, cond, Some, List, [], ◌∷◌, ◌++◌, refl, sym, ap, ◌∙◌, subst, true≢false, bytes_eq}
use Rattle.std.specs.Prelude.{◌↔◌, IsTrue}
use Rattle.std.specs.List.{AllByRecursion}
use Rattle.std.specs.Option.{option_map}
use Rattle.ded_model.specs.declared.slot.Slot.{Slot}
use Rattle.ded_model.specs.declared.name.Column.{Column}
use Rattle.ded_model.specs.Row.{Atom, tuple_holds, tuples_hold, tuples_mention}
use Rattle.ded_model.specs.Catalogue.{relation, view, Catalogue, tuples_of, at_slots, meaning, PlanHolds, GivenHolds, GoalHolds}
use Rattle.ded_model.specs.Entries.{known, entry_of}
use Rattle.ded_model.specs.Form.{Form, uses}
use Rattle.ded_model.specs.Goal.{goal_mentions}
use Rattle.ded_model.specs.Known.{IsTupleOver}
use Rattle.ded_model.specs.Lines.{In, IsSubset, tuples_lines, atoms_lines}
use Rattle.ded_model.specs.Measure.{Measure, entry_measure, with_measure, stored_measures, measures, goal_lines, plan_lines, plan_clashes}
use Rattle.ded_model.specs.Made.{base}
use Rattle.ded_model.specs.Normal.{IsNormalTuple}
use Rattle.ded_model.specs.PlanForm.{PlanForm}
use Rattle.ded_model.specs.Point.{slot, Point, IsPoint}
use Rattle.ded_model.specs.Slotted.{goal_of}
use Rattle.ded_model.proofs.Growth.{measures-grow, goal_lines-grow, plan_lines-grow, plan_clashes-grow}
use Rattle.ded_model.proofs.Members.{In-right, In-split}
use Rattle.ded_genrel.proofs.Items.{all-append}
use Rattle.ded_algebra.specs.Evaluation.{AreGiven, IsEvaluation}
use Rattle.ded_plan.specs.Planned.{IsPlanned}
use Rattle.ded_algebra.specs.declared.given.GivenRelation.{GivenRelation}
use Rattle.ded_algebra.specs.Given.{given_catalogue}
use Rattle.ded_views.specs.Reaching.{reaches}
use Rattle.ded_views.proofs.Changing.{inserted, inserted_lines}
use Rattle.ded_views.proofs.Placing.{none_measured}
use Rattle.ded_views.proofs.Views.{name_measure, tuples_over}
use Rattle.ded_keep.specs.Additive.{is_additive}
use Rattle.ded_keep.specs.Adding.{with_alone, IsExtended, IsAddition}
use Rattle.ded_keep.specs.Behind.{IsPutBehind}
use Rattle.ded_keep.proofs.AloneMeanings.{added_alone}
use Rattle.ded_keep.proofs.Appended.{extended_behind, kept_after}
use Rattle.ded_query.specs.Gathering.{IsViewOf}
use Rattle.ded_query.proofs.GivenNames.{no_entry, shaped, lines_from, clash_from, same_name}
use Rattle.ded_database.specs.Changes.{IsInsert}
use Rattle.ded_database.proofs.ListsStaying.{HasOthers}
use Rattle.ded_database.proofs.Beside.{IsGivenBeside, same_goal, relation_after, entry_after, columns_before, same_beside}

-- ---- the tuple among those of the relation

last_of : (P : List Atom → Type 0) (ts : List (ℕ × List Atom)) (k : ℕ) (t : List Atom) → AllByRecursion P (tuples_of (ts ++ (k, t) ∷ [])) → P t
last_of P [] k t h = h.0
last_of P (x ∷ ts) k t h = last_of P ts k t h.1

last_lines : (ts : List (ℕ × List Atom)) (k : ℕ) (t : List Atom) → IsSubset (tuples_lines (t ∷ [])) (tuples_lines (tuples_of (ts ++ (k, t) ∷ [])))
last_lines [] k t l h = h
last_lines (x ∷ ts) k t l h = In-right l (atoms_lines x.1) (tuples_lines (tuples_of (ts ++ (k, t) ∷ []))) (last_lines ts k t l h)

-- ---- an insert into a relation that the view's plan scans once

module _ (c d : Catalogue) (n : List ℕ) (t : List Atom) (x : IsInsert c d n t) where
  -- the relation has other tuples
  abbrev pub others : HasOthers c d n
  others = record {
    formed_before = x.formed_before;
    formed_after = x.formed_after;
    columns = x.inserts.columns;
    inserts = x.inserts.inserts;
    inserts_after = x.number;
    tuples = x.inserts.present;
    tuples_after = x.inserts.present ++ (x.number, t) ∷ [];
    changes = x.inserts.changes;
  }

  -- the tuple is over the relation's columns
  pub tuple_over : IsTupleOver x.inserts.columns t
  tuple_over = last_of (IsTupleOver x.inserts.columns) x.inserts.present x.number t
      (tuples_over d x.formed_after n n x.inserts.columns x.number (x.inserts.present ++ (x.number, t) ∷ []) (relation_after c d n others))

  -- and its lines are among those of the relation
  tuple_lines : IsSubset (tuples_lines (t ∷ [])) (measures d n).lines
  tuple_lines = subst (λ (m : Measure). IsSubset (tuples_lines (t ∷ [])) m.lines)
      (sym (name_measure d x.formed_after n (relation n x.inserts.columns x.number (x.inserts.present ++ (x.number, t) ∷ [])) (relation_after c d n others)))
      (last_lines x.inserts.present x.number t)

  -- ---- over what else the plan scans

  module _ (v own : List ℕ) (hv : List Column) (f : Form) (plan : PlanForm) (e : entry_of c.entries v ≡ Some (view own hv f)) (p : IsPlanned (goal_of hv f) plan)
      (beside : (o : List ℕ) → uses o f ≡ true → bytes_eq o n ≡ false → reaches c (base o) n ≡ false) (h : List Column) (heading : Some h ≡ option_map (λ k. k.columns) (known d n)) (rs : List GivenRelation)
      (y : IsGivenBeside d n plan rs) where
    -- what is given is right before the insert and after it, but for the relation
    pub addition : IsAddition (given_catalogue rs) c d n h t plan
    addition = record {
      others = same_beside c d n others v own hv f plan e p h heading rs y beside;
      adds = λ den xs k b.
          subst (λ y. meaning d n den xs ↔ (meaning c n den xs ⊎ IsTrue (tuple_holds t (record { den = den; coords = at_slots 0 y xs })))) (columns_before c d n others v own hv f plan e p h heading rs y)
          (inserted c d n t x.number x.formed_before x.formed_after x.inserts den xs);
    }

    -- each name has lines among those that it has after the insert
    lines_alone : (o : List ℕ) → IsSubset (stored_measures (with_alone (given_catalogue rs) n h t) o).lines (measures d o).lines
    unfolding stored_measures
    lines_alone o = lines_from d o rs _ (shaped d rs y.of) (by (bytes_eq o n) refl)
      where
        by : (b : Bool) → bytes_eq o n ≡ b → IsSubset (with_measure none_measured (relation n h 0 ((0, t) ∷ [])) o).lines (measures d o).lines
        by true i = subst (λ b. IsSubset (cond b (entry_measure none_measured (relation n h 0 ((0, t) ∷ []))) (none_measured o)).lines (measures d o).lines) (sym i)
            (subst (λ k. IsSubset (tuples_lines (t ∷ [])) (measures d k).lines) (same_name o n i) tuple_lines)
        by false i = subst (λ b. IsSubset (cond b (entry_measure none_measured (relation n h 0 ((0, t) ∷ []))) (none_measured o)).lines (measures d o).lines) (sym i) (λ l k. absurd k)

    -- and none clashes
    clash_alone : (o : List ℕ) → (stored_measures (with_alone (given_catalogue rs) n h t) o).clash ≡ false
    unfolding stored_measures
    clash_alone o = clash_from d o rs _ (by (bytes_eq o n) refl)
      where
        by : (b : Bool) → bytes_eq o n ≡ b → (with_measure none_measured (relation n h 0 ((0, t) ∷ [])) o).clash ≡ false
        by true i = ap (λ b. (cond b (entry_measure none_measured (relation n h 0 ((0, t) ∷ []))) (none_measured o)).clash) i
        by false i = ap (λ b. (cond b (entry_measure none_measured (relation n h 0 ((0, t) ∷ []))) (none_measured o)).clash) i

    -- the plan clashes over them only where the view does
    pub clash_of_view : plan_clashes (stored_measures (with_alone (given_catalogue rs) n h t)) plan ≡ true → (measures d v).clash ≡ true
    unfolding measures
    clash_of_view i =
        ap (λ (m : Measure). m.clash) (name_measure d x.formed_after v (view own hv f) (entry_after c d n others v own hv f plan e p))
        ∙ p.clashes (measures d) (plan_clashes-grow (stored_measures (with_alone (given_catalogue rs) n h t)) (measures d) lines_alone (λ o k. absurd (true≢false (sym k ∙ clash_alone o))) plan i)

    -- the list before, with what the plan gives for the tuple alone behind it, is the list after
    pub view_extended : AreGiven (given_catalogue rs).entries → is_additive n plan ≡ true → (list more ts : List (List Atom)) → IsViewOf c v list
        → IsEvaluation (with_alone (given_catalogue rs) n h t) plan (tuples_hold more) (tuples_mention more) (tuples_lines more) → AllByRecursion IsNormalTuple more → IsPutBehind list more ts → IsViewOf d v ts
    unfolding measures
    view_extended given additive list more ts k m norm is =
        let goal : k.goal ≡ goal_of hv f = k.view.goal ∙ same_goal c v k.view.own own k.view.columns hv k.view.formula f k.view.entry e in
        let both = extended_behind (with_alone (given_catalogue rs) n h t) plan list more ts is m in
        record {
          goal = goal_of hv f;
          view = record { own = own; columns = hv; formula = f; entry = entry_after c d n others v own hv f plan e p; goal = refl };
          evaluated = record {
            holds = λ q i.
                let before = subst (λ y. IsTrue (tuples_hold list q) ↔ GoalHolds c y q) goal (k.evaluated.holds q i) in
                let planned = p.holds c q i in
                let after = p.holds d q i in
                let plans = kept_after (IsTrue (tuples_hold ts q)) (IsTrue (tuples_hold list q)) (GivenHolds (with_alone (given_catalogue rs) n h t) plan q) (PlanHolds d plan q) (both.holds q i) (PlanHolds c plan q)
                (λ s. planned.0 (before.0 s), λ s. before.1 (planned.1 s)) (added_alone (given_catalogue rs) c d n h t plan given (no_entry n rs y.apart) additive addition q i) in
                (λ s. after.1 (plans.0 s), λ s. plans.1 (after.0 s));
            slots = λ s i. elim (both.slots s i) [ inl j ↦ subst (λ y. goal_mentions y (slot s) ≡ true) goal (k.evaluated.slots s j) | inr j ↦ p.slots (slot s) j ];
            lines = λ l i. elim (In-split l (tuples_lines list) (plan_lines (stored_measures (with_alone (given_catalogue rs) n h t)) plan) (both.lines l i)) [
              | inl j ↦ goal_lines-grow (measures c) (measures d) (measures-grow c d (inserted_lines c d n t x.number x.inserts)).lines (goal_of hv f) l (subst (λ y. In l (goal_lines (measures c) y)) goal (k.evaluated.lines l j))
              | inr j ↦ p.lines (measures d) l (plan_lines-grow (stored_measures (with_alone (given_catalogue rs) n h t)) (measures d) lines_alone plan l j)
            ];
          };
          normal = subst (AllByRecursion IsNormalTuple) (sym is.is) (all-append IsNormalTuple list is.rest k.normal (is.normal norm));
        }

-- what the list of no tuple is extended to, reduced, is what the plan is evaluated to
pub evaluated_alone : (c : Catalogue) (plan : PlanForm) (added more : List (List Atom)) → IsExtended c plan [] added → ((p : Point) → IsPoint p → tuples_hold more p ≡ tuples_hold added p)
    → ((s : Slot) → tuples_mention more s ≡ true → tuples_mention added s ≡ true) → IsSubset (tuples_lines more) (tuples_lines added)
    → IsEvaluation c plan (tuples_hold more) (tuples_mention more) (tuples_lines more)
unfolding tuples_hold tuples_mention
evaluated_alone c plan added more k same slots lines = record {
  holds = λ p i all. (
    λ s. elim ((k.holds p i).0 (sym (same p i) ∙ s)) [ inl j ↦ absurd (true≢false (sym j)) | inr j ↦ j ],
    λ s. same p i ∙ (k.holds p i).1 (inr s),
  );
  slots = λ s i. elim (k.slots s (slots s i)) [ inl j ↦ absurd (true≢false (sym j)) | inr j ↦ j ];
  lines = λ l i. k.lines l (lines l i);
}
