-- The list of a view where a relation that it scans once loses a tuple.
use Rattle.std.proofs.Common.{◌≡◌, ℕ, Bool, true, false, ◌||◌, ◌⊎◌, inl, inr, Some, None, is_some, List, [], ◌∷◌, ◌++◌, refl, sym, ap, ◌∙◌, subst, bytes_eq}
use Rattle.std.specs.Prelude.{◌↔◌, IsTrue}
use Rattle.std.specs.List.{list_any, AllByRecursion}
use Rattle.std.specs.Option.{option_map}
use Rattle.ded_model.specs.declared.name.Column.{Column}
use Rattle.ded_model.specs.Row.{Atom, tuple_holds, tuples_hold}
use Rattle.ded_model.specs.Catalogue.{view, Catalogue, tuples_of, at_slots, stored, meaning, PlanHolds, GivenHolds, GoalHolds}
use Rattle.ded_model.specs.Entries.{known, entry_of, relation_in}
use Rattle.ded_model.specs.Form.{Form, uses}
use Rattle.ded_model.specs.Goal.{goal_mentions}
use Rattle.ded_model.specs.Known.{IsTupleOver}
use Rattle.ded_model.specs.Lines.{Line, tuples_lines}
use Rattle.ded_model.specs.Made.{base}
use Rattle.ded_model.specs.Measure.{stored_measures, measures, goal_lines, plan_lines}
use Rattle.ded_model.specs.PlanForm.{PlanAtom, PlanForm, scan, rows}
use Rattle.ded_model.specs.Point.{slot, Point, IsPoint}
use Rattle.ded_model.specs.Slotted.{goal_of}
use Rattle.ded_model.specs.Uses.{plan_uses}
use Rattle.ded_model.specs.Value.{Argument}
use Rattle.ded_model.proofs.Bools.{or_assoc}
use Rattle.ded_model.proofs.Growth.{plan_lines-grow}
use Rattle.ded_model.proofs.Members.{In-left, In-split, or_split}
use Rattle.ded_model.proofs.Rows.{or_left, or_right}
use Rattle.ded_algebra.specs.Evaluation.{IsEvaluable, IsAnyAtom}
use Rattle.ded_plan.specs.Planned.{IsPlanned}
use Rattle.ded_algebra.specs.declared.given.GivenRelation.{GivenRelation}
use Rattle.ded_algebra.specs.Given.{given_catalogue, has_name, without_name}
use Rattle.ded_views.specs.Reaching.{reaches}
use Rattle.ded_views.proofs.Atoms.{all_weaker}
use Rattle.ded_views.proofs.Named.{of_named}
use Rattle.ded_views.proofs.PlansAlike.{read_alike}
use Rattle.ded_views.proofs.Views.{relation_means, tuples_over}
use Rattle.ded_keep.specs.Additive.{IsOtherScan}
use Rattle.ded_keep.specs.Adding.{IsAddition}
use Rattle.ded_keep.specs.Remaining.{IsRemaining}
use Rattle.ded_query.specs.Gathering.{IsGivenOf, IsViewGoal, IsViewOf}
use Rattle.ded_query.specs.Over.{over_relations}
use Rattle.ded_query.proofs.Evaluable.{evaluable, scanned_same}
use Rattle.ded_query.proofs.GivenNames.{shaped, given_lines, same_name}
use Rattle.ded_query.proofs.Standing.{over_right, still_there, stored_there}
use Rattle.ded_database.specs.Changes.{IsDelete}
use Rattle.ded_database.specs.Lasting.{HasLinesBut, IsViewBut}
use Rattle.ded_database.proofs.ListsStaying.{HasOthers}
use Rattle.ded_database.proofs.Under.{all_left_over}
use Rattle.ded_database.proofs.Beside.{IsGivenBeside, other_has, same_goal, relation_before, relation_after, entry_after, scans, columns_are, same_beside}

-- ---- one tuple less

pub or_comm : (a b : Bool) → (a || b) ≡ (b || a)
or_comm true true = refl
or_comm true false = refl
or_comm false true = refl
or_comm false false = refl

less_hold : (before after : List (ℕ × List Atom)) (k : ℕ) (t : List Atom) (p : Point) → tuples_hold (tuples_of (before ++ (k, t) ∷ after)) p ≡ (tuples_hold (tuples_of (before ++ after)) p || tuple_holds t p)
unfolding tuples_hold
less_hold [] after k t p = or_comm (tuple_holds t p) _
less_hold (x ∷ before) after k t p = ap (λ b. tuple_holds x.1 p || b) (less_hold before after k t p) ∙ sym (or_assoc (tuple_holds x.1 p) _ _)

middle_of : (P : List Atom → Type 0) (before after : List (ℕ × List Atom)) (k : ℕ) (t : List Atom) → AllByRecursion P (tuples_of (before ++ (k, t) ∷ after)) → P t
middle_of P [] after k t h = h.0
middle_of P (x ∷ before) after k t h = middle_of P before after k t h.1

module _ (c d : Catalogue) (n : List ℕ) (t : List Atom) (x : IsDelete c d n t) where
  -- the relation has other tuples
  abbrev pub others : HasOthers c d n
  others = record {
    formed_before = x.formed_before;
    formed_after = x.formed_after;
    columns = x.deletes.columns;
    inserts = x.deletes.inserts;
    inserts_after = x.deletes.inserts;
    tuples = x.deletes.before ++ (x.number, x.deletes.tuple) ∷ x.deletes.after;
    tuples_after = x.deletes.before ++ x.deletes.after;
    changes = x.deletes.changes;
  }

  -- the tuple is over the relation's columns
  pub tuple_over : IsTupleOver x.deletes.columns t
  tuple_over = subst (IsTupleOver x.deletes.columns) x.tuple
      (middle_of (IsTupleOver x.deletes.columns) x.deletes.before x.deletes.after x.number x.deletes.tuple
      (tuples_over c x.formed_before n n x.deletes.columns x.deletes.inserts (x.deletes.before ++ (x.number, x.deletes.tuple) ∷ x.deletes.after) (relation_before c d n others)))

  -- the relation held where it does after and where the tuple does
  deleted : (den : ℕ) (xs : List Argument) → meaning c n den xs ↔ (meaning d n den xs ⊎ IsTrue (tuple_holds t (record { den = den; coords = at_slots 0 x.deletes.columns xs })))
  deleted den xs =
      let p : Point = record { den = den; coords = at_slots 0 x.deletes.columns xs } in
      let a = relation_means c x.formed_before n n x.deletes.columns x.deletes.inserts (x.deletes.before ++ (x.number, x.deletes.tuple) ∷ x.deletes.after) (relation_before c d n others) den xs in
      let b = relation_means d x.formed_after n n x.deletes.columns x.deletes.inserts (x.deletes.before ++ x.deletes.after) (relation_after c d n others) den xs in
      let less = less_hold x.deletes.before x.deletes.after x.number x.deletes.tuple p in
      subst (λ u. meaning c n den xs ↔ (meaning d n den xs ⊎ IsTrue (tuple_holds u p))) x.tuple (
        λ s. elim (or_split (tuples_hold (tuples_of (x.deletes.before ++ x.deletes.after)) p) (tuple_holds x.deletes.tuple p) (sym less ∙ a.0 s)) [ inl e ↦ inl (b.1 e) | inr e ↦ inr e ],
        λ s. a.1 (less ∙ elim s [
          | inl e ↦ or_left (tuples_hold (tuples_of (x.deletes.before ++ x.deletes.after)) p) (tuple_holds x.deletes.tuple p) (b.0 e)
          | inr e ↦ or_right (tuples_hold (tuples_of (x.deletes.before ++ x.deletes.after)) p) (tuple_holds x.deletes.tuple p) e
        ]),
      )

  -- ---- over what else the plan scans

  module _ (v own : List ℕ) (hv : List Column) (f : Form) (plan : PlanForm) (e : entry_of c.entries v ≡ Some (view own hv f)) (p : IsPlanned (goal_of hv f) plan) where
    -- what is given is right after the delete and before it, but for the relation
    pub removal : ((o : List ℕ) → uses o f ≡ true → bytes_eq o n ≡ false → reaches c (base o) n ≡ false) → (h : List Column) → Some h ≡ option_map (λ k. k.columns) (known d n) → (rs : List GivenRelation) → IsGivenBeside d n plan rs
        → IsAddition (given_catalogue rs) d c n h t plan
    removal beside h heading rs y = record {
      others = all_weaker (IsOtherScan (meaning c) (stored (given_catalogue rs)) (meaning d) n) (IsOtherScan (meaning d) (stored (given_catalogue rs)) (meaning c) n) turned plan
          (same_beside c d n others v own hv f plan e p h heading rs y beside);
      adds = λ den xs k b. subst (λ y. meaning c n den xs ↔ (meaning d n den xs ⊎ IsTrue (tuple_holds t (record { den = den; coords = at_slots 0 y xs })))) columns_same (deleted den xs);
    }
      where
        columns_same : x.deletes.columns ≡ h
        columns_same = columns_are c d n others v own hv f plan e p h heading rs y

        turned : (a : PlanAtom) → IsOtherScan (meaning c) (stored (given_catalogue rs)) (meaning d) n a → IsOtherScan (meaning d) (stored (given_catalogue rs)) (meaning c) n a
        turned (rows a) k = k
        turned (scan o ss) k = λ i. (
          λ den xs q b l. (let r = (k i).0 den xs q b l in (r.1, r.0)),
          λ den xs q b l. (let r = (k i).0 den xs q b l in let s = (k i).1 den xs q b l in (λ z. r.1 (s.0 z), λ z. s.1 (r.0 z))),
        )

    -- ---- over all that it scans after the delete

    module _ (names : List (List ℕ)) (all : (o : List ℕ) → list_any (bytes_eq o) names ≡ plan_uses o plan) (gathered rs : List GivenRelation) (of : AllByRecursion (IsGivenOf d) gathered)
        (given : AllByRecursion (λ o. has_name o (over_relations d None gathered) ≡ true) names) (is : rs ≡ without_name n gathered) where
      of_after : AllByRecursion (IsGivenOf d) (over_relations d None rs)
      of_after = over_right d None rs x.formed_after (subst (AllByRecursion (IsGivenOf d)) (sym is) (all_left_over (IsGivenOf d) n gathered of))

      there_after : (o : List ℕ) → plan_uses o plan ≡ true → has_name o (over_relations d None rs) ≡ true
      there_after o u = by (bytes_eq o n) refl
        where
          by : (b : Bool) → bytes_eq o n ≡ b → has_name o (over_relations d None rs) ≡ true
          by true i = stored_there d None rs o refl (ap (λ m. is_some (relation_in (entry_of d.entries m))) (sym (same_name o n i)) ∙ ap (λ r. is_some (relation_in r)) (relation_after c d n others))
          by false i = still_there d None None gathered rs o (λ h. ap (has_name o) is ∙ other_has o n gathered i h) refl
              (of_named (λ m. has_name m (over_relations d None gathered) ≡ true) names o given (all o ∙ u))

      pub evaluable_after : IsEvaluable IsAnyAtom (given_catalogue (over_relations d None rs)) plan
      evaluable_after = evaluable d f (over_relations d None rs) (shaped d (over_relations d None rs) of_after) plan (scans c d n others v own hv f plan e p) there_after

      pub read_after : (q : Point) → IsPoint q → GivenHolds (given_catalogue (over_relations d None rs)) plan q ↔ PlanHolds d plan q
      read_after q i = read_alike (given_catalogue (over_relations d None rs)) d plan q i (scanned_same d f (over_relations d None rs) of_after plan (scans c d n others v own hv f plan e p) there_after)

      -- the list that is left is the list after, but for its lines
      pub view_left : (alone : Catalogue) (list ts : List (List Atom)) → IsViewOf c v list → IsRemaining alone (given_catalogue (over_relations d None rs)) plan list ts
          → (((q : Point) → IsPoint q → IsTrue (tuples_hold list q) ↔ PlanHolds c plan q) → (q : Point) → IsPoint q → IsTrue (tuples_hold ts q) ↔ PlanHolds d plan q)
          → (more : List Line) → HasLinesBut c d v more list → IsViewBut d v more ts
      view_left alone list ts k r law more lasting =
          let goal : k.goal ≡ goal_of hv f = k.view.goal ∙ same_goal c v k.view.own own k.view.columns hv k.view.formula f k.view.entry e in
          let there = entry_after c d n others v own hv f plan e p in
          let own_view : IsViewGoal d v (goal_of hv f) = record { own = own; columns = hv; formula = f; entry = there; goal = refl } in
          let before : (q : Point) → IsPoint q → IsTrue (tuples_hold list q) ↔ PlanHolds c plan q = λ q i. (
          let was = subst (λ y. IsTrue (tuples_hold list q) ↔ GoalHolds c y q) goal (k.evaluated.holds q i) in
          let planned = p.holds c q i in
          (λ s. planned.0 (was.0 s), λ s. was.1 (planned.1 s))) in
          record {
            goal = goal_of hv f;
            view = own_view;
            holds = λ q i. (let plans = law before q i in let after = p.holds d q i in (λ s. after.1 (plans.0 s), λ s. plans.1 (after.0 s)));
            slots = λ s i. elim (r.slots s i) [ inl j ↦ subst (λ y. goal_mentions y (slot s) ≡ true) goal (k.evaluated.slots s j) | inr j ↦ p.slots (slot s) j ];
            lines = λ l i. elim (In-split l (tuples_lines list) (plan_lines (stored_measures (given_catalogue (over_relations d None rs))) plan) (r.lines l i)) [
              | inl j ↦ lasting (goal_of hv f) (record { own = own; columns = hv; formula = f; entry = e; goal = refl }) l j
              | inr j ↦ In-left l (goal_lines (measures d) (goal_of hv f)) more
                  (p.lines (measures d) l (plan_lines-grow (stored_measures (given_catalogue (over_relations d None rs))) (measures d) (given_lines d (over_relations d None rs) (shaped d (over_relations d None rs) of_after)) plan l j))
            ];
            normal = r.normal k.normal;
          }
