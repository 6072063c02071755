-- A view whose plan scans a relation once, and what else it scans, where the relation gets other tuples.
use Rattle.std.proofs.Common.{◌≡◌, ℕ, Bool, true, false, not, ◌&&◌, cond, Some, None, is_some, List, [], ◌∷◌, ◌++◌, map, refl, sym, ap, ◌∙◌, subst, true≢false, bytes_eq}
use Rattle.std.specs.List.{list_any, AllByRecursion}
use Rattle.std.specs.Option.{option_map}
use Rattle.std.proofs.lemmas.Bool.{and_parts, and_from, not-true}
use Rattle.std.proofs.lemmas.Option.{same_Some, none-some}
use Rattle.ded_model.specs.declared.name.Column.{Column}
use Rattle.ded_model.specs.Row.{Atom}
use Rattle.ded_model.specs.Catalogue.{relation, view, Catalogue, stored, meaning}
use Rattle.ded_model.specs.Entries.{known, entry_of, relation_in, view_in, columns_in}
use Rattle.ded_model.specs.Form.{Form, uses}
use Rattle.ded_model.specs.Known.{IsTupleOver, IsAccepted, IsWellFormed}
use Rattle.ded_model.specs.Measure.{Measure, measures, goal_clashes}
use Rattle.ded_model.specs.Logic.{AllAtoms}
use Rattle.ded_model.specs.Made.{base}
use Rattle.ded_model.specs.PlanForm.{PlanAtom, PlanForm, scan, rows, plan_form}
use Rattle.ded_model.specs.Slotted.{goal_of}
use Rattle.ded_model.specs.Uses.{plan_uses, plan_atom_uses}
use Rattle.ded_sorts.proofs.KnownEntries.{columns_there}
use Rattle.ded_algebra.specs.Evaluation.{HaveSorts, IsScannedFrom, IsScannable, IsEvaluable, IsAnyAtom}
use Rattle.ded_plan.specs.Planned.{IsPlanned}
use Rattle.ded_plan.specs.Plans.{IsScanOf}
use Rattle.ded_plan.proofs.PlansOfFormulas.{plan_scans}
use Rattle.ded_algebra.specs.declared.given.GivenRelation.{GivenRelation}
use Rattle.ded_algebra.specs.Given.{given_entry, given_catalogue, has_name, without_name}
use Rattle.ded_algebra.proofs.Taken.{all_left}
use Rattle.ded_views.specs.Reaching.{reaches}
use Rattle.ded_views.proofs.Named.{of_named, all_named, some_named}
use Rattle.ded_views.proofs.Changing.{entry_there, same_entry}
use Rattle.ded_views.proofs.Clashing.{plan_clashing}
use Rattle.ded_views.proofs.Views.{name_measure, plain_there, view_accepted}
use Rattle.ded_keep.specs.Additive.{is_additive, IsOtherScan}
use Rattle.ded_keep.specs.Adding.{with_alone}
use Rattle.ded_database.specs.declared.mark.Mark.{Mark}
use Rattle.ded_database.specs.Marks.{reaches_beside, mark_adds}
use Rattle.ded_query.specs.Gathering.{IsGivenOf, IsFront}
use Rattle.ded_query.specs.Over.{over_relations}
use Rattle.ded_model.proofs.Made.{plain_base}
use Rattle.ded_query.proofs.Entries.{named_columns, relation_heading}
use Rattle.ded_query.proofs.Evaluable.{all_with, any_atoms, scannable, scans_same}
use Rattle.ded_query.proofs.GivenNames.{shaped, same_name}
use Rattle.ded_query.proofs.Standing.{over_right, still_there, hidden_gone}
use Rattle.ded_query.proofs.Names.{scanned_used, used_known}
use Rattle.ded_database.specs.Held.{IsHeld}
use Rattle.ded_database.proofs.ListsStaying.{HasOthers, same_meaning_after}
use Rattle.ded_database.proofs.Under.{all_left_over, other_left, unnamed, nameless, named_each, gone_name}
use Rattle.ded_model.proofs.Bools.{bytes_eq-refl}

-- ---- lists without the relation

-- another name is left
pub other_has : (o n : List ℕ) (rs : List GivenRelation) → bytes_eq o n ≡ false → has_name o rs ≡ true → has_name o (without_name n rs) ≡ true
other_has o n rs e h = by (has_name o (without_name n rs)) refl
  where
    by : (b : Bool) → has_name o (without_name n rs) ≡ b → has_name o (without_name n rs) ≡ true
    by true f = f
    by false f = absurd (true≢false (sym h ∙ nameless o rs (sym (ap (option_map (λ (r : GivenRelation). r.tuples)) (other_left o n rs e)) ∙ unnamed o (without_name n rs) f)))

-- of relations one behind another
without-append : (n : List ℕ) (rs ss : List GivenRelation) → without_name n (rs ++ ss) ≡ without_name n rs ++ without_name n ss
without-append n [] ss = refl
without-append n (r ∷ rs) ss = by (bytes_eq n r.name) (without-append n rs ss)
  where
    by : (b : Bool) → without_name n (rs ++ ss) ≡ without_name n rs ++ without_name n ss → cond b (without_name n (rs ++ ss)) (r ∷ without_name n (rs ++ ss)) ≡ cond b (without_name n rs) (r ∷ without_name n rs) ++ without_name n ss
    by true next = next
    by false next = ap (λ l. r ∷ l) next

-- what stood in front still does, where none of it has the name
pub front_without : (n : List ℕ) (old new : List GivenRelation) → has_name n old ≡ false → IsFront old new → IsFront old (without_name n new)
front_without n old new h f = record { more = without_name n f.more; is = ap (without_name n) f.is ∙ without-append n old f.more ∙ ap (λ l. l ++ without_name n f.more) (all_left n old h) }

-- ---- a view

-- its columns and its formula are given by its entry
pub same_goal : (c : Catalogue) (v own own' : List ℕ) (h h' : List Column) (f f' : Form) → entry_of c.entries v ≡ Some (view own h f) → entry_of c.entries v ≡ Some (view own' h' f') → goal_of h f ≡ goal_of h' f'
same_goal c v own own' h h' f f' e e' = same_Some _ _ (ap (λ o. option_map (λ x. goal_of x.0 x.1) (view_in o)) (sym e ∙ e'))

-- a view isn't a relation
pub view_other : (c : Catalogue) (n v own : List ℕ) (h hn : List Column) (f : Form) (i : ℕ) (ts : List (ℕ × List Atom)) → entry_of c.entries v ≡ Some (view own h f) → entry_of c.entries n ≡ Some (relation n hn i ts) → bytes_eq v n ≡ false
view_other c n v own h hn f i ts e e' = by (bytes_eq v n) refl
  where
    by : (b : Bool) → bytes_eq v n ≡ b → bytes_eq v n ≡ false
    by true s = absurd (none-some (h, f) (ap view_in (sym e' ∙ ap (entry_of c.entries) (same_name v n s) ∙ e)))
    by false s = s

-- ---- what is given

-- what is given is right over the catalogue; the other names that the plan scans are given, and the name isn't
pub record IsGivenBeside (d : Catalogue) (n : List ℕ) (plan : PlanForm) (rs : List GivenRelation) : Type 0 where
  pub of : AllByRecursion (IsGivenOf d) rs
  pub there : (o : List ℕ) → plan_uses o plan ≡ true → bytes_eq o n ≡ false → has_name o rs ≡ true
  pub apart : has_name n rs ≡ false

-- so are the views that were gathered and the relations of the catalogue, without the one of the name
pub given_beside : (d : Catalogue) (n : List ℕ) (plan : PlanForm) (names : List (List ℕ)) (gathered rs : List GivenRelation) → IsWellFormed d
    → ((o : List ℕ) → plan_uses o plan ≡ true → bytes_eq o n ≡ false → list_any (bytes_eq o) names ≡ true) → AllByRecursion (IsGivenOf d) gathered → AllByRecursion (λ o. has_name o (over_relations d None gathered) ≡ true) names
    → rs ≡ without_name n gathered → IsGivenBeside d n plan (over_relations d (Some n) rs)
given_beside d n plan names gathered rs w all k h e = record {
  of = over_right d (Some n) rs w (subst (AllByRecursion (IsGivenOf d)) (sym e) (all_left_over (IsGivenOf d) n gathered k));
  there = λ o u i. still_there d None (Some n) gathered rs o (λ x. ap (has_name o) e ∙ other_has o n gathered i x) i (of_named (λ m. has_name m (over_relations d None gathered) ≡ true) names o h (all o u i));
  apart = hidden_gone d n rs (ap (has_name n) e ∙ gone_name n gathered);
}

-- names that are those of the plan but for one
module _ (n : List ℕ) (plan : PlanForm) (names : List (List ℕ)) (all : (o : List ℕ) → list_any (bytes_eq o) names ≡ (plan_uses o plan && not (bytes_eq o n))) where
  pub others_used : (o : List ℕ) → list_any (bytes_eq o) names ≡ true → plan_uses o plan ≡ true
  others_used o i = (and_parts (plan_uses o plan) (not (bytes_eq o n)) (sym (all o) ∙ i)).0

  pub others_named : (o : List ℕ) → plan_uses o plan ≡ true → bytes_eq o n ≡ false → list_any (bytes_eq o) names ≡ true
  others_named o u i = all o ∙ and_from (plan_uses o plan) (not (bytes_eq o n)) u (ap not i)

-- ---- other tuples of a relation that the view's plan scans once

module _ (c d : Catalogue) (n : List ℕ) (x : HasOthers c d n) where
  pub relation_before : entry_of c.entries n ≡ Some (relation n x.columns x.inserts x.tuples)
  relation_before = entry_there c x.changes.before x.changes.after (relation n x.columns x.inserts x.tuples) n x.formed_before x.changes.was refl

  pub relation_after : entry_of d.entries n ≡ Some (relation n x.columns x.inserts_after x.tuples_after)
  relation_after = entry_there d x.changes.before x.changes.after (relation n x.columns x.inserts_after x.tuples_after) n x.formed_after (ap (λ y. y.entries) x.changes.is) refl

  -- its heading is there
  pub heading_there : None ≡ option_map (λ k. k.columns) (known d n) → ⊥
  heading_there = relation_heading d n x.formed_after (ap (λ o. is_some (relation_in o)) relation_after)

  -- no list is held under the relation's name
  pub held_other : (rs : List GivenRelation) → AllByRecursion (IsHeld d) rs → has_name n rs ≡ false
  held_other rs k = by (has_name n rs) refl
    where
      by : (b : Bool) → has_name n rs ≡ b → has_name n rs ≡ false
      by true h = absurd
          (let found = named_each (λ v. bytes_eq v n ≡ false) rs n (all_names rs k) h in
          true≢false (sym (bytes_eq-refl n) ∙ found))
        where
          all_names : (ss : List GivenRelation) → AllByRecursion (IsHeld d) ss → AllByRecursion (λ (r : GivenRelation). bytes_eq r.name n ≡ false) ss
          all_names [] k = tt
          all_names (r ∷ ss) k = (
            view_other d n r.name k.0.view.view.own k.0.view.view.columns x.columns k.0.view.view.formula x.inserts_after x.tuples_after k.0.view.view.entry relation_after,
            all_names ss k.1,
          )
      by false h = h

  -- ---- over what else the plan scans

  module _ (v own : List ℕ) (hv : List Column) (f : Form) (plan : PlanForm) (e : entry_of c.entries v ≡ Some (view own hv f)) (p : IsPlanned (goal_of hv f) plan) where
    -- the view is the same
    pub entry_after : entry_of d.entries v ≡ Some (view own hv f)
    entry_after = same_entry c d n x.columns x.inserts x.inserts_after x.tuples x.tuples_after x.changes v (view_other c n v own hv x.columns f x.inserts x.tuples e relation_before) ∙ e

    accepted : IsAccepted (known d) hv f
    accepted = view_accepted d x.formed_after v own hv f entry_after

    pub scans : AllAtoms (IsScanOf d f) plan
    scans = plan_scans d hv f plan accepted p

    used : (o : List ℕ) → plan_uses o plan ≡ true → uses o f ≡ true
    used o u = scanned_used d f plan o scans u

    -- names that the plan scans are made of defined ones
    pub names_known : (names : List (List ℕ)) → ((o : List ℕ) → list_any (bytes_eq o) names ≡ true → plan_uses o plan ≡ true) → AllByRecursion (λ o. is_some (known d (base o)) ≡ true) names
    names_known names all = all_named (λ o. is_some (known d (base o)) ≡ true) names (λ o i. used_known (known d) f o accepted.known (used o (all o i)))

    -- one that clashes makes the view clash
    pub names_clash : (names : List (List ℕ)) → ((o : List ℕ) → list_any (bytes_eq o) names ≡ true → plan_uses o plan ≡ true) → list_any (λ o. (measures d o).clash) names ≡ true → (measures d v).clash ≡ true
    unfolding measures
    names_clash names all i =
        ap (λ (m : Measure). m.clash) (name_measure d x.formed_after v (view own hv f) entry_after)
        ∙ some_named (λ o. (measures d o).clash) names (goal_clashes (measures d) (goal_of hv f) ≡ true) (λ o j h. p.clashes (measures d) (plan_clashing (measures d) plan o (all o j) h)) i

    module _ (h : List Column) (heading : Some h ≡ option_map (λ k. k.columns) (known d n)) (rs : List GivenRelation) (y : IsGivenBeside d n plan rs) where
      pub columns_are : x.columns ≡ h
      columns_are = sym (columns_there d n (relation n x.columns x.inserts_after x.tuples_after) x.formed_after relation_after) ∙ named_columns d n h heading

      pub columns_before : columns_in c n ≡ h
      columns_before = columns_there c n (relation n x.columns x.inserts x.tuples) x.formed_before relation_before ∙ columns_are

      -- the plan can be evaluated over them and a tuple alone
      pub evaluable_alone : (t : List Atom) → IsTupleOver x.columns t → IsEvaluable IsAnyAtom (with_alone (given_catalogue rs) n h t) plan
      evaluable_alone t over =
          all_with (IsScanOf d f) (IsScannable IsAnyAtom (with_alone (given_catalogue rs) n h t)) (λ o. bytes_eq o n ≡ false → has_name o rs ≡ true) step plan scans y.there
        where
          step : (a : PlanAtom) → IsScanOf d f a → ((o : List ℕ) → plan_atom_uses o a ≡ true → bytes_eq o n ≡ false → has_name o rs ≡ true) → IsScannable IsAnyAtom (with_alone (given_catalogue rs) n h t) a
          step (rows a) q u = any_atoms a
          step (scan o ss) q u = by (bytes_eq o n) refl
            where
              by : (b : Bool) → bytes_eq o n ≡ b → IsScannedFrom IsAnyAtom (cond (bytes_eq o n) (Some (relation n h 0 ((0, t) ∷ []))) (entry_of (map given_entry rs) o)) ss
              by true i = subst (λ b. IsScannedFrom IsAnyAtom (cond b (Some (relation n h 0 ((0, t) ∷ []))) (entry_of (map given_entry rs) o)) ss) (sym i) (
                subst (λ k. HaveSorts k ss) (ap (λ m. columns_in d (base m)) (sym (same_name o n i)) ∙ ap (columns_in d) (plain_base n (plain_there d x.formed_after n (relation n x.columns x.inserts_after x.tuples_after) relation_after)) ∙ named_columns d n h heading) q.1,
                ((subst (λ k. IsTupleOver k t) columns_are over, any_atoms t), tt),
              )
              by false i = subst (λ b. IsScannedFrom IsAnyAtom (cond b (Some (relation n h 0 ((0, t) ∷ []))) (entry_of (map given_entry rs) o)) ss) (sym i)
                  (scannable d f rs (shaped d rs y.of) (scan o ss) q (λ m j. subst (λ k. has_name k rs ≡ true) (same_name m o j) (u o (bytes_eq-refl o) i)))

      -- what is given means the same before the change and after it
      pub same_beside : ((o : List ℕ) → uses o f ≡ true → bytes_eq o n ≡ false → reaches c (base o) n ≡ false) → AllAtoms (IsOtherScan (meaning c) (stored (given_catalogue rs)) (meaning d) n) plan
      same_beside beside = all_with (IsScanOf d f) (IsOtherScan (meaning c) (stored (given_catalogue rs)) (meaning d) n) (λ o. bytes_eq o n ≡ false → has_name o rs ≡ true) step plan scans y.there
        where
          step : (a : PlanAtom) → IsScanOf d f a → ((o : List ℕ) → plan_atom_uses o a ≡ true → bytes_eq o n ≡ false → has_name o rs ≡ true) → IsOtherScan (meaning c) (stored (given_catalogue rs)) (meaning d) n a
          step (rows a) q u = tt
          step (scan o ss) q u = λ i. (
            λ den xs k b l. same_meaning_after c d n x o (beside o q.0 i) den xs,
            scans_same d f rs y.of (scan o ss) q (λ m j. subst (λ k. has_name k rs ≡ true) (same_name m o j) (u o (bytes_eq-refl o) i)),
          )

-- ---- marks that only add

-- no other name in the formula of a mark that only adds reaches the relation
pub adds_beside : (m : Mark) (n : List ℕ) (A : Type 0) → (reaches_beside m n ≡ false → A) → mark_adds m n ≡ true → A
adds_beside m n A law adds = law (not-true (reaches_beside m n) (and_parts (is_additive n (plan_form m.plan)) (not (reaches_beside m n)) adds).1)

pub adds_additive : (m : Mark) (n : List ℕ) → mark_adds m n ≡ true → is_additive n (plan_form m.plan) ≡ true
adds_additive m n adds = (and_parts (is_additive n (plan_form m.plan)) (not (reaches_beside m n)) adds).0
