-- What a mark says of its view.
use Rattle.std.proofs.Common.{◌≡◌, ℕ, ◌&&◌, not, Bool, true, false, inl, inr, List, [], ◌∷◌, Some, refl, sym, ap, ◌∙◌, subst, true≢false, bytes_eq}
use Rattle.std.specs.List.{list_any, AllByRecursion}
use Rattle.std.specs.Cmp.{both_ways}
use Rattle.std.proofs.lemmas.Option.{same_Some, none-some}
use Rattle.std.proofs.lemmas.Slice.Eq.{bytes_eq-Decides}
use Rattle.ded_model.specs.declared.name.Column.{Column}
use Rattle.ded_model.specs.Catalogue.{Catalogue, relation, view}
use Rattle.ded_model.specs.Entries.{entry_of, view_in}
use Rattle.ded_model.specs.Form.{Form, uses}
use Rattle.ded_model.specs.Goal.{GoalForm}
use Rattle.ded_model.specs.Known.{IsWellFormed}
use Rattle.ded_model.specs.Logic.{conjunctive, count_atoms}
use Rattle.ded_model.specs.Made.{base}
use Rattle.ded_model.specs.PlanForm.{plan_form}
use Rattle.ded_model.specs.Row.{Atom}
use Rattle.ded_model.specs.Slotted.{goal_of}
use Rattle.ded_model.specs.Uses.{goal_uses}
use Rattle.ded_model.proofs.Members.{or_split}
use Rattle.ded_model.proofs.Rows.{or_left, or_right}
use Rattle.ded_sorts.specs.Changes.{ChangesEntry}
use Rattle.ded_algebra.specs.Compiled.{is_member_of}
use Rattle.ded_keep.specs.Additive.{is_additive}
use Rattle.ded_keep.proofs.Counting.{conjunctive_plans}
use Rattle.ded_plan.specs.Planned.{IsPlanned}
use Rattle.ded_views.specs.Reaching.{reaches}
use Rattle.ded_views.specs.Unaffected.{AreUnaffected}
use Rattle.ded_views.proofs.Changing.{entry_there, same_entry, reach_alike}
use Rattle.ded_views.proofs.GoalNames.{speaks_used}
use Rattle.ded_views.proofs.Unaffected.{unaffected}
use Rattle.ded_views.proofs.ViewGoals.{IsGoalOfView, reached_by_used}
use Rattle.ded_views.proofs.Views.{view_reaches, used_reaches}
use Rattle.ded_database.specs.declared.mark.Mark.{Mark}
use Rattle.ded_database.specs.declared.mark.NameReach.{NameReach}
use Rattle.ded_database.specs.Closed.{has}
use Rattle.ded_database.proofs.Closing.{used_by_goal}
use Rattle.ded_database.proofs.UsedNames.{IsReach}
use Rattle.ded_database.specs.Marks.{mark_reaches, reaches_beside, mark_adds, IsMark, IsOnceIn}
use Rattle.std.proofs.lemmas.Bool.{false_from_ne_true}
use Rattle.ded_model.proofs.Bools.{bytes_eq-refl}

-- ---- lists of names with what they reach

-- what is so of each, and of one that passes a test with its name, follows where some passes
some_reach : (P : NameReach → Type 0) (test : NameReach → Bool) (us : List NameReach) (X : Type 0) → AllByRecursion P us
    → ((u : NameReach) → list_any (λ (v : NameReach). bytes_eq u.name v.name) us ≡ true → P u → test u ≡ true → X) → list_any test us ≡ true → X
some_reach P test [] X k step h = absurd (true≢false (sym h))
some_reach P test (u ∷ us) X k step h = elim (or_split (test u) (list_any test us) h) [
  | inl e ↦ step u (or_left (bytes_eq u.name u.name) (list_any (λ (v : NameReach). bytes_eq u.name v.name) us) (bytes_eq-refl u.name)) k.0 e
  | inr e ↦ some_reach P test us X k.1 (λ v i p t. step v (or_right (bytes_eq v.name u.name) (list_any (λ (w : NameReach). bytes_eq v.name w.name) us) i) p t) e
]

-- some passes where those of the name do
named_reach : (P : NameReach → Type 0) (test : NameReach → Bool) (us : List NameReach) (n : List ℕ) → AllByRecursion P us → list_any (λ (u : NameReach). bytes_eq n u.name) us ≡ true
    → ((u : NameReach) → P u → n ≡ u.name → test u ≡ true) → list_any test us ≡ true
named_reach P test [] n k h step = absurd (true≢false (sym h))
named_reach P test (u ∷ us) n k h step = elim (or_split (bytes_eq n u.name) (list_any (λ (v : NameReach). bytes_eq n v.name) us) h) [
  | inl e ↦ or_left (test u) (list_any test us) (step u k.0 ((bytes_eq-Decides n u.name).0 e))
  | inr e ↦ or_right (test u) (list_any test us) (named_reach P test us n k.1 e step)
]

-- what follows of each from its name
each_reach : (P Q : NameReach → Type 0) (us : List NameReach) → AllByRecursion P us → ((u : NameReach) → list_any (λ (v : NameReach). bytes_eq u.name v.name) us ≡ true → P u → Q u) → AllByRecursion Q us
each_reach P Q [] k step = tt
each_reach P Q (u ∷ us) k step = (
  step u (or_left (bytes_eq u.name u.name) (list_any (λ (v : NameReach). bytes_eq u.name v.name) us) (bytes_eq-refl u.name)) k.0,
  each_reach P Q us k.1 (λ v i p. step v (or_right (bytes_eq v.name u.name) (list_any (λ (w : NameReach). bytes_eq v.name w.name) us) i) p),
)

-- ---- a mark

-- with the plan of the view's goal, and the names that the goal uses
pub is_mark : (c : Catalogue) (n : List ℕ) (g : GoalForm) (m : Mark) → IsGoalOfView c n g → m.name ≡ n → IsPlanned g (plan_form m.plan)
    → ((k : List ℕ) → goal_uses k g ≡ list_any (λ (u : NameReach). bytes_eq k u.name) m.used.items) → AllByRecursion (IsReach c) m.used.items → IsMark c m
is_mark c n g m v e planned used reached = record {
  own = v.own;
  columns = v.columns;
  formula = v.formula;
  entry = ap (entry_of c.entries) e ∙ v.entry;
  planned = subst (λ x. IsPlanned x (plan_form m.plan)) v.goal planned;
  used = λ k. sym (used_by_goal c n g v k) ∙ used k;
  reached = reached;
}

-- ---- what is reached

pub marks_reach : (c : Catalogue) (m : Mark) (n : List ℕ) → IsWellFormed c → IsMark c m → bytes_eq m.name n ≡ false → mark_reaches m n ≡ reaches c m.name n
marks_reach c m n w k o =
    both_ways (mark_reaches m n) (reaches c m.name n)
    (λ h. some_reach (IsReach c) (λ u. has u.reached.items n) m.used.items (reaches c m.name n ≡ true) k.reached
    (λ u i p t. used_reaches c w m.name k.own k.columns k.formula k.entry (base u.name) n (speaks_used k.formula u.name (k.used u.name ∙ i)) (sym (p n) ∙ t)) h)
    (λ h. elim (or_split (bytes_eq m.name n) _ (sym (view_reaches c w m.name k.own k.columns k.formula k.entry n) ∙ h)) [
      | inl e ↦ absurd (true≢false (sym e ∙ o))
      | inr e ↦
          let u = reached_by_used (reaches c) n k.formula e in
          named_reach (IsReach c) (λ v. has v.reached.items n) m.used.items u.name k.reached (sym (k.used u.name) ∙ u.used) (λ v p i. p n ∙ ap (λ x. reaches c (base x) n) (sym i) ∙ u.reaches)
    ])

pub nothing_beside : (c : Catalogue) (m : Mark) (n : List ℕ) → (k : IsMark c m) → reaches_beside m n ≡ false → (other : List ℕ) → uses other k.formula ≡ true → bytes_eq other n ≡ false → reaches c (base other) n ≡ false
nothing_beside c m n k h other u o = false_from_ne_true (reaches c (base other) n) (λ r. true≢false (sym (named_reach (IsReach c) (λ v. not (bytes_eq v.name n) && has v.reached.items n) m.used.items other k.reached (sym (k.used other) ∙ u) (step r)) ∙ h))
  where
    both : (a b : Bool) → a ≡ false → b ≡ true → (not a && b) ≡ true
    both false b e f = f
    both true b e f = absurd (true≢false e)

    step : reaches c (base other) n ≡ true → (v : NameReach) → IsReach c v → other ≡ v.name → (not (bytes_eq v.name n) && has v.reached.items n) ≡ true
    step r v p i = both (bytes_eq v.name n) (has v.reached.items n) (ap (λ x. bytes_eq x n) (sym i) ∙ o) (p n ∙ ap (λ x. reaches c (base x) n) (sym i) ∙ r)

-- ---- views that only add

-- the name is reached by no other name in the formula
beside_none : (c : Catalogue) (m : Mark) (n : List ℕ) (k : IsMark c m) → ((other : List ℕ) → uses other k.formula ≡ true → bytes_eq other n ≡ false → reaches c (base other) n ≡ false) → reaches_beside m n ≡ false
beside_none c m n k none = false_from_ne_true (reaches_beside m n) (λ h. some_reach (IsReach c) (λ v. not (bytes_eq v.name n) && has v.reached.items n) m.used.items ⊥ k.reached step h)
  where
    parts : (a b : Bool) → (not a && b) ≡ true → (a ≡ false) × (b ≡ true)
    parts false b e = (refl, e)
    parts true b e = absurd (true≢false (sym e))

    step : (v : NameReach) → list_any (λ (u : NameReach). bytes_eq v.name u.name) m.used.items ≡ true → IsReach c v → (not (bytes_eq v.name n) && has v.reached.items n) ≡ true → ⊥
    step v i p t =
        let both = parts (bytes_eq v.name n) (has v.reached.items n) t in
        true≢false (sym (sym (p n) ∙ both.1) ∙ none v.name (k.used v.name ∙ i) both.0)

adds : (a b : Bool) → a ≡ true → b ≡ false → (a && not b) ≡ true
adds true b e f = ap not f
adds false b e f = absurd (true≢false (sym e))

pub conjunctive_views : (c : Catalogue) (m : Mark) (n : List ℕ) → IsMark c m → IsOnceIn c m.name n → mark_adds m n ≡ true
conjunctive_views c m n k o =
    let same : (k.columns, k.formula) ≡ (o.columns, o.formula) = same_Some (k.columns, k.formula) (o.columns, o.formula) (ap view_in (sym k.entry ∙ o.entry)) in
    let plan = k.planned.conjunctive (ap (λ (v : List Column × Form). conjunctive (goal_of v.0 v.1)) same ∙ o.conjunctive) in
    adds (is_additive n (plan_form m.plan)) (reaches_beside m n)
    (conjunctive_plans n (plan_form m.plan) plan.conjunctive (plan.scans n ∙ ap (λ (v : List Column × Form). count_atoms (is_member_of n) (goal_of v.0 v.1)) same ∙ o.once))
    (beside_none c m n k (λ other u e. o.beside other (sym (ap (λ (v : List Column × Form). uses other v.1) same) ∙ u) e))

-- ---- changes

-- with the same entry, and where the names that the view uses reach the same
kept_mark : (c d : Catalogue) (m : Mark) (k : IsMark c m) → entry_of d.entries m.name ≡ entry_of c.entries m.name → ((u n : List ℕ) → uses u k.formula ≡ true → reaches d (base u) n ≡ reaches c (base u) n) → IsMark d m
kept_mark c d m k same reach = record {
  own = k.own;
  columns = k.columns;
  formula = k.formula;
  entry = same ∙ k.entry;
  planned = k.planned;
  used = k.used;
  reached = each_reach (IsReach c) (IsReach d) m.used.items k.reached (λ u i p. λ n. p n ∙ sym (reach u.name n (k.used u.name ∙ i)));
}

pub untouched_marks : (c d : Catalogue) (among : List ℕ → Bool) (m : Mark) → IsWellFormed c → IsWellFormed d → AreUnaffected c d among → among m.name ≡ true → IsMark c m → IsMark d m
untouched_marks c d among m w v a i k =
    kept_mark c d m k (a.same m.name i)
    (λ u n used. (unaffected c d w v among a (base u) (a.closed m.name k.own (base u) k.columns k.formula i k.entry (speaks_used k.formula u used))).reached n)

pub lasting_marks : (c d : Catalogue) (n : List ℕ) (h : List Column) (i j : ℕ) (ts us : List (ℕ × List Atom)) (m : Mark) → IsWellFormed c
    → ChangesEntry c d n (relation n h i ts) (relation n h j us) → IsMark c m → IsMark d m
lasting_marks c d n h i j ts us m w x k =
    kept_mark c d m k
    (same_entry c d n h i j ts us x m.name (false_from_ne_true (bytes_eq m.name n) (λ e. views_differ (sym (there e) ∙ k.entry))))
    (λ u r used. reach_alike c d n h i j ts us x (base u) r)
  where
    -- the name would be a relation
    there : bytes_eq m.name n ≡ true → entry_of c.entries m.name ≡ Some (relation n h i ts)
    there e = ap (entry_of c.entries) ((bytes_eq-Decides m.name n).0 e) ∙ entry_there c x.before x.after (relation n h i ts) n w x.was refl

    views_differ : Some (relation n h i ts) ≡ Some (view k.own k.columns k.formula) → ⊥
    views_differ e = none-some (k.columns, k.formula) (ap view_in e)
