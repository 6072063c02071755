-- Relations and views as what is given of them.
use Rattle.std.proofs.Common.{◌≡◌, ℕ, ◌-◌, ◌*◌, ◌<◌, ◌≤◌, arith, map, mul-pos, true, List, Option, Some, None, is_some, is_none, refl, sym, ap, ◌∙◌, subst, true≢false}
use Rattle.std.specs.Prelude.{◌↔◌, IsTrue}
use Rattle.std.specs.List.{AllByRecursion}
use Rattle.std.specs.Option.{option_map}
use Rattle.std.proofs.lemmas.Option.{same_Some, none-some}
use Rattle.ded_model.specs.declared.slot.Slot.{Slot}
use Rattle.ded_model.specs.declared.name.Column.{Column}
use Rattle.ded_model.specs.Row.{Atom, tuple_holds, tuples_hold, tuples_mention}
use Rattle.ded_model.specs.Catalogue.{Entry, relation, view, Catalogue, tuples_of, at_slots, at_names, meaning, Holds, GoalHolds}
use Rattle.ded_model.specs.Entries.{known, entry_of, relation_in, view_in, columns_in}
use Rattle.ded_model.specs.Form.{Form}
use Rattle.ded_model.specs.Goal.{GoalForm, goal_mentions}
use Rattle.ded_model.specs.Known.{Known, IsTupleOver, IsWellFormed, known_of, level_with, columns_with}
use Rattle.ded_model.specs.Lines.{In}
use Rattle.ded_model.specs.Made.{base}
use Rattle.ded_model.specs.Measure.{Measure, measures, goal_lines, goal_clashes}
use Rattle.ded_model.specs.Normal.{IsNormalTuple}
use Rattle.ded_model.specs.Point.{slot}
use Rattle.ded_model.specs.Slotted.{goal_of}
use Rattle.ded_model.specs.Value.{slot_value, Argument, overs, arguments}
use Rattle.ded_model.proofs.Made.{plain_base}
use Rattle.ded_sorts.proofs.Frees.{goal_free}
use Rattle.ded_sorts.proofs.Headings.{goals_mean}
use Rattle.ded_sorts.proofs.KnownEntries.{columns_there}
use Rattle.ded_algebra.specs.Evaluation.{HaveSorts}
use Rattle.ded_plan.specs.declared.scans.ScanWithin.{ScanWithin}
use Rattle.ded_algebra.specs.declared.given.GivenRelation.{GivenRelation}
use Rattle.ded_views.specs.Same.{AreByteArguments}
use Rattle.ded_views.proofs.PlansAlike.{arguments_bytes, slots_positive}
use Rattle.ded_views.proofs.Placing.{unknown}
use Rattle.ded_views.proofs.Views.{relation_means, view_means, plain_there, name_measure, name_known, tuples_over, view_accepted, lesser_level}
use Rattle.ded_query.specs.Gathering.{IsGivenOf, IsGivenAs, IsPosed, IsEvaluated, IsViewGoal, IsViewOf}
use Rattle.ded_query.specs.Questions.{IsQuestion}
use Rattle.ded_query.specs.Windows.{column_values, IsAtColumns, IsReadable, IsNearView, IsEvaluatedWithin}
use Rattle.ded_query.proofs.Posed.{posed_of}
use Rattle.ded_topology.proofs.Normals.{over_from}
use Rattle.ded_topology.proofs.Arguments.{arguments_point}

-- ---- headings

-- the columns of what is known
known_columns : (h : List Column) (o : Option Known) → Some h ≡ option_map (λ k. k.columns) o → columns_with o ≡ h
known_columns h None e = absurd (none-some h (sym e))
known_columns h (Some k) e = sym (same_Some h k.columns e)

pub named_columns : (c : Catalogue) (n : List ℕ) (h : List Column) → Some h ≡ option_map (λ k. k.columns) (known c n) → columns_in c n ≡ h
named_columns c n h e = known_columns h (known c n) e

-- tuples that mention only what the goal of an accepted formula does freely are over its heading
pub goal_over : (c : Catalogue) (h : List Column) (g : GoalForm) (f : Form) (ts : List (List Atom)) → IsQuestion c h g f → ((s : Slot) → tuples_mention ts s ≡ true → goal_mentions g (slot s) ≡ true) → AllByRecursion IsNormalTuple ts
    → AllByRecursion (IsTupleOver h) ts
goal_over c h g f ts q slots k = over_from h ts k (λ s u. goal_free h f q.accepted.bound (slot s) (subst (λ x. goal_mentions x (slot s) ≡ true) q.goal (slots s u)))

-- so are those that it is evaluated to
pub evaluated_over : (c : Catalogue) (h : List Column) (g : GoalForm) (f : Form) (ts : List (List Atom)) → IsQuestion c h g f → IsEvaluated c g ts → AllByRecursion IsNormalTuple ts → AllByRecursion (IsTupleOver h) ts
evaluated_over c h g f ts q e k = goal_over c h g f ts q e.slots k

-- the goal holds at the values of columns where the formula does
pub goal_holds : (c : Catalogue) (h : List Column) (g : GoalForm) (f : Form) → IsQuestion c h g f → (d : ℕ) (xs : List Argument) → 0 < d
    → GoalHolds c g (record { den = d; coords = at_slots 0 h xs }) ↔ Holds c f (record { den = d; coords = at_names h xs })
goal_holds c h g f q d xs i =
    let means = goals_mean (meaning c) (known_of c.entries) h f q.accepted.once q.accepted.bound q.accepted.sorted d xs i in
    let goal : GoalHolds c g (record { den = d; coords = at_slots 0 h xs }) ↔ GoalHolds c (goal_of h f) (record { den = d; coords = at_slots 0 h xs }) = subst (λ x. GoalHolds c g (record { den = d; coords = at_slots 0 h xs }) ↔ GoalHolds c x (record { den = d; coords = at_slots 0 h xs })) q.goal (λ x. x, λ x. x) in
    (λ x. means.1 (goal.0 x), λ x. goal.1 (means.0 x))

-- and so do the tuples that it is evaluated to
pub evaluated_holds : (c : Catalogue) (h : List Column) (g : GoalForm) (f : Form) (ts : List (List Atom)) → IsQuestion c h g f → IsEvaluated c g ts → (d : ℕ) (xs : List Argument) → 0 < d → AreByteArguments xs
    → IsTrue (tuples_hold ts (record { den = d; coords = at_slots 0 h xs })) ↔ Holds c f (record { den = d; coords = at_names h xs })
evaluated_holds c h g f ts q e d xs i k =
    let here = e.holds (record { den = d; coords = at_slots 0 h xs }) (arguments_point d h xs i k) in
    let goal = goal_holds c h g f q d xs i in
    (λ x. goal.0 (here.0 x), λ x. here.1 (goal.1 x))

-- ---- views

-- a name of which there is the goal of a view
pub view_goal : (c : Catalogue) (n : List ℕ) (g : GoalForm) → Some g ≡ option_map (λ v. goal_of v.0 v.1) (view_in (entry_of c.entries n)) → IsViewGoal c n g
view_goal c n g e = by (entry_of c.entries n) refl e
  where
    by : (o : Option Entry) → entry_of c.entries n ≡ o → Some g ≡ option_map (λ v. goal_of v.0 v.1) (view_in o) → IsViewGoal c n g
    by None f e = absurd (none-some g (sym e))
    by (Some (relation m h i ts)) f e = absurd (none-some g (sym e))
    by (Some (view m h x)) f e = record { own = m; columns = h; formula = x; entry = f; goal = same_Some g (goal_of h x) e }

-- the goal of a view is that of an accepted formula, whose names have lesser levels
pub view_posed : (c : Catalogue) (n : List ℕ) (g : GoalForm) (level : ℕ) → IsWellFormed c → IsViewGoal c n g → level_with (known c n) ≤ level → IsPosed c g (level - 1)
view_posed c n g level w v l =
    posed_of c v.columns g v.formula (level - 1) (record { goal = v.goal; accepted = view_accepted c w n v.own v.columns v.formula v.entry })
    (λ k u. let less = lesser_level c w n v.own v.columns v.formula v.entry k u in omega arith)

-- it has at most the level that what it is made of has
pub view_low : (c : Catalogue) (n : List ℕ) (g : GoalForm) (level : ℕ) → IsWellFormed c → IsViewGoal c n g → level_with (known c (base n)) ≤ level → level_with (known c n) ≤ level
view_low c n g level w v l = subst (λ m. level_with (known c m) ≤ level) (plain_base n (plain_there c w n (view v.own v.columns v.formula) v.entry)) l

-- its level is not 0
pub view_level : (c : Catalogue) (n : List ℕ) (g : GoalForm) (level : ℕ) → IsWellFormed c → IsViewGoal c n g → level_with (known c n) ≤ level → 1 ≤ level
view_level c n g level w v l =
    let is : level_with (known c n) ≤ level = l in
    let more = subst (λ o. level_with o ≤ level) (name_known c w n (view v.own v.columns v.formula) v.entry) is in
    omega arith

-- what its goal is evaluated to is what is given of it
pub view_given : (c : Catalogue) (n : List ℕ) (g : GoalForm) (h : List Column) (ts : List (List Atom)) → IsWellFormed c → IsViewGoal c n g → IsEvaluated c g ts → AllByRecursion IsNormalTuple ts
    → Some h ≡ option_map (λ k. k.columns) (known c n) → IsGivenOf c (record { name = n; heading = h; tuples = ts })
unfolding measures
view_given c n g h ts w v e k i =
    let q : IsQuestion c v.columns g v.formula = record { goal = v.goal; accepted = view_accepted c w n v.own v.columns v.formula v.entry } in
    let same : v.columns ≡ h = ap columns_with (sym (name_known c w n (view v.own v.columns v.formula) v.entry)) ∙ named_columns c n h i in
    subst (λ x. IsGivenOf c (record { name = n; heading = x; tuples = ts })) same
    (record {
      columns = ap (columns_in c) (plain_base n (plain_there c w n (view v.own v.columns v.formula) v.entry)) ∙ named_columns c n h i ∙ sym same;
      over = evaluated_over c v.columns g v.formula ts q e k;
      means = λ d xs j b l.
          let holds = evaluated_holds c v.columns g v.formula ts q e d xs j b in
          let means = view_means c w n v.own v.columns v.formula v.entry d xs in
          (λ x. holds.1 (means.0 x), λ x. means.1 (holds.0 x));
      lines = λ l x. subst (λ (m : Measure). In l m.lines) (sym (name_measure c w n (view v.own v.columns v.formula) v.entry)) (subst (λ y. In l (goal_lines (measures c) y)) v.goal (e.lines l x));
    })

-- what its goal is evaluated to at the columns of a scan's tuple is right where that holds
pub view_near : (c : Catalogue) (level : ℕ) (s : ScanWithin) (g : GoalForm) (h : List Column) (w : List Atom) (ts : List (List Atom)) → IsWellFormed c → IsViewGoal c s.name g → IsReadable c level s → IsAtColumns s.slots s.within w
    → IsEvaluatedWithin c g (tuple_holds w) ts → AllByRecursion IsNormalTuple ts → Some h ≡ option_map (λ k. k.columns) (known c s.name) → IsNearView c s (record { name = s.name; heading = h; tuples = ts })
unfolding measures
view_near c level s g h w ts f v r a e k i =
    let q : IsQuestion c v.columns g v.formula = record { goal = v.goal; accepted = view_accepted c f s.name v.own v.columns v.formula v.entry } in
    let same : v.columns ≡ h = ap columns_with (sym (name_known c f s.name (view v.own v.columns v.formula) v.entry)) ∙ named_columns c s.name h i in
    let columns : columns_in c (base s.name) ≡ v.columns = ap (columns_in c) (plain_base s.name (plain_there c f s.name (view v.own v.columns v.formula) v.entry)) ∙ named_columns c s.name h i ∙ sym same in
    let sorts : HaveSorts v.columns s.slots = subst (λ x. HaveSorts x s.slots) columns r.sorts in
    subst (λ x. IsNearView c s (record { name = s.name; heading = x; tuples = ts })) same
    (record {
      named = refl;
      shaped = record {
        columns = columns;
        over = goal_over c v.columns g v.formula ts q e.slots k;
        lines = λ l x. subst (λ (m : Measure). In l m.lines) (sym (name_measure c f s.name (view v.own v.columns v.formula) v.entry)) (subst (λ y. In l (goal_lines (measures c) y)) v.goal (e.lines l x));
      };
      reads = λ p j t.
          let d : ℕ = p.den * overs (map (slot_value p) s.slots) in
          let xs : List Argument = arguments (map (slot_value p) s.slots) in
          let positive : 0 < d = mul-pos j.positive (slots_positive p s.slots) in
          let here = e.holds (column_values p v.columns s.slots) (arguments_point d v.columns xs positive (arguments_bytes p j s.slots)) (a v.columns sorts p j ∙ t) in
          let goal = goal_holds c v.columns g v.formula q d xs positive in
          let means = view_means c f s.name v.own v.columns v.formula v.entry d xs in
          (λ x. here.1 (goal.1 (means.0 x)), λ x. means.1 (goal.0 (here.0 x)));
    })

-- a view clashes where its goal does
pub view_clash : (c : Catalogue) (n : List ℕ) (g : GoalForm) → IsWellFormed c → IsViewGoal c n g → goal_clashes (measures c) g ≡ true → (measures c n).clash ≡ true
unfolding measures
view_clash c n g w v e =
    ap (λ (m : Measure). m.clash) (name_measure c w n (view v.own v.columns v.formula) v.entry) ∙ ap (goal_clashes (measures c)) (sym v.goal) ∙ e

-- ---- relations

-- a name that is defined and is no view is a relation
pub relation_there : (c : Catalogue) (n : List ℕ) → is_some (known c n) ≡ true → is_none (view_in (entry_of c.entries n)) ≡ true → is_some (relation_in (entry_of c.entries n)) ≡ true
relation_there c n k e = by (entry_of c.entries n) refl e
  where
    by : (o : Option Entry) → entry_of c.entries n ≡ o → is_none (view_in o) ≡ true → is_some (relation_in o) ≡ true
    by None f e = absurd (true≢false (sym k ∙ ap is_some (unknown c n f)))
    by (Some (relation m h i ts)) f e = refl
    by (Some (view m h x)) f e = absurd (true≢false (sym e))

-- a name of which there is no goal is no view
pub no_view : (o : Option (List Column × Form)) → None ≡ option_map (λ v. goal_of v.0 v.1) o → is_none o ≡ true
no_view None e = refl
no_view (Some v) e = absurd (none-some (goal_of v.0 v.1) e)

-- a name that has a heading is known
pub heading_known : (h : List Column) (o : Option Known) → Some h ≡ option_map (λ k. k.columns) o → is_some o ≡ true
heading_known h None e = absurd (none-some h (sym e))
heading_known h (Some k) e = refl

-- its tuples are what is given of it
pub relation_given : (c : Catalogue) (n : List ℕ) (h : List Column) (i : ℕ) (ts : List (ℕ × List Atom)) → IsWellFormed c → entry_of c.entries n ≡ Some (relation n h i ts)
    → IsGivenOf c (record { name = n; heading = h; tuples = tuples_of ts })
relation_given c n h i ts w e = record {
  columns = ap (columns_in c) (plain_base n (plain_there c w n (relation n h i ts) e)) ∙ columns_there c n (relation n h i ts) w e;
  over = tuples_over c w n n h i ts e;
  means = λ d xs l b r. relation_means c w n n h i ts e d xs;
  lines = λ l x. subst (λ (y : Measure). In l y.lines) (sym (name_measure c w n (relation n h i ts) e)) x;
}

-- ---- of code

-- with copies of the name and the heading
pub given_as : (c : Catalogue) (n m : List ℕ) (k : List Column) (ts : List (List Atom)) (h : List Column) → m ≡ n → k ≡ h → IsGivenOf c (record { name = n; heading = h; tuples = ts })
    → IsGivenAs c n (record { name = m; heading = k; tuples = ts })
given_as c n m k ts h e f g = record {
  name = e;
  of = subst (λ x. IsGivenOf c (record { name = x; heading = k; tuples = ts })) (sym e) (subst (λ x. IsGivenOf c (record { name = n; heading = x; tuples = ts })) (sym f) g);
}

-- so a relation under a view's name, with its heading and such tuples, is right
pub held_as : (c : Catalogue) (n : List ℕ) (ts : List (List Atom)) → IsWellFormed c → IsViewOf c n ts → (r : GivenRelation) → (r.name ≡ n) × (Some r.heading ≡ option_map (λ k. k.columns) (known c n)) × (r.tuples ≡ ts) → IsGivenAs c n r × (r.tuples ≡ ts)
held_as c n ts w v r k =
    let own = view_given c n v.goal r.heading r.tuples w v.view (subst (IsEvaluated c v.goal) (sym k.2) v.evaluated) (subst (AllByRecursion IsNormalTuple) (sym k.2) v.normal) k.1 in
    (given_as c n r.name r.heading r.tuples r.heading k.0 refl own, k.2)

-- and right near a scan
pub near_as : (c : Catalogue) (most : ℕ) (s : ScanWithin) (g : GoalForm) (w : List Atom) (ts : List (List Atom)) → IsWellFormed c → IsViewGoal c s.name g → IsReadable c most s → IsAtColumns s.slots s.within w → IsEvaluatedWithin c g (tuple_holds w) ts → AllByRecursion IsNormalTuple ts
    → (r : GivenRelation) → (r.name ≡ s.name) × (Some r.heading ≡ option_map (λ k. k.columns) (known c s.name)) × (r.tuples ≡ ts) → IsNearView c s r
near_as c most s g w ts f v q a e n r k =
    let own = view_near c most s g r.heading w r.tuples f v q a (subst (IsEvaluatedWithin c g (tuple_holds w)) (sym k.2) e) (subst (AllByRecursion IsNormalTuple) (sym k.2) n) k.1 in
    subst (λ m. IsNearView c s (record { name = m; heading = r.heading; tuples = r.tuples })) (sym k.0) own

none_mapped : (o : Option Known) → is_some o ≡ true → None ≡ option_map (λ k. k.columns) o → ⊥
none_mapped None k e = true≢false (sym k)
none_mapped (Some x) k e = none-some x.columns e

-- a view is known
pub view_known : (c : Catalogue) (n : List ℕ) (g : GoalForm) → IsWellFormed c → IsViewGoal c n g → is_some (known c n) ≡ true
view_known c n g w v = ap is_some (name_known c w n (view v.own v.columns v.formula) v.entry)

-- what is known has a heading
pub known_heading : (c : Catalogue) (n : List ℕ) → is_some (known c n) ≡ true → None ≡ option_map (λ k. k.columns) (known c n) → ⊥
known_heading c n k e = none_mapped (known c n) k e

-- a relation has one
pub relation_heading : (c : Catalogue) (n : List ℕ) → IsWellFormed c → is_some (relation_in (entry_of c.entries n)) ≡ true → None ≡ option_map (λ k. k.columns) (known c n) → ⊥
relation_heading c n w r e = by (entry_of c.entries n) refl r
  where
    by : (o : Option Entry) → entry_of c.entries n ≡ o → is_some (relation_in o) ≡ true → ⊥
    by None f r = true≢false (sym r)
    by (Some x) f r = none_mapped (known c n) (ap is_some (name_known c w n x f)) e

-- a view has a goal
pub view_missing : (o : Option (List Column × Form)) → is_some o ≡ true → None ≡ option_map (λ v. goal_of v.0 v.1) o → ⊥
view_missing None r e = true≢false (sym r)
view_missing (Some v) r e = none-some (goal_of v.0 v.1) e
