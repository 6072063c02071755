-- A plan that asks only whether a view has a point holds where the view's goal does with a quantifier for each column, so nowhere or
-- everywhere.
--
-- Where the plan holds, the scan does at some point, whose values, read as columns, the view's goal holds at. The other way, where the
-- goal holds at some point, the scan holds at the point that has the columns' values at its slots.
use Rattle.std.proofs.Common.{◌≡◌, ℕ, ◌-◌, ◌*◌, ◌<◌, ◌≤◌, arith, Bool, true, false, ◌||◌, inl, inr, List, [], ◌∷◌, Some, map, mul-pos, refl, sym, ap, ◌∙◌, subst, true≢false}
use Rattle.std.specs.Prelude.{◌↔◌, IsTrue}
use Rattle.std.specs.List.{AllByRecursion}
use Rattle.std.specs.Option.{option_map}
use Rattle.std.proofs.lemmas.Bool.{false_from_ne_true}
use Rattle.ded_model.specs.declared.slot.Slot.{Slot}
use Rattle.ded_model.specs.declared.name.Column.{Column}
use Rattle.ded_model.specs.Catalogue.{Catalogue, view, meaning, GoalHolds, PlanHolds}
use Rattle.ded_model.specs.Entries.{known, columns_in}
use Rattle.ded_model.specs.Form.{Form}
use Rattle.ded_model.specs.Goal.{GoalForm, GoalAtomHolds, in_goal_atom, goal_mentions}
use Rattle.ded_model.specs.Known.{KnownNames, IsAccepted, IsWellFormed, heading_slots, columns_with, level_with}
use Rattle.ded_model.specs.Lines.{In, tuples_lines}
use Rattle.ded_model.specs.Logic.{atom, exists, AllAtoms}
use Rattle.ded_model.specs.Made.{base}
use Rattle.ded_model.specs.PlanForm.{PlanForm, PlanAtomHolds, scan, in_plan_atom, plan_mentions}
use Rattle.ded_model.specs.NormalGoal.{IsNormalGoal}
use Rattle.ded_model.specs.Slotted.{goal_of}
use Rattle.ded_model.specs.Point.{Key, slot, name, Point, IsPoint, IsSameAt, same_slot, stands_in, AreDistinctSlots}
use Rattle.ded_model.specs.Row.{Atom, at_slot, tuple_holds, tuple_mentions, tuples_hold, tuples_mention}
use Rattle.ded_model.specs.Value.{slot_value, overs, arguments, Argument}
use Rattle.ded_model.proofs.Made.{plain_base}
use Rattle.ded_model.proofs.Members.{or_split}
use Rattle.ded_model.proofs.Points.{same_slot_is}
use Rattle.ded_model.proofs.Sats.{goal_respects, plan_respects, GoalHolds-same}
use Rattle.ded_sorts.proofs.Frees.{goal_free}
use Rattle.ded_algebra.specs.Evaluation.{HaveSorts}
use Rattle.ded_plan.specs.Planned.{IsPlanned}
use Rattle.ded_plan.specs.Plans.{IsScanOf}
use Rattle.ded_plan.specs.Rewritten.{IsTidyAtom}
use Rattle.ded_algebra.proofs.ColumnPoints.{column_point_is}
use Rattle.ded_views.proofs.GoalNames.{speaks_used}
use Rattle.ded_views.proofs.PlansAlike.{slots_positive}
use Rattle.ded_views.proofs.Views.{view_means, plain_there, name_known, view_accepted, lesser_level}
use Rattle.ded_query.specs.Closing.{closing}
use Rattle.ded_query.specs.Asking.{projects, IsRoundScan, IsAsking, IsClosedView, IsWitness, IsTruthOf}
use Rattle.ded_query.specs.Gathering.{IsPosed, IsEvaluated, IsViewGoal}
use Rattle.ded_query.specs.Questions.{IsQuestion}
use Rattle.ded_query.specs.Windows.{column_values}
use Rattle.ded_query.proofs.Closings.{IsOwnAt, below, closed_here, closed_anywhere, closes}
use Rattle.ded_query.proofs.Entries.{named_columns, goal_holds, view_low, view_level}
use Rattle.ded_query.proofs.Gathered.{posed_scans}
use Rattle.ded_query.proofs.Posed.{from_closing, posed_round, posed_normal}
use Rattle.ded_query.proofs.ScanPoints.{columns_own, scan_point, scan_point_is, scan_own, scan_same}

-- ---- the form of the plan

-- the projections round a scan are of these slots
projects_closing : (os : List Slot) (n : List ℕ) (ss : List Slot) (u : Slot) → projects (closing os (atom (scan n ss))) u ≡ stands_in os u
projects_closing [] n ss u = refl
projects_closing (o ∷ os) n ss u = ap (λ b. same_slot o u || b) (projects_closing os n ss u)

-- one projection more
pub round_more : (s : Slot) (f g : PlanForm) (n : List ℕ) (ss : List Slot) → g ≡ exists s.sort (slot s) f → IsRoundScan f n ss → IsRoundScan g n ss
round_more s f g n ss e r = record { projected = s ∷ r.projected; is = e ∙ ap (λ x. exists s.sort (slot s) x) r.is }

each_projected : (f : PlanForm) (n : List ℕ) (ss : List Slot) (r : IsRoundScan f n ss) (us : List Slot) → AllByRecursion (λ u. projects f u ≡ true) us → AllByRecursion (λ u. stands_in r.projected u ≡ true) us
each_projected f n ss r [] k = tt
each_projected f n ss r (u ∷ us) k = (sym (ap (λ x. projects x u) r.is ∙ projects_closing r.projected n ss u) ∙ k.0, each_projected f n ss r us k.1)

-- a plan that projects each slot of the scan
pub asking : (f : PlanForm) (n : List ℕ) (ss : List Slot) → IsRoundScan f n ss → AllByRecursion (λ u. projects f u ≡ true) ss → IsAsking f n
asking f n ss r k = record { slots = ss; round = r; all = each_projected f n ss r ss k }

-- what is so of each slot of a list
stands_each : (P : Slot → Type 0) (ss : List Slot) (u : Slot) → AllByRecursion P ss → stands_in ss u ≡ true → P u
stands_each P [] u k e = absurd (true≢false (sym e))
stands_each P (s ∷ ss) u k e = elim (or_split (same_slot s u) (stands_in ss u) e) [ inl a ↦ subst P (same_slot_is s u a) k.0 | inr b ↦ stands_each P ss u k.1 b ]

-- ---- what it means

module _ (c : Catalogue) (w : IsWellFormed c) (f : Form) (plan : PlanForm) (n : List ℕ) (scans : AllAtoms (IsScanOf c f) plan) (tidy : AllAtoms IsTidyAtom plan) (a : IsAsking plan n) (goal : GoalForm) (v : IsClosedView c n goal) where
  os : List Slot
  os = a.round.projected

  h : List Column
  h = v.view.columns

  entry_means : known c n ≡ Some (record { is_view = true; columns = v.view.columns; level = level_with (known c n) })
  entry_means =
      let k = name_known c w n (view v.view.own v.view.columns v.view.formula) v.view.entry in
      k ∙ ap (λ m. Some (record { is_view = true; columns = v.view.columns; level = m })) (sym (ap level_with k))

  -- the scan's slots have the sorts of the view's columns
  scan_sorts : HaveSorts v.view.columns a.slots
  scan_sorts =
      let own : IsScanOf c f (scan n a.slots) = from_closing (atom (scan n a.slots)) (IsScanOf c f) a.round.projected (subst (AllAtoms (IsScanOf c f)) a.round.is scans) in
      subst (λ x. HaveSorts x a.slots) (ap (columns_in c) (plain_base n (plain_there c w n (view v.view.own v.view.columns v.view.formula) v.view.entry)) ∙ ap columns_with entry_means) own.1

  scan_distinct : AreDistinctSlots a.slots
  scan_distinct = from_closing (atom (scan n a.slots)) IsTidyAtom a.round.projected (subst (AllAtoms IsTidyAtom) a.round.is tidy)

  question : IsQuestion c v.view.columns v.goal v.view.formula
  question = record { goal = v.view.goal; accepted = view_accepted c w n v.view.own v.view.columns v.view.formula v.view.entry }

  -- the view's goal mentions freely only its columns
  pub goal_own : (j : Key) → goal_mentions v.goal j ≡ true → at_slot (stands_in (heading_slots 0 v.view.columns)) j ≡ true
  goal_own j m = goal_free v.view.columns v.view.formula question.accepted.bound j (subst (λ x. goal_mentions x j ≡ true) question.goal m)

  -- and the scan what is projected
  scan_own_slots : (j : Key) → plan_mentions (atom (scan n a.slots)) j ≡ true → at_slot (stands_in a.round.projected) j ≡ true
  scan_own_slots (slot u) m = stands_each (λ s. stands_in a.round.projected s ≡ true) a.slots u a.all m
  scan_own_slots (name x) m = absurd (true≢false (sym m))

  -- the scan holds where the view's goal does at the columns
  scan_means : (t : Point) → IsPoint t → PlanHolds c (atom (scan n a.slots)) t ↔ GoalHolds c v.goal (column_values t v.view.columns a.slots)
  scan_means t i =
      let d : ℕ = t.den * overs (map (slot_value t) a.slots) in
      let xs : List Argument = arguments (map (slot_value t) a.slots) in
      let positive : 0 < d = mul-pos i.positive (slots_positive t a.slots) in
      let there = goal_holds c v.view.columns v.goal v.view.formula question d xs positive in
      let means = view_means c w n v.view.own v.view.columns v.view.formula v.view.entry d xs in
      (λ x. there.1 (means.0 x), λ x. means.1 (there.0 x))

  to_goal : (p : Point) → IsPoint p → PlanHolds c (closing a.round.projected (atom (scan n a.slots))) p → GoalHolds c (closing (heading_slots 0 v.view.columns) v.goal) p
  to_goal p i x =
      let r = below (PlanAtomHolds (meaning c)) (atom (scan n a.slots)) a.round.projected p i x in
      let t : Point = column_values r.0 v.view.columns a.slots in
      let k : IsPoint t = column_point_is r.0 v.view.columns a.slots r.1 in
      closed_anywhere (GoalAtomHolds (meaning c)) in_goal_atom (goal_respects c) v.goal (heading_slots 0 v.view.columns) t p k i goal_own
      (closed_here (GoalAtomHolds (meaning c)) in_goal_atom (goal_respects c) v.goal (heading_slots 0 v.view.columns) t k (columns_own r.0 v.view.columns a.slots scan_sorts) ((scan_means r.0 r.1).0 r.2))

  from_goal : (p : Point) → IsPoint p → GoalHolds c (closing (heading_slots 0 v.view.columns) v.goal) p → PlanHolds c (closing a.round.projected (atom (scan n a.slots))) p
  from_goal p i x =
      let r = below (GoalAtomHolds (meaning c)) v.goal (heading_slots 0 v.view.columns) p i x in
      let t : Point = scan_point r.0 a.slots in
      let k : IsPoint t = scan_point_is r.0 a.slots r.1 in
      let l : IsPoint (column_values t v.view.columns a.slots) = column_point_is t v.view.columns a.slots k in
      closed_anywhere (PlanAtomHolds (meaning c)) in_plan_atom (plan_respects c) (atom (scan n a.slots)) a.round.projected t p k i scan_own_slots
      (closed_here (PlanAtomHolds (meaning c)) in_plan_atom (plan_respects c) (atom (scan n a.slots)) a.round.projected t k (λ s e. scan_own r.0 a.slots s)
      ((scan_means t k).1 (GoalHolds-same c v.goal r.0 (column_values t v.view.columns a.slots) r.1.positive l.positive
      (λ j m. same r.0 (λ s e. r.3 s (inl e)) j (goal_own j m)) r.2)))
    where
      same : (q : Point) → ((s : Slot) → stands_in (heading_slots 0 v.view.columns) s ≡ true → IsOwnAt q s) → (j : Key) → at_slot (stands_in (heading_slots 0 v.view.columns)) j ≡ true
          → IsSameAt q (column_values (scan_point q a.slots) v.view.columns a.slots) j
      same q o (slot s) e = scan_same q v.view.columns a.slots scan_distinct scan_sorts s e (o s e)
      same q o (name y) e = absurd (true≢false (sym e))

  -- the law
  pub plan_asks : (p : Point) → IsPoint p → PlanHolds c plan p ↔ GoalHolds c goal p
  plan_asks p i = (
    λ x. subst (λ y. GoalHolds c y p) (sym v.is) (to_goal p i (subst (λ y. PlanHolds c y p) a.round.is x)),
    λ x. subst (λ y. PlanHolds c y p) (sym a.round.is) (from_goal p i (subst (λ y. GoalHolds c y p) v.is x)),
  )

-- ---- what answers it

-- the closed goal mentions nothing, and so do the tuples that it is evaluated to
pub closed_mentions : (c : Catalogue) (w : IsWellFormed c) (n : List ℕ) (goal : GoalForm) → IsClosedView c n goal → (ts : List (List Atom)) → IsEvaluated c goal ts → (s : Slot) → tuples_mention ts s ≡ false
closed_mentions c w n goal v ts e s = false_from_ne_true (tuples_mention ts s) (λ m. closes in_goal_atom v.goal (heading_slots 0 v.view.columns) own (slot s) (subst (λ x. goal_mentions x (slot s) ≡ true) v.is (e.slots s m)))
  where
    own : (j : Key) → goal_mentions v.goal j ≡ true → at_slot (stands_in (heading_slots 0 v.view.columns)) j ≡ true
    own j m =
        goal_free v.view.columns v.view.formula (view_accepted c w n v.view.own v.view.columns v.view.formula v.view.entry).bound j (subst (λ x. goal_mentions x j ≡ true) v.view.goal m)

-- so their truth is whether the view has a point
pub closed_witness : (c : Catalogue) (n : List ℕ) (goal : GoalForm) → IsClosedView c n goal → (ts : List (List Atom)) → IsEvaluated c goal ts → (b : Bool) → ((p : Point) → tuples_hold ts p ≡ b) → IsWitness c n b
closed_witness c n goal v ts e b all = record { goal = goal; closed = v; holds = λ p i. subst (λ x. IsTrue x ↔ GoalHolds c goal p) (all p) (e.holds p i) }

-- ---- tuples without slots

pub truth_none : (b : Bool) (ts : List (List Atom)) → b ≡ false → ts ≡ [] → IsTruthOf b ts
unfolding tuples_hold tuples_mention
truth_none b ts e f = record {
  holds = λ p. ap (λ us. tuples_hold us p) f ∙ sym e;
  slots = λ s. ap (λ us. tuples_mention us s) f;
  lines = ap tuples_lines f;
}

pub truth_all : (b : Bool) (ts : List (List Atom)) → b ≡ true → ts ≡ [] ∷ [] → IsTruthOf b ts
unfolding tuples_hold tuples_mention tuple_holds tuple_mentions
truth_all b ts e f = record {
  holds = λ p. ap (λ us. tuples_hold us p) f ∙ sym e;
  slots = λ s. ap (λ us. tuples_mention us s) f;
  lines = ap tuples_lines f;
}

-- ---- the closed goal

-- over the heading that is known of the view
pub closed_as : (c : Catalogue) (n : List ℕ) (g : GoalForm) (h : List Column) → IsWellFormed c → IsViewGoal c n g → Some h ≡ option_map (λ k. k.columns) (known c n) → (x : GoalForm) → x ≡ closing (heading_slots 0 h) g → IsClosedView c n x
closed_as c n g h w v e x f =
    let same : h ≡ v.columns = sym (named_columns c n h e) ∙ ap columns_with (name_known c w n (view v.own v.columns v.formula) v.entry) in
    record { goal = g; view = v; is = f ∙ ap (λ y. closing (heading_slots 0 y) g) same }

-- ---- levels

module _ (c : Catalogue) (w : IsWellFormed c) (n : List ℕ) (goal : GoalForm) (level : ℕ) (v : IsClosedView c n goal) (l : level_with (known c (base n)) ≤ level) where
  -- the level isn't 0
  pub closed_level : 1 ≤ level
  closed_level = view_level c n v.goal level w v.view (view_low c n v.goal level w v.view l)

  -- and the closed goal is posed below it
  pub closed_posed : IsPosed c goal (level - 1)
  closed_posed =
      let low = view_low c n v.goal level w v.view l in
      subst (λ x. IsPosed c x (level - 1)) (sym v.is)
      (posed_round c v.view.columns v.goal v.view.formula (level - 1) (heading_slots 0 v.view.columns) (record { goal = v.view.goal; accepted = view_accepted c w n v.view.own v.view.columns v.view.formula v.view.entry })
      (λ k u. let less = lesser_level c w n v.view.own v.view.columns v.view.formula v.view.entry k u in omega (arith, less, low)))

-- it is normal
pub closed_normal : (c : Catalogue) → IsWellFormed c → (n : List ℕ) (goal : GoalForm) → IsClosedView c n goal → ((K : KnownNames) (h : List Column) (f : Form) → IsAccepted K h f → IsNormalGoal (goal_of h f)) → IsNormalGoal goal
closed_normal c w n goal v law =
    let level : ℕ = level_with (known c (base n)) in
    posed_normal c goal (level - 1) (closed_posed c w n goal level v (omega arith)) law

-- ---- the goals of such a plan

module _ (c : Catalogue) (w : IsWellFormed c) (g : GoalForm) (plan : PlanForm) (level : ℕ) (p : IsPosed c g level) (k : IsPlanned g plan) (n : List ℕ) (a : IsAsking plan n) where
  -- the view that it asks has at most the level
  pub asked_low : level_with (known c (base n)) ≤ level
  asked_low =
      let own : IsScanOf c p.formula (scan n a.slots) = from_closing (atom (scan n a.slots)) (IsScanOf c p.formula) a.round.projected (subst (AllAtoms (IsScanOf c p.formula)) a.round.is (posed_scans c g plan level p k)) in
      p.levels (base n) (speaks_used p.formula n own.0)

  module _ (b : Bool) (x : IsWitness c n b) where
    -- the goals hold where the view has a point
    asked_holds : (q : Point) → IsPoint q → IsTrue b ↔ GoalHolds c g q
    asked_holds q i =
        let asks = plan_asks c w p.formula plan n (posed_scans c g plan level p k) k.tidy.1 a x.goal x.closed q i in
        let goal = k.holds c q i in
        let here = x.holds q i in
        (λ y. goal.1 (asks.1 (here.0 y)), λ y. here.1 (asks.0 (goal.0 y)))

    -- so tuples of this truth are what they are evaluated to
    pub asked_is : (ts : List (List Atom)) → IsTruthOf b ts → IsEvaluated c g ts
    asked_is ts t = record {
      holds = λ q i. subst (λ y. IsTrue y ↔ GoalHolds c g q) (sym (t.holds q)) (asked_holds q i);
      slots = λ s m. absurd (true≢false (sym m ∙ t.slots s));
      lines = λ l i. absurd (subst (In l) t.lines i);
    }

    -- and where a goal is the closed one of another view, that has a point where the view has
    pub asked_within : (m : List ℕ) → IsClosedView c m g → IsWitness c m b
    asked_within m v = record { goal = g; closed = v; holds = asked_holds }
