-- What is held of views that a change of a catalogue doesn't touch stays right.
use Rattle.std.proofs.Common.{◌≡◌, ℕ, Bool, true, false, not, List, Option, Some, None, sym, ap, ◌∙◌, subst}
use Rattle.std.specs.List.{AllByRecursion}
use Rattle.ded_model.specs.declared.name.Column.{Column}
use Rattle.ded_model.specs.Row.{Atom}
use Rattle.ded_model.specs.Catalogue.{relation, view, Catalogue}
use Rattle.ded_model.specs.Entries.{entry_of, columns_in}
use Rattle.ded_model.specs.Known.{IsWellFormed, columns_with}
use Rattle.ded_model.specs.Lines.{IsSubset, In, tuples_lines}
use Rattle.ded_model.specs.Measure.{Measure, measures, goal_lines}
use Rattle.ded_model.specs.Slotted.{goal_of}
use Rattle.ded_model.specs.Form.{Form}
use Rattle.ded_model.specs.Made.{base}
use Rattle.ded_model.specs.Uses.{MeansAlike, goal_uses}
use Rattle.ded_model.proofs.Alike.{GoalHolds-alike}
use Rattle.ded_sorts.specs.Changes.{ChangesEntry}
use Rattle.ded_algebra.specs.declared.given.GivenRelation.{GivenRelation}
use Rattle.ded_views.specs.Reaching.{reaches}
use Rattle.ded_views.specs.Unaffected.{AreUnaffected}
use Rattle.ded_views.proofs.Changing.{changed}
use Rattle.ded_views.proofs.GoalNames.{goal_names, speaks_used}
use Rattle.ded_views.proofs.Unaffected.{IsSameName, unaffected, unaffected_meaning, unaffected_measure}
use Rattle.ded_views.proofs.Views.{name_measure, plain_there}
use Rattle.ded_query.specs.Gathering.{IsGivenOf, IsViewOf}
use Rattle.ded_model.proofs.Made.{plain_base}
use Rattle.ded_database.specs.Changes.{IsChange}
use Rattle.ded_database.specs.Held.{IsHeld}
use Rattle.ded_database.proofs.Under.{all_both}

-- the relation has other tuples
pub record HasOthers (c d : Catalogue) (n : List ℕ) : Type 0 where
  pub formed_before : IsWellFormed c
  pub formed_after : IsWellFormed d
  pub columns : List Column
  pub inserts : ℕ
  pub inserts_after : ℕ
  pub tuples : List (ℕ × List Atom)
  pub tuples_after : List (ℕ × List Atom)
  pub changes : ChangesEntry c d n (relation n columns inserts tuples) (relation n columns inserts_after tuples_after)

pub has_others : (c d : Catalogue) (n : List ℕ) (t : Option (List Atom)) → IsChange c d n t → HasOthers c d n
has_others c d n (Some t) x = record {
  formed_before = x.formed_before;
  formed_after = x.formed_after;
  columns = x.changes.1.columns;
  inserts = x.changes.1.inserts;
  inserts_after = x.changes.0;
  tuples = x.changes.1.present;
  tuples_after = _;
  changes = x.changes.1.changes;
}
has_others c d n None x = record {
  formed_before = x.formed_before;
  formed_after = x.formed_after;
  columns = x.changes.1.columns;
  inserts = x.changes.1.inserts;
  inserts_after = x.changes.1.inserts;
  tuples = _;
  tuples_after = _;
  changes = x.changes.1.changes;
}

-- such a change doesn't touch the names that don't reach the relation
pub others_stay : (c d : Catalogue) (n : List ℕ) (x : HasOthers c d n) → AreUnaffected c d (λ m. not (reaches c m n))
others_stay c d n x = changed c d n x.columns x.inserts x.inserts_after x.tuples x.tuples_after x.changes x.formed_before

pub same_meaning_after : (c d : Catalogue) (n : List ℕ) (x : HasOthers c d n) (m : List ℕ) → reaches c (base m) n ≡ false → MeansAlike c d m
same_meaning_after c d n x m r = unaffected_meaning c d x.formed_before x.formed_after (λ k. not (reaches c k n)) (others_stay c d n x) m (ap not r)

-- ---- names that a change doesn't touch

module _ (c d : Catalogue) (formed : IsWellFormed c) (formed_after : IsWellFormed d) (among : List ℕ → Bool) (a : AreUnaffected c d among) where
  same_after : (m : List ℕ) → among m ≡ true → IsSameName c d m
  same_after m r = unaffected c d formed formed_after among a m r

  -- the measure of a view
  measured_after : (v : List ℕ) → among v ≡ true → (own : List ℕ) (h : List Column) (f : Form) → entry_of c.entries v ≡ Some (view own h f) → measures d v ≡ measures c v
  measured_after v r own h f e = unaffected_measure c d formed formed_after among a v (ap among (plain_base v (plain_there c formed v (view own h f) e)) ∙ r)

  -- the tuples of a view
  view_stays : (v : List ℕ) (ts : List (List Atom)) → among v ≡ true → IsViewOf c v ts → IsViewOf d v ts
  unfolding measures
  view_stays v ts r k =
      let e = k.view.entry in
      let e' : entry_of d.entries v ≡ Some (view k.view.own k.view.columns k.view.formula) = a.same v r ∙ e in
      let used : (m : List ℕ) → goal_uses m k.goal ≡ true → MeansAlike c d m = λ m u.
      unaffected_meaning c d formed formed_after among a m (a.closed v k.view.own (base m) k.view.columns k.view.formula r e (speaks_used k.view.formula m (sym (goal_names k.view.columns k.view.formula m) ∙ ap (goal_uses m) (sym k.view.goal) ∙ u))) in
      let lines : goal_lines (measures c) (goal_of k.view.columns k.view.formula) ≡ goal_lines (measures d) (goal_of k.view.columns k.view.formula) =
      ap (λ (m : Measure). m.lines)
      (sym (name_measure c formed v (view k.view.own k.view.columns k.view.formula) e)
      ∙ sym (measured_after v r k.view.own k.view.columns k.view.formula e)
      ∙ name_measure d formed_after v (view k.view.own k.view.columns k.view.formula) e') in
      record {
        goal = k.goal;
        view = record { own = k.view.own; columns = k.view.columns; formula = k.view.formula; entry = e'; goal = k.view.goal };
        evaluated = record {
          holds = λ p i.
              let here = k.evaluated.holds p i in
              let alike = GoalHolds-alike c d k.goal p used in
              (λ s. alike.0 (here.0 s), λ s. here.1 (alike.1 s));
          slots = k.evaluated.slots;
          lines = λ l i. subst (λ g. In l (goal_lines (measures d) g)) (sym k.view.goal) (subst (In l) lines (subst (λ g. In l (goal_lines (measures c) g)) k.view.goal (k.evaluated.lines l i)));
        };
        normal = k.normal;
      }

  -- what is given in its place
  given_stays : (r : GivenRelation) → base r.name ≡ r.name → among r.name ≡ true → IsGivenOf c r → IsGivenOf d r
  given_stays r plain h g =
      let same = same_after r.name h in
      record {
        columns = ap (columns_in d) plain ∙ ap columns_with same.knows ∙ ap (columns_in c) (sym plain) ∙ g.columns;
        over = g.over;
        means = λ den xs i b l.
            let alike = unaffected_meaning c d formed formed_after among a r.name (ap among plain ∙ h) den xs in
            let here = g.means den xs i b l in
            (λ s. here.0 (alike.1 s), λ s. alike.0 (here.1 s));
        lines = subst (λ (m : Measure). IsSubset (tuples_lines r.tuples) m.lines) (sym (unaffected_measure c d formed formed_after among a r.name (ap among plain ∙ h))) g.lines;
      }

  held_stays : (r : GivenRelation) → among r.name ≡ true → IsHeld c r → IsHeld d r
  held_stays r h k = record {
    given = given_stays r (plain_base r.name (plain_there c formed r.name (view k.view.view.own k.view.view.columns k.view.view.formula) k.view.view.entry)) h k.given;
    view = view_stays r.name r.tuples h k.view;
  }

  -- all lists
  pub all_stay : (rs : List GivenRelation) → AllByRecursion (λ (r : GivenRelation). among r.name ≡ true) rs → AllByRecursion (IsHeld c) rs → AllByRecursion (IsHeld d) rs
  all_stay rs h k = all_both (IsHeld c) (λ (r : GivenRelation). among r.name ≡ true) (IsHeld d) rs (λ r x y. held_stays r y x) k h
