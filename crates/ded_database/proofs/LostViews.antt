-- What the goal of a view loses where a relation loses a tuple.
use Rattle.std.proofs.Common.{◌≡◌, ℕ, zero, suc, ◌<◌, true, false, not, inl, inr, Option, Some, None, Vec, Global, List, [], ◌∷◌, ◌++◌, length, get_or, arith, sym, ap, ◌∙◌, subst, bytes_eq}
use Rattle.std.specs.Prelude.{IfSome}
use Rattle.std.specs.List.{AllByRecursion}
use Rattle.std.specs.Option.{option_map}
use Rattle.std.proofs.lemmas.Option.{same_Some}
use Rattle.ded_model.specs.declared.name.Column.{Column}
use Rattle.ded_model.specs.Row.{Atom}
use Rattle.ded_model.specs.Catalogue.{relation, view, Catalogue, tuples_of}
use Rattle.ded_model.specs.Entries.{known, entry_of, relation_in, view_in}
use Rattle.ded_model.specs.Form.{Form, uses}
use Rattle.ded_model.specs.Goal.{GoalForm}
use Rattle.ded_model.specs.Known.{IsTupleOver}
use Rattle.ded_model.specs.Lines.{Line, In, IsSubset, atoms_lines, tuples_lines}
use Rattle.ded_model.specs.Made.{base}
use Rattle.ded_model.specs.Measure.{Measure, measures, goal_atom_lines, goal_lines}
use Rattle.ded_model.specs.PlanForm.{PlanForm}
use Rattle.ded_model.specs.Slotted.{goal_of}
use Rattle.ded_model.specs.Uses.{goal_atom_uses, goal_uses}
use Rattle.ded_model.proofs.Members.{In-left, In-right, In-split, subset_refl}
use Rattle.ded_sorts.proofs.KnownEntries.{columns_there}
use Rattle.ded_packed.specs.declared.lent.Lent.{Lent}
use Rattle.ded_packed.specs.Lent.{tuple_of, lent}
use Rattle.ded_plan.specs.Planned.{IsPlanned}
use Rattle.ded_views.specs.Reaching.{reaches}
use Rattle.ded_views.proofs.Atoms.{all_with}
use Rattle.ded_views.proofs.GoalNames.{goal_names}
use Rattle.ded_views.proofs.Unaffected.{unaffected_measure}
use Rattle.ded_views.proofs.ViewGoals.{view_goal}
use Rattle.ded_views.proofs.Views.{name_measure}
use Rattle.ded_query.specs.Gathering.{IsViewOf}
use Rattle.ded_query.proofs.Entries.{named_columns}
use Rattle.ded_database.specs.Changes.{IsDelete}
use Rattle.ded_database.specs.Lasting.{HasLinesBut, IsViewBut}
use Rattle.ded_database.specs.Lost.{lines_mention, binds, with_all, AreReadAmong, AreApartLines, AreOverColumns, AreLost, AreLeftWithout, LosesOnly}
use Rattle.ded_database.proofs.Beside.{same_goal, relation_before, relation_after, entry_after}
use Rattle.ded_database.proofs.ListsStaying.{others_stay}
use Rattle.ded_database.proofs.LosingLines.{IsReadIn, lines-beside, atom-beside, all_gathered}
use Rattle.ded_database.proofs.Losing.{others, tuple_over}
use Rattle.ded_database.proofs.LostReading.{over_columns, over_part}

-- ---- lists

-- lines of a list that has lines of the view after and others, none of which it has
pub none_but : (d : Catalogue) (v : List ℕ) (more : List Line) (ts : List (List Atom)) → IsViewBut d v more ts → AreApartLines (tuples_lines ts) more → IsViewOf d v ts
none_but d v more ts k apart = record {
  goal = k.goal;
  view = k.view;
  evaluated = record {
    holds = k.holds;
    slots = k.slots;
    lines = λ l i. elim (In-split l (goal_lines (measures d) k.goal) more (k.lines l i)) [ inl a ↦ a | inr b ↦ absurd (apart l i b) ];
  };
  normal = k.normal;
}

-- the lines of the view before
pub lines_but : (c d : Catalogue) (v : List ℕ) (more : List Line) (ts : List (List Atom)) → IsViewOf c v ts → LosesOnly c d v more → HasLinesBut c d v more ts
lines_but c d v more ts k loses g w l i =
    let same : k.goal ≡ g = k.view.goal ∙ same_goal c v k.view.own w.own k.view.columns w.columns k.view.formula w.formula k.view.entry w.entry ∙ sym w.goal in
    loses g w l (subst (λ y. In l (goal_lines (measures c) y)) same (k.evaluated.lines l i))

-- where they are told
pub told_but : (c d : Catalogue) (v : List ℕ) (ts : List (List Atom)) → IsViewOf c v ts → (o : Option (Vec Line Global)) → IfSome o (λ (w : Vec Line Global). LosesOnly c d v w.items) → IfSome o (λ (w : Vec Line Global). HasLinesBut c d v w.items ts)
told_but c d v ts k None h = tt
told_but c d v ts k (Some w) h = lines_but c d v w.items ts k h

-- ---- lines of the relation

-- with a tuple in the middle
middle_lines : (before after : List (ℕ × List Atom)) (k : ℕ) (t : List Atom) → IsSubset (tuples_lines (tuples_of (before ++ (k, t) ∷ after))) (tuples_lines (tuples_of (before ++ after)) ++ atoms_lines t)
middle_lines [] after k t l i = elim (In-split l (atoms_lines t) (tuples_lines (tuples_of after)) i) [
  | inl a ↦ In-right l (tuples_lines (tuples_of after)) (atoms_lines t) a
  | inr b ↦ In-left l (tuples_lines (tuples_of after)) (atoms_lines t) b
]
middle_lines (y ∷ before) after k t l i = elim (In-split l (atoms_lines y.1) (tuples_lines (tuples_of (before ++ (k, t) ∷ after))) i) [
  | inl a ↦ In-left l (atoms_lines y.1 ++ tuples_lines (tuples_of (before ++ after))) (atoms_lines t) (In-left l (atoms_lines y.1) (tuples_lines (tuples_of (before ++ after))) a)
  | inr b ↦ elim (In-split l (tuples_lines (tuples_of (before ++ after))) (atoms_lines t) (middle_lines before after k t l b)) [
    | inl a ↦ In-left l (atoms_lines y.1 ++ tuples_lines (tuples_of (before ++ after))) (atoms_lines t) (In-right l (atoms_lines y.1) (tuples_lines (tuples_of (before ++ after))) a)
    | inr a ↦ In-right l (atoms_lines y.1 ++ tuples_lines (tuples_of (before ++ after))) (atoms_lines t) a
  ]
]

-- of one of lent tuples
lent_lines : (us : List Lent) (i : ℕ) (u : Lent) → i < length us → u ≡ get_or us i u → IsSubset (atoms_lines (tuple_of u)) (tuples_lines (lent us))
lent_lines [] i u l e = absurd (omega (arith, l))
lent_lines (y ∷ us) zero u l e = λ x j. In-left x (atoms_lines (tuple_of y)) (tuples_lines (lent us)) (subst (λ (z : Lent). In x (atoms_lines (tuple_of z))) e j)
lent_lines (y ∷ us) (suc i) u l e = λ x j. In-right x (atoms_lines (tuple_of y)) (tuples_lines (lent us)) (lent_lines us i u (omega (arith, l)) e x j)

module _ (c d : Catalogue) (n : List ℕ) (t : List Atom) (x : IsDelete c d n t) where
  lines_before : (measures c n).lines ≡ tuples_lines (tuples_of (x.deletes.before ++ (x.number, x.deletes.tuple) ∷ x.deletes.after))
  lines_before = ap (λ (m : Measure). m.lines)
      (name_measure c x.formed_before n (relation n x.deletes.columns x.deletes.inserts (x.deletes.before ++ (x.number, x.deletes.tuple) ∷ x.deletes.after)) (relation_before c d n (others c d n t x)))

  lines_after : (measures d n).lines ≡ tuples_lines (tuples_of (x.deletes.before ++ x.deletes.after))
  lines_after = ap (λ (m : Measure). m.lines) (name_measure d x.formed_after n (relation n x.deletes.columns x.deletes.inserts (x.deletes.before ++ x.deletes.after)) (relation_after c d n (others c d n t x)))

  -- those of the deleted tuple are all that may be lost
  pub all_lost : AreLost c d n t t
  all_lost = record {
    slots = λ s e. e;
    of = λ l i. i;
    lines = λ l i. subst (λ u. In l ((measures d n).lines ++ atoms_lines u)) x.tuple
        (subst (λ ls. In l (ls ++ atoms_lines x.deletes.tuple)) (sym lines_after) (middle_lines x.deletes.before x.deletes.after x.number x.deletes.tuple l (subst (In l) lines_before i)));
  }

  -- but those of another tuple of the relation
  pub lost_without : (u old new : List Atom) → IsSubset (atoms_lines u) (measures d n).lines → AreLeftWithout u old new → AreLost c d n t old → AreLost c d n t new
  lost_without u old new there w k = record {
    slots = λ s e. k.slots s (w.slots s e);
    of = λ l i. k.of l (w.of l i);
    lines = λ l i. elim (In-split l (measures d n).lines (atoms_lines old) (k.lines l i)) [
      | inl a ↦ In-left l (measures d n).lines (atoms_lines new) a
      | inr b ↦ elim (In-split l (atoms_lines new) (atoms_lines u) (w.lines l b)) [
        | inl a ↦ In-right l (measures d n).lines (atoms_lines new) a
        | inr a ↦ In-left l (measures d n).lines (atoms_lines new) (there l a)
      ]
    ];
  }

  pub lines_there : (us : List Lent) (i : ℕ) (u : Lent) → Some (lent us) ≡ option_map tuples_of (relation_in (entry_of d.entries n)) → i < length us → u ≡ get_or us i u → IsSubset (atoms_lines (tuple_of u)) (measures d n).lines
  lines_there us i u is l e =
      let all : lent us ≡ tuples_of (x.deletes.before ++ x.deletes.after) = same_Some _ _ (is ∙ ap (λ o. option_map tuples_of (relation_in o)) (relation_after c d n (others c d n t x))) in
      subst (IsSubset (atoms_lines (tuple_of u))) (ap tuples_lines all ∙ sym lines_after) (lent_lines us i u l e)

  -- what may be lost is over the relation's columns
  pub over_heading : (h : List Column) → Some h ≡ option_map (λ k. k.columns) (known d n) → (atoms : List Atom) → AreLost c d n t atoms → AreOverColumns h atoms
  over_heading h heading atoms k = over_part h t atoms k.slots k.of (over_columns h t (subst (λ y. IsTupleOver y t)
      (sym (columns_there d n (relation n x.deletes.columns x.deletes.inserts (x.deletes.before ++ x.deletes.after)) x.formed_after (relation_after c d n (others c d n t x))) ∙ named_columns d n h heading) (tuple_over c d n t x)))

  -- ---- lines of the view's goal

  module _ (v own : List ℕ) (hv : List Column) (f : Form) (plan : PlanForm) (e : entry_of c.entries v ≡ Some (view own hv f)) (p : IsPlanned (goal_of hv f) plan)
      (beside : (o : List ℕ) → uses o f ≡ true → bytes_eq o n ≡ false → reaches c (base o) n ≡ false) where
    -- other names have the lines that they had
    same_lines : (o : List ℕ) → goal_uses o (goal_of hv f) ≡ true → bytes_eq o n ≡ false → IsSubset (measures c o).lines (measures d o).lines
    same_lines o w b = subst (λ (m : Measure). IsSubset m.lines (measures d o).lines)
        (unaffected_measure c d x.formed_before x.formed_after (λ m. not (reaches c m n)) (others_stay c d n (others c d n t x)) o (ap not (beside o (sym (goal_names hv f o) ∙ w) b)))
        (subset_refl (measures d o).lines)

    pub loses_only : (atoms : List Atom) (more : List Line) (g : GoalForm) → AreLost c d n t atoms → Some g ≡ option_map (λ w. goal_of w.0 w.1) (view_in (entry_of d.entries v))
        → AllByRecursion (AreReadAmong (atoms_lines atoms) more) (with_all n [] g) → binds (lines_mention more) g ≡ false → LosesOnly c d v more
    loses_only atoms more g lost is all free g' w =
        let after = view_goal d v g is in
        let own_goal : g ≡ goal_of hv f = after.goal ∙ same_goal d v after.own own after.columns hv after.formula f after.entry (entry_after c d n (others c d n t x) v own hv f plan e p) in
        let before : g' ≡ goal_of hv f = w.goal ∙ same_goal c v w.own own w.columns hv w.formula f w.entry e in
        subst (λ y. IsSubset (goal_lines (measures c) y) (goal_lines (measures d) y ++ more)) (sym before)
        (lines-beside (goal_atom_lines (measures c)) (goal_atom_lines (measures d)) more (goal_of hv f)
        (all_with goal_atom_uses (IsReadIn n (atoms_lines atoms) more) (λ a. IsSubset (goal_atom_lines (measures c) a) (goal_atom_lines (measures d) a ++ more)) (λ o. bytes_eq o n ≡ false → IsSubset (measures c o).lines (measures d o).lines)
        (λ a q u. atom-beside (measures c) (measures d) n (atoms_lines atoms) more lost.lines a q u) (goal_of hv f)
        (all_gathered n (atoms_lines atoms) more (goal_of hv f) [] (subst (λ y. AllByRecursion (AreReadAmong (atoms_lines atoms) more) (with_all n [] y)) own_goal all)).1 same_lines)
        (subst (λ y. binds (lines_mention more) y ≡ false) own_goal free))
