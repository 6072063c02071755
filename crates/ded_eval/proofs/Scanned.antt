-- The tuples of a relation, renamed, are what a scan stands for.
--
-- A scan holds at a point where a tuple of the relation holds at the point whose columns have the values of the scan's slots. The
-- renamed list holds at a point where the list does at a point that has the same values at the slots before; the point of the
-- columns is one.
use Rattle.std.proofs.Common.{◌≡◌, ℕ, ◌*◌, ◌<◌, Bool, true, List, [], ◌∷◌, ⊎_elim, arith, sym, ap, ◌∙◌, subst, true≢false, map}
use Rattle.std.specs.Prelude.{◌↔◌, IsTrue}
use Rattle.std.specs.List.{AllByRecursion}
use Rattle.ded_model.specs.declared.slot.Slot.{Slot}
use Rattle.ded_model.specs.declared.name.Column.{Column}
use Rattle.ded_model.specs.Point.{Point, IsPoint, stands_in, AreDistinctSlots}
use Rattle.ded_model.specs.Row.{Atom, row_mentions, tuple_mentions, tuples_hold, tuples_mention}
use Rattle.ded_model.specs.Known.{IsTupleOver, heading_slots}
use Rattle.ded_model.specs.Value.{slot_value, overs, arguments}
use Rattle.ded_model.specs.Catalogue.{Catalogue, GivenHolds}
use Rattle.ded_model.specs.Measure.{stored_measures}
use Rattle.ded_model.specs.Logic.{atom}
use Rattle.ded_model.specs.PlanForm.{scan}
use Rattle.ded_model.specs.Lines.{Line, In, IsSubset, renamed_lines, tuples_lines}
use Rattle.ded_model.specs.Renaming.{renamed, IsOneToOne, KeepsSorts, mapped_lines}
use Rattle.ded_model.proofs.Members.{In-split, or_split, subset_trans}
use Rattle.ded_model.proofs.Growth.{renamed-grows}
use Rattle.ded_model.proofs.CoefLists.{mentioned}
use Rattle.ded_theory.specs.Conjunctions.{conj_lines}
use Rattle.ded_genrel.specs.Lists.{AreNormal, conjs_hold, conjs_mention, conjs_lines}
use Rattle.ded_genrel.specs.Operations.{IsRenaming}
use Rattle.ded_genrel.proofs.Laws.{conjs_line_slots}
use Rattle.ded_algebra.specs.Evaluation.{IsEvaluationWithin}
use Rattle.ded_ranges.specs.declared.window.Window.{Window}
use Rattle.ded_ranges.proofs.Near.{near_all, near_holds, near_lines}
use Rattle.ded_atoms.specs.Reading.{IsListOf}
use Rattle.ded_algebra.specs.Columns.{column_pairs}
use Rattle.ded_eval.specs.Within.{IsWindowOf}
use Rattle.ded_algebra.proofs.Columns.{IsRead, read, read_sort, read_into, read_once}
use Rattle.ded_algebra.proofs.ColumnCoefs.{mapped_columns}
use Rattle.ded_algebra.proofs.ColumnPoints.{column_point, column_point_is, overs_one, columns_point}
use Rattle.ded_eval.proofs.Found.{IsLent, lent_normal}
use Rattle.ded_eval.proofs.Staying.{tuples_in_order}
use Rattle.ded_eval.proofs.Windowed.{columns_within}

-- tuples over columns mention the columns' slots
pub over_columns : (Q : List Atom → Type 0) (h : List Column) (ts : List (List Atom)) (s : Slot) → AllByRecursion (λ t. IsTupleOver h t × Q t) ts → tuples_mention ts s ≡ true → stands_in (heading_slots 0 h) s ≡ true
unfolding tuples_mention
over_columns Q h [] s o e = absurd (true≢false (sym e))
over_columns Q h (t ∷ ts) s o e = ⊎_elim (λ (f : tuple_mentions t s ≡ true). o.0.0.slots s f) (λ f. over_columns Q h ts s o.1 f) (or_split (tuple_mentions t s) (tuples_mention ts s) e)

module _ {A : Type 0} (h : A → Point → Bool) (m : A → Slot → Bool) (l : A → List Line) (n : A → Type 0) where
  -- a line of a list is one of an atom's
  lines_of : (P : Line → Type 0) → ((a : A) (x : Line) → n a → In x (l a) → P x) → (cs : List A) → AllByRecursion n cs → (x : Line) → In x (conj_lines l cs) → P x
  lines_of P each [] k x i = absurd i
  lines_of P each (c ∷ cs) k x i = ⊎_elim (λ (j : In x (l c)). each c x k.0 j) (λ j. lines_of P each cs k.1 x j) (In-split x (l c) (conj_lines l cs) i)

  pub lists_lines : (P : Line → Type 0) → ((a : A) (x : Line) → n a → In x (l a) → P x) → (cs : List (List A)) → AreNormal n cs → (x : Line) → In x (conjs_lines l cs) → P x
  lists_lines P each [] k x i = absurd i
  lists_lines P each (c ∷ cs) k x i = ⊎_elim (λ (j : In x (conj_lines l c)). lines_of P each c k.0 x j) (λ j. lists_lines P each cs k.1 x j) (In-split x (conj_lines l c) (conjs_lines l cs) i)

module _ {A : Type 0} (h : A → Point → Bool) (m : A → Slot → Bool) (l : A → List Line) where
  module _ (Reads : Atom → Type 0) (c : Catalogue) (x : List ℕ) (ss : List Slot) (w : Window) (us : List (List Atom)) (k : IsLent Reads c x ss w us) (list : List (List A)) (is : IsListOf h m l list us) where
    -- the list is over the columns
    columns : (s : Slot) → conjs_mention m list s ≡ true → stands_in (heading_slots 0 k.found.heading) s ≡ true
    columns s e = over_columns (λ t. AllByRecursion Reads t) k.found.heading us s (near_all w (λ t. IsTupleOver k.found.heading t × AllByRecursion Reads t) us k.all k.near k.found.over) (sym (is.slots s) ∙ e)

    -- so it can be renamed
    pub scan_apart : AreDistinctSlots ss → IsOneToOne (column_pairs 0 ss) (conjs_mention m list)
    scan_apart d = record {
      apart = λ s t e g z. read_once 0 k.found.heading ss s t (renamed (column_pairs 0 ss) t) d
          (subst (IsRead 0 k.found.heading ss s) z (read 0 k.found.heading ss s k.found.sorts (columns s e))) (read 0 k.found.heading ss t k.found.sorts (columns t g));
    }

    pub scan_sorts : KeepsSorts (column_pairs 0 ss) (conjs_mention m list)
    scan_sorts = record { sort = λ s e. read_sort 0 k.found.heading ss s (renamed (column_pairs 0 ss) s) k.found.sorts (read 0 k.found.heading ss s k.found.sorts (columns s e)) }

    module _ (inside : Point → Bool) (asked : IsWindowOf ss inside w) (out : List (List A))
        (r : IsRenaming (column_pairs 0 ss) (conjs_hold h list) (conjs_hold h out) (conjs_mention m list) (conjs_mention m out) (conjs_lines l list) (conjs_lines l out)) where
      there : (q : Point) → IsPoint q → conjs_hold h out q ≡ tuples_hold us (column_point q k.found.heading ss)
      there q i =
          let positive : 0 < (column_point q k.found.heading ss).den = subst (λ z. 0 < z) (sym (ap (λ z. q.den * z) (overs_one q ss) ∙ omega arith)) i.positive in
          r.holds (column_point q k.found.heading ss) q positive (columns_point q k.found.heading ss (conjs_mention m list) k.found.sorts columns) ∙ is.holds (column_point q k.found.heading ss)

      -- and then holds where the scan does, inside of what the window asks for
      pub scan_holds : (q : Point) → IsPoint q → inside q ≡ true → IsTrue (conjs_hold h out q) ↔ GivenHolds c (atom (scan x ss)) q
      scan_holds q i within =
          let e = there q i ∙ near_holds w (column_point q k.found.heading ss) (column_point_is q k.found.heading ss i) (columns_within q k.found.heading ss k.found.sorts inside w within asked) us k.all k.near in
          let means = k.found.means (q.den * overs (map (slot_value q) ss)) (arguments (map (slot_value q) ss)) in
          (λ t. means.1 (sym e ∙ t), λ t. e ∙ means.0 t)

      -- so it is the scan there
      pub scan_is : ((a : A) (y : Line) (s : Slot) → In y (l a) → row_mentions y s ≡ true → m a s ≡ true)
          → AreDistinctSlots ss → IsEvaluationWithin c (atom (scan x ss)) inside (conjs_hold h out) (conjs_mention m out) (conjs_lines l out)
      scan_is line_slots d = record {
        holds = scan_holds;
        slots = λ t e. (let s = r.slots t e in read_into 0 k.found.heading ss s.0 t (subst (IsRead 0 k.found.heading ss s.0) s.2 (read 0 k.found.heading ss s.0 k.found.sorts (columns s.0 s.1))));
        lines = subst (λ ys. IsSubset ys (renamed_lines ss (stored_measures c x).lines)) (sym (r.lines ∙ mapped))
            (subst (λ ys. IsSubset (renamed_lines ss (conjs_lines l list)) (renamed_lines ss ys)) (sym k.found.lines) (renamed-grows ss (conjs_lines l list) (tuples_lines k.all) (subset_trans (conjs_lines l list) (tuples_lines us) (tuples_lines k.all) is.lines (near_lines w us k.all k.near))));
      }
        where
          mapped : mapped_lines (column_pairs 0 ss) (conjs_lines l list) ≡ renamed_lines ss (conjs_lines l list)
          mapped = mapped_columns k.found.heading ss k.found.sorts d (conjs_lines l list) (λ y i. (tuples_in_order us (lent_normal Reads c x ss w us k) y (is.lines y i), λ s e. columns s (conjs_line_slots l m line_slots list y s i (mentioned y s e))))
