-- Names of a remade catalogue mean and measure what they did, entry by entry.
use Rattle.std.proofs.Common.{◌≡◌, ◌<◌, ℕ, Bool, true, false, List, [], ◌∷◌, ◌++◌, map, refl, sym, ap, ◌∙◌, subst, bytes_eq}
use Rattle.std.specs.Prelude.{◌↔◌, IsTrue, if◌then◌else◌}
use Rattle.std.specs.List.{AllByRecursion}
use Rattle.ded_model.specs.declared.name.Column.{Column}
use Rattle.ded_model.specs.Row.{tuples_hold}
use Rattle.ded_model.specs.Logic.{Sat}
use Rattle.ded_model.specs.Form.{Form}
use Rattle.ded_model.specs.Value.{Argument, Meaning}
use Rattle.ded_model.specs.Catalogue.{Entry, relation, view, Catalogue, tuples_of, at_slots, at_names, AtomHolds, read, entry_meaning, with_entry, stored, meaning, Holds}
use Rattle.ded_model.specs.Measure.{Measure, Measures, read_measure, goal_b, goal_rank, entry_measure, with_measure, stored_measures, measures}
use Rattle.ded_model.specs.Slotted.{goal_of}
use Rattle.ded_model.specs.Width.{tuples_length}
use Rattle.ded_model.proofs.Entries.{stored-append, stored_measures-append}
use Rattle.ded_views.proofs.Views.{both_ways}
use Rattle.ded_reread.specs.Formulas.{restored}
use Rattle.ded_runs.specs.Remade.{remade_entry, remade}
use Rattle.ded_runs.proofs.Lists.{numbered_tuples, one_behind, remade_behind, nothing_behind}
use Rattle.ded_runs.proofs.Meanings.{MeanSame, read_same, sat_same, chosen_same}
use Rattle.ded_runs.proofs.Measuring.{IsMeasuredAs, AreMeasuredAs, measured_itself, read_measured, goal_b_same, goal_rank_same}

-- what is read back of a view holds and measures as the view does
pub record IsAlikeView (h : List Column) (f : Form) : Type 0 where
  pub holds : (c : Catalogue) (d : ℕ) (xs : List Argument) → 0 < d → Holds c (restored h f) (record { den = d; coords = at_names h xs }) ↔ Holds c f (record { den = d; coords = at_names h xs })
  pub b : (c : Catalogue) → goal_b (measures c) (goal_of h (restored h f)) ≡ goal_b (measures c) (goal_of h f)
  pub rank : (c : Catalogue) → goal_rank (measures c) (goal_of h (restored h f)) ≡ goal_rank (measures c) (goal_of h f)

abbrev pub IsAlikeEntry : Entry → Type 0
IsAlikeEntry (relation n h m ts) = Unit {0}
IsAlikeEntry (view n h f) = IsAlikeView h f

module _ (limit : ℕ) where
  abbrev of : List Entry → Catalogue
  of es = record { limit = limit; entries = es }

  -- ---- meanings

  view_holds : (es : List Entry) (h : List Column) (f : Form) → IsAlikeView h f → (d : ℕ) (xs : List Argument) → 0 < d
      → Sat (AtomHolds (read (stored (of es)))) (restored h f) (record { den = d; coords = at_names h xs }) ↔ Sat (AtomHolds (read (stored (of es)))) f (record { den = d; coords = at_names h xs })
  unfolding meaning
  view_holds es h f a d xs p = a.holds (of es) d xs p

  entry_same : (es : List Entry) (I : Meaning) (e : Entry) → IsAlikeEntry e → MeanSame I (stored (of es)) → (d : ℕ) (xs : List Argument) → 0 < d
      → entry_meaning I (remade_entry e) d xs ↔ entry_meaning (stored (of es)) e d xs
  entry_same es I (relation n h m ts) a same d xs p =
      subst (λ us. IsTrue (tuples_hold us (record { den = d; coords = at_slots 0 h xs })) ↔ IsTrue (tuples_hold (tuples_of ts) (record { den = d; coords = at_slots 0 h xs }))) (sym (numbered_tuples 0 ts)) (λ t. t, λ t. t)
  entry_same es I (view n h f) a same d xs p =
      both_ways (Sat (AtomHolds (read I)) (restored h f) (record { den = d; coords = at_names h xs })) _ _
      (sat_same (read I) (read (stored (of es))) (read_same I (stored (of es)) same) (restored h f) (record { den = d; coords = at_names h xs }) p)
      (view_holds es h f a d xs p)

  with_same : (es : List Entry) (I : Meaning) (e : Entry) → IsAlikeEntry e → MeanSame I (stored (of es)) → MeanSame (with_entry I (remade_entry e)) (with_entry (stored (of es)) e)
  with_same es I (relation n h m ts) a same k d xs p =
      chosen_same (bytes_eq k n) _ _ _ _ (entry_same es I (relation n h m ts) a same d xs p) (same k d xs p)
  with_same es I (view n h f) a same k d xs p =
      chosen_same (bytes_eq k n) _ _ _ _ (entry_same es I (view n h f) a same d xs p) (same k d xs p)

  one_more : (es : List Entry) (e : Entry) → IsAlikeEntry e → MeanSame (stored (of (map remade_entry es))) (stored (of es))
      → MeanSame (stored (of (map remade_entry (es ++ e ∷ [])))) (stored (of (es ++ e ∷ [])))
  one_more es e a same k d xs p =
      let left = stored-append (of (map remade_entry es)) (of (map remade_entry (es ++ e ∷ []))) (remade_entry e) (remade_behind es e) in
      let right = stored-append (of es) (of (es ++ e ∷ [])) e refl in
      subst (λ (I : Meaning). I k d xs ↔ stored (of (es ++ e ∷ [])) k d xs) (sym left)
      (subst (λ (J : Meaning). with_entry (stored (of (map remade_entry es))) (remade_entry e) k d xs ↔ J k d xs) (sym right)
      (with_same es (stored (of (map remade_entry es))) e a same k d xs p))

  all_mean : (es rest : List Entry) → AllByRecursion IsAlikeEntry rest → MeanSame (stored (of (map remade_entry es))) (stored (of es))
      → MeanSame (stored (of (map remade_entry (es ++ rest)))) (stored (of (es ++ rest)))
  all_mean es [] a same = subst (λ fs. MeanSame (stored (of (map remade_entry fs))) (stored (of fs))) (sym (nothing_behind es)) same
  all_mean es (e ∷ rest) a same =
      subst (λ fs. MeanSame (stored (of (map remade_entry fs))) (stored (of fs))) (one_behind es e rest) (all_mean (es ++ e ∷ []) rest a.1 (one_more es e a.0 same))

  -- ---- measures

  view_b : (es : List Entry) (h : List Column) (f : Form) → IsAlikeView h f → goal_b (read_measure (stored_measures (of es))) (goal_of h (restored h f)) ≡ goal_b (read_measure (stored_measures (of es))) (goal_of h f)
  unfolding measures
  view_b es h f a = a.b (of es)

  view_rank : (es : List Entry) (h : List Column) (f : Form) → IsAlikeView h f → goal_rank (read_measure (stored_measures (of es))) (goal_of h (restored h f)) ≡ goal_rank (read_measure (stored_measures (of es))) (goal_of h f)
  unfolding measures
  view_rank es h f a = a.rank (of es)

  entry_measured : (es : List Entry) (M : Measures) (e : Entry) → IsAlikeEntry e → AreMeasuredAs M (stored_measures (of es)) → IsMeasuredAs (entry_measure M (remade_entry e)) (entry_measure (stored_measures (of es)) e)
  entry_measured es M (relation n h m ts) a same = record { b = ap tuples_length (numbered_tuples 0 ts); rank = refl; columns = refl }
  entry_measured es M (view n h f) a same =
      let read = read_measured M (stored_measures (of es)) same in record {
        b = goal_b_same (read_measure M) (read_measure (stored_measures (of es))) read (goal_of h (restored h f)) ∙ view_b es h f a;
        rank = goal_rank_same (read_measure M) (read_measure (stored_measures (of es))) read (goal_of h (restored h f)) ∙ view_rank es h f a;
        columns = refl;
      }

  chosen_measured : (b : Bool) (m m' k k' : Measure) → IsMeasuredAs m m' → IsMeasuredAs k k' → IsMeasuredAs (if b then m else k) (if b then m' else k')
  chosen_measured true m m' k k' e f = e
  chosen_measured false m m' k k' e f = f

  with_measured : (es : List Entry) (M : Measures) (e : Entry) → IsAlikeEntry e → AreMeasuredAs M (stored_measures (of es)) → AreMeasuredAs (with_measure M (remade_entry e)) (with_measure (stored_measures (of es)) e)
  with_measured es M (relation n h m ts) a same k = chosen_measured (bytes_eq k n) _ _ _ _ (entry_measured es M (relation n h m ts) a same) (same k)
  with_measured es M (view n h f) a same k = chosen_measured (bytes_eq k n) _ _ _ _ (entry_measured es M (view n h f) a same) (same k)

  one_measured : (es : List Entry) (e : Entry) → IsAlikeEntry e → AreMeasuredAs (stored_measures (of (map remade_entry es))) (stored_measures (of es))
      → AreMeasuredAs (stored_measures (of (map remade_entry (es ++ e ∷ [])))) (stored_measures (of (es ++ e ∷ [])))
  one_measured es e a same k =
      let left = stored_measures-append (of (map remade_entry es)) (of (map remade_entry (es ++ e ∷ []))) (remade_entry e) (remade_behind es e) in
      let right = stored_measures-append (of es) (of (es ++ e ∷ [])) e refl in
      subst (λ (M : Measures). IsMeasuredAs (M k) (stored_measures (of (es ++ e ∷ [])) k)) (sym left)
      (subst (λ (N : Measures). IsMeasuredAs (with_measure (stored_measures (of (map remade_entry es))) (remade_entry e) k) (N k)) (sym right)
      (with_measured es (stored_measures (of (map remade_entry es))) e a same k))

  all_measured : (es rest : List Entry) → AllByRecursion IsAlikeEntry rest → AreMeasuredAs (stored_measures (of (map remade_entry es))) (stored_measures (of es))
      → AreMeasuredAs (stored_measures (of (map remade_entry (es ++ rest)))) (stored_measures (of (es ++ rest)))
  all_measured es [] a same = subst (λ fs. AreMeasuredAs (stored_measures (of (map remade_entry fs))) (stored_measures (of fs))) (sym (nothing_behind es)) same
  all_measured es (e ∷ rest) a same =
      subst (λ fs. AreMeasuredAs (stored_measures (of (map remade_entry fs))) (stored_measures (of fs))) (one_behind es e rest) (all_measured (es ++ e ∷ []) rest a.1 (one_measured es e a.0 same))

-- ---- catalogues

pub remade_means : (c : Catalogue) → AllByRecursion IsAlikeEntry c.entries → MeanSame (stored (remade c)) (stored c)
unfolding stored
remade_means c a = all_mean c.limit [] c.entries a (λ n d xs p. (λ x. x, λ x. x))

pub remade_measured : (c : Catalogue) → AllByRecursion IsAlikeEntry c.entries → AreMeasuredAs (stored_measures (remade c)) (stored_measures c)
remade_measured c a = all_measured c.limit [] c.entries a (λ n. measured_itself _)
