-- Sights that are added one after another.
use Rattle.std.proofs.Common.{◌≡◌, ℕ, ◌+◌, ◌<◌, ◌≤◌, List, [], ◌∷◌, ◌++◌, length, drop, get_or, refl, sym, ap, ◌∙◌, subst, append_assoc}
use Rattle.std.proofs.lemmas.List.{append-nil, drop_all}
use Rattle.ded_model.specs.declared.name.Column.{Column}
use Rattle.ded_model.specs.Catalogue.{tuples_of}
use Rattle.ded_model.specs.Row.{Atom}
use Rattle.ded_print.proofs.Plans.{left_after}
use Rattle.ded_figures.specs.Axes.{Axes}
use Rattle.ded_figures.specs.declared.sight.Sight.{Sight}
use Rattle.ded_figures.specs.Sights.{IsSight, AreSights, AddSights}

module _ (axes : Axes) (h : List Column) (whole : List (List Atom)) (old : List Sight) where
  -- sights of what is left, behind those that are added, are added for the whole
  abbrev pub Adding : List (List Atom) → List Sight → Type 0
  Adding left now = (more : List Sight) → AreSights axes h left more → AddSights axes h whole old (now ++ more)

  pub none_yet : Adding whole old
  none_yet more are = record { added = more; sights = are; is = refl }

  pub one_more : (t : List Atom) (left : List (List Atom)) (now next : List Sight) (s : Sight) → Adding (t ∷ left) now → IsSight axes h t s → next ≡ now ++ s ∷ [] → Adding left next
  one_more t left now next s goes is same = λ more are.
      subst (AddSights axes h whole old) (sym (ap (λ (l : List Sight). l ++ more) same ∙ append_assoc now (s ∷ []) more)) (goes (s ∷ more) (is, are))

  pub all_of_them : (now : List Sight) → Adding [] now → AddSights axes h whole old now
  all_of_them now goes = subst (AddSights axes h whole old) (append-nil now) (goes [] tt)

module _ (axes : Axes) (h : List Column) (old : List Sight) where
  pub next_sight : (ts : List (List Atom)) (i : ℕ) (t : List Atom) (now next : List Sight) (s : Sight) → i < length ts → t ≡ get_or ts i t → Adding axes h ts old (drop i ts) now → IsSight axes h t s → next ≡ now ++ s ∷ [] → Adding axes h ts old (drop (i + 1) ts) next
  next_sight ts i t now next s there is goes sight same =
      one_more axes h ts old t (drop (i + 1) ts) now next s (subst (λ (l : List (List Atom)). Adding axes h ts old l now) (left_after ts i t there is) goes) sight same

  pub next_stored : (ts : List (ℕ × List Atom)) (i : ℕ) (t : ℕ × List Atom) (now next : List Sight) (s : Sight) → i < length ts → t ≡ get_or ts i t → Adding axes h (tuples_of ts) old (tuples_of (drop i ts)) now → IsSight axes h t.1 s → next ≡ now ++ s ∷ [] → Adding axes h (tuples_of ts) old (tuples_of (drop (i + 1) ts)) next
  next_stored ts i t now next s there is goes sight same =
      one_more axes h (tuples_of ts) old t.1 (tuples_of (drop (i + 1) ts)) now next s (subst (λ (l : List (ℕ × List Atom)). Adding axes h (tuples_of ts) old (tuples_of l) now) (left_after ts i t there is) goes) sight same

  pub all_sights : (ts : List (List Atom)) (i : ℕ) (now : List Sight) → length ts ≤ i → Adding axes h ts old (drop i ts) now → AddSights axes h ts old now
  all_sights ts i now end goes = all_of_them axes h ts old now (subst (λ (l : List (List Atom)). Adding axes h ts old l now) (drop_all i ts end) goes)

  pub all_stored : (ts : List (ℕ × List Atom)) (i : ℕ) (now : List Sight) → length ts ≤ i → Adding axes h (tuples_of ts) old (tuples_of (drop i ts)) now → AddSights axes h (tuples_of ts) old now
  all_stored ts i now end goes =
      all_of_them axes h (tuples_of ts) old now (subst (λ (l : List (ℕ × List Atom)). Adding axes h (tuples_of ts) old (tuples_of l) now) (drop_all i ts end) goes)
