-- Slots read as the columns that are read into them: each has its column, of its sort, and two slots have two columns.
use Rattle.std.proofs.Common.{◌≡◌, ℕ, ◌+◌, ◌*◌, ◌<◌, ◌≤◌, Bool, true, false, ◌||◌, List, [], ◌∷◌, ◌++◌, inl, inr, length, get_or, drop, drop-cons, add-one, append_assoc, append-nil, arith, refl, sym, ap, ap₂, ◌∙◌, subst, true≢false}
use Rattle.std.proofs.lemmas.List.{drop_all}
use Rattle.ded_model.specs.declared.slot.Slot.{Slot}
use Rattle.ded_model.specs.declared.slot.Sort.{Sort}
use Rattle.ded_model.specs.declared.slot.Sort.TheVariants.{Rat, Text}
use Rattle.ded_model.specs.declared.name.Column.{Column}
use Rattle.ded_model.specs.Point.{slot, Point, same_slot, stands_in, as_number, as_text}
use Rattle.ded_model.specs.Value.{slot_value}
use Rattle.ded_model.specs.Catalogue.{argument_coordinate}
use Rattle.ded_model.specs.Renaming.{renamed, HaveOneValue, IsOneToOne, KeepsSorts, IsRenamedPoint}
use Rattle.ded_model.proofs.Points.{same_slot_is}
use Rattle.ded_algebra.specs.Evaluation.{HaveSorts}
use Rattle.ded_algebra.proofs.Columns.{IsRead, read_sort, read_number}
use Rattle.ded_algebra.proofs.ColumnPoints.{overs_one, number_there, text_there, same_number, same_text}
use Rattle.ded_query.specs.Columns.{slot_columns}
use Rattle.ded_query.specs.Windows.{column_values}

-- ---- columns of slots

-- the column of a slot is read into it
placed : (k : ℕ) (h : List Column) (ss : List Slot) (u : Slot) → HaveSorts h ss → stands_in ss u ≡ true → IsRead k h ss (renamed (slot_columns k ss) u) u
placed k [] [] u j e = absurd (true≢false (sym e))
placed k [] (v ∷ ss) u j e = absurd j
placed k (c ∷ h) [] u j e = absurd j
placed k (c ∷ h) (v ∷ ss) u j e = go (same_slot v u) refl e (placed (k + 1) h ss u j.1)
  where
    go : (b : Bool) → same_slot v u ≡ b → (b || stands_in ss u) ≡ true → (stands_in ss u ≡ true → IsRead (k + 1) h ss (renamed (slot_columns (k + 1) ss) u) u) → IsRead k (c ∷ h) (v ∷ ss) (renamed (slot_columns k (v ∷ ss)) u) u
    go true f g ih = inl (rw f (ap (λ (t : Sort). record { number = k; sort = t }) (sym j.0)), sym (same_slot_is v u f))
    go false f g ih = inr (subst (λ x. IsRead (k + 1) h ss x u) (sym (rw f refl)) (ih g))

-- a column is read into one slot
read_to_one : (k : ℕ) (h : List Column) (ss : List Slot) (x s t : Slot) → IsRead k h ss x s → IsRead k h ss x t → s ≡ t
read_to_one k [] ss x s t r q = absurd r
read_to_one k (c ∷ h) [] x s t r q = absurd r
read_to_one k (c ∷ h) (v ∷ ss) x s t (inl r) (inl q) = r.1 ∙ sym q.1
read_to_one k (c ∷ h) (v ∷ ss) x s t (inl r) (inr q) =
    let n : x.number ≡ k = ap (λ (y : Slot). y.number) r.0 in
    let l = read_number (k + 1) h ss x t q in
    absurd (omega (arith, n, l))
read_to_one k (c ∷ h) (v ∷ ss) x s t (inr r) (inl q) =
    let n : x.number ≡ k = ap (λ (y : Slot). y.number) q.0 in
    let l = read_number (k + 1) h ss x s r in
    absurd (omega (arith, n, l))
read_to_one k (c ∷ h) (v ∷ ss) x s t (inr r) (inr q) = read_to_one (k + 1) h ss x s t r q

-- some columns of the slots' sorts
some_columns : List Slot → List Column
some_columns [] = []
some_columns (s ∷ ss) = record { name = []; sort = s.sort } ∷ some_columns ss

some_sorts : (ss : List Slot) → HaveSorts (some_columns ss) ss
unfolding some_columns
some_sorts [] = tt
some_sorts (s ∷ ss) = (refl, some_sorts ss)

module _ (ss : List Slot) (test : Slot → Bool) (o : (s : Slot) → test s ≡ true → stands_in ss s ≡ true) where
  pub columns_apart : IsOneToOne (slot_columns 0 ss) test
  columns_apart = record {
    apart = λ s t e f same.
        read_to_one 0 (some_columns ss) ss (renamed (slot_columns 0 ss) t) s t (subst (λ x. IsRead 0 (some_columns ss) ss x s) same (placed 0 (some_columns ss) ss s (some_sorts ss) (o s e)))
        (placed 0 (some_columns ss) ss t (some_sorts ss) (o t f));
  }

  column_sort : (h : List Column) → HaveSorts h ss → (s : Slot) → test s ≡ true → (renamed (slot_columns 0 ss) s).sort ≡ s.sort
  column_sort h j s e = sym (read_sort 0 h ss (renamed (slot_columns 0 ss) s) s j (placed 0 h ss s j (o s e)))

  pub columns_sorted : KeepsSorts (slot_columns 0 ss) test
  columns_sorted = record { sort = column_sort (some_columns ss) (some_sorts ss) }

  -- at the columns stand the values of the slots
  pub columns_there : (p : Point) (h : List Column) → HaveSorts h ss → IsRenamedPoint (slot_columns 0 ss) test p (column_values p h ss)
  columns_there p h j = record {
    den = ap (λ m. p.den * m) (overs_one p ss) ∙ omega arith;
    value = λ s e. value s e s.sort refl;
  }
    where
      value : (s : Slot) → test s ≡ true → (t : Sort) → s.sort ≡ t → HaveOneValue t p (slot s) (column_values p h ss) (slot (renamed (slot_columns 0 ss) s))
      value s e Rat f =
          number_there p h ss (renamed (slot_columns 0 ss) s) s (placed 0 h ss s j (o s e))
          ∙ ap (λ (x : Sort). as_number (argument_coordinate x ((slot_value p s).number, (slot_value p s).text))) (column_sort h j s e ∙ f)
          ∙ same_number p s Rat f
      value s e Text f =
          text_there p h ss (renamed (slot_columns 0 ss) s) s (placed 0 h ss s j (o s e))
          ∙ ap (λ (x : Sort). as_text (argument_coordinate x ((slot_value p s).number, (slot_value p s).text))) (column_sort h j s e ∙ f)
          ∙ same_text p s Text f

-- ---- one after another

pub columns_more : (slots : List Slot) (i number number' : ℕ) (items items' whole : List (Slot × Slot)) (s : Slot) → i < length slots → s ≡ get_or slots i s → items' ≡ items ++ (s, record { number = number; sort = s.sort }) ∷ [] → number' ≡ number + 1
    → items ++ slot_columns number (drop i slots) ≡ whole → items' ++ slot_columns number' (drop (i + 1) slots) ≡ whole
columns_more slots i number number' items items' whole s l is e f h =
    ap₂ (λ xs n. xs ++ slot_columns n (drop (i + 1) slots)) e f
    ∙ append_assoc items ((s, record { number = number; sort = s.sort }) ∷ []) (slot_columns (number + 1) (drop (i + 1) slots))
    ∙ ap (λ ys. items ++ slot_columns number ys) (sym (drop-cons slots i s l ∙ ap₂ (λ x k. x ∷ drop k slots) (sym is) (sym (add-one i)))) ∙ h

pub columns_done : (slots : List Slot) (i number : ℕ) (items whole : List (Slot × Slot)) → length slots ≤ i → items ++ slot_columns number (drop i slots) ≡ whole → items ≡ whole
columns_done slots i number items whole l h = sym (append-nil items) ∙ ap (λ ys. items ++ slot_columns number ys) (sym (drop_all i slots l)) ∙ h
