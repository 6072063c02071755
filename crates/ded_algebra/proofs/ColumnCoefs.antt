-- Coefficients of columns set at the slots that these are read into, one after another or at once.
--
-- A renaming sets the coefficients from the first on, and what is said of scans from the last on. Both are in order, and have the
-- same coefficient at each slot; so they are the same.
use Rattle.std.proofs.Common.{◌≡◌, ◌≢◌, ℕ, nat_lt, zero, suc, ◌+◌, ◌<◌, Bool, true, false, cond, ◌||◌, List, [], ◌∷◌, ◌++◌, ◌⊎◌, inl, inr, arith, refl, sym, ap, ap₂, ◌∙◌, subst, true≢false}
use Rattle.std.specs.Prelude.{ℤ, pos, ◌+ℤ◌}
use Rattle.std.proofs.lemmas.Bool.{cases_order, false_from_ne_true}
use lib.IntN.{+ℤ_idl, +ℤ_idr}
use Rattle.ded_num.proofs.Signs.{plus_swap}
use Rattle.ded_model.specs.declared.slot.Slot.{Slot}
use Rattle.ded_model.specs.declared.slot.Sort.TheVariants.{Rat}
use Rattle.ded_model.specs.declared.name.Column.{Column}
use Rattle.ded_model.specs.Point.{same_slot, same_sort, stands_in, AreDistinctSlots}
use Rattle.ded_model.specs.Known.{heading_slots}
use Rattle.ded_model.specs.Coefs.{AllAbove, AreCoefs, coef_at, put, nonzero, with_coef}
use Rattle.ded_model.specs.Lines.{Line, In, put_at, renamed_coefs, renamed_lines, line_with}
use Rattle.ded_model.specs.Renaming.{renamed, renamed_onto, mapped_lines}
use Rattle.ded_model.proofs.Points.{same_slot_is, same_slot_refl}
use Rattle.ded_model.proofs.Rows.{or_left, or_right}
use Rattle.ded_model.proofs.CoefLemmas.{same_number, equal_by_number, not_zero, nonzero-coefs, above_lesser, AreCoefs-with_coef, coef_at-above, coef_at-here, coef_at-past}
use Rattle.ded_model.proofs.LineCoefs.{coef_at-put}
use Rattle.ded_model.proofs.LineSlots.{has_slot}
use Rattle.ded_row.proofs.Targets.{AreFree, free_step, cut-absent, with_coef_slots, absent-below, coef_at-with_coef}
use Rattle.ded_algebra.specs.Evaluation.{HaveSorts}
use Rattle.ded_algebra.specs.Columns.{column_pairs}
use Rattle.ded_algebra.proofs.Columns.{IsRead, read, read_sort, read_number, read_once}

-- ---- lists of coefficients by their coefficients

-- the first coefficient, against a list that begins later
first_differs : (c : Slot × ℤ) (cs ds : List (Slot × ℤ)) → AreCoefs (c ∷ cs) → AllAbove c.0.number ds → coef_at (c ∷ cs) c.0 ≡ coef_at ds c.0 → ⊥
first_differs c cs ds k l e = k.2 (sym (coef_at-here c.0 c cs (same_slot_refl c.0) k.3) ∙ e ∙ coef_at-above c.0 ds l)

-- the rest, where the first ones are at one slot
rest_same : (c d : Slot × ℤ) (cs ds : List (Slot × ℤ)) → c.0 ≡ d.0 → AreCoefs (c ∷ cs) → AreCoefs (d ∷ ds) → ((t : Slot) → coef_at (c ∷ cs) t ≡ coef_at (d ∷ ds) t) → (t : Slot) → coef_at cs t ≡ coef_at ds t
rest_same c d cs ds e k l h t = go (same_slot c.0 t) refl
  where
    go : (b : Bool) → same_slot c.0 t ≡ b → coef_at cs t ≡ coef_at ds t
    go true f =
        let n = same_number c.0 t f in
        let m : d.0.number ≡ t.number = ap (λ (x : Slot). x.number) (sym e) ∙ n in
        coef_at-above t cs (subst (λ i. AllAbove i cs) n k.3) ∙ sym (coef_at-above t ds (subst (λ i. AllAbove i ds) m l.3))
    go false f = sym (coef_at-past t c cs f) ∙ h t ∙ coef_at-past t d ds (ap (λ x. same_slot x t) (sym e) ∙ f)

-- two lists in order with the same coefficients are the same
pub coefs_same : (cs ds : List (Slot × ℤ)) → AreCoefs cs → AreCoefs ds → ((t : Slot) → coef_at cs t ≡ coef_at ds t) → cs ≡ ds
coefs_same [] [] k l h = refl
coefs_same [] (d ∷ ds) k l h = absurd (first_differs d ds [] l tt (sym (h d.0)))
coefs_same (c ∷ cs) [] k l h = absurd (first_differs c cs [] k tt (h c.0))
coefs_same (c ∷ cs) (d ∷ ds) k l h = go (cases_order c.0.number d.0.number) (coefs_same cs ds k.4 l.4)
  where
    go : (c.0.number ≡ d.0.number) ⊎ ((c.0.number < d.0.number) ⊎ (d.0.number < c.0.number)) → (((t : Slot) → coef_at cs t ≡ coef_at ds t) → cs ≡ ds) → c ∷ cs ≡ d ∷ ds
    go (inr (inl e)) ih = absurd (first_differs c cs (d ∷ ds) k (e, above_lesser c.0.number d.0.number ds (omega (arith, e)) l.3) (h c.0))
    go (inr (inr e)) ih = absurd (first_differs d ds (c ∷ cs) l (e, above_lesser d.0.number c.0.number cs (omega (arith, e)) k.3) (sym (h d.0)))
    go (inl e) ih =
        let same : c.0 ≡ d.0 = equal_by_number c.0 d.0 k.0 l.0 e in
        let there : coef_at (d ∷ ds) c.0 ≡ d.1 = ap (coef_at (d ∷ ds)) same ∙ coef_at-here d.0 d ds (same_slot_refl d.0) l.3 in
        let value : c.1 ≡ d.1 = sym (coef_at-here c.0 c cs (same_slot_refl c.0) k.3) ∙ h c.0 ∙ there in
        ap₂ (λ x xs. x ∷ xs) (ap₂ (λ (s : Slot) (z : ℤ). (s, z)) same value) (ih (rest_same c d cs ds same k l h))

-- ---- from the last on

-- the coefficient of a column is put at its slot
pub put_read : (k n : ℕ) (h : List Column) (ss : List Slot) (s u : Slot) (a : ℤ) (cs : List (Slot × ℤ)) → s.number ≡ k + n → u.sort ≡ Rat → IsRead k h ss s u → put_at ss n a cs ≡ put u a cs
put_read k n [] ss s u a cs e r j = absurd j
put_read k n (c ∷ h) [] s u a cs e r j = absurd j
put_read k zero (c ∷ h) (v ∷ ss) s u a cs e r (inl j) = ap (λ b. cond b (put v a cs) cs) (ap (λ t. same_sort t Rat) (sym (ap (λ (x : Slot). x.sort) j.1) ∙ r)) ∙ ap (λ x. put x a cs) (sym j.1)
put_read k zero (c ∷ h) (v ∷ ss) s u a cs e r (inr j) = let l = read_number (k + 1) h ss s u j in absurd (omega (arith, l, e))
put_read k (suc n) (c ∷ h) (v ∷ ss) s u a cs e r (inl j) = let i : s.number ≡ k = ap (λ (x : Slot). x.number) j.0 in absurd (omega (arith, i, e))
put_read k (suc n) (c ∷ h) (v ∷ ss) s u a cs e r (inr j) = put_read (k + 1) n h ss s u a cs (omega (arith, e)) r j

-- no coefficient is lost where one is put at a slot that has none
nonzero-put : (u : Slot) (a : ℤ) (cs : List (Slot × ℤ)) → a ≢ pos 0 → has_slot cs u ≡ false → AreCoefs cs → nonzero (put u a cs) ≡ put u a cs
nonzero-put u a [] n f k = rw (not_zero a n) refl
nonzero-put u a (c ∷ cs) n f k = go (same_slot c.0 u) refl f (nat_lt u.number c.0.number) (nonzero-put u a cs n)
  where
    go : (b : Bool) → same_slot c.0 u ≡ b → (b || has_slot cs u) ≡ false → (d : Bool) → (has_slot cs u ≡ false → AreCoefs cs → nonzero (put u a cs) ≡ put u a cs)
        → nonzero (cond b ((c.0, a +ℤ c.1) ∷ cs) (cond d ((u, a) ∷ c ∷ cs) (c ∷ put u a cs))) ≡ cond b ((c.0, a +ℤ c.1) ∷ cs) (cond d ((u, a) ∷ c ∷ cs) (c ∷ put u a cs))
    go true e f d ih = absurd (true≢false f)
    go false e f true ih = rw (not_zero a n) (ap (λ xs. (u, a) ∷ xs) (nonzero-coefs (c ∷ cs) k))
    go false e f false ih = rw (not_zero c.1 k.2) (ap (λ xs. c ∷ xs) (ih f k.4))

-- so putting it there is setting it there
put_sets : (u : Slot) (a : ℤ) (cs : List (Slot × ℤ)) → a ≢ pos 0 → has_slot cs u ≡ false → AreCoefs cs → put u a cs ≡ with_coef u a cs
put_sets u a cs n f k = sym (ap (λ xs. nonzero (put u a xs)) (cut-absent u cs f) ∙ nonzero-put u a cs n f k)

module _ (h : List Column) (ss : List Slot) (j : HaveSorts h ss) (d : AreDistinctSlots ss) where
  -- the slots of the coefficients are those of columns
  abbrev pub AreColumns : List (Slot × ℤ) → Type 0
  AreColumns cs = (s : Slot) → has_slot cs s ≡ true → stands_in (heading_slots 0 h) s ≡ true

  first_read : (c : Slot × ℤ) (cs : List (Slot × ℤ)) → AreColumns (c ∷ cs) → IsRead 0 h ss c.0 (renamed (column_pairs 0 ss) c.0)
  first_read c cs o = read 0 h ss c.0 j (o c.0 (or_left _ _ (same_slot_refl c.0)))

  rest_columns : (c : Slot × ℤ) (cs : List (Slot × ℤ)) → AreColumns (c ∷ cs) → AreColumns cs
  rest_columns c cs o s e = o s (or_right (same_slot c.0 s) (has_slot cs s) e)

  -- what is put from the last on is in order, at the slots of the columns
  record ArePut (cs : List (Slot × ℤ)) : Type 0 where
    coefs : AreCoefs (renamed_coefs ss cs)
    from : (t : Slot) → has_slot (renamed_coefs ss cs) t ≡ true → (s : Slot) × (has_slot cs s ≡ true) × (renamed (column_pairs 0 ss) s ≡ t)

  -- the slot of the first coefficient isn't among those of the others
  first_absent : (c : Slot × ℤ) (cs : List (Slot × ℤ)) → AreCoefs (c ∷ cs) → AreColumns (c ∷ cs) → ArePut cs → has_slot (renamed_coefs ss cs) (renamed (column_pairs 0 ss) c.0) ≡ false
  first_absent c cs k o r = false_from_ne_true _ (λ e.
      let there = r.from (renamed (column_pairs 0 ss) c.0) e in
      let of_rest = subst (IsRead 0 h ss there.0) there.2 (read 0 h ss there.0 j (rest_columns c cs o there.0 there.1)) in
      let same : there.0 ≡ c.0 = read_once 0 h ss there.0 c.0 (renamed (column_pairs 0 ss) c.0) d of_rest (first_read c cs o) in
      true≢false (sym there.1 ∙ ap (has_slot cs) same ∙ absent-below c.0 cs k.3))

  first_sort : (c : Slot × ℤ) (cs : List (Slot × ℤ)) → AreCoefs (c ∷ cs) → AreColumns (c ∷ cs) → (renamed (column_pairs 0 ss) c.0).sort ≡ Rat
  first_sort c cs k o = read_sort 0 h ss c.0 (renamed (column_pairs 0 ss) c.0) j (first_read c cs o) ∙ k.0

  -- the first one is put at its slot
  put_first : (c : Slot × ℤ) (cs : List (Slot × ℤ)) → AreCoefs (c ∷ cs) → AreColumns (c ∷ cs) → renamed_coefs ss (c ∷ cs) ≡ put (renamed (column_pairs 0 ss) c.0) c.1 (renamed_coefs ss cs)
  put_first c cs k o = put_read 0 c.0.number h ss c.0 (renamed (column_pairs 0 ss) c.0) c.1 (renamed_coefs ss cs) (omega arith) (first_sort c cs k o) (first_read c cs o)

  are_put : (cs : List (Slot × ℤ)) → AreCoefs cs → AreColumns cs → ArePut cs
  are_put [] k o = record { coefs = tt; from = λ t e. absurd (true≢false (sym e)) }
  are_put (c ∷ cs) k o =
      let rest = are_put cs k.4 (rest_columns c cs o) in
      let set : renamed_coefs ss (c ∷ cs) ≡ with_coef (renamed (column_pairs 0 ss) c.0) c.1 (renamed_coefs ss cs)
      = put_first c cs k o ∙ put_sets (renamed (column_pairs 0 ss) c.0) c.1 (renamed_coefs ss cs) k.2 (first_absent c cs k o rest) rest.coefs in
      record {
        coefs = subst AreCoefs (sym set) (AreCoefs-with_coef (renamed (column_pairs 0 ss) c.0) (first_sort c cs k o) c.1 k.1 (renamed_coefs ss cs) rest.coefs);
        from = λ t e. elim (with_coef_slots (renamed (column_pairs 0 ss) c.0) c.1 (renamed_coefs ss cs) t (ap (λ xs. has_slot xs t) (sym set) ∙ e)) [
          | inl f ↦ (c.0, or_left _ _ (same_slot_refl c.0), same_slot_is (renamed (column_pairs 0 ss) c.0) t f)
          | inr f ↦ (let s = rest.from t f in (s.0, or_right (same_slot c.0 s.0) (has_slot cs s.0) s.1, s.2))
        ];
      }

  -- what is set from the first on is in order
  onto_coefs : (out cs : List (Slot × ℤ)) → AreCoefs out → AreCoefs cs → AreColumns cs → AreCoefs (renamed_onto (column_pairs 0 ss) out cs)
  onto_coefs out [] l k o = l
  onto_coefs out (c ∷ cs) l k o =
      onto_coefs (with_coef (renamed (column_pairs 0 ss) c.0) c.1 out) cs (AreCoefs-with_coef (renamed (column_pairs 0 ss) c.0) (first_sort c cs k o) c.1 k.1 out l) k.4 (rest_columns c cs o)

  -- and has the same coefficients besides those before
  onto_at : (out cs : List (Slot × ℤ)) (t : Slot) → AreFree (column_pairs 0 ss) out cs → AreCoefs cs → AreColumns cs → coef_at (renamed_onto (column_pairs 0 ss) out cs) t ≡ coef_at out t +ℤ coef_at (renamed_coefs ss cs) t
  onto_at out [] t f k o = sym (+ℤ_idr (coef_at out t))
  onto_at out (c ∷ cs) t f k o =
      let u = renamed (column_pairs 0 ss) c.0 in
      onto_at (with_coef u c.1 out) cs t (free_step (column_pairs 0 ss) out c cs f k) k.4 (rest_columns c cs o)
      ∙ ap (λ z. z +ℤ coef_at (renamed_coefs ss cs) t) (coef_at-with_coef u c.1 out t (f.free c.0 (or_left _ _ (same_slot_refl c.0))))
      ∙ plus_swap (cond (same_slot u t) c.1 (pos 0)) (coef_at out t) (coef_at (renamed_coefs ss cs) t)
      ∙ ap (λ z. coef_at out t +ℤ z) (sym (ap (λ xs. coef_at xs t) (put_first c cs k o) ∙ coef_at-put u c.1 (renamed_coefs ss cs) t))

  free_columns : (cs : List (Slot × ℤ)) → AreColumns cs → AreFree (column_pairs 0 ss) [] cs
  free_columns cs o = record {
    free = λ s e. refl;
    apart = λ s t e f g. read_once 0 h ss s t (renamed (column_pairs 0 ss) t) d (subst (IsRead 0 h ss s) g (read 0 h ss s j (o s e))) (read 0 h ss t j (o t f));
  }

  -- both are the same
  columns_set : (cs : List (Slot × ℤ)) → AreCoefs cs → AreColumns cs → renamed_onto (column_pairs 0 ss) [] cs ≡ renamed_coefs ss cs
  columns_set cs k o =
      coefs_same (renamed_onto (column_pairs 0 ss) [] cs) (renamed_coefs ss cs) (onto_coefs [] cs tt k o) (are_put cs k o).coefs
      (λ t. onto_at [] cs t (free_columns cs o) k o ∙ +ℤ_idl (coef_at (renamed_coefs ss cs) t))

  -- lines over the columns are renamed alike
  pub mapped_columns : (ls : List Line) → ((l : Line) → In l ls → AreCoefs l.coefs × AreColumns l.coefs) → mapped_lines (column_pairs 0 ss) ls ≡ renamed_lines ss ls
  mapped_columns [] k = refl
  mapped_columns (l ∷ ls) k =
      ap₂ (λ xs ys. xs ++ ys) (ap (λ xs. line_with xs l.constant) (columns_set l.coefs (k l (inl refl)).0 (k l (inl refl)).1)) (mapped_columns ls (λ m i. k m (inr i)))
