-- Lists that stay as they are where each column is its slot.
--
-- Normal tuples hold alike at two points that have the same values at the slots that they mention, and a line of theirs over its
-- own slots is that line. So what stands for them is renamed by no pairs to itself, and so by pairs that rename no slot.
use Rattle.std.proofs.Common.{◌≡◌, ℕ, ◌+◌, ◌<◌, ◌≤◌, Bool, true, false, not, cond, ◌&&◌, ◌||◌, List, [], ◌∷◌, ◌++◌, ⊎_elim, inl, inr, length, get_or, drop, drop-cons, add-one, refl, sym, ap, ap₂, ◌∙◌, subst, append-nil, bytes_eq}
use Rattle.std.specs.Prelude.{ℤ, pos, ◌+ℤ◌, ◌*ℤ◌}
use Rattle.std.specs.List.{AllByRecursion}
use Rattle.std.proofs.lemmas.List.{drop_all}
use lib.IntN.{+ℤ_idl, +ℤ_idr}
use Rattle.ded_num.proofs.Signs.{plus_swap}
use Rattle.ded_model.specs.declared.slot.Slot.{Slot}
use Rattle.ded_model.specs.declared.slot.Sort.TheVariants.{Text}
use Rattle.ded_model.specs.declared.tuple.ThemeAtom.{ThemeAtom}
use Rattle.ded_model.specs.declared.tuple.ThemeAtom.TheVariants.{EqText, NeText, EqSlot, NeSlot}
use Rattle.ded_model.specs.declared.tuple.BothAtom.TheVariants.{First, Second}
use Rattle.ded_model.specs.Constraint.{LinearConstraint}
use Rattle.ded_model.specs.Point.{Point, slot, same_slot, text_at}
use Rattle.ded_model.specs.Coefs.{AreCoefs, coef_at, with_coef}
use Rattle.ded_model.specs.Row.{Atom, sum_at, sign_meets, row_holds, theme_holds, atom_holds, tuple_holds, tuples_hold, row_mentions, theme_mentions, atom_mentions, tuple_mentions, tuples_mention}
use Rattle.ded_model.specs.Lines.{Line, In, line_with, row_lines, atoms_lines, tuples_lines}
use Rattle.ded_model.specs.Normal.{normal_row, IsNormalRow, IsNormalTheme, IsNormalAtom, IsNormalTuple}
use Rattle.ded_model.specs.Renaming.{renamed, renamed_onto, HaveOneValue, IsRenamedPoint, mapped_lines}
use Rattle.ded_model.proofs.Points.{same_slot_is, same_slot_refl}
use Rattle.ded_model.proofs.Rows.{or_left, or_right}
use Rattle.ded_model.proofs.Members.{In-split}
use Rattle.ded_model.proofs.CoefLemmas.{AreCoefs-with_coef}
use Rattle.ded_model.proofs.LineSlots.{has_slot}
use Rattle.ded_row.specs.Renaming.{renamed_row}
use Rattle.ded_row.proofs.RenamedLines.{renamed-lines}
use Rattle.ded_row.proofs.Targets.{AreFree, free_step, coef_at-with_coef}
use Rattle.ded_genrel.specs.Lists.{conjs_hold, conjs_mention, conjs_lines}
use Rattle.ded_genrel.specs.Operations.{IsRenaming}
use Rattle.ded_genrel.proofs.Renamed.{point_fewer}
use Rattle.ded_atoms.specs.Laws.{line_in_order}
use Rattle.ded_atoms.specs.Reading.{IsListOf}
use Rattle.ded_algebra.specs.Columns.{column_pairs}
use Rattle.ded_algebra.proofs.ColumnCoefs.{coefs_same}

-- ---- pairs that rename no slot

-- one more column that is its slot
pub columns_more : (slots : List Slot) (i number number' : ℕ) (s : Slot) (P : Type 0) → i < length slots → s ≡ get_or slots i s → s.number ≡ number → number' ≡ number + 1
    → (((t : Slot) → renamed (column_pairs number (drop i slots)) t ≡ t) → P) → ((t : Slot) → renamed (column_pairs number' (drop (i + 1) slots)) t ≡ t) → P
columns_more slots i number number' s P l is e f h k = h (λ t.
    ap (λ ss. renamed (column_pairs number ss) t) (drop-cons slots i s l ∙ ap₂ (λ x j. x ∷ drop j slots) (sym is) (sym (add-one i)))
    ∙ go t (same_slot (record { number = number; sort = s.sort }) t) refl)
  where
    with_number : ℕ → Slot
    with_number n = record { number = n; sort = s.sort }

    go : (t : Slot) (b : Bool) → same_slot (record { number = number; sort = s.sort }) t ≡ b → cond b s (renamed (column_pairs (number + 1) (drop (i + 1) slots)) t) ≡ t
    go t true j = ap (λ (n : ℕ). with_number n) e ∙ same_slot_is (record { number = number; sort = s.sort }) t j
    go t false j = sym (ap (λ n. renamed (column_pairs n (drop (i + 1) slots)) t) f) ∙ k t

pub columns_done : (slots : List Slot) (i number : ℕ) (P : Type 0) → length slots ≤ i → (((t : Slot) → renamed (column_pairs number (drop i slots)) t ≡ t) → P) → P
columns_done slots i number P l h = h (λ t. ap (λ ss. renamed (column_pairs number ss) t) (drop_all i slots l))

-- two lists of pairs that rename alike rename coefficients and lines alike
onto_alike : (map map' : List (Slot × Slot)) → ((s : Slot) → renamed map s ≡ renamed map' s) → (out cs : List (Slot × ℤ)) → renamed_onto map out cs ≡ renamed_onto map' out cs
onto_alike map map' e out [] = refl
onto_alike map map' e out (c ∷ cs) = ap (λ s. renamed_onto map (with_coef s c.1 out) cs) (e c.0) ∙ onto_alike map map' e (with_coef (renamed map' c.0) c.1 out) cs

mapped_alike : (map map' : List (Slot × Slot)) → ((s : Slot) → renamed map s ≡ renamed map' s) → (ls : List Line) → mapped_lines map ls ≡ mapped_lines map' ls
mapped_alike map map' e [] = refl
mapped_alike map map' e (l ∷ ls) = ap₂ (λ cs ms. line_with cs l.constant ++ ms) (onto_alike map map' e [] l.coefs) (mapped_alike map map' e ls)

-- what no pairs rename to itself, pairs that rename no slot do so too
pub renaming_stays : (map : List (Slot × Slot)) → ((s : Slot) → renamed map s ≡ s) → (h h' : Point → Bool) (m m' : Slot → Bool) (l l' : List Line) → IsRenaming [] h h' m m' l l' → IsRenaming map h h' m m' l l'
renaming_stays map e h h' m m' l l' r = record {
  holds = λ p q i z. r.holds p q i (record { den = z.den; value = λ s k. subst (λ u. HaveOneValue s.sort p (slot s) q (slot u)) (e s) (z.value s k) });
  slots = λ t k. (let s = r.slots t k in (s.0, s.1, e s.0 ∙ s.2));
  lines = r.lines ∙ sym (mapped_alike map [] e l);
}

-- ---- rows and text atoms at two points with the same values

sum_stays : (cs : List (Slot × ℤ)) (p q : Point) → AreCoefs cs → ((s : Slot) → has_slot cs s ≡ true → HaveOneValue s.sort p (slot s) q (slot s)) → sum_at cs q ≡ sum_at cs p
sum_stays [] p q k h = refl
sum_stays (c ∷ cs) p q k h =
    ap₂ (λ x y. c.1 *ℤ x +ℤ y) (subst (λ t. HaveOneValue t p (slot c.0) q (slot c.0)) k.0 (h c.0 (or_left _ _ (same_slot_refl c.0))))
    (sum_stays cs p q k.4 (λ s e. h s (or_right (same_slot c.0 s) (has_slot cs s) e)))

row_stays : (r : LinearConstraint) (p q : Point) → AreCoefs r.coefs → IsRenamedPoint [] (row_mentions r) p q → row_holds r q ≡ row_holds r p
unfolding row_holds row_mentions
row_stays r p q k z = ap₂ (λ x d. sign_meets r.op (x +ℤ r.constant *ℤ pos d)) (sum_stays r.coefs p q k (λ s e. z.value s e)) z.den

text_stays : (s : Slot) (p q : Point) → s.sort ≡ Text → HaveOneValue s.sort p (slot s) q (slot s) → text_at q (slot s) ≡ text_at p (slot s)
text_stays s p q t v = subst (λ k. HaveOneValue k p (slot s) q (slot s)) t v

theme_stays : (a : ThemeAtom) (p q : Point) → IsNormalTheme a → IsRenamedPoint [] (theme_mentions a) p q → theme_holds a q ≡ theme_holds a p
unfolding theme_holds theme_mentions
theme_stays (EqText s t) p q n z = ap (λ u. bytes_eq u t) (text_stays s p q n.0 (z.value s (same_slot_refl s)))
theme_stays (NeText s t) p q n z = ap (λ u. not (bytes_eq u t)) (text_stays s p q n.0 (z.value s (same_slot_refl s)))
theme_stays (EqSlot s t) p q n z =
    ap₂ bytes_eq (text_stays s p q n.0 (z.value s (or_left _ (same_slot t s) (same_slot_refl s)))) (text_stays t p q n.1 (z.value t (or_right (same_slot s t) _ (same_slot_refl t))))
theme_stays (NeSlot s t) p q n z =
    ap₂ (λ u v. not (bytes_eq u v)) (text_stays s p q n.0 (z.value s (or_left _ (same_slot t s) (same_slot_refl s)))) (text_stays t p q n.1 (z.value t (or_right (same_slot s t) _ (same_slot_refl t))))

atom_stays : (a : Atom) (p q : Point) → IsNormalAtom a → IsRenamedPoint [] (atom_mentions a) p q → atom_holds a q ≡ atom_holds a p
unfolding atom_holds atom_mentions
atom_stays (First r) p q n z = row_stays r p q n.0 z
atom_stays (Second a) p q n z = theme_stays a p q n z

tuple_stays : (t : List Atom) (p q : Point) → IsNormalTuple t → IsRenamedPoint [] (tuple_mentions t) p q → tuple_holds t q ≡ tuple_holds t p
unfolding tuple_holds tuple_mentions
tuple_stays [] p q n z = refl
tuple_stays (a ∷ t) p q n z =
    ap₂ (λ b c. b && c) (atom_stays a p q n.0 (point_fewer [] (tuple_mentions (a ∷ t)) (atom_mentions a) p q (λ s e. or_left (atom_mentions a s) (tuple_mentions t s) e) z))
    (tuple_stays t p q n.2 (point_fewer [] (tuple_mentions (a ∷ t)) (tuple_mentions t) p q (λ s e. or_right (atom_mentions a s) (tuple_mentions t s) e) z))

tuples_stay : (ts : List (List Atom)) (p q : Point) → AllByRecursion IsNormalTuple ts → IsRenamedPoint [] (tuples_mention ts) p q → tuples_hold ts q ≡ tuples_hold ts p
unfolding tuples_hold tuples_mention
tuples_stay [] p q n z = refl
tuples_stay (t ∷ ts) p q n z =
    ap₂ (λ b c. b || c) (tuple_stays t p q n.0 (point_fewer [] (tuples_mention (t ∷ ts)) (tuple_mentions t) p q (λ s e. or_left (tuple_mentions t s) (tuples_mention ts s) e) z))
    (tuples_stay ts p q n.1 (point_fewer [] (tuples_mention (t ∷ ts)) (tuples_mention ts) p q (λ s e. or_right (tuple_mentions t s) (tuples_mention ts s) e) z))

-- ---- lines over their own slots

onto_coefs : (out cs : List (Slot × ℤ)) → AreCoefs out → AreCoefs cs → AreCoefs (renamed_onto [] out cs)
onto_coefs out [] l k = l
onto_coefs out (c ∷ cs) l k = onto_coefs (with_coef c.0 c.1 out) cs (AreCoefs-with_coef c.0 k.0 c.1 k.1 out l) k.4

onto_at : (out cs : List (Slot × ℤ)) (t : Slot) → AreFree [] out cs → AreCoefs cs → coef_at (renamed_onto [] out cs) t ≡ coef_at out t +ℤ coef_at cs t
onto_at out [] t f k = sym (+ℤ_idr (coef_at out t))
onto_at out (c ∷ cs) t f k =
    onto_at (with_coef c.0 c.1 out) cs t (free_step [] out c cs f k) k.4 ∙ ap (λ z. z +ℤ coef_at cs t) (coef_at-with_coef c.0 c.1 out t (f.free c.0 (or_left _ _ (same_slot_refl c.0))))
    ∙ plus_swap (cond (same_slot c.0 t) c.1 (pos 0)) (coef_at out t) (coef_at cs t)

-- coefficients that are set at their own slots are the same
onto_stays : (cs : List (Slot × ℤ)) → AreCoefs cs → renamed_onto [] [] cs ≡ cs
onto_stays cs k =
    coefs_same (renamed_onto [] [] cs) cs (onto_coefs [] cs tt k) k (λ t. onto_at [] cs t (record { free = λ s e. refl; apart = λ s u e f g. g }) k ∙ +ℤ_idl (coef_at cs t))

-- the line is the one over its own slots
abbrev IsKept : Line → Type 0
IsKept x = line_with (renamed_onto [] [] x.coefs) x.constant ≡ x ∷ []

line_kept : (cs : List (Slot × ℤ)) (z : ℤ) → mapped_lines [] (line_with cs z) ≡ line_with cs z → (x : Line) → In x (line_with cs z) → IsKept x
line_kept [] z e x i = absurd i
line_kept (c ∷ cs) z e x (inl i) = subst IsKept (sym i) (sym (append-nil _) ∙ e)
line_kept (c ∷ cs) z e x (inr i) = absurd i

row_kept : (r : LinearConstraint) → AreCoefs r.coefs → IsNormalRow r → (x : Line) → In x (row_lines r) → IsKept x
row_kept r k n x i =
    let same : renamed_row [] r ≡ r = ap (λ xs. record { coefs = xs; constant = r.constant; op = r.op }) (onto_stays r.coefs k) in
    line_kept r.coefs r.constant (sym (renamed-lines [] r k) ∙ ap (λ (q : LinearConstraint). row_lines (normal_row q)) same ∙ ap row_lines n.normal) x i

module _ (P : Line → Type 0) (each : (r : LinearConstraint) → AreCoefs r.coefs → IsNormalRow r → (x : Line) → In x (row_lines r) → P x) where
  -- what is so of the lines of normal rows is so of those of normal tuples
  atoms_each : (t : List Atom) → IsNormalTuple t → (x : Line) → In x (atoms_lines t) → P x
  atoms_each [] n x i = absurd i
  atoms_each (First r ∷ t) n x i = ⊎_elim (λ (j : In x (row_lines r)). each r n.0.0 n.0.1 x j) (λ j. atoms_each t n.2 x j) (In-split x (row_lines r) (atoms_lines t) i)
  atoms_each (Second a ∷ t) n x i = atoms_each t n.2 x i

  tuples_each : (ts : List (List Atom)) → AllByRecursion IsNormalTuple ts → (x : Line) → In x (tuples_lines ts) → P x
  tuples_each [] n x i = absurd i
  tuples_each (t ∷ ts) n x i = ⊎_elim (λ (j : In x (atoms_lines t)). atoms_each t n.0 x j) (λ j. tuples_each ts n.1 x j) (In-split x (atoms_lines t) (tuples_lines ts) i)

-- the lines of normal tuples have their slots in order
pub tuples_in_order : (ts : List (List Atom)) → AllByRecursion IsNormalTuple ts → (x : Line) → In x (tuples_lines ts) → AreCoefs x.coefs
tuples_in_order ts n x i = tuples_each (λ y. AreCoefs y.coefs) (λ r k m y j. line_in_order r y (record { coefs = k; row = m }) j) ts n x i

lines_stay : (ls : List Line) → ((x : Line) → In x ls → IsKept x) → mapped_lines [] ls ≡ ls
lines_stay [] k = refl
lines_stay (l ∷ ls) k = ap₂ (λ xs ys. xs ++ ys) (k l (inl refl)) (lines_stay ls (λ x i. k x (inr i)))

-- ---- lists

-- what stands for normal tuples is renamed by no pairs to itself
pub list_stays : {A : Type 0} (h : A → Point → Bool) (m : A → Slot → Bool) (l : A → List Line) (list : List (List A)) (us : List (List Atom)) → AllByRecursion IsNormalTuple us → IsListOf h m l list us
    → IsRenaming [] (conjs_hold h list) (conjs_hold h list) (conjs_mention m list) (conjs_mention m list) (conjs_lines l list) (conjs_lines l list)
list_stays h m l list us n is = record {
  holds = λ p q i z. is.holds q ∙ tuples_stay us p q n (record { den = z.den; value = λ s e. z.value s (is.slots s ∙ e) }) ∙ sym (is.holds p);
  slots = λ t e. (t, e, refl);
  lines = sym (lines_stay (conjs_lines l list) (λ x i. tuples_each IsKept row_kept us n x (is.lines x i)));
}
