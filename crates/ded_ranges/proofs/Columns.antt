-- Tuples over columns at points: where they may hold, and what contradicts them.
use Rattle.std.proofs.Common.{◌≡◌, ℕ, ◌<◌, ◌+◌, Bool, true, false, not, ◌&&◌, List, [], ◌∷◌, ◌++◌, length, get_or, take, refl, sym, ap, ◌∙◌, subst, true≢false}
use Rattle.std.specs.Prelude.{ℤ, pos, ◌+ℤ◌, ◌*ℤ◌}
use Rattle.std.specs.Str.{bytes_eq}
use Rattle.std.specs.List.{list_all}
use Rattle.ded_num.specs.Length.{IsShort}
use Rattle.ded_num.proofs.Tests.{both, from_same_texts, bytes_eq-of}
use Rattle.ded_model.specs.declared.slot.Slot.{Slot}
use Rattle.ded_model.specs.declared.slot.Sort.TheVariants.{Text}
use Rattle.ded_model.specs.declared.tuple.ThemeAtom.{ThemeAtom}
use Rattle.ded_model.specs.declared.tuple.ThemeAtom.TheVariants.{EqText, NeText, EqSlot, NeSlot}
use Rattle.ded_model.specs.declared.tuple.BothAtom.TheVariants.{First, Second}
use Rattle.ded_model.specs.Constraint.{LinearConstraint}
use Rattle.ded_model.specs.Coefs.{AreCoefs}
use Rattle.ded_model.specs.Normal.{IsNormalTuple}
use Rattle.ded_model.specs.Point.{Point, IsPoint, slot, number_at, text_at}
use Rattle.ded_model.specs.Row.{Atom, sum_at, sign_meets, row_holds, theme_holds, atom_holds, tuple_holds}
use Rattle.ded_model.proofs.Points.{same_slot_is, and_right, and_left}
use Rattle.ded_ranges.specs.declared.reach.Range.{Range}
use Rattle.ded_ranges.specs.declared.window.Window.{Window}
use Rattle.ded_ranges.specs.Reaches.{Lies}
use Rattle.ded_ranges.specs.Limits.{sum_of, are_met}
use Rattle.ded_ranges.specs.Windows.{column_value, column_text, is_text_met, is_within, IsMissed}
use Rattle.ded_ranges.specs.Tuples.{IsReachOf, terms_of, is_text_column, may_equal, may_differ, agrees, atom_may_hold, tuple_may_hold}
use Rattle.ded_ranges.proofs.Taken.{taken_more}
use Rattle.ded_ranges.proofs.Terms.{one_term}
use Rattle.ded_ranges.proofs.Sums.{may_be_sound}

-- ---- rows

sum_terms : (cs : List (Slot × ℤ)) (p : Point) → AreCoefs cs → sum_at cs p ≡ sum_of (terms_of cs) (column_value p)
sum_terms [] p h = refl
sum_terms (c ∷ cs) p h =
    ap (λ s. c.1 *ℤ number_at p (slot (record { number = c.0.number; sort = s })) +ℤ sum_at cs p) h.0 ∙ ap (λ z. c.1 *ℤ column_value p c.0.number +ℤ z) (sum_terms cs p h.4)

pub row_met : (r : LinearConstraint) (p : Point) → AreCoefs r.coefs → row_holds r p ≡ true → sign_meets r.op (sum_of (terms_of r.coefs) (column_value p) +ℤ r.constant *ℤ pos p.den) ≡ true
unfolding row_holds
row_met r p h m = subst (λ z. sign_meets r.op (z +ℤ r.constant *ℤ pos p.den) ≡ true) (sum_terms r.coefs p h) m

-- a row on one column
pub row_one : (r : LinearConstraint) (c : Slot × ℤ) (p : Point) → AreCoefs r.coefs → r.coefs ≡ c ∷ [] → row_holds r p ≡ true → sign_meets r.op (c.1 *ℤ column_value p c.0.number +ℤ r.constant *ℤ pos p.den) ≡ true
row_one r c p h e m = one_term (terms_of r.coefs) (c.0.number, c.1) r.constant r.op (column_value p) p.den (ap terms_of e) (row_met r p h m)

pub one_short : (cs : List (Slot × ℤ)) (c : Slot × ℤ) → cs ≡ c ∷ [] → AreCoefs cs → IsShort c.1
one_short cs c e h = (subst AreCoefs e h).1

-- ---- text atoms

-- the text that stands in the column of the slot
stands : (p : Point) (s : Slot) (u : ℕ × List ℕ) → is_text_met p u ≡ true → is_text_column s u.0 ≡ true → text_at p (slot s) ≡ u.1
stands p s u m e = ap (λ s. text_at p (slot s)) (same_slot_is s (record { number = u.0; sort = Text }) e) ∙ from_same_texts (column_text p u.0) u.1 m

equal_agrees : (p : Point) (s : Slot) (t : List ℕ) (u : ℕ × List ℕ) → text_at p (slot s) ≡ t → is_text_met p u ≡ true → may_equal s t u ≡ true
equal_agrees p s t u h m = by (is_text_column s u.0) refl
  where
    by : (b : Bool) → is_text_column s u.0 ≡ b → not (b && not (bytes_eq u.1 t)) ≡ true
    by true e = ap (λ b. not (not b)) (bytes_eq-of u.1 t (sym (stands p s u m e) ∙ h))
    by false e = refl

other_agrees : (p : Point) (s : Slot) (t : List ℕ) (u : ℕ × List ℕ) → not (bytes_eq (text_at p (slot s)) t) ≡ true → is_text_met p u ≡ true → may_differ s t u ≡ true
other_agrees p s t u h m = by (is_text_column s u.0) refl
  where
    by : (b : Bool) → is_text_column s u.0 ≡ b → not (b && bytes_eq u.1 t) ≡ true
    by true e = subst (λ x. not (bytes_eq x t) ≡ true) (stands p s u m e) h
    by false e = refl

each_equal : (p : Point) (s : Slot) (t : List ℕ) (us : List (ℕ × List ℕ)) → text_at p (slot s) ≡ t → list_all (is_text_met p) us ≡ true → list_all (may_equal s t) us ≡ true
each_equal p s t [] h m = refl
each_equal p s t (u ∷ us) h m =
    both (may_equal s t u) (list_all (may_equal s t) us) (equal_agrees p s t u h (and_left (is_text_met p u) (list_all (is_text_met p) us) m)) (each_equal p s t us h (and_right (is_text_met p u) (list_all (is_text_met p) us) m))

each_other : (p : Point) (s : Slot) (t : List ℕ) (us : List (ℕ × List ℕ)) → not (bytes_eq (text_at p (slot s)) t) ≡ true → list_all (is_text_met p) us ≡ true → list_all (may_differ s t) us ≡ true
each_other p s t [] h m = refl
each_other p s t (u ∷ us) h m =
    both (may_differ s t u) (list_all (may_differ s t) us) (other_agrees p s t u h (and_left (is_text_met p u) (list_all (is_text_met p) us) m)) (each_other p s t us h (and_right (is_text_met p u) (list_all (is_text_met p) us) m))

theme_agrees : (a : ThemeAtom) (p : Point) (us : List (ℕ × List ℕ)) → theme_holds a p ≡ true → list_all (is_text_met p) us ≡ true → agrees us a ≡ true
unfolding theme_holds
theme_agrees (EqText s t) p us h m = each_equal p s t us (from_same_texts (text_at p (slot s)) t h) m
theme_agrees (NeText s t) p us h m = each_other p s t us h m
theme_agrees (EqSlot s t) p us h m = refl
theme_agrees (NeSlot s t) p us h m = refl

-- ---- tuples

module _ (rs : List Range) (us : List (ℕ × List ℕ)) (p : Point) (is : IsPoint p) (lies : Lies rs (column_value p) p.den) (met : list_all (is_text_met p) us ≡ true) where
  atom_may : (a : Atom) (atoms : List Atom) → IsNormalTuple (a ∷ atoms) → atom_holds a p ≡ true → atom_may_hold rs us a ≡ true
  unfolding atom_holds
  atom_may (First r) atoms n h = may_be_sound rs (column_value p) p.den (terms_of r.coefs) r.constant r.op is.positive lies (row_met r p n.0.0 h)
  atom_may (Second a) atoms n h = theme_agrees a p us h met

  tuple_may : (atoms : List Atom) → IsNormalTuple atoms → tuple_holds atoms p ≡ true → tuple_may_hold rs us atoms ≡ true
  unfolding tuple_holds
  tuple_may [] n h = refl
  tuple_may (a ∷ atoms) n h =
      both (atom_may_hold rs us a) (tuple_may_hold rs us atoms) (atom_may a atoms n (and_left (atom_holds a p) (tuple_holds atoms p) h)) (tuple_may atoms n.2 (and_right (atom_holds a p) (tuple_holds atoms p) h))

-- ---- of the first elements, one more

all_front : {A : Type 0} (f : A → Bool) (xs ys : List A) → list_all f (xs ++ ys) ≡ true → (list_all f xs ≡ true) × (list_all f ys ≡ true)
all_front f [] ys h = (refl, h)
all_front f (x ∷ xs) ys h =
    let k = all_front f xs ys (and_right (f x) (list_all f (xs ++ ys)) h) in
    (both (f x) (list_all f xs) (and_left (f x) (list_all f (xs ++ ys)) h) k.0, k.1)

pub all_before : {A : Type 0} (f : A → Bool) (xs : List A) (i : ℕ) (x : A) → i < length xs → get_or xs i x ≡ x → list_all f (take (i + 1) xs) ≡ true → (list_all f (take i xs) ≡ true) × (f x ≡ true)
all_before f xs i x h e m =
    let k = all_front f (take i xs) (x ∷ []) (subst (λ ys. list_all f ys ≡ true) (taken_more xs i x h ∙ ap (λ y. take i xs ++ y ∷ []) e) m) in
    (k.0, and_left (f x) true k.1)

-- what is no test of the one is none of the other
pub contrary : (a b : Bool) → (a ≡ true → b ≡ true) → b ≡ false → a ≡ false
contrary true b h e = absurd (true≢false (sym (h refl) ∙ e))
contrary false b h e = refl

pub missed : (w : Window) (rs : List Range) (atoms : List Atom) → IsReachOf rs (is_within w) → IsNormalTuple atoms → tuple_may_hold rs w.texts.items atoms ≡ false → IsMissed w atoms
missed w rs atoms reach n e p is within =
    contrary (tuple_holds atoms p) (tuple_may_hold rs w.texts.items atoms) (tuple_may rs w.texts.items p is (reach p is within) (and_right (are_met (column_value p) p.den w.limits.items) (list_all (is_text_met p) w.texts.items) within) atoms n) e
