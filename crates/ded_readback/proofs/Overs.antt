-- Tuples over a heading, as tests find them.
use Rattle.std.proofs.Common.{◌≡◌, ℕ, zero, suc, ◌+◌, ◌<◌, ◌≤◌, max, List, [], ◌∷◌, length, map, slice_index_or, refl, sym, ap, ◌∙◌, subst, arith, Bool, true, false, ◌||◌, ◌&&◌, ⊎_elim}
use Rattle.std.specs.Prelude.{ℤ, ◌==◌}
use Rattle.std.specs.List.{list_any, list_all}
use Rattle.std.proofs.lemmas.Bool.Decides.{nat_tests}
use Rattle.ded_num.specs.Length.{IsShort, length_of}
use Rattle.ded_num.proofs.Lengths.{length_of-le}
use Rattle.ded_model.specs.declared.slot.Slot.{Slot}
use Rattle.ded_model.specs.declared.name.Column.{Column}
use Rattle.ded_model.specs.declared.tuple.ThemeAtom.{ThemeAtom}
use Rattle.ded_model.specs.declared.tuple.ThemeAtom.TheVariants.{EqText, NeText, EqSlot, NeSlot}
use Rattle.ded_model.specs.declared.tuple.BothAtom.TheVariants.{First, Second}
use Rattle.ded_model.specs.Coefs.{AreCoefs}
use Rattle.ded_model.specs.Point.{same_sort, same_slot, stands_in}
use Rattle.ded_model.specs.Row.{Atom, row_mentions, theme_mentions, atom_mentions, tuple_mentions}
use Rattle.ded_model.specs.Normal.{IsNormalTuple}
use Rattle.ded_model.specs.Known.{heading_slots}
use Rattle.ded_model.specs.Width.{greatest_length, tuple_length}
use Rattle.ded_model.proofs.Points.{same_slot_is, same_slot_refl}
use Rattle.ded_readback.specs.Spelling.{IsShortTuple}
use Rattle.ded_readback.specs.Over.{is_column, coefs_over, theme_over, atom_over}
use Rattle.std.proofs.lemmas.Bool.{or_cases}
use Rattle.ded_num.proofs.Tests.{or_false_none}
use Rattle.ded_model.proofs.Atoms.{and_to, and_from}
use Rattle.ded_model.proofs.Rows.{or_left, or_right}
use Rattle.ded_readback.proofs.AnswersRead.{AreOver}

-- ---- columns

-- a slot of a lesser number is none of the columns counted from j on
later_not : (j : ℕ) (h : List Column) (s : Slot) → s.number < j → stands_in (heading_slots j h) s ≡ false
later_not j [] s l = refl
later_not j (c ∷ cs) s l =
    let e : (j == s.number) ≡ false = grind (arith, nat_tests) in
    rw e (later_not (j + 1) cs s (omega arith))

-- a slot is column number n where it has that number and the column's sort
pub column_is : (i n : ℕ) (h : List Column) (d : Column) (s : Slot) → s.number ≡ i + n → n < length h → same_sort (slice_index_or h n d).sort s.sort ≡ stands_in (heading_slots i h) s
column_is i n [] d s e l = absurd (omega (arith, l))
column_is i zero (c ∷ cs) d s e l =
    let here : (i == s.number) ≡ true = grind (arith, nat_tests) in
    rw here (or_false_none (same_sort c.sort s.sort) ∙ ap (λ (b : Bool). same_sort c.sort s.sort || b) (sym (later_not (i + 1) cs s (omega (arith, e)))))
column_is i (suc n) (c ∷ cs) d s e l =
    let past : (i == s.number) ≡ false = grind (arith, nat_tests) in
    rw past (column_is (i + 1) n cs d s (omega (arith, e)) (omega (arith, l)))

pub column_not : (i n : ℕ) (h : List Column) (s : Slot) → s.number ≡ i + n → length h ≤ n → false ≡ stands_in (heading_slots i h) s
column_not i n [] s e l = refl
column_not i zero (c ∷ cs) s e l = absurd (omega (arith, l))
column_not i (suc n) (c ∷ cs) s e l =
    let past : (i == s.number) ≡ false = grind (arith, nat_tests) in
    rw past (column_not (i + 1) n cs s (omega (arith, e)) (omega (arith, l)))

-- ---- what is mentioned

over_same : (h : List Column) (s t : Slot) → is_column h s ≡ true → same_slot s t ≡ true → is_column h t ≡ true
over_same h s t e f = subst (λ u. is_column h u ≡ true) (same_slot_is s t f) e

coefs_sound : (h : List Column) (cs : List (Slot × ℤ)) → coefs_over h cs ≡ true → AreOver h (λ s. list_any (λ c. same_slot c.0 s) cs)
coefs_sound h [] e s m = absurd cc
coefs_sound h (c ∷ cs) e s m =
    let parts = and_from (is_column h c.0) (coefs_over h cs) e in
    ⊎_elim (λ f. over_same h c.0 s parts.0 f) (λ f. coefs_sound h cs parts.1 s f) (or_cases (same_slot c.0 s) (list_any (λ c. same_slot c.0 s) cs) m)

coefs_complete : (h : List Column) (cs : List (Slot × ℤ)) → AreOver h (λ s. list_any (λ c. same_slot c.0 s) cs) → coefs_over h cs ≡ true
coefs_complete h [] over = refl
coefs_complete h (c ∷ cs) over =
    and_to (is_column h c.0) (coefs_over h cs) (over c.0 (or_left (same_slot c.0 c.0) _ (same_slot_refl c.0)), coefs_complete h cs (λ s e. over s (or_right (same_slot c.0 s) _ e)))

two_sound : (h : List Column) (s t u : Slot) → (is_column h s && is_column h t) ≡ true → (same_slot s u || same_slot t u) ≡ true → is_column h u ≡ true
two_sound h s t u e m =
    let parts = and_from (is_column h s) (is_column h t) e in
    ⊎_elim (λ f. over_same h s u parts.0 f) (λ f. over_same h t u parts.1 f) (or_cases (same_slot s u) (same_slot t u) m)

theme_sound : (h : List Column) (a : ThemeAtom) → theme_over h a ≡ true → AreOver h (theme_mentions a)
unfolding theme_mentions
theme_sound h (EqText s t) e u m = over_same h s u e m
theme_sound h (NeText s t) e u m = over_same h s u e m
theme_sound h (EqSlot s t) e u m = two_sound h s t u e m
theme_sound h (NeSlot s t) e u m = two_sound h s t u e m

theme_complete : (h : List Column) (a : ThemeAtom) → AreOver h (theme_mentions a) → theme_over h a ≡ true
unfolding theme_mentions
theme_complete h (EqText s t) over = over s (same_slot_refl s)
theme_complete h (NeText s t) over = over s (same_slot_refl s)
theme_complete h (EqSlot s t) over = and_to (is_column h s) (is_column h t) (over s (or_left (same_slot s s) _ (same_slot_refl s)), over t (or_right (same_slot s t) _ (same_slot_refl t)))
theme_complete h (NeSlot s t) over = and_to (is_column h s) (is_column h t) (over s (or_left (same_slot s s) _ (same_slot_refl s)), over t (or_right (same_slot s t) _ (same_slot_refl t)))

atom_sound : (h : List Column) (a : Atom) → atom_over h a ≡ true → AreOver h (atom_mentions a)
unfolding atom_mentions row_mentions
atom_sound h (First r) e = coefs_sound h r.coefs e
atom_sound h (Second a) e = theme_sound h a e

atom_complete : (h : List Column) (a : Atom) → AreOver h (atom_mentions a) → atom_over h a ≡ true
unfolding atom_mentions row_mentions
atom_complete h (First r) over = coefs_complete h r.coefs over
atom_complete h (Second a) over = theme_complete h a over

tuple_sound : (h : List Column) (t : List Atom) → list_all (atom_over h) t ≡ true → AreOver h (tuple_mentions t)
unfolding tuple_mentions
tuple_sound h [] e s m = absurd cc
tuple_sound h (a ∷ atoms) e s m =
    let parts = and_from (atom_over h a) (list_all (atom_over h) atoms) e in
    ⊎_elim (λ f. atom_sound h a parts.0 s f) (λ f. tuple_sound h atoms parts.1 s f) (or_cases (atom_mentions a s) (list_any (λ a. atom_mentions a s) atoms) m)

tuple_complete : (h : List Column) (t : List Atom) → AreOver h (tuple_mentions t) → list_all (atom_over h) t ≡ true
unfolding tuple_mentions
tuple_complete h [] over = refl
tuple_complete h (a ∷ atoms) over =
    and_to (atom_over h a) (list_all (atom_over h) atoms) (atom_complete h a (λ s e. over s (or_left (atom_mentions a s) _ e)), tuple_complete h atoms (λ s e. over s (or_right (atom_mentions a s) _ e)))

-- ---- tuples over the heading

pub is_over : (h : List Column) (t : List Atom) (b : Bool) → IsNormalTuple t → b ≡ list_all (atom_over h) t → (b ≡ true → tuple_length t ≤ 127) → b ≡ true → IsShortTuple h t
is_over h t b normal is short e = (record { normal = normal; slots = tuple_sound h t (sym is ∙ e) }, short e)

pub found_over : (h : List Column) (t : List Atom) (b : Bool) → b ≡ list_all (atom_over h) t → IsShortTuple h t → b ≡ true
found_over h t b is over = is ∙ tuple_complete h t over.0.slots

-- ---- lengths

coefs_short : (cs : List (Slot × ℤ)) → AreCoefs cs → greatest_length (map (λ c. c.1) cs) ≤ 127
coefs_short [] kept = omega arith
coefs_short (c ∷ cs) kept = omega (arith, length_of-le c.1 127 kept.1, coefs_short cs kept.4)

pub row_short : (m : ℤ) (cs : List (Slot × ℤ)) → IsShort m → AreCoefs cs → max (length_of m) (greatest_length (map (λ c. c.1) cs)) ≤ 127
row_short m cs short kept = omega (arith, length_of-le m 127 short, coefs_short cs kept)
