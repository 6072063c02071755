-- Normal tuples that mention no slot: the one without atoms holds everywhere, and each other one has the row `0 < 0`.
use Rattle.std.proofs.Common.{◌≡◌, ℕ, zero, suc, ◌==◌, length, arith, Bool, true, false, List, [], ◌∷◌, ◌++◌, refl, sym, ap, ap₂, ◌∙◌, true≢false}
use Rattle.std.specs.Prelude.{ℤ, ◌&&◌, ◌||◌}
use Rattle.std.proofs.lemmas.Bool.Decides.{nat_tests}
use Rattle.std.specs.List.{Contains, list_any}
use Rattle.ded_model.specs.declared.slot.Slot.{Slot}
use Rattle.ded_model.specs.declared.tuple.ThemeAtom.{ThemeAtom}
use Rattle.ded_model.specs.declared.tuple.ThemeAtom.TheVariants.{EqText, NeText, EqSlot, NeSlot}
use Rattle.ded_model.specs.declared.tuple.BothAtom.TheVariants.{First, Second}
use Rattle.ded_model.specs.Constraint.{LinearConstraint}
use Rattle.ded_model.specs.Point.{Point, same_slot}
use Rattle.ded_model.specs.Row.{Atom, sign_meets, row_holds, atom_holds, tuple_holds, tuples_hold, row_mentions, theme_mentions, atom_mentions, tuple_mentions, tuples_mention}
use Rattle.ded_model.specs.Normal.{normal_row, normal_with, IsNormalRow, constant_row, is_true_with, is_true_row, IsNormalTuple}
use Rattle.ded_model.proofs.Points.{same_slot_refl}
use Rattle.ded_model.proofs.Rows.{or_left, or_right}
use Rattle.ded_model.proofs.Normals.{constant_row-holds}
use Rattle.ded_model.proofs.Bools.{or_false_left, or_false_right}
use Rattle.ded_model.proofs.TupleLists.{tuples_hold-push}

-- whether the tuple has no atoms
abbrev pub has_no_atoms : List Atom → Bool
has_no_atoms [] = true
has_no_atoms (a ∷ atoms) = false

-- a normal row without slots that isn't true holds nowhere
closed_row : (r : LinearConstraint) (p : Point) → IsNormalRow r → is_true_row r ≡ false → ((s : Slot) → row_mentions r s ≡ false) → row_holds r p ≡ false
unfolding normal_row row_mentions
closed_row r p n f free = go r.coefs free f n.normal
  where
    made : (b : Bool) → constant_row b ≡ r → is_true_with r.op [] ≡ false → row_holds r p ≡ false
    made true e i = absurd (true≢false (ap (λ (q : LinearConstraint). is_true_with q.op []) e ∙ i))
    made false e i = ap (λ q. row_holds q p) (sym e) ∙ constant_row-holds false p

    go : (cs : List (Slot × ℤ)) → ((s : Slot) → list_any (λ c. same_slot c.0 s) cs ≡ false) → is_true_with r.op cs ≡ false → normal_with r cs ≡ r → row_holds r p ≡ false
    go [] h i e = made (sign_meets r.op r.constant) e i
    go (c ∷ cs) h i e = absurd (true≢false (sym (or_left (same_slot c.0 c.0) (list_any (λ d. same_slot d.0 c.0) cs) (same_slot_refl c.0)) ∙ h c.0))

-- each text atom has a slot
closed_theme : (a : ThemeAtom) → ((s : Slot) → theme_mentions a s ≡ false) → ⊥
unfolding theme_mentions
closed_theme (EqText s t) h = true≢false (sym (same_slot_refl s) ∙ h s)
closed_theme (NeText s t) h = true≢false (sym (same_slot_refl s) ∙ h s)
closed_theme (EqSlot s t) h = true≢false (sym (or_left (same_slot s s) (same_slot t s) (same_slot_refl s)) ∙ h s)
closed_theme (NeSlot s t) h = true≢false (sym (or_left (same_slot s s) (same_slot t s) (same_slot_refl s)) ∙ h s)

-- so a normal tuple holds where it has no atoms
pub closed_tuple : (t : List Atom) (p : Point) → IsNormalTuple t → ((s : Slot) → tuple_mentions t s ≡ false) → tuple_holds t p ≡ has_no_atoms t
unfolding atom_holds tuple_holds atom_mentions tuple_mentions
closed_tuple [] p n h = refl
closed_tuple (First r ∷ t) p n h = ap (λ b. b && tuple_holds t p) (closed_row r p n.0.1 n.0.2 (λ s. or_false_left (row_mentions r s) (tuple_mentions t s) (h s)))
closed_tuple (Second a ∷ t) p n h = absurd (closed_theme a (λ s. or_false_left (theme_mentions a s) (tuple_mentions t s) (h s)))

-- ---- lists of them

-- a tuple of a list without slots has none
pub closed_at : (ts : List (List Atom)) (t : List Atom) → Contains ts t → ((s : Slot) → tuples_mention ts s ≡ false) → (s : Slot) → tuple_mentions t s ≡ false
unfolding tuples_mention
closed_at [] t k h s = absurd (omega (arith, k.1))
closed_at (u ∷ ts) t (zero, l, i) h s = ap (λ v. tuple_mentions v s) (sym i) ∙ or_false_left (tuple_mentions u s) (tuples_mention ts s) (h s)
closed_at (u ∷ ts) t (suc k, l, i) h s = closed_at ts t (k, omega (arith, l), i) (λ v. or_false_right (tuple_mentions u v) (tuples_mention ts v) (h v)) s

-- no tuple holds, and one more that doesn't
pub none_more : (ts new : List (List Atom)) (t : List Atom) (p : Point) → new ≡ ts ++ t ∷ [] → tuples_hold ts p ≡ false → tuple_holds t p ≡ false → tuples_hold new p ≡ false
none_more ts new t p e f g = ap (λ us. tuples_hold us p) e ∙ tuples_hold-push ts t p ∙ ap₂ (λ a b. a || b) f g

-- as the count of its atoms tells
pub closed_by_length : (t atoms : List Atom) (n : ℕ) (b : Bool) → atoms ≡ t → n ≡ length atoms → b ≡ (n == 0) → IsNormalTuple atoms → ((s : Slot) → tuple_mentions t s ≡ false) → (p : Point) → tuple_holds t p ≡ b
closed_by_length t atoms n b e f g k h p = sym (ap (λ u. tuple_holds u p) e) ∙ closed_tuple atoms p k (λ s. ap (λ u. tuple_mentions u s) e ∙ h s) ∙ counted atoms ∙ sym (g ∙ ap (λ m. m == 0) f)
  where
    counted : (u : List Atom) → has_no_atoms u ≡ (length u == 0)
    counted [] = refl
    counted (a ∷ u) = grind (arith, nat_tests)

-- ---- lists of tuples

-- a tuple of the list holds only where the list does
pub known_holds : (ts : List (List Atom)) (t : List Atom) (p : Point) → Contains ts t → tuple_holds t p ≡ true → tuples_hold ts p ≡ true
unfolding tuples_hold
known_holds [] t p k e = absurd (omega (arith, k.1))
known_holds (u ∷ ts) t p (zero, l, i) e = or_left (tuple_holds u p) (tuples_hold ts p) (ap (λ v. tuple_holds v p) i ∙ e)
known_holds (u ∷ ts) t p (suc k, l, i) e = or_right (tuple_holds u p) (tuples_hold ts p) (known_holds ts t p (k, omega (arith, l), i) e)
