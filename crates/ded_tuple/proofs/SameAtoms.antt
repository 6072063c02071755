-- Normal atoms that the order doesn't tell apart are the same.
use Rattle.std.proofs.Common.{◌≡◌, ℕ, Bool, true, false, List, [], ◌∷◌, arith, refl, sym, ap, ap₂, ◌∙◌}
use Rattle.std.specs.Prelude.{ℤ, pos}
use Rattle.std.specs.declared.cmp.Ordering.{Ordering}
use Rattle.std.specs.declared.cmp.Ordering.TheVariants.{Less, Equal, Greater}
use Rattle.std.specs.Ordering.{ordering_then, nat_cmp, int_cmp}
use Rattle.std.specs.Cmp.Lexicographic.{slice_cmp}
use Rattle.std.proofs.lemmas.Bool.Decides.{nat_tests}
use Rattle.std.proofs.lemmas.Int.{ints}
use Rattle.ded_model.specs.declared.slot.Slot.{Slot}
use Rattle.ded_model.specs.declared.slot.Sort.{Sort}
use Rattle.ded_model.specs.declared.slot.Sort.TheVariants.{Text}
use Rattle.ded_model.specs.declared.row.RowOp.{RowOp}
use Rattle.ded_model.specs.declared.row.RowOp.TheVariants.{Zero, AtMost, Below}
use Rattle.ded_model.specs.declared.tuple.ThemeAtom.{ThemeAtom}
use Rattle.ded_model.specs.declared.tuple.ThemeAtom.TheVariants.{EqText, NeText, EqSlot, NeSlot}
use Rattle.ded_model.specs.declared.tuple.BothAtom.TheVariants.{First, Second}
use Rattle.ded_model.specs.Constraint.{LinearConstraint}
use Rattle.ded_model.specs.Row.{Atom}
use Rattle.ded_model.specs.Coefs.{AreCoefs}
use Rattle.ded_model.specs.Normal.{coefs_order, op_place, row_order, first_slot, kind_place, quoted_text, second_number, theme_order, atom_order, IsNormalTheme}
use Rattle.ded_model.proofs.CoefLemmas.{equal_by_number}
use Rattle.ded_tuple.specs.TrueRows.{IsNormalOrTrue}
use Rattle.ded_tuple.proofs.Chains.{less_equal, greater_equal}

-- ---- orders

abbrev is_equal : Ordering → Bool
is_equal Less = false
is_equal Equal = true
is_equal Greater = false

-- what is ordered by one thing and then by another is so by neither
then_first : (o p : Ordering) → ordering_then o p ≡ Equal → o ≡ Equal
then_first Less p e = e
then_first Equal p e = refl
then_first Greater p e = e

then_second : (o p : Ordering) → ordering_then o p ≡ Equal → p ≡ Equal
then_second Less p e = absurd (less_equal e)
then_second Equal p e = e
then_second Greater p e = absurd (greater_equal e)

nat-same : (m n : ℕ) → nat_cmp m n ≡ Equal → m ≡ n
nat-same m n e = grind (arith, nat_tests)

int-same : (x y : ℤ) → int_cmp x y ≡ Equal → x ≡ y
int-same x y e = grind (arith, ints)

-- ---- rows

same_coefs : (xs ys : List (Slot × ℤ)) → AreCoefs xs → AreCoefs ys → coefs_order xs ys ≡ Equal → xs ≡ ys
same_coefs [] [] h k e = refl
same_coefs [] (d ∷ ds) h k e = absurd (k.2 (sym (int-same (pos 0) d.1 (then_first (int_cmp (pos 0) d.1) (coefs_order [] ds) e))))
same_coefs (c ∷ cs) [] h k e = absurd (h.2 (int-same c.1 (pos 0) (then_first (int_cmp c.1 (pos 0)) (coefs_order cs []) e)))
same_coefs (c ∷ cs) (d ∷ ds) h k e = go (nat_cmp c.0.number d.0.number) refl (same_coefs cs ds h.4 k.4)
  where
    pair : (x y : Slot × ℤ) → x.0 ≡ y.0 → x.1 ≡ y.1 → x ≡ y
    pair x y e f = ap₂ (λ (s : Slot) (z : ℤ). (s, z)) e f

    go : (o : Ordering) → nat_cmp c.0.number d.0.number ≡ o → (coefs_order cs ds ≡ Equal → cs ≡ ds) → c ∷ cs ≡ d ∷ ds
    go Less f ih = absurd (h.2 (int-same c.1 (pos 0) (then_first (int_cmp c.1 (pos 0)) (coefs_order cs (d ∷ ds)) (rw f at e))))
    go Equal f ih =
        let both : ordering_then (int_cmp c.1 d.1) (coefs_order cs ds) ≡ Equal = rw f at e in
        ap₂ (λ (x : Slot × ℤ) xs. x ∷ xs)
        (pair c d (equal_by_number c.0 d.0 h.0 k.0 (nat-same c.0.number d.0.number f)) (int-same c.1 d.1 (then_first (int_cmp c.1 d.1) (coefs_order cs ds) both)))
        (ih (then_second (int_cmp c.1 d.1) (coefs_order cs ds) both))
    go Greater f ih = absurd (k.2 (sym (int-same (pos 0) d.1 (then_first (int_cmp (pos 0) d.1) (coefs_order (c ∷ cs) ds) (rw f at e)))))

same_op : (o p : RowOp) → nat_cmp (op_place o) (op_place p) ≡ Equal → o ≡ p
same_op Zero Zero e = refl
same_op Zero AtMost e = absurd (less_equal e)
same_op Zero Below e = absurd (less_equal e)
same_op AtMost Zero e = absurd (greater_equal e)
same_op AtMost AtMost e = refl
same_op AtMost Below e = absurd (less_equal e)
same_op Below Zero e = absurd (greater_equal e)
same_op Below AtMost e = absurd (greater_equal e)
same_op Below Below e = refl

same_row : (q r : LinearConstraint) → AreCoefs q.coefs → AreCoefs r.coefs → row_order q r ≡ Equal → q ≡ r
unfolding row_order
same_row q r h k e =
    let first = coefs_order q.coefs r.coefs in
    let second = int_cmp q.constant r.constant in
    let third = nat_cmp (op_place q.op) (op_place r.op) in
    let rest : ordering_then second third ≡ Equal = then_second first (ordering_then second third) e in
    let coefs = same_coefs q.coefs r.coefs h k (then_first first (ordering_then second third) e) in
    let constant = int-same q.constant r.constant (then_first second third rest) in
    let op = same_op q.op r.op (then_second second third rest) in
    λ i. record { coefs = coefs i; constant = constant i; op = op i }

-- ---- text atoms

same_text : (x y : List ℕ) → slice_cmp nat_cmp x y ≡ Equal → x ≡ y
same_text [] [] e = refl
same_text [] (b ∷ y) e = absurd (less_equal e)
same_text (a ∷ x) [] e = absurd (greater_equal e)
same_text (a ∷ x) (b ∷ y) e =
    ap₂ (λ n l. n ∷ l) (nat-same a b (then_first (nat_cmp a b) (slice_cmp nat_cmp x y) e)) (same_text x y (then_second (nat_cmp a b) (slice_cmp nat_cmp x y) e))

-- slots of one sort with one number
same_slots : (u : Sort) (s t : Slot) → s.sort ≡ u → t.sort ≡ u → nat_cmp s.number t.number ≡ Equal → s ≡ t
same_slots u s t h k e =
    let number = nat-same s.number t.number e in
    let sort = h ∙ sym k in
    λ i. record { number = number i; sort = sort i }

-- what is ordered by four things is so by none of them
level : (o p q r : Ordering) → ordering_then o (ordering_then p (ordering_then q r)) ≡ Equal → (o ≡ Equal) × (p ≡ Equal) × (q ≡ Equal) × (r ≡ Equal)
level o p q r e =
    let later : ordering_then p (ordering_then q r) ≡ Equal = then_second o (ordering_then p (ordering_then q r)) e in
    let last : ordering_then q r ≡ Equal = then_second p (ordering_then q r) later in
    (then_first o (ordering_then p (ordering_then q r)) e, then_first p (ordering_then q r) later, then_first q r last, then_second q r last)

theme_level : (a b : ThemeAtom) → theme_order a b ≡ Equal
    → (nat_cmp (first_slot a).number (first_slot b).number ≡ Equal) × (nat_cmp (kind_place a) (kind_place b) ≡ Equal)
    × (slice_cmp nat_cmp (quoted_text a) (quoted_text b) ≡ Equal) × (nat_cmp (second_number a) (second_number b) ≡ Equal)
unfolding theme_order
theme_level a b e = level (nat_cmp (first_slot a).number (first_slot b).number) (nat_cmp (kind_place a) (kind_place b)) (slice_cmp nat_cmp (quoted_text a) (quoted_text b)) (nat_cmp (second_number a) (second_number b)) e

same_theme : (a b : ThemeAtom) → IsNormalTheme a → IsNormalTheme b → theme_order a b ≡ Equal → a ≡ b
same_theme a b h k e = let l = theme_level a b e in by a b h k l.0 l.1 l.2 l.3
  where
    by : (a b : ThemeAtom) → IsNormalTheme a → IsNormalTheme b → nat_cmp (first_slot a).number (first_slot b).number ≡ Equal → nat_cmp (kind_place a) (kind_place b) ≡ Equal
        → slice_cmp nat_cmp (quoted_text a) (quoted_text b) ≡ Equal → nat_cmp (second_number a) (second_number b) ≡ Equal → a ≡ b
    by (EqText s t) (EqText u v) h k first kinds texts seconds = ap₂ EqText (same_slots Text s u h.0 k.0 first) (same_text t v texts)
    by (EqText s t) (NeText u v) h k first kinds texts seconds = absurd (less_equal kinds)
    by (EqText s t) (EqSlot u v) h k first kinds texts seconds = absurd (less_equal kinds)
    by (EqText s t) (NeSlot u v) h k first kinds texts seconds = absurd (less_equal kinds)
    by (NeText s t) (EqText u v) h k first kinds texts seconds = absurd (greater_equal kinds)
    by (NeText s t) (NeText u v) h k first kinds texts seconds = ap₂ NeText (same_slots Text s u h.0 k.0 first) (same_text t v texts)
    by (NeText s t) (EqSlot u v) h k first kinds texts seconds = absurd (less_equal kinds)
    by (NeText s t) (NeSlot u v) h k first kinds texts seconds = absurd (less_equal kinds)
    by (EqSlot s t) (EqText u v) h k first kinds texts seconds = absurd (greater_equal kinds)
    by (EqSlot s t) (NeText u v) h k first kinds texts seconds = absurd (greater_equal kinds)
    by (EqSlot s t) (EqSlot u v) h k first kinds texts seconds = ap₂ EqSlot (same_slots Text s u h.0 k.0 first) (same_slots Text t v h.1 k.1 seconds)
    by (EqSlot s t) (NeSlot u v) h k first kinds texts seconds = absurd (less_equal kinds)
    by (NeSlot s t) (EqText u v) h k first kinds texts seconds = absurd (greater_equal kinds)
    by (NeSlot s t) (NeText u v) h k first kinds texts seconds = absurd (greater_equal kinds)
    by (NeSlot s t) (EqSlot u v) h k first kinds texts seconds = absurd (greater_equal kinds)
    by (NeSlot s t) (NeSlot u v) h k first kinds texts seconds = ap₂ NeSlot (same_slots Text s u h.0 k.0 first) (same_slots Text t v h.1 k.1 seconds)

-- ---- atoms

pub same_atom : (a b : Atom) → IsNormalOrTrue a → IsNormalOrTrue b → atom_order a b ≡ Equal → a ≡ b
same_atom (First q) (First r) h k e = ap First (same_row q r h.0 k.0 e)
same_atom (First q) (Second b) h k e = absurd (greater_equal e)
same_atom (Second a) (First r) h k e = absurd (less_equal e)
same_atom (Second a) (Second b) h k e = ap Second (same_theme a b h k e)
