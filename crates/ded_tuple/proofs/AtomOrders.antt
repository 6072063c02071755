-- The order of atoms is a strict one: turned, it is the other one.
use Rattle.std.proofs.Common.{◌≡◌, ℕ, List, [], ◌∷◌, arith, refl, ap, ◌∙◌}
use Rattle.std.specs.Prelude.{ℤ, pos}
use Rattle.std.specs.declared.cmp.Ordering.{Ordering}
use Rattle.std.specs.declared.cmp.Ordering.TheVariants.{Less, Equal, Greater}
use Rattle.std.specs.Ordering.{ordering_then, ordering_reverse, nat_cmp, int_cmp}
use Rattle.std.specs.Cmp.Lexicographic.{slice_cmp}
use Rattle.std.proofs.lemmas.Bool.Decides.{nat_tests}
use Rattle.std.proofs.lemmas.Int.{ints}
use Rattle.ded_model.specs.declared.slot.Slot.{Slot}
use Rattle.ded_model.specs.declared.tuple.BothAtom.TheVariants.{First, Second}
use Rattle.ded_model.specs.declared.tuple.ThemeAtom.{ThemeAtom}
use Rattle.ded_model.specs.Constraint.{LinearConstraint}
use Rattle.ded_model.specs.Row.{Atom}
use Rattle.ded_model.specs.Normal.{coefs_order, op_place, row_order, first_slot, kind_place, quoted_text, second_number, theme_order, atom_order}

-- ---- turned orders

nat-turned : (m n : ℕ) → nat_cmp n m ≡ ordering_reverse (nat_cmp m n)
nat-turned m n = grind (arith, nat_tests)

int-turned : (m n : ℤ) → int_cmp n m ≡ ordering_reverse (int_cmp m n)
int-turned m n = grind (arith, ints)

then-turned : (o p o' p' : Ordering) → o' ≡ ordering_reverse o → p' ≡ ordering_reverse p → ordering_then o' p' ≡ ordering_reverse (ordering_then o p)
then-turned Less p o' p' e f = rw e refl
then-turned Equal p o' p' e f = rw e f
then-turned Greater p o' p' e f = rw e refl

-- texts
text-turned : (x y : List ℕ) → slice_cmp nat_cmp y x ≡ ordering_reverse (slice_cmp nat_cmp x y)
text-turned [] [] = refl
text-turned [] (b ∷ y) = refl
text-turned (a ∷ x) [] = refl
text-turned (a ∷ x) (b ∷ y) = then-turned (nat_cmp a b) (slice_cmp nat_cmp x y) (nat_cmp b a) (slice_cmp nat_cmp y x) (nat-turned a b) (text-turned x y)

-- coefficients
coefs-turned : (xs ys : List (Slot × ℤ)) → coefs_order ys xs ≡ ordering_reverse (coefs_order xs ys)
coefs-turned [] [] = refl
coefs-turned [] (d ∷ ds) = then-turned (int_cmp (pos 0) d.1) (coefs_order [] ds) (int_cmp d.1 (pos 0)) (coefs_order ds []) (int-turned (pos 0) d.1) (coefs-turned [] ds)
coefs-turned (c ∷ cs) [] = then-turned (int_cmp c.1 (pos 0)) (coefs_order cs []) (int_cmp (pos 0) c.1) (coefs_order [] cs) (int-turned c.1 (pos 0)) (coefs-turned cs [])
coefs-turned (c ∷ cs) (d ∷ ds) = go (nat_cmp c.0.number d.0.number) refl (coefs-turned cs (d ∷ ds)) (coefs-turned cs ds) (coefs-turned (c ∷ cs) ds)
  where
    go : (o : Ordering) → nat_cmp c.0.number d.0.number ≡ o → coefs_order (d ∷ ds) cs ≡ ordering_reverse (coefs_order cs (d ∷ ds)) → coefs_order ds cs ≡ ordering_reverse (coefs_order cs ds)
        → coefs_order ds (c ∷ cs) ≡ ordering_reverse (coefs_order (c ∷ cs) ds) → coefs_order (d ∷ ds) (c ∷ cs) ≡ ordering_reverse (coefs_order (c ∷ cs) (d ∷ ds))
    go Less e f g h = rw (e, nat-turned c.0.number d.0.number, e) (then-turned _ _ _ _ (int-turned c.1 (pos 0)) f)
    go Equal e f g h = rw (e, nat-turned c.0.number d.0.number, e) (then-turned _ _ _ _ (int-turned c.1 d.1) g)
    go Greater e f g h = rw (e, nat-turned c.0.number d.0.number, e) (then-turned _ _ _ _ (int-turned (pos 0) d.1) h)

-- rows
row-turned : (a b : LinearConstraint) → row_order b a ≡ ordering_reverse (row_order a b)
unfolding row_order
row-turned a b =
    then-turned (coefs_order a.coefs b.coefs) (ordering_then (int_cmp a.constant b.constant) (nat_cmp (op_place a.op) (op_place b.op))) _ _ (coefs-turned a.coefs b.coefs)
    (then-turned (int_cmp a.constant b.constant) (nat_cmp (op_place a.op) (op_place b.op)) _ _ (int-turned a.constant b.constant) (nat-turned (op_place a.op) (op_place b.op)))

-- text atoms
theme-turned : (a b : ThemeAtom) → theme_order b a ≡ ordering_reverse (theme_order a b)
unfolding theme_order
theme-turned a b =
    let texts = slice_cmp nat_cmp (quoted_text a) (quoted_text b) in
    let numbers = nat_cmp (second_number a) (second_number b) in
    let kinds = nat_cmp (kind_place a) (kind_place b) in
    then-turned (nat_cmp (first_slot a).number (first_slot b).number) (ordering_then kinds (ordering_then texts numbers)) _ _ (nat-turned (first_slot a).number (first_slot b).number)
    (then-turned kinds (ordering_then texts numbers) _ _ (nat-turned (kind_place a) (kind_place b))
    (then-turned texts numbers _ _ (text-turned (quoted_text a) (quoted_text b)) (nat-turned (second_number a) (second_number b))))

-- atoms
pub turned : (a b : Atom) → atom_order b a ≡ ordering_reverse (atom_order a b)
turned (Second a) (Second b) = theme-turned a b
turned (Second a) (First r) = refl
turned (First r) (Second a) = refl
turned (First r) (First q) = row-turned r q

pub atom_order-turned : (a b : Atom) → atom_order a b ≡ Greater → atom_order b a ≡ Less
atom_order-turned a b e = turned a b ∙ ap ordering_reverse e

-- ---- as the code has it

then_assoc : (o p q r : Ordering) → ordering_then (ordering_then (ordering_then o p) q) r ≡ ordering_then o (ordering_then p (ordering_then q r))
then_assoc Less p q r = refl
then_assoc Equal Less q r = refl
then_assoc Equal Equal q r = refl
then_assoc Equal Greater q r = refl
then_assoc Greater p q r = refl

pub theme_order-is : (a b : ThemeAtom) (o p q r : Ordering) → o ≡ nat_cmp (first_slot a).number (first_slot b).number → p ≡ nat_cmp (kind_place a) (kind_place b)
    → q ≡ slice_cmp nat_cmp (quoted_text a) (quoted_text b) → r ≡ nat_cmp (second_number a) (second_number b)
    → ordering_then (ordering_then (ordering_then o p) q) r ≡ theme_order a b
unfolding theme_order
theme_order-is a b o p q r e f g h = then_assoc o p q r ∙ rw (e, f, g, h) refl
