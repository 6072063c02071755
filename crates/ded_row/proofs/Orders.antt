-- The order of two lists of coefficients, slot by slot.
use Rattle.std.proofs.Common.{◌≡◌, ℕ, ◌<◌, true, false, List, [], ◌∷◌, arith, refl, sym, ap, ◌∙◌, true≢false}
use Rattle.std.specs.Prelude.{ℤ, pos}
use Rattle.std.specs.declared.cmp.Ordering.{Ordering}
use Rattle.std.specs.declared.cmp.Ordering.TheVariants.{Less, Equal, Greater}
use Rattle.std.specs.Ordering.{ordering_then, is_ne, nat_cmp, int_cmp}
use Rattle.std.proofs.lemmas.Bool.Decides.{nat_tests}
use Rattle.ded_model.specs.declared.slot.Slot.{Slot}
use Rattle.ded_model.specs.Coefs.{AllAbove}
use Rattle.ded_model.specs.Constraint.{LinearConstraint}
use Rattle.ded_model.specs.Normal.{coefs_order, op_place, row_order}
use Rattle.ded_row.specs.Merging.{IsFirst, in_left, in_right, in_both}

-- a lesser number, a greater one, the same one
cmp_less : (m n : ℕ) → m < n → nat_cmp m n ≡ Less
cmp_less m n h = grind (arith, nat_tests)

cmp_greater : (m n : ℕ) → n < m → nat_cmp m n ≡ Greater
cmp_greater m n h = grind (arith, nat_tests)

pub cmp_same : (m : ℕ) → nat_cmp m m ≡ Equal
cmp_same m = grind (arith, nat_tests)

-- the first list is ahead
ahead : (c : Slot × ℤ) (cs ys : List (Slot × ℤ)) → AllAbove c.0.number ys → coefs_order (c ∷ cs) ys ≡ ordering_then (int_cmp c.1 (pos 0)) (coefs_order cs ys)
ahead c cs [] h = refl
ahead c cs (d ∷ ds) h = rw (cmp_less c.0.number d.0.number h.0) refl

-- the second one is
behind : (xs : List (Slot × ℤ)) (d : Slot × ℤ) (ds : List (Slot × ℤ)) → AllAbove d.0.number xs → coefs_order xs (d ∷ ds) ≡ ordering_then (int_cmp (pos 0) d.1) (coefs_order xs ds)
behind [] d ds h = refl
behind (c ∷ cs) d ds h = rw (cmp_greater c.0.number d.0.number h.0) refl

-- both have the slot
level : (s : Slot) (a b : ℤ) (cs ds : List (Slot × ℤ)) → coefs_order ((s, a) ∷ cs) ((s, b) ∷ ds) ≡ ordering_then (int_cmp a b) (coefs_order cs ds)
level s a b cs ds = rw (cmp_same s.number) refl

-- the first slot decides, or else the rest
pub order_step : (xs ys : List (Slot × ℤ)) (s : Slot) (a b : ℤ) (xs' ys' : List (Slot × ℤ)) → IsFirst xs ys s a b xs' ys' → coefs_order xs ys ≡ ordering_then (int_cmp a b) (coefs_order xs' ys')
order_step xs ys s a b xs' ys' (in_left e f g h) =
    ap (λ zs. coefs_order zs ys) e ∙ ahead (s, a) xs' ys h ∙ rw (f, g) refl
order_step xs ys s a b xs' ys' (in_right e f g h) =
    ap (coefs_order xs) f ∙ behind xs (s, b) ys' h ∙ rw (e, g) refl
order_step xs ys s a b xs' ys' (in_both e f) = rw (e, f) (level s a b xs' ys')

-- so with the rest of a walk
pub order_with : (xs ys : List (Slot × ℤ)) (s : Slot) (a b : ℤ) (xs' ys' : List (Slot × ℤ)) (o r : Ordering) → IsFirst xs ys s a b xs' ys' → o ≡ int_cmp a b → coefs_order xs ys ≡ r
    → ordering_then o (coefs_order xs' ys') ≡ r
order_with xs ys s a b xs' ys' o r h e f = ap (λ w. ordering_then w (coefs_order xs' ys')) e ∙ sym (order_step xs ys s a b xs' ys' h) ∙ f

-- an order that isn't that of equals decides
pub decided : (o r : Ordering) → true ≡ is_ne o → o ≡ ordering_then o r
decided Less r e = refl
decided Equal r e = absurd (true≢false e)
decided Greater r e = refl

-- that of equals leaves it to the rest
pub undecided : (o r : Ordering) → false ≡ is_ne o → ordering_then o r ≡ r
undecided Less r e = absurd (true≢false (sym e))
undecided Equal r e = refl
undecided Greater r e = absurd (true≢false (sym e))

-- three orders, the first two of them joined before
then_assoc : (o p q : Ordering) → ordering_then (ordering_then o p) q ≡ ordering_then o (ordering_then p q)
then_assoc Less p q = refl
then_assoc Equal p q = refl
then_assoc Greater p q = refl

-- the order of two rows, from those of their parts
pub row_order_is : (a b a' b' : LinearConstraint) (o p q : Ordering) → a ≡ a' → b ≡ b' → o ≡ coefs_order a.coefs b.coefs → p ≡ int_cmp a.constant b.constant → q ≡ nat_cmp (op_place a.op) (op_place b.op)
    → ordering_then (ordering_then o p) q ≡ row_order a' b'
unfolding row_order
row_order_is a b a' b' o p q i j e f g = then_assoc o p q ∙ rw (e, f, g) refl ∙ ap (λ x. row_order x b) i ∙ ap (row_order a') j
