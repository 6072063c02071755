-- What holds at a point holds at each point that has the same values at the slots that are mentioned.
--
-- A row asks for the sign of a sum over the point's denominator. Where two points are the same, each sum times the other's
-- denominator is one number (`sum_at-same`, `row_law`), and positive factors leave a sign (`sign_meets-same`). A text atom
-- asks for texts, which are equal. Tuples and lists of tuples follow by `and` and `or`.
use Rattle.std.proofs.Common.{◌≡◌, ℕ, zero, suc, ◌*◌, ◌<◌, Bool, true, false, ◌||◌, List, [], ◌∷◌, arith, refl, sym, ◌∙◌, mul-pos}
use Rattle.std.specs.Prelude.{ℤ, pos, negsuc, ◌+ℤ◌, ◌*ℤ◌, int_lt, int_le}
use Rattle.std.specs.List.{list_any}
use Rattle.std.proofs.lemmas.Int.{ints}
use Rattle.std.proofs.lemmas.Bool.Decides.{nat_tests}
use Rattle.std.specs.Ordering.{int_eq}
use Rattle.std.proofs.Math.IntN.{zero-*ℤ}
use Rattle.ded_model.specs.declared.slot.Slot.{Slot}
use Rattle.ded_model.specs.declared.row.RowOp.{RowOp}
use Rattle.ded_model.specs.declared.row.RowOp.TheVariants.{Zero, AtMost, Below}
use Rattle.ded_model.specs.Constraint.{LinearConstraint}
use Rattle.ded_model.specs.declared.tuple.ThemeAtom.{ThemeAtom}
use Rattle.ded_model.specs.declared.tuple.ThemeAtom.TheVariants.{EqText, NeText, EqSlot, NeSlot}
use Rattle.ded_model.specs.declared.tuple.BothAtom.TheVariants.{First, Second}
use Rattle.ded_model.specs.Point.{slot, Point, IsSameAt, number_at, same_slot}
use Rattle.ded_model.specs.Row.{Atom, sum_at, row_at, sign_meets, row_holds, theme_holds, atom_holds, tuple_holds, tuples_hold, row_mentions, theme_mentions, atom_mentions, tuple_mentions, tuples_mention}
use Rattle.ded_model.proofs.Points.{same_key_refl}
use Rattle.ded_num.proofs.Ring.{parts, ring, diff-pos, diff_same}

-- a product of positive numbers is positive
above_0 : (n a : ℕ) → 0 < a → 0 < suc n * a
above_0 n a h = mul-pos (omega arith) h

-- a number above 0 is not 0
not_zero : (n : ℕ) → int_eq (pos (suc n)) (pos 0) ≡ false
not_zero n = grind (arith, nat_tests)

-- nor at most 0
not_at_most : (n : ℕ) → int_le (pos (suc n)) (pos 0) ≡ false
not_at_most n = grind (arith, nat_tests)

-- nor below 0
not_below : (n : ℕ) → int_lt (pos (suc n)) (pos 0) ≡ false
not_below n = grind (arith, nat_tests)

-- a sum over one denominator has the sign of the same sum over another
pub sign_meets-same : (op : RowOp) (s t : ℤ) (a b : ℕ) → 0 < a → 0 < b → s *ℤ pos b ≡ t *ℤ pos a → sign_meets op s ≡ sign_meets op t
sign_meets-same op (pos zero) (pos zero) a b h k e = refl
sign_meets-same op (pos zero) (pos (suc m)) a b h k e = absurd (omega (arith, ints, above_0 m a h))
sign_meets-same op (pos zero) (negsuc m) a b h k e = absurd (omega (arith, ints, above_0 m a h))
sign_meets-same op (pos (suc n)) (pos zero) a b h k e = absurd (omega (arith, ints, above_0 n b k))
sign_meets-same Zero (pos (suc n)) (pos (suc m)) a b h k e = not_zero n ∙ sym (not_zero m)
sign_meets-same AtMost (pos (suc n)) (pos (suc m)) a b h k e = not_at_most n ∙ sym (not_at_most m)
sign_meets-same Below (pos (suc n)) (pos (suc m)) a b h k e = not_below n ∙ sym (not_below m)
sign_meets-same op (pos (suc n)) (negsuc m) a b h k e = absurd (omega (arith, ints, above_0 m a h, above_0 n b k))
sign_meets-same op (negsuc n) (pos m) a b h k e = absurd (omega (arith, ints, above_0 n b k))
sign_meets-same Zero (negsuc n) (negsuc m) a b h k e = refl
sign_meets-same AtMost (negsuc n) (negsuc m) a b h k e = refl
sign_meets-same Below (negsuc n) (negsuc m) a b h k e = refl

-- ---- sums and rows

-- a term more of a sum, multiplied
pub step_law : (a x y n d : ℤ) → (a *ℤ x +ℤ y) *ℤ d ≡ a *ℤ (x *ℤ d) +ℤ y *ℤ d
step_law a x y n d = rw (parts a, parts x, parts y, parts d) (simp ring (diff_same _ _ _ _ (omega arith)))

-- `or` holds where the first part does
pub or_left : (a b : Bool) → a ≡ true → (a || b) ≡ true
or_left a b e = rw e

-- and where the second does
pub or_right : (a b : Bool) → b ≡ true → (a || b) ≡ true
or_right true b e = refl
or_right false b e = e

-- the sums of two points, each over the denominator of the other
pub sum_at-same : (cs : List (Slot × ℤ)) (p q : Point) → ((s : Slot) → list_any (λ c. same_slot c.0 s) cs ≡ true → IsSameAt p q (slot s))
    → sum_at cs p *ℤ pos q.den ≡ sum_at cs q *ℤ pos p.den
sum_at-same [] p q h = zero-*ℤ (pos q.den) ∙ sym (zero-*ℤ (pos p.den))
sum_at-same (c ∷ cs) p q h =
    let here = h c.0 (or_left _ _ (same_key_refl (slot c.0))) in
    let rest = sum_at-same cs p q (λ s e. h s (or_right (same_slot c.0 s) _ e)) in
    step_law c.1 (number_at p (slot c.0)) (sum_at cs p) (pos 0) (pos q.den)
    ∙ rw (here.number, rest) (sym (step_law c.1 (number_at q (slot c.0)) (sum_at cs q) (pos 0) (pos p.den)))

-- a sum with its constant, multiplied
pub row_law : (s c : ℤ) (a b : ℕ) → (s +ℤ c *ℤ pos a) *ℤ pos b ≡ s *ℤ pos b +ℤ c *ℤ pos (a * b)
row_law s c a b = rw (parts s, parts c, diff-pos a, diff-pos b, diff-pos (a * b)) (simp ring (diff_same _ _ _ _ (omega arith)))

-- a row holds alike
pub row_holds-same : (r : LinearConstraint) (p q : Point) → 0 < p.den → 0 < q.den → ((s : Slot) → row_mentions r s ≡ true → IsSameAt p q (slot s)) → row_holds r p ≡ row_holds r q
unfolding row_holds row_mentions
row_holds-same r p q h k same =
    let swapped : p.den * q.den ≡ q.den * p.den = omega arith in
    sign_meets-same r.op (row_at r p) (row_at r q) p.den q.den h k
    (row_law (sum_at r.coefs p) r.constant p.den q.den
    ∙ rw (sum_at-same r.coefs p q same, swapped) (sym (row_law (sum_at r.coefs q) r.constant q.den p.den)))

-- ---- text atoms, atoms, tuples, lists

-- a text atom holds alike
pub theme_holds-same : (a : ThemeAtom) (p q : Point) → ((s : Slot) → theme_mentions a s ≡ true → IsSameAt p q (slot s)) → theme_holds a p ≡ theme_holds a q
unfolding theme_holds theme_mentions
theme_holds-same (EqText s t) p q h = rw ((h s (same_key_refl (slot s))).text)
theme_holds-same (NeText s t) p q h = rw ((h s (same_key_refl (slot s))).text)
theme_holds-same (EqSlot s t) p q h = rw ((h s (or_left _ _ (same_key_refl (slot s)))).text, (h t (or_right (same_slot s t) _ (same_key_refl (slot t)))).text)
theme_holds-same (NeSlot s t) p q h = rw ((h s (or_left _ _ (same_key_refl (slot s)))).text, (h t (or_right (same_slot s t) _ (same_key_refl (slot t)))).text)

-- an atom holds alike
pub atom_holds-same : (a : Atom) (p q : Point) → 0 < p.den → 0 < q.den → ((s : Slot) → atom_mentions a s ≡ true → IsSameAt p q (slot s)) → atom_holds a p ≡ atom_holds a q
unfolding atom_holds atom_mentions
atom_holds-same (First r) p q i j h = row_holds-same r p q i j h
atom_holds-same (Second a) p q i j h = theme_holds-same a p q h

-- a tuple holds alike
pub tuple_holds-same : (t : List Atom) (p q : Point) → 0 < p.den → 0 < q.den → ((s : Slot) → tuple_mentions t s ≡ true → IsSameAt p q (slot s)) → tuple_holds t p ≡ tuple_holds t q
unfolding tuple_holds tuple_mentions
tuple_holds-same [] p q i j h = refl
tuple_holds-same (a ∷ t) p q i j h =
    rw (atom_holds-same a p q i j (λ s e. h s (or_left _ _ e)), tuple_holds-same t p q i j (λ s e. h s (or_right (atom_mentions a s) _ e)))

-- a list of tuples holds alike
pub tuples_hold-same : (ts : List (List Atom)) (p q : Point) → 0 < p.den → 0 < q.den → ((s : Slot) → tuples_mention ts s ≡ true → IsSameAt p q (slot s)) → tuples_hold ts p ≡ tuples_hold ts q
unfolding tuples_hold tuples_mention
tuples_hold-same [] p q i j h = refl
tuples_hold-same (t ∷ ts) p q i j h =
    rw (tuple_holds-same t p q i j (λ s e. h s (or_left _ _ e)), tuples_hold-same ts p q i j (λ s e. h s (or_right (tuple_mentions t s) _ e)))
