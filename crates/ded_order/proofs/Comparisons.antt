-- The order of the bounds that two rows of one slot give it is the sign of their combination.
use Rattle.std.proofs.Common.{◌≡◌, ◌≢◌, ℕ, zero, suc, Bool, true, false, not, cond, [], arith, refl, sym, ap, ap₂, ◌∙◌}
use Rattle.std.specs.Prelude.{ℤ, pos, negsuc, ◌+ℤ◌, ◌-ℤ◌, ◌*ℤ◌, ◌<ℤ◌, int_lt, unsigned_abs}
use lib.IntN.{neg_ℤ}
use Rattle.std.specs.declared.cmp.Ordering.{Ordering}
use Rattle.std.specs.declared.cmp.Ordering.TheVariants.{Less, Equal, Greater}
use Rattle.std.specs.Ordering.{int_cmp}
use Rattle.std.specs.Ordering.{MatchOrdering}
use Rattle.std.specs.Cmp.{int_ranks}
use Rattle.std.proofs.lemmas.Int.{ints}
use Rattle.std.proofs.lemmas.Bool.Decides.{nat_tests}
use Rattle.ded_num.proofs.Ring.{parts, ring, diff_same}
use Rattle.ded_model.specs.declared.row.RowOp.{RowOp}
use Rattle.ded_model.specs.declared.slot.Slot.{Slot}
use Rattle.ded_model.specs.Constraint.{LinearConstraint}
use Rattle.ded_model.specs.Coefs.{coef_at}
use Rattle.ded_model.specs.Row.{sign_meets}
use Rattle.ded_model.specs.Cell.{sign}
use Rattle.ded_model.specs.Normal.{normal_row, constant_row}
use Rattle.ded_row.specs.Mixing.{factor, join_op, mixed_coefs, mix_of}
use Rattle.ded_linear.specs.Laws.{by_sign}
use Rattle.ded_model.specs.Lines.{row_lines}
use Rattle.ded_order.specs.OrderRows.{is_order_row}
use Rattle.ded_order.specs.Comparing.{turned_with, sign_of, compared_row}

-- ---- the difference of the cross products

-- a number turned by its own sign is its magnitude
size : (a : ℤ) → turned_with a a ≡ pos (unsigned_abs a)
size (pos n) = by (int_lt (pos n) (pos 0)) (not_below n)
  where
    not_below : (n : ℕ) → int_lt (pos n) (pos 0) ≡ false
    not_below n = grind (arith, nat_tests)

    by : (b : Bool) → b ≡ false → cond b (neg_ℤ (pos n)) (pos n) ≡ pos n
    by b e = ap (λ t. cond t (neg_ℤ (pos n)) (pos n)) e
size (negsuc n) = ap (λ t. cond t (pos (suc n)) (negsuc n)) (below n)
  where
    below : (n : ℕ) → int_lt (negsuc n) (pos 0) ≡ true
    below n = grind (arith, ints)

-- a number that isn't 0 is above 0 or below
above_not : (a : ℤ) → a ≢ pos 0 → int_lt (pos 0) a ≡ not (int_lt a (pos 0))
above_not (pos zero) n = absurd (n refl)
above_not (pos (suc m)) n = grind (arith, ints)
above_not (negsuc m) n = grind (arith, ints)

-- the negative is above 0 where it is below
above_turned : (b : ℤ) → int_lt (pos 0) (neg_ℤ b) ≡ int_lt b (pos 0)
above_turned (pos zero) = grind (arith, ints)
above_turned (pos (suc m)) = grind (arith, ints)
above_turned (negsuc m) = grind (arith, ints)

both_turned : (a b c d : ℤ) → neg_ℤ b *ℤ c +ℤ a *ℤ d ≡ neg_ℤ c *ℤ b -ℤ neg_ℤ d *ℤ a
both_turned a b c d = rw (parts a, parts b, parts c, parts d) (simp ring (diff_same _ _ _ _ (omega arith)))

first_turned : (a b c d : ℤ) → neg_ℤ b *ℤ c +ℤ neg_ℤ a *ℤ d ≡ neg_ℤ c *ℤ b -ℤ d *ℤ a
first_turned a b c d = rw (parts a, parts b, parts c, parts d) (simp ring (diff_same _ _ _ _ (omega arith)))

second_turned : (a b c d : ℤ) → b *ℤ c +ℤ a *ℤ d ≡ c *ℤ b -ℤ neg_ℤ d *ℤ a
second_turned a b c d = rw (parts a, parts b, parts c, parts d) (simp ring (diff_same _ _ _ _ (omega arith)))

neither_turned : (a b c d : ℤ) → b *ℤ c +ℤ neg_ℤ a *ℤ d ≡ c *ℤ b -ℤ d *ℤ a
neither_turned a b c d = rw (parts a, parts b, parts c, parts d) (simp ring (diff_same _ _ _ _ (omega arith)))

-- by the signs of both coefficients, with their magnitudes
by_tests : (v w : Bool) (a b c d : ℤ) → cond (not v) b (neg_ℤ b) *ℤ c +ℤ cond w a (neg_ℤ a) *ℤ d ≡ cond v (neg_ℤ c) c *ℤ b -ℤ cond w (neg_ℤ d) d *ℤ a
by_tests true true a b c d = both_turned a b c d
by_tests true false a b c d = first_turned a b c d
by_tests false true a b c d = second_turned a b c d
by_tests false false a b c d = neither_turned a b c d

-- the combination of the constants is the difference of the cross products
pub difference_is : (a b c d : ℤ) → a ≢ pos 0 → factor a b *ℤ c +ℤ factor (neg_ℤ b) a *ℤ d ≡ turned_with a c *ℤ turned_with b b -ℤ turned_with b d *ℤ turned_with a a
difference_is a b c d n =
    ap₂ (λ t u. cond t (pos (unsigned_abs b)) (neg_ℤ (pos (unsigned_abs b))) *ℤ c +ℤ cond u (pos (unsigned_abs a)) (neg_ℤ (pos (unsigned_abs a))) *ℤ d) (above_not a n) (above_turned b)
    ∙ by_tests (int_lt a (pos 0)) (int_lt b (pos 0)) (pos (unsigned_abs a)) (pos (unsigned_abs b)) c d
    ∙ ap₂ (λ x y. turned_with a c *ℤ x -ℤ turned_with b d *ℤ y) (sym (size b)) (sym (size a))

-- ---- the sign of a difference

sign_below : (x y : ℤ) → x <ℤ y → sign (x -ℤ y) ≡ negsuc 0
sign_below x y h = ap (λ t. cond t (negsuc 0) (cond (int_lt (pos 0) (x -ℤ y)) (pos 1) (pos 0))) test
  where
    test : int_lt (x -ℤ y) (pos 0) ≡ true
    test = grind (arith, ints)

sign_above : (x y : ℤ) → y <ℤ x → sign (x -ℤ y) ≡ pos 1
sign_above x y h = ap₂ (λ t u. cond t (negsuc 0) (cond u (pos 1) (pos 0))) test passes
  where
    test : int_lt (x -ℤ y) (pos 0) ≡ false
    test = grind (arith, ints)

    passes : int_lt (pos 0) (x -ℤ y) ≡ true
    passes = grind (arith, ints)

sign_same : (x y : ℤ) → x ≡ y → sign (x -ℤ y) ≡ pos 0
sign_same x y h = let e : x -ℤ y ≡ pos 0 = omega (arith, ints) in ap sign e

sign_by : (x y : ℤ) (o : Ordering) → MatchOrdering o (x <ℤ y) (x ≡ y) (y <ℤ x) → sign (sign_of o) ≡ sign (x -ℤ y)
sign_by x y Less h = sym (sign_below x y h)
sign_by x y Equal h = sym (sign_same x y h)
sign_by x y Greater h = sym (sign_above x y h)

pub meets_difference : (op : RowOp) (x y : ℤ) → sign_meets op (sign_of (int_cmp x y)) ≡ sign_meets op (x -ℤ y)
meets_difference op x y = by_sign op (sign_of (int_cmp x y)) (x -ℤ y) (sign_by x y (int_cmp x y) (int_ranks x y))

-- ---- the row

-- two rows that have the slot alone
pub compared_is : (s : Slot) (q r : LinearConstraint) → coef_at q.coefs s ≢ pos 0
    → mixed_coefs s (factor (coef_at q.coefs s) (coef_at r.coefs s)) q.coefs (factor (neg_ℤ (coef_at r.coefs s)) (coef_at q.coefs s)) r.coefs ≡ []
    → compared_row s q r ≡ mix_of s q r
unfolding normal_row
compared_is s q r n e =
    let a = coef_at q.coefs s in
    let b = coef_at r.coefs s in
    let op = join_op q.op r.op in
    let z = factor a b *ℤ q.constant +ℤ factor (neg_ℤ b) a *ℤ r.constant in
    ap constant_row
    (meets_difference op (turned_with a q.constant *ℤ turned_with b b) (turned_with b r.constant *ℤ turned_with a a) ∙ ap (sign_meets op) (sym (difference_is a b q.constant r.constant n)))
    ∙ ap (λ cs. normal_row (record { coefs = cs; constant = z; op = op })) (sym e)

-- it is an order row and has no line
pub alone_order : (s : Slot) (q r : LinearConstraint) → is_order_row (compared_row s q r) ≡ true
unfolding normal_row
alone_order s q r = refl

pub alone_lines : (s : Slot) (q r : LinearConstraint) → row_lines (compared_row s q r) ≡ []
unfolding normal_row
alone_lines s q r = refl
