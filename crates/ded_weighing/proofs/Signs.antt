-- How a sum of multiples of rows stands to 0, told by the signs of its numbers.
--
-- A sum in which a row by `<` has a positive number is below 0, one in which a row by `<=` has one is at most 0, and one of
-- equalities alone is 0 (`sum_op`). A term is such a sum of one row (`term_meets`), and a sum of two such sums is one again
-- (`join_is`).
use Rattle.std.proofs.Common.{◌≡◌, Bool, true, false, ◌&&◌, ◌||◌, List, [], ◌∷◌, arith, refl, sym, ◌∙◌, true≢false}
use Rattle.std.specs.Prelude.{ℤ, pos, ◌*ℤ◌, int_lt, int_le, not}
use Rattle.std.specs.Ordering.{int_eq}
use Rattle.std.proofs.lemmas.Int.{ints}
use Rattle.std.proofs.lemmas.Bool.Decides.{Decides-int_eq}
use Rattle.ded_num.proofs.Signs.{is_positive, zero_times}
use Rattle.ded_model.specs.declared.row.RowOp.{RowOp}
use Rattle.ded_model.specs.declared.row.RowOp.TheVariants.{Zero, AtMost, Below}
use Rattle.ded_model.specs.Constraint.{LinearConstraint}
use Rattle.ded_model.proofs.Core.{Meets, join, meets_scale, zero_scale}
use Rattle.ded_model.proofs.Monotone.{or-grows}
use Rattle.ded_weighing.specs.Weighing.{fits, is_strict_at, is_weak_at, is_strict, is_weak, constant_refutes}

-- how a sum stands to 0 where some row by `<` has a positive number, and where some row by `<` or `<=` has one
abbrev pub sum_op : Bool → Bool → RowOp
sum_op true weak = Below
sum_op false true = AtMost
sum_op false false = Zero

-- a sum of two sums
pub join_is : (s w s' w' : Bool) → join (sum_op s w) (sum_op s' w') ≡ sum_op (s || s') (w || w')
join_is true w s' w' = refl
join_is false true true w' = refl
join_is false true false true = refl
join_is false true false false = refl
join_is false false s' w' = refl

-- ---- one term

-- a number that isn't negative and isn't positive is 0
is_zero : (m : ℤ) → int_le (pos 0) m ≡ true → int_lt (pos 0) m ≡ false → m ≡ pos 0
is_zero m e f = grind (arith, ints)

-- a multiple of what is at most 0
at_most_term : (m x : ℤ) (b : Bool) → int_lt (pos 0) m ≡ b → int_le (pos 0) m ≡ true → Meets AtMost x → Meets (sum_op false b) (m *ℤ x)
at_most_term m x true e f h = meets_scale AtMost m x (is_positive m e) h
at_most_term m x false e f h = zero_times m x (is_zero m f e)

-- a multiple of what is below 0
below_term : (m x : ℤ) (b : Bool) → int_lt (pos 0) m ≡ b → int_le (pos 0) m ≡ true → Meets Below x → Meets (sum_op b b) (m *ℤ x)
below_term m x true e f h = meets_scale Below m x (is_positive m e) h
below_term m x false e f h = zero_times m x (is_zero m f e)

-- a multiple of what meets an op, by a number that fits it
pub term_meets : (op : RowOp) (m x : ℤ) → fits op m ≡ true → Meets op x → Meets (sum_op (is_strict_at op m) (is_weak_at op m)) (m *ℤ x)
term_meets Zero m x f h = zero_scale m x h
term_meets AtMost m x f h = at_most_term m x (int_lt (pos 0) m) refl f h
term_meets Below m x f h = below_term m x (int_lt (pos 0) m) refl f h

-- ---- a positive number at a row by `<` is one at a row by `<` or `<=`

-- of one row
strict_is_weak_at : (op : RowOp) (m : ℤ) → is_strict_at op m ≡ true → is_weak_at op m ≡ true
strict_is_weak_at Zero m e = e
strict_is_weak_at AtMost m e = absurd (true≢false (sym e))
strict_is_weak_at Below m e = e

-- the same of a whole sum
pub strict_is_weak : (ms : List ℤ) (rs : List LinearConstraint) → is_strict ms rs ≡ true → is_weak ms rs ≡ true
strict_is_weak [] rs e = e
strict_is_weak (m ∷ ms) [] e = e
strict_is_weak (m ∷ ms) (r ∷ rs) e =
    or-grows (is_strict_at r.op m) (is_strict ms rs) (is_weak_at r.op m) (is_weak ms rs) (strict_is_weak_at r.op m) (strict_is_weak ms rs) e

-- ---- what a constant shows

-- a constant above 0 doesn't stand to 0 as any sum does
not_above : (s w : Bool) (c : ℤ) → int_lt (pos 0) c ≡ true → Meets (sum_op s w) c → ⊥
not_above true w c e h = let l = is_positive c e in omega (arith, ints)
not_above false true c e h = let l = is_positive c e in omega (arith, ints)
not_above false false c e h = let l = is_positive c e in omega (arith, ints)

-- what the test says of a constant that isn't above 0, by whether it is 0
other_refuted : (s w : Bool) (c : ℤ) (z : Bool) → int_eq c (pos 0) ≡ z → (s ≡ true → w ≡ true) → ((z && s) || (not z && not w)) ≡ true → Meets (sum_op s w) c → ⊥
other_refuted true w c true e g f h = let n = (Decides-int_eq c (pos 0)).0 e in omega (arith, ints)
other_refuted false w c true e g f h = true≢false (sym f)
other_refuted s true c false e g f h = true≢false (sym f)
other_refuted true false c false e g f h = true≢false (sym (g refl))
other_refuted false false c false e g f h = true≢false (sym ((Decides-int_eq c (pos 0)).1 h) ∙ e)

-- a constant that passes the test doesn't stand to 0 as the sum does
pub refuted : (s w : Bool) (c : ℤ) → (s ≡ true → w ≡ true) → constant_refutes s w c ≡ true → Meets (sum_op s w) c → ⊥
refuted s w c g f h = by (int_lt (pos 0) c) refl f
  where
    by : (b : Bool) → int_lt (pos 0) c ≡ b → (b || ((int_eq c (pos 0) && s) || (not (int_eq c (pos 0)) && not w))) ≡ true → ⊥
    by true e k = not_above s w c e h
    by false e k = other_refuted s w c (int_eq c (pos 0)) refl g k h
