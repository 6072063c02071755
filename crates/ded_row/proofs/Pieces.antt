-- The pieces of a negated row.
use Rattle.std.proofs.Common.{◌≡◌, ◌≢◌, zero, suc, ◌*◌, ◌<◌, false, not, ◌&&◌, ◌||◌, List, [], ◌∷◌, map, arith, refl, sym, ap, ap₂, ◌∙◌}
use Rattle.std.specs.Prelude.{ℤ, pos, negsuc, ◌+ℤ◌, ◌*ℤ◌, int_lt, int_le, int_div, unsigned_abs}
use lib.IntN.{neg_ℤ}
use Rattle.std.specs.Ordering.{int_eq}
use Rattle.std.proofs.lemmas.Int.{ints}
use Rattle.std.proofs.lemmas.Bool.Decides.{nat_tests}
use Rattle.ded_num.specs.Gcd.{gcd_all}
use Rattle.ded_num.proofs.Ring.{parts, ring, diff_same}
use Rattle.ded_model.specs.declared.slot.Slot.{Slot}
use Rattle.ded_model.specs.declared.row.RowOp.{RowOp}
use Rattle.ded_model.specs.declared.row.RowOp.TheVariants.{Zero, AtMost, Below}
use Rattle.ded_model.specs.Constraint.{LinearConstraint}
use Rattle.ded_model.specs.Point.{Point, slot, number_at, same_slot}
use Rattle.ded_model.specs.Row.{sum_at, row_at, sign_meets, row_holds, row_mentions}
use Rattle.ded_model.specs.Normal.{DivideWhole, IsNormalRow, coefs_over, row_over, divisor_for, normal_row}
use Rattle.ded_model.specs.Lines.{line_with, row_lines}
use Rattle.ded_model.proofs.Divisors.{abs_divisor, divisor-whole}
use Rattle.ded_model.proofs.LineSlots.{has_slot}
use Rattle.ded_row.specs.Multiples.{coefs_times, row_times, with_op, turned}
use Rattle.ded_model.specs.Negation.{EachPiece, some_piece_holds, both_pieces_hold}
use Rattle.ded_row.specs.Negation.{negated_by, negated_with, negated_row}
use Rattle.ded_model.proofs.Normals.{constant_row-holds, no_coefs}
use Rattle.ded_row.proofs.Scaling.{BeginsNonzero, cancel_factor, exact_quotient, gcd_all-times}
use Rattle.ded_row.proofs.Forms.{constant_row-normal, row_lines-times}

-- ---- turned rows

-- a negative as a product
pub neg_is : (z : ℤ) → neg_ℤ z ≡ negsuc 0 *ℤ z
neg_is (pos zero) = refl
neg_is (pos (suc n)) = omega (arith, ints)
neg_is (negsuc n) = omega (arith, ints)

-- turned coefficients are multiples
pub turned_coefs : (cs : List (Slot × ℤ)) → map (λ c. (c.0, neg_ℤ c.1)) cs ≡ coefs_times (negsuc 0) cs
turned_coefs [] = refl
turned_coefs (c ∷ cs) = ap₂ (λ z zs. (c.0, z) ∷ zs) (neg_is c.1) (turned_coefs cs)

-- a turned row is a multiple
pub turned_is : (r : LinearConstraint) → turned r ≡ row_times (negsuc 0) r
turned_is r = ap₂ (λ (xs : List (Slot × ℤ)) (z : ℤ). record { coefs = xs; constant = z; op = r.op }) (turned_coefs r.coefs) (neg_is r.constant)

-- the code divides by -1, without rest
over_minus : (z : ℤ) → int_div z (negsuc 0) ≡ neg_ℤ z
over_minus z = ap (λ w. int_div w (negsuc 0)) (law z) ∙ exact_quotient (negsuc 0) (neg_ℤ z) (λ e. absurd (omega (arith, ap unsigned_abs e)))
  where
    law : (z : ℤ) → z ≡ negsuc 0 *ℤ neg_ℤ z
    law z = twice z ∙ neg_is (neg_ℤ z)
      where
        twice : (z : ℤ) → z ≡ neg_ℤ (neg_ℤ z)
        twice z = omega (arith, ints)

pub whole_minus : (cs : List (Slot × ℤ)) → DivideWhole (negsuc 0) cs
whole_minus [] = tt
whole_minus (c ∷ cs) = (ap (λ w. negsuc 0 *ℤ w) (over_minus c.1) ∙ sym (neg_is (neg_ℤ c.1)) ∙ twice c.1, whole_minus cs)
  where
    twice : (z : ℤ) → neg_ℤ (neg_ℤ z) ≡ z
    twice z = omega (arith, ints)

pub coefs_over_minus : (cs : List (Slot × ℤ)) → coefs_over (negsuc 0) cs ≡ map (λ c. (c.0, neg_ℤ c.1)) cs
coefs_over_minus [] = refl
coefs_over_minus (c ∷ cs) = ap₂ (λ z zs. (c.0, z) ∷ zs) (over_minus c.1) (coefs_over_minus cs)

-- ---- the sum of a turned row

-- a term more, turned
step_law : (a x s : ℤ) → neg_ℤ a *ℤ x +ℤ neg_ℤ s ≡ neg_ℤ (a *ℤ x +ℤ s)
step_law a x s = rw (parts a, parts x, parts s) (simp ring (diff_same _ _ _ _ (omega arith)))

row_law : (s m d : ℤ) → neg_ℤ s +ℤ neg_ℤ m *ℤ d ≡ neg_ℤ (s +ℤ m *ℤ d)
row_law s m d = rw (parts s, parts m, parts d) (simp ring (diff_same _ _ _ _ (omega arith)))

sum_at-turned : (cs : List (Slot × ℤ)) (p : Point) → sum_at (map (λ c. (c.0, neg_ℤ c.1)) cs) p ≡ neg_ℤ (sum_at cs p)
sum_at-turned [] p = refl
sum_at-turned (c ∷ cs) p = ap (λ s. neg_ℤ c.1 *ℤ number_at p (slot c.0) +ℤ s) (sum_at-turned cs p) ∙ step_law c.1 (number_at p (slot c.0)) (sum_at cs p)

pub row_at-turned : (r : LinearConstraint) (p : Point) → row_at (turned r) p ≡ neg_ℤ (row_at r p)
row_at-turned r p = ap (λ s. s +ℤ neg_ℤ r.constant *ℤ pos p.den) (sum_at-turned r.coefs p) ∙ row_law (sum_at r.coefs p) r.constant (pos p.den)

-- ---- signs of a number and of its negative

-- a number is at most 0 or its negative is below 0
at_most_sign : (z : ℤ) → int_lt (neg_ℤ z) (pos 0) ≡ not (int_le z (pos 0))
at_most_sign (pos zero) = grind (arith, ints)
at_most_sign (pos (suc n)) = grind (arith, ints)
at_most_sign (negsuc n) = grind (arith, ints)

below_sign : (z : ℤ) → int_le (neg_ℤ z) (pos 0) ≡ not (int_lt z (pos 0))
below_sign (pos zero) = grind (arith, ints)
below_sign (pos (suc n)) = grind (arith, ints)
below_sign (negsuc n) = grind (arith, ints)

-- a number is 0, or it is below 0 or its negative is
zero_sign : (z : ℤ) → (int_lt z (pos 0) || int_lt (neg_ℤ z) (pos 0)) ≡ not (int_eq z (pos 0))
zero_sign (pos zero) = grind (arith, ints, nat_tests)
zero_sign (pos (suc n)) = grind (arith, ints, nat_tests)
zero_sign (negsuc n) = grind (arith, ints, nat_tests)

-- but not both
apart_sign : (z : ℤ) → (int_lt z (pos 0) && int_lt (neg_ℤ z) (pos 0)) ≡ false
apart_sign (pos zero) = grind (arith, ints)
apart_sign (pos (suc n)) = grind (arith, ints)
apart_sign (negsuc n) = grind (arith, ints)

-- ---- where the pieces hold

pieces_by : (op : RowOp) (r : LinearConstraint) (p : Point) → r.op ≡ op → some_piece_holds row_holds (negated_by op r) p ≡ not (row_holds r p)
unfolding row_holds
pieces_by Zero r p e = ap (λ z. int_lt (row_at r p) (pos 0) || int_lt z (pos 0)) (row_at-turned r p) ∙ zero_sign (row_at r p) ∙ ap (λ o. not (sign_meets o (row_at r p))) (sym e)
pieces_by AtMost r p e = ap (λ z. int_lt z (pos 0)) (row_at-turned r p) ∙ at_most_sign (row_at r p) ∙ ap (λ o. not (sign_meets o (row_at r p))) (sym e)
pieces_by Below r p e = ap (λ z. int_le z (pos 0)) (row_at-turned r p) ∙ below_sign (row_at r p) ∙ ap (λ o. not (sign_meets o (row_at r p))) (sym e)

pieces_with : (op : RowOp) (m : ℤ) (cs : List (Slot × ℤ)) (p : Point) → 0 < p.den
    → some_piece_holds row_holds (negated_with cs (record { coefs = cs; constant = m; op = op })) p ≡ not (row_holds (record { coefs = cs; constant = m; op = op }) p)
unfolding row_holds
pieces_with op m [] p h = constant_row-holds (not (sign_meets op m)) p ∙ ap not (no_coefs op m p.den h)
pieces_with op m (c ∷ cs) p h = pieces_by op (record { coefs = c ∷ cs; constant = m; op = op }) p refl

-- the pieces hold together where the row doesn't
pub pieces_hold : (r : LinearConstraint) (p : Point) → 0 < p.den → some_piece_holds row_holds (negated_row r) p ≡ not (row_holds r p)
pieces_hold r p h = pieces_with r.op r.constant r.coefs p h

apart_by : (op : RowOp) (r : LinearConstraint) (p : Point) → both_pieces_hold row_holds (negated_by op r) p ≡ false
unfolding row_holds
apart_by Zero r p = ap (λ z. int_lt (row_at r p) (pos 0) && int_lt z (pos 0)) (row_at-turned r p) ∙ apart_sign (row_at r p)
apart_by AtMost r p = refl
apart_by Below r p = refl

-- no point satisfies two
pub pieces_apart : (r : LinearConstraint) (p : Point) → both_pieces_hold row_holds (negated_row r) p ≡ false
pieces_apart r p = go r.coefs
  where
    go : (cs : List (Slot × ℤ)) → both_pieces_hold row_holds (negated_with cs r) p ≡ false
    go [] = refl
    go (c ∷ cs) = apart_by r.op r p

-- ---- the pieces are normal

-- a number over 1
over_one : (z : ℤ) → int_div z (pos 1) ≡ z
over_one z = ap (λ w. int_div w (pos 1)) (law z) ∙ exact_quotient (pos 1) z (λ e. absurd (omega (arith, ap unsigned_abs e)))
  where
    law : (z : ℤ) → z ≡ pos 1 *ℤ z
    law z = omega (arith, ints)

coefs_over_one : (cs : List (Slot × ℤ)) → coefs_over (pos 1) cs ≡ cs
coefs_over_one [] = refl
coefs_over_one (c ∷ cs) = ap₂ (λ z zs. (c.0, z) ∷ zs) (over_one c.1) (coefs_over_one cs)

-- the numbers of a normal row with coefficients have no common divisor above 1
pub normal_gcd : (op : RowOp) (m : ℤ) (c : Slot × ℤ) (cs : List (Slot × ℤ)) → c.1 ≢ pos 0 → normal_row (record { coefs = c ∷ cs; constant = m; op = op }) ≡ record { coefs = c ∷ cs; constant = m; op = op }
    → gcd_all (m ∷ map (λ d. d.1) (c ∷ cs)) ≡ 1
unfolding normal_row
normal_gcd op m c cs n e =
    let g = gcd_all (m ∷ map (λ d. d.1) (c ∷ cs)) in
    let d = divisor_for op c.1 g in
    let same : int_div c.1 d ≡ c.1 = ap (λ (r : LinearConstraint). first_of r.coefs) e in
    let times : c.1 *ℤ d ≡ c.1 *ℤ pos 1 = swap c.1 d ∙ ap (λ w. d *ℤ w) (sym same) ∙ (divisor-whole op m (c ∷ cs)).0 ∙ one c.1 in
    let is : d ≡ pos 1 = cancel_factor c.1 d (pos 1) n times in
    sym (abs_divisor op c.1 g) ∙ ap unsigned_abs is
  where
    first_of : List (Slot × ℤ) → ℤ
    first_of [] = pos 0
    first_of (d ∷ ds) = d.1

    swap : (a b : ℤ) → a *ℤ b ≡ b *ℤ a
    swap a b = rw (parts a, parts b) (simp ring (diff_same _ _ _ _ (omega arith)))

    one : (z : ℤ) → z ≡ z *ℤ pos 1
    one z = omega (arith, ints)

-- an inequality of such numbers is normal
data IsInequality : RowOp → Type 0 where
  at_most : IsInequality AtMost
  below : IsInequality Below

inequality_normal : (op : RowOp) (m : ℤ) (c : Slot × ℤ) (cs : List (Slot × ℤ)) → IsInequality op → gcd_all (m ∷ map (λ d. d.1) (c ∷ cs)) ≡ 1 → IsNormalRow (record { coefs = c ∷ cs; constant = m; op = op })
unfolding normal_row
inequality_normal op m c cs i e = record {
  normal = ap (λ k. row_over k (record { coefs = c ∷ cs; constant = m; op = op })) (by i ∙ ap pos e)
      ∙ ap₂ (λ (xs : List (Slot × ℤ)) (z : ℤ). record { coefs = xs; constant = z; op = op }) (coefs_over_one (c ∷ cs)) (over_one m);
}
  where
    by : {op : RowOp} → IsInequality op → divisor_for op c.1 (gcd_all (m ∷ map (λ d. d.1) (c ∷ cs))) ≡ pos (gcd_all (m ∷ map (λ d. d.1) (c ∷ cs)))
    by at_most = refl
    by below = refl

-- so is a turned one
turned_normal : (op : RowOp) (m : ℤ) (c : Slot × ℤ) (cs : List (Slot × ℤ)) (o : RowOp) → IsInequality op → gcd_all (m ∷ map (λ d. d.1) (c ∷ cs)) ≡ 1
    → IsNormalRow (with_op op (turned (record { coefs = c ∷ cs; constant = m; op = o })))
turned_normal op m c cs o i e =
    let r : LinearConstraint = record { coefs = c ∷ cs; constant = m; op = o } in
    let same : gcd_all (neg_ℤ m ∷ map (λ d. d.1) (map (λ d. (d.0, neg_ℤ d.1)) (c ∷ cs))) ≡ gcd_all ((negsuc 0 *ℤ m) ∷ map (λ d. d.1) (coefs_times (negsuc 0) (c ∷ cs))) =
    ap₂ (λ z zs. gcd_all (z ∷ map (λ d. d.1) zs)) (neg_is m) (turned_coefs (c ∷ cs)) in
    let one : gcd_all ((negsuc 0 *ℤ m) ∷ map (λ d. d.1) (coefs_times (negsuc 0) (c ∷ cs))) ≡ 1 = gcd_all-times (negsuc 0) m 0 (c ∷ cs) refl ∙ ap (λ g. 1 * g) e in
    inequality_normal op (neg_ℤ m) (c.0, neg_ℤ c.1) (map (λ d. (d.0, neg_ℤ d.1)) cs) i (same ∙ one)

normal_by : (op o : RowOp) (m : ℤ) (c : Slot × ℤ) (cs : List (Slot × ℤ)) → gcd_all (m ∷ map (λ d. d.1) (c ∷ cs)) ≡ 1 → EachPiece IsNormalRow (negated_by op (record { coefs = c ∷ cs; constant = m; op = o }))
normal_by Zero o m c cs e = (inequality_normal Below m c cs below e, turned_normal Below m c cs o below e)
normal_by AtMost o m c cs e = turned_normal Below m c cs o below e
normal_by Below o m c cs e = turned_normal AtMost m c cs o at_most e

-- the pieces of a normal row are normal
pub pieces_normal : (r : LinearConstraint) → BeginsNonzero r.coefs → IsNormalRow r → EachPiece IsNormalRow (negated_row r)
pieces_normal r h n = go r.op r.constant r.coefs h n.normal
  where
    go : (op : RowOp) (m : ℤ) (cs : List (Slot × ℤ)) → BeginsNonzero cs → normal_row (record { coefs = cs; constant = m; op = op }) ≡ record { coefs = cs; constant = m; op = op }
        → EachPiece IsNormalRow (negated_with cs (record { coefs = cs; constant = m; op = op }))
    go op m [] h e = record { normal = constant_row-normal (not (sign_meets op m)) }
    go op m (c ∷ cs) h e = normal_by op op m c cs (normal_gcd op m c cs h e)

-- ---- slots and lines of the pieces

turned_slots : (cs : List (Slot × ℤ)) (s : Slot) → has_slot (map (λ c. (c.0, neg_ℤ c.1)) cs) s ≡ has_slot cs s
turned_slots [] s = refl
turned_slots (c ∷ cs) s = ap (λ b. same_slot c.0 s || b) (turned_slots cs s)

mentions_by : (op : RowOp) (r : LinearConstraint) (s : Slot) → EachPiece (λ q. row_mentions q s ≡ row_mentions r s) (negated_by op r)
unfolding row_mentions
mentions_by Zero r s = (refl, turned_slots r.coefs s)
mentions_by AtMost r s = turned_slots r.coefs s
mentions_by Below r s = turned_slots r.coefs s

pub pieces_mention : (r : LinearConstraint) (s : Slot) → EachPiece (λ q. row_mentions q s ≡ row_mentions r s) (negated_row r)
unfolding row_mentions
pieces_mention r s = go r.coefs refl
  where
    go : (cs : List (Slot × ℤ)) → r.coefs ≡ cs → EachPiece (λ q. row_mentions q s ≡ row_mentions r s) (negated_with cs r)
    go [] e = ap (λ xs. has_slot xs s) (sym e)
    go (c ∷ cs) e = mentions_by r.op r s

turned_lines : (r : LinearConstraint) → BeginsNonzero r.coefs → row_lines (turned r) ≡ row_lines r
turned_lines r h = ap row_lines (turned_is r) ∙ row_lines-times (negsuc 0) r (λ e. absurd (omega (arith, ap unsigned_abs e))) h

lines_by : (op : RowOp) (r : LinearConstraint) → BeginsNonzero r.coefs → EachPiece (λ q. row_lines q ≡ row_lines r) (negated_by op r)
lines_by Zero r h = (refl, turned_lines r h)
lines_by AtMost r h = turned_lines r h
lines_by Below r h = turned_lines r h

pub pieces_lines : (r : LinearConstraint) → BeginsNonzero r.coefs → EachPiece (λ q. row_lines q ≡ row_lines r) (negated_row r)
pieces_lines r h = go r.coefs refl
  where
    go : (cs : List (Slot × ℤ)) → r.coefs ≡ cs → EachPiece (λ q. row_lines q ≡ row_lines r) (negated_with cs r)
    go [] e = ap (λ xs. line_with xs r.constant) (sym e)
    go (c ∷ cs) e = lines_by r.op r h
