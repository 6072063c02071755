-- Normal rows: what the code makes, that they are normal, their lines and their slots.
use Rattle.std.proofs.Common.{◌≡◌, ◌≢◌, ℕ, zero, suc, Bool, true, false, ◌==◌, List, [], ◌∷◌, map, length, arith, refl, sym, ap, ap₂, ◌∙◌, true≢false}
use Rattle.std.specs.Prelude.{ℤ, pos, ◌*ℤ◌, int_div, unsigned_abs}
use Rattle.std.proofs.lemmas.Int.{ints}
use Rattle.std.proofs.lemmas.Bool.Decides.{nat_tests}
use Rattle.ded_num.specs.Gcd.{gcd_all}
use Rattle.ded_model.specs.declared.slot.Slot.{Slot}
use Rattle.ded_model.specs.declared.row.RowOp.{RowOp}
use Rattle.ded_model.specs.declared.row.RowOp.TheVariants.{Zero, AtMost, Below}
use Rattle.ded_model.specs.Constraint.{LinearConstraint}
use Rattle.ded_model.specs.Row.{sign_meets, row_mentions}
use Rattle.ded_model.specs.Coefs.{AreCoefs}
use Rattle.ded_model.specs.Normal.{DivideWhole, IsNormalRow, coefs_over, row_over, constant_row, divisor_for, divisor_of, normal_with, normal_row}
use Rattle.ded_model.specs.Lines.{Line, line_with, row_lines}
use Rattle.ded_model.proofs.CoefDivision.{factor_nonzero}
use Rattle.ded_model.proofs.Divisors.{divisor-whole, divisor-whole_constant, divisor-nonzero_first}
use Rattle.ded_model.proofs.LineSlots.{has_slot, over_slots}
use Rattle.ded_row.specs.Multiples.{coefs_times, row_times}
use Rattle.ded_row.proofs.Scaling.{BeginsNonzero, IsFactor, IsSignFor, normal_row-times}

-- ---- a normal row is normal

-- the first coefficient of a list of them is not 0
pub begins : (cs : List (Slot × ℤ)) → AreCoefs cs → BeginsNonzero cs
begins [] h = tt
begins (c ∷ cs) h = h.2

-- the divisor of a row suits it as a factor
divisor_sign : (op : RowOp) (first : ℤ) (g : ℕ) → divisor_for op first g ≢ pos 0 → IsSignFor op (divisor_for op first g)
divisor_sign Zero first g h = tt
divisor_sign AtMost first zero h = absurd (h refl)
divisor_sign AtMost first (suc g) h = omega (arith, ints)
divisor_sign Below first zero h = absurd (h refl)
divisor_sign Below first (suc g) h = omega (arith, ints)

-- divided coefficients times the divisor are the coefficients
pub coefs_back : (d : ℤ) (cs : List (Slot × ℤ)) → DivideWhole d cs → coefs_times d (coefs_over d cs) ≡ cs
coefs_back d [] w = refl
coefs_back d (c ∷ cs) w = ap₂ (λ z zs. (c.0, z) ∷ zs) w.0 (coefs_back d cs w.1)

-- a row divided by its divisor has the row's normal form, under another op too
over_normal : (op : RowOp) (m d : ℤ) (c : Slot × ℤ) (cs : List (Slot × ℤ)) → c.1 ≢ pos 0 → DivideWhole d (c ∷ cs) → d *ℤ int_div m d ≡ m → IsFactor op d
    → normal_row (record { coefs = coefs_over d (c ∷ cs); constant = int_div m d; op = op }) ≡ normal_row (record { coefs = c ∷ cs; constant = m; op = op })
over_normal op m d c cs n w e f =
    sym (normal_row-times d (record { coefs = coefs_over d (c ∷ cs); constant = int_div m d; op = op }) f (factor_nonzero d (int_div c.1 d) c.1 w.0 n))
    ∙ ap₂ (λ (xs : List (Slot × ℤ)) (z : ℤ). normal_row (record { coefs = xs; constant = z; op = op })) (coefs_back d (c ∷ cs) w) e

-- the true and the false row are normal
pub constant_row-normal : (b : Bool) → normal_row (constant_row b) ≡ constant_row b
unfolding normal_row
constant_row-normal true = refl
constant_row-normal false = refl

-- so is each normal row, by its coefficients
normal_again : (op : RowOp) (m : ℤ) (cs : List (Slot × ℤ)) → BeginsNonzero cs
    → normal_row (normal_with (record { coefs = cs; constant = m; op = op }) cs) ≡ normal_with (record { coefs = cs; constant = m; op = op }) cs
unfolding normal_row
normal_again op m [] h = constant_row-normal (sign_meets op m)
normal_again op m (c ∷ cs) h =
    let n = divisor-nonzero_first op m c cs h in
    over_normal op m (divisor_of op m (c ∷ cs)) c cs h (divisor-whole op m (c ∷ cs)) (divisor-whole_constant op m c cs)
    (record { nonzero = n; sign = divisor_sign op c.1 (gcd_all (m ∷ map (λ d. d.1) (c ∷ cs))) n })

-- the normal row is in normal form
pub normal_row-normal : (r : LinearConstraint) → BeginsNonzero r.coefs → IsNormalRow (normal_row r)
unfolding normal_row
normal_row-normal r h = record { normal = normal_again r.op r.constant r.coefs h }

-- ---- what the code makes

-- a row with coefficients, divided
pub divided_row : (r : LinearConstraint) (cs : List (Slot × ℤ)) (k q : ℤ) → (length r.coefs == 0) ≡ false → k ≡ divisor_of r.op r.constant r.coefs → cs ≡ coefs_over k r.coefs → q ≡ int_div r.constant k
    → ◌≡◌ {A = LinearConstraint} (record { coefs = cs; constant = q; op = r.op }) (normal_row r)
unfolding normal_row
divided_row r cs k q e i j l =
    let same : ◌≡◌ {A = LinearConstraint} (record { coefs = cs; constant = q; op = r.op }) (row_over k r) = λ t. record { coefs = j t; constant = l t; op = r.op } in
    same ∙ ap (λ k. row_over k r) i ∙ divided r.coefs e
  where
    divided : (cs : List (Slot × ℤ)) → (length cs == 0) ≡ false → row_over (divisor_of r.op r.constant cs) r ≡ normal_with r cs
    divided [] e = absurd (true≢false e)
    divided (c ∷ cs) e = refl

-- a row without coefficients
pub truth_row_is : (r : LinearConstraint) (b : Bool) → (length r.coefs == 0) ≡ true → b ≡ sign_meets r.op r.constant → constant_row b ≡ normal_row r
unfolding normal_row
truth_row_is r b e f = go r.coefs e
  where
    more : (n : ℕ) → (suc n == 0) ≡ true → ⊥
    more n e = grind (arith, nat_tests)

    go : (cs : List (Slot × ℤ)) → (length cs == 0) ≡ true → constant_row b ≡ normal_with r cs
    go [] e = ap constant_row f
    go (c ∷ cs) e = absurd (more (length cs) e)

-- and that there are none
pub none_there : (cs : List (Slot × ℤ)) → (length cs == 0) ≡ true → cs ≡ []
none_there [] e = refl
none_there (c ∷ cs) e = absurd (more (length cs) e)
  where
    more : (n : ℕ) → (suc n == 0) ≡ true → ⊥
    more n e = grind (arith, nat_tests)

-- ---- lines

-- a multiple of a row has its lines
pub row_lines-times : (k : ℤ) (r : LinearConstraint) → k ≢ pos 0 → BeginsNonzero r.coefs → row_lines (row_times k r) ≡ row_lines r
row_lines-times k r n h = go r.coefs h
  where
    go : (cs : List (Slot × ℤ)) → BeginsNonzero cs → line_with (coefs_times k cs) (k *ℤ r.constant) ≡ line_with cs r.constant
    go [] h = refl
    go (c ∷ cs) h = ap (λ (l : Line). l ∷ []) (normal_row-times k (record { coefs = c ∷ cs; constant = r.constant; op = Zero }) (record { nonzero = n; sign = tt }) h)

-- so has its normal row
lines_with : (op : RowOp) (m : ℤ) (cs : List (Slot × ℤ)) → BeginsNonzero cs → row_lines (normal_with (record { coefs = cs; constant = m; op = op }) cs) ≡ line_with cs m
lines_with op m [] h = refl
lines_with op m (c ∷ cs) h =
    let n = divisor-nonzero_first op m c cs h in
    ap (λ (l : Line). l ∷ []) (over_normal Zero m (divisor_of op m (c ∷ cs)) c cs h (divisor-whole op m (c ∷ cs)) (divisor-whole_constant op m c cs) (record { nonzero = n; sign = tt }))

pub row_lines-normal : (r : LinearConstraint) → BeginsNonzero r.coefs → row_lines (normal_row r) ≡ row_lines r
unfolding normal_row
row_lines-normal r h = lines_with r.op r.constant r.coefs h

-- ---- slots

-- the normal row mentions the slots of the row
mentions_with : (r : LinearConstraint) (cs : List (Slot × ℤ)) (s : Slot) → r.coefs ≡ cs → has_slot (normal_with r cs).coefs s ≡ has_slot cs s
mentions_with r [] s e = refl
mentions_with r (c ∷ cs) s e = over_slots (divisor_of r.op r.constant (c ∷ cs)) r.coefs s ∙ ap (λ xs. has_slot xs s) e

pub row_mentions-normal : (r : LinearConstraint) (s : Slot) → row_mentions (normal_row r) s ≡ row_mentions r s
unfolding normal_row row_mentions
row_mentions-normal r s = mentions_with r r.coefs s refl

-- what the code divides by is not 0
pub divisor-nonzero : (op : RowOp) (m : ℤ) (cs : List (Slot × ℤ)) → AreCoefs cs → divisor_of op m cs ≢ pos 0
divisor-nonzero op m [] h e = absurd (omega (arith, ap unsigned_abs e))
divisor-nonzero op m (c ∷ cs) h e = divisor-nonzero_first op m c cs h.2 e
