-- The multipliers that the tags tell, and the sum of the rows times them.
use Rattle.std.proofs.Common.{◌≡◌, ℕ, zero, suc, ◌+◌, ◌<◌, ◌==◌, ◌-◌, ◌++◌, Bool, true, false, ◌||◌, List, [], ◌∷◌, length, arith, refl, sym, ap, ◌∙◌}
use Rattle.std.proofs.lemmas.Bool.{and_from}
use Rattle.std.specs.Prelude.{ℤ, pos, ◌+ℤ◌, ◌-ℤ◌, ◌*ℤ◌, ◌<ℤ◌, ◌≤ℤ◌, unsigned_abs, int_lt, int_le}
use lib.IntN.{neg_ℤ}
use Rattle.std.proofs.lemmas.Int.{ints}
use Rattle.std.proofs.lemmas.Bool.Decides.{nat_tests}
use Rattle.ded_num.proofs.Ring.{parts, ring, diff_same}
use Rattle.ded_model.specs.declared.slot.Slot.{Slot}
use Rattle.ded_model.specs.declared.row.RowOp.{RowOp}
use Rattle.ded_model.specs.declared.row.RowOp.TheVariants.{Zero, AtMost, Below}
use Rattle.ded_model.specs.Constraint.{LinearConstraint}
use Rattle.ded_model.specs.Coefs.{coef_at}
use Rattle.ded_model.proofs.LineCoefs.{coef_at-put_all}
use Rattle.ded_weighing.specs.Weighing.{weighed_coefs, weighed_constant, fits, signs_fit, is_strict_at, is_strict}
use Rattle.ded_cert.specs.Certified.{magnitudes}
use Rattle.ded_cert.specs.Tracing.{tag, slack_of, multipliers}
use Rattle.ded_cert.specs.Projecting.{weigh}
use Rattle.ded_cert.proofs.Identities.{weights}

-- 1 of an inequality, 0 of an equality
abbrev pub weak_of : RowOp → ℤ
weak_of Zero = pos 0
weak_of AtMost = pos 1
weak_of Below = pos 1

pub as_many : (e : LinearConstraint) (n k : ℕ) → length (multipliers e n k) ≡ k
as_many e n zero = refl
as_many e n (suc k) = ap suc (as_many e (n + 2) k)

-- the next one, at the end of those before
pub multipliers_next : (e : LinearConstraint) (n k i : ℕ) (xs : List ℤ) (d : ℤ) → i < k → d ≡ coef_at e.coefs (tag n) -ℤ coef_at e.coefs (tag (n + 1))
    → (xs ++ d ∷ []) ++ multipliers e (n + 2) (k - (i + 1)) ≡ xs ++ multipliers e n (k - i)
multipliers_next e n k i xs d h eq =
    let count : k - i ≡ suc (k - (i + 1)) = omega (arith, h) in
    move xs (multipliers e (n + 2) (k - (i + 1))) ∙ ap (λ x. xs ++ x ∷ multipliers e (n + 2) (k - (i + 1))) eq ∙ ap (λ m. xs ++ multipliers e n m) (sym count)
  where
    move : (xs ys : List ℤ) → (xs ++ d ∷ []) ++ ys ≡ xs ++ d ∷ ys
    move [] ys = refl
    move (x ∷ xs) ys = ap (λ zs. x ∷ zs) (move xs ys)

pub same_count : (m n : ℕ) → m ≡ n → (m == n) ≡ true
same_count m n e = grind (arith, nat_tests)

-- ---- sums of a column

part_law : (u v f x : ℤ) → (u -ℤ v) *ℤ f +ℤ x ≡ f *ℤ u +ℤ (neg_ℤ f *ℤ v +ℤ x)
part_law u v f x = rw (parts u, parts v, parts f, parts x) (simp ring (diff_same _ _ _ _ (omega arith)))

module _ (e : LinearConstraint) where
  pub column_is : (s : Slot) (n : ℕ) (rs : List LinearConstraint)
      → coef_at (weighed_coefs (multipliers e n (length rs)) rs) s ≡ weigh (weights (λ r. coef_at r.coefs s) (λ r. neg_ℤ (coef_at r.coefs s)) n rs) e.coefs
  unfolding weights
  column_is s n [] = refl
  column_is s n (r ∷ rs) =
      let m = coef_at e.coefs (tag n) -ℤ coef_at e.coefs (tag (n + 1)) in
      coef_at-put_all m r.coefs (weighed_coefs (multipliers e (n + 2) (length rs)) rs) s
      ∙ ap (λ z. m *ℤ coef_at r.coefs s +ℤ z) (column_is s (n + 2) rs)
      ∙ part_law (coef_at e.coefs (tag n)) (coef_at e.coefs (tag (n + 1))) (coef_at r.coefs s) _

  pub constants_are : (n : ℕ) (rs : List LinearConstraint) → weighed_constant (multipliers e n (length rs)) rs ≡ weigh (weights (λ r. r.constant) (λ r. neg_ℤ r.constant) n rs) e.coefs
  unfolding weights
  constants_are n [] = refl
  constants_are n (r ∷ rs) =
      let m = coef_at e.coefs (tag n) -ℤ coef_at e.coefs (tag (n + 1)) in
      ap (λ z. m *ℤ r.constant +ℤ z) (constants_are (n + 2) rs) ∙ part_law (coef_at e.coefs (tag n)) (coef_at e.coefs (tag (n + 1))) r.constant _

  module _ (b : ℕ) (positive : (m : ℕ) → b + 1 < m → pos 0 ≤ℤ coef_at e.coefs (tag m)) where
    -- ---- signs

    abbrev Turned : ℕ → List LinearConstraint → ℤ
    Turned n rs = weigh (weights (λ r. pos 0) (λ r. weak_of r.op) n rs) e.coefs

    more_by : (op : RowOp) (u v x : ℤ) → pos 0 ≤ℤ v → pos 0 ≤ℤ x → pos 0 ≤ℤ (pos 0 *ℤ u +ℤ (weak_of op *ℤ v +ℤ x))
    more_by Zero u v x h k = omega (arith, ints, h, k)
    more_by AtMost u v x h k = omega (arith, ints, h, k)
    more_by Below u v x h k = omega (arith, ints, h, k)

    turned_positive : (n : ℕ) (rs : List LinearConstraint) → b + 1 < n → pos 0 ≤ℤ Turned n rs
    unfolding weights
    turned_positive n [] h = omega (arith, ints)
    turned_positive n (r ∷ rs) h = more_by r.op (coef_at e.coefs (tag n)) (coef_at e.coefs (tag (n + 1))) (Turned (n + 2) rs) (positive (n + 1) (omega (arith, h))) (turned_positive (n + 2) rs (omega (arith, h)))

    rest_by : (op : RowOp) (u v x : ℤ) → pos 0 ≤ℤ v → pos 0 ≤ℤ x → pos 0 *ℤ u +ℤ (weak_of op *ℤ v +ℤ x) ≡ pos 0 → x ≡ pos 0
    rest_by Zero u v x h k z = omega (arith, ints, h, k, z)
    rest_by AtMost u v x h k z = omega (arith, ints, h, k, z)
    rest_by Below u v x h k z = omega (arith, ints, h, k, z)

    rest_zero : (n : ℕ) (r : LinearConstraint) (rs : List LinearConstraint) → b + 1 < n → Turned n (r ∷ rs) ≡ pos 0 → Turned (n + 2) rs ≡ pos 0
    unfolding weights
    rest_zero n r rs h z = rest_by r.op (coef_at e.coefs (tag n)) (coef_at e.coefs (tag (n + 1))) (Turned (n + 2) rs) (positive (n + 1) (omega (arith, h))) (turned_positive (n + 2) rs (omega (arith, h))) z

    not_less : (u v : ℤ) → pos 0 ≤ℤ u → v ≡ pos 0 → int_le (pos 0) (u -ℤ v) ≡ true
    not_less u v h z = test (u -ℤ v) (omega (arith, ints, h, z))
      where
        test : (x : ℤ) → pos 0 ≤ℤ x → int_le (pos 0) x ≡ true
        test x h = grind (arith, ints)

    here_zero : (u v x : ℤ) → pos 0 ≤ℤ v → pos 0 ≤ℤ x → pos 0 *ℤ u +ℤ (pos 1 *ℤ v +ℤ x) ≡ pos 0 → v ≡ pos 0
    here_zero u v x h k z = omega (arith, ints, h, k, z)

    fits_by : (op : RowOp) (u v x : ℤ) → pos 0 ≤ℤ u → pos 0 ≤ℤ v → pos 0 ≤ℤ x → pos 0 *ℤ u +ℤ (weak_of op *ℤ v +ℤ x) ≡ pos 0 → fits op (u -ℤ v) ≡ true
    fits_by Zero u v x g h k z = refl
    fits_by AtMost u v x g h k z = not_less u v g (here_zero u v x h k z)
    fits_by Below u v x g h k z = not_less u v g (here_zero u v x h k z)

    pub signs_are : (n : ℕ) (rs : List LinearConstraint) → b + 1 < n → Turned n rs ≡ pos 0 → signs_fit (multipliers e n (length rs)) rs ≡ true
    unfolding weights
    signs_are n [] h z = refl
    signs_are n (r ∷ rs) h z =
        let u = coef_at e.coefs (tag n) in
        let v = coef_at e.coefs (tag (n + 1)) in
        and_from (fits r.op (u -ℤ v)) (signs_fit (multipliers e (n + 2) (length rs)) rs)
        (fits_by r.op u v (Turned (n + 2) rs) (positive n h) (positive (n + 1) (omega (arith, h))) (turned_positive (n + 2) rs (omega (arith, h))) z)
        (signs_are (n + 2) rs (omega (arith, h)) (rest_zero n r rs h z))

    -- ---- strict rows

    abbrev Slack : ℕ → List LinearConstraint → ℤ
    Slack n rs = weigh (weights (λ r. slack_of r.op) (λ r. pos 0) n rs) e.coefs

    not_above : (z : ℤ) → int_lt (pos 0) z ≡ false → z ≤ℤ pos 0
    not_above z e = grind (arith, ints)

    left_over : (u v x : ℤ) → (u -ℤ v) ≤ℤ pos 0 → v ≡ pos 0 → pos 0 <ℤ (pos 1 *ℤ u +ℤ (pos 0 *ℤ v +ℤ x)) → pos 0 <ℤ x
    left_over u v x h z l = omega (arith, ints, h, z, l)

    no_part : (u v x : ℤ) → pos 0 <ℤ (pos 0 *ℤ u +ℤ (pos 0 *ℤ v +ℤ x)) → pos 0 <ℤ x
    no_part u v x l = omega (arith, ints, l)

    strict_by : (op : RowOp) (u v x y : ℤ) (rest : Bool) → pos 0 ≤ℤ v → pos 0 ≤ℤ y → pos 0 *ℤ u +ℤ (weak_of op *ℤ v +ℤ y) ≡ pos 0
        → pos 0 <ℤ (slack_of op *ℤ u +ℤ (pos 0 *ℤ v +ℤ x)) → (pos 0 <ℤ x → rest ≡ true) → (is_strict_at op (u -ℤ v) || rest) ≡ true
    strict_by Zero u v x y rest h k z l f = f (no_part u v x l)
    strict_by AtMost u v x y rest h k z l f = f (no_part u v x l)
    strict_by Below u v x y rest h k z l f = go (int_lt (pos 0) (u -ℤ v)) refl
      where
        go : (t : Bool) → int_lt (pos 0) (u -ℤ v) ≡ t → (t || rest) ≡ true
        go true e = refl
        go false e = f (left_over u v x (not_above (u -ℤ v) e) (here_zero u v y h k z) l)

    pub strict_is : (n : ℕ) (rs : List LinearConstraint) → b + 1 < n → Turned n rs ≡ pos 0 → pos 0 <ℤ Slack n rs → is_strict (multipliers e n (length rs)) rs ≡ true
    unfolding weights
    strict_is n [] h z l = absurd (omega (arith, ints, l))
    strict_is n (r ∷ rs) h z l =
        strict_by r.op (coef_at e.coefs (tag n)) (coef_at e.coefs (tag (n + 1))) (Slack (n + 2) rs) (Turned (n + 2) rs) (is_strict (multipliers e (n + 2) (length rs)) rs)
        (positive (n + 1) (omega (arith, h))) (turned_positive (n + 2) rs (omega (arith, h))) z l
        (λ k. strict_is (n + 2) rs (omega (arith, h)) (rest_zero n r rs h z) k)

    -- ---- magnitudes

    size_law : (u v x : ℤ) (k : ℕ) → pos 0 ≤ℤ u → pos 0 ≤ℤ v → pos k ≤ℤ x → pos (unsigned_abs (u -ℤ v) + k) ≤ℤ (pos 1 *ℤ u +ℤ (pos 1 *ℤ v +ℤ x))
    size_law u v x k g h l = omega (arith, ints, g, h, l)

    pub sizes_within : (n : ℕ) (rs : List LinearConstraint) → b + 1 < n → pos (magnitudes (multipliers e n (length rs))) ≤ℤ weigh (weights (λ r. pos 1) (λ r. pos 1) n rs) e.coefs
    unfolding weights
    sizes_within n [] h = omega (arith, ints)
    sizes_within n (r ∷ rs) h =
        size_law (coef_at e.coefs (tag n)) (coef_at e.coefs (tag (n + 1))) (weigh (weights (λ r. pos 1) (λ r. pos 1) (n + 2) rs) e.coefs) (magnitudes (multipliers e (n + 2) (length rs)))
        (positive n h) (positive (n + 1) (omega (arith, h))) (sizes_within (n + 2) rs (omega (arith, h)))
