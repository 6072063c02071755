-- What numbers of rows show: rows that are refuted hold nowhere together.
use Rattle.std.proofs.Common.{◌≡◌, Bool, true, false, ◌&&◌, ◌==◌, List, length, arith, refl, sym, ◌∙◌, subst}
use Rattle.std.specs.Prelude.{ℤ, pos, ◌+ℤ◌, ◌*ℤ◌}
use Rattle.std.specs.List.{list_all}
use Rattle.std.specs.Ordering.{int_eq}
use Rattle.std.proofs.lemmas.Int.{ints}
use Rattle.ded_num.proofs.Ring.{parts, ring_pos, diff_same}
use Rattle.ded_model.specs.Constraint.{LinearConstraint}
use Rattle.ded_model.specs.Point.{Point, IsPoint}
use Rattle.ded_model.specs.Cell.{conj_holds, HoldsNowhere}
use Rattle.ded_model.specs.Row.{sum_at, row_holds}
use Rattle.ded_model.proofs.Core.{Meets, meets_unscale}
use Rattle.ded_model.proofs.Points.{and_left, and_right}
use Rattle.ded_weighing.specs.Weighing.{weighed_coefs, weighed_constant, signs_fit, is_strict, is_weak, constant_refutes, refutes}
use Rattle.ded_weighing.proofs.Signs.{sum_op, strict_is_weak, refuted}
use Rattle.ded_weighing.proofs.Sums.{weighed_at, weighed_at-is, weighed_meets, no_coefs}

-- what refutes a list of rows: the signs fit, the sum has no coefficient, and its constant tells
record Refutation (ms : List ℤ) (rs : List LinearConstraint) : Type 0 where
  signs : signs_fit ms rs ≡ true
  empty : list_all (λ c. int_eq c.1 (pos 0)) (weighed_coefs ms rs) ≡ true
  constant : constant_refutes (is_strict ms rs) (is_weak ms rs) (weighed_constant ms rs) ≡ true

-- the test tells all of it
refutation : (ms : List ℤ) (rs : List LinearConstraint) → refutes ms rs ≡ true → Refutation ms rs
refutation ms rs h =
    let tells = constant_refutes (is_strict ms rs) (is_weak ms rs) (weighed_constant ms rs) in
    let none = list_all (λ c. int_eq c.1 (pos 0)) (weighed_coefs ms rs) in
    let behind : (signs_fit ms rs && (none && tells)) ≡ true = and_right (length ms == length rs) (signs_fit ms rs && (none && tells)) h in
    let last : (none && tells) ≡ true = and_right (signs_fit ms rs) (none && tells) behind in
    record {
      signs = and_left (signs_fit ms rs) (none && tells) behind;
      empty = and_left none tells last;
      constant = and_right none tells last;
    }

-- a sum of 0 and a multiple of the denominator
zero_and : (s c d : ℤ) → s ≡ pos 0 → d *ℤ c ≡ s +ℤ c *ℤ d
zero_and s c d e = rw e (rw (parts c, parts d) (simp ring_pos (diff_same _ _ _ _ (omega arith))))

-- a refuted list of rows doesn't hold at a point
never_holds : (ms : List ℤ) (rs : List LinearConstraint) (p : Point) → Refutation ms rs → IsPoint p → conj_holds row_holds rs p ≡ true → ⊥
never_holds ms rs p r i h =
    let op = sum_op (is_strict ms rs) (is_weak ms rs) in
    let c = weighed_constant ms rs in
    let positive = i.positive in
    let same : pos p.den *ℤ c ≡ weighed_at ms rs p =
    zero_and (sum_at (weighed_coefs ms rs) p) c (pos p.den) (no_coefs (weighed_coefs ms rs) p r.empty) ∙ weighed_at-is ms rs p in
    refuted (is_strict ms rs) (is_weak ms rs) c (strict_is_weak ms rs) r.constant
    (meets_unscale op (pos p.den) c (omega (arith, ints, positive)) (subst (Meets op) (sym same) (weighed_meets ms rs p r.signs h)))

-- a test that can't pass fails
pub fails : (b : Bool) → (b ≡ true → ⊥) → b ≡ false
fails true h = absurd (h refl)
fails false h = refl

-- rows of which a sum of multiples holds nowhere hold nowhere together
pub rows_nowhere : (ms : List ℤ) (rs : List LinearConstraint) → refutes ms rs ≡ true → HoldsNowhere (conj_holds row_holds rs)
rows_nowhere ms rs h p i = fails (conj_holds row_holds rs p) (never_holds ms rs p (refutation ms rs h) i)
