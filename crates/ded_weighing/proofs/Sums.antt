-- The sum of multiples of rows at a point.
--
-- At a point the sum of the rows, each times its number, is the sum of what the rows come to there, each times its number
-- (`weighed_at-is`). Where all rows hold, it stands to 0 as the signs of the numbers tell (`weighed_meets`).
use Rattle.std.proofs.Common.{◌≡◌, ℕ, true, List, [], ◌∷◌, arith, refl, ap, ◌∙◌, subst}
use Rattle.std.specs.Prelude.{ℤ, pos, ◌+ℤ◌, ◌*ℤ◌}
use Rattle.std.specs.List.{list_all}
use Rattle.std.specs.Ordering.{int_eq}
use Rattle.std.proofs.lemmas.Bool.Decides.{Decides-int_eq}
use Rattle.std.proofs.Math.IntN.{zero-*ℤ}
use Rattle.ded_num.proofs.Ring.{parts, ring, diff_same}
use Rattle.ded_model.specs.declared.slot.Slot.{Slot}
use Rattle.ded_model.specs.Constraint.{LinearConstraint}
use Rattle.ded_model.specs.Point.{slot, Point, number_at}
use Rattle.ded_model.specs.Cell.{conj_holds}
use Rattle.ded_model.specs.Row.{sum_at, row_at, row_holds}
use Rattle.ded_model.proofs.Core.{Meets, meets_add}
use Rattle.ded_model.proofs.Points.{and_left, and_right}
use Rattle.ded_model.proofs.Given.{row_from}
use Rattle.ded_model.proofs.Sums.{sum_at-put_all}
use Rattle.ded_weighing.specs.Weighing.{weighed_coefs, weighed_constant, fits, signs_fit, is_strict_at, is_weak_at, is_strict, is_weak}
use Rattle.ded_weighing.proofs.Signs.{sum_op, join_is, term_meets}

-- what the rows come to at a point, each times its number
abbrev pub weighed_at : List ℤ → List LinearConstraint → Point → ℤ
weighed_at [] rs p = pos 0
weighed_at (m ∷ ms) [] p = pos 0
weighed_at (m ∷ ms) (r ∷ rs) p = m *ℤ row_at r p +ℤ weighed_at ms rs p

-- nothing, over a denominator
nothing_at : (d : ℕ) → pos 0 +ℤ pos 0 *ℤ pos d ≡ pos 0
nothing_at d = ap (λ z. pos 0 +ℤ z) (zero-*ℤ (pos d))

-- a row more
more_law : (m s w k c d : ℤ) → (m *ℤ s +ℤ w) +ℤ (m *ℤ k +ℤ c) *ℤ d ≡ m *ℤ (s +ℤ k *ℤ d) +ℤ (w +ℤ c *ℤ d)
more_law m s w k c d = rw (parts m, parts s, parts w, parts k, parts c, parts d) (simp ring (diff_same _ _ _ _ (omega arith)))

-- the sum of the rows is what the rows come to
pub weighed_at-is : (ms : List ℤ) (rs : List LinearConstraint) (p : Point)
    → sum_at (weighed_coefs ms rs) p +ℤ weighed_constant ms rs *ℤ pos p.den ≡ weighed_at ms rs p
weighed_at-is [] rs p = nothing_at p.den
weighed_at-is (m ∷ ms) [] p = nothing_at p.den
weighed_at-is (m ∷ ms) (r ∷ rs) p =
    ap (λ z. z +ℤ (m *ℤ r.constant +ℤ weighed_constant ms rs) *ℤ pos p.den) (sum_at-put_all m r.coefs (weighed_coefs ms rs) p)
    ∙ more_law m (sum_at r.coefs p) (sum_at (weighed_coefs ms rs) p) r.constant (weighed_constant ms rs) (pos p.den)
    ∙ ap (λ z. m *ℤ row_at r p +ℤ z) (weighed_at-is ms rs p)

-- where all rows hold, the sum stands to 0 as the signs of the numbers tell
pub weighed_meets : (ms : List ℤ) (rs : List LinearConstraint) (p : Point) → signs_fit ms rs ≡ true → conj_holds row_holds rs p ≡ true
    → Meets (sum_op (is_strict ms rs) (is_weak ms rs)) (weighed_at ms rs p)
weighed_meets [] rs p f h = refl
weighed_meets (m ∷ ms) [] p f h = refl
weighed_meets (m ∷ ms) (r ∷ rs) p f h =
    let here = term_meets r.op m (row_at r p) (and_left (fits r.op m) (signs_fit ms rs) f) (row_from r p (and_left (row_holds r p) (conj_holds row_holds rs p) h)) in
    let there = weighed_meets ms rs p (and_right (fits r.op m) (signs_fit ms rs) f) (and_right (row_holds r p) (conj_holds row_holds rs p) h) in
    subst (λ o. Meets o (m *ℤ row_at r p +ℤ weighed_at ms rs p)) (join_is (is_strict_at r.op m) (is_weak_at r.op m) (is_strict ms rs) (is_weak ms rs))
    (meets_add (sum_op (is_strict_at r.op m) (is_weak_at r.op m)) (sum_op (is_strict ms rs) (is_weak ms rs)) (m *ℤ row_at r p) (weighed_at ms rs p) here there)

-- 0 times a number, before 0
no_term : (a x y : ℤ) → a ≡ pos 0 → y ≡ pos 0 → a *ℤ x +ℤ y ≡ pos 0
no_term a x y e f = rw (e, f) (ap (λ z. z +ℤ pos 0) (zero-*ℤ x))

-- a sum without coefficients is 0
pub no_coefs : (cs : List (Slot × ℤ)) (p : Point) → list_all (λ c. int_eq c.1 (pos 0)) cs ≡ true → sum_at cs p ≡ pos 0
no_coefs [] p h = refl
no_coefs (c ∷ cs) p h =
    no_term c.1 (number_at p (slot c.0)) (sum_at cs p) ((Decides-int_eq c.1 (pos 0)).0 (and_left (int_eq c.1 (pos 0)) (list_all (λ c. int_eq c.1 (pos 0)) cs) h))
    (no_coefs cs p (and_right (int_eq c.1 (pos 0)) (list_all (λ c. int_eq c.1 (pos 0)) cs) h))
