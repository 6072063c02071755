-- Rows with the same coefficients, of which one holds only where the other does.
use Rattle.std.proofs.Common.{◌≡◌, true, arith, refl, sym, subst, true≢false}
use Rattle.std.specs.Prelude.{ℤ, pos, ◌+ℤ◌, ◌-ℤ◌, ◌*ℤ◌, int_le, int_lt}
use Rattle.std.proofs.lemmas.Int.{ints}
use Rattle.std.proofs.lemmas.Bool.Decides.{Decides-int_eq}
use Rattle.ded_num.proofs.Ring.{parts, ring_pos, diff_same}
use Rattle.ded_num.proofs.Signs.{above_pos}
use Rattle.ded_model.specs.declared.row.RowOp.{RowOp}
use Rattle.ded_model.specs.declared.row.RowOp.TheVariants.{Zero, AtMost, Below}
use Rattle.ded_model.specs.Constraint.{LinearConstraint}
use Rattle.ded_model.specs.Row.{sum_at, row_at, row_holds}
use Rattle.ded_model.proofs.Core.{Meets, join, meets_scale, meets_add, below_at_most}
use Rattle.ded_model.proofs.Eliminating.{meets-decides}
use Rattle.ded_model.proofs.Given.{level_turned}
use Rattle.ded_elimination.specs.Keeping.{at_least_with, at_least, Implies}

-- another constant
other_constant : (x a b d : ℤ) → (x +ℤ a *ℤ d) +ℤ d *ℤ (b -ℤ a) ≡ x +ℤ b *ℤ d
other_constant x a b d = rw (parts x, parts a, parts b, parts d) (simp ring_pos (diff_same _ _ _ _ (omega arith)))

-- a row whose constant differs by a number of a sign that its op allows
shifted : (q r : LinearConstraint) (u : RowOp) → q.coefs ≡ r.coefs → Meets u (r.constant -ℤ q.constant) → ((z : ℤ) → Meets (join q.op u) z → Meets r.op z) → Implies q r
unfolding row_holds
shifted q r u e m weaker p h i =
    let sum = sum_at q.coefs p in
    let d = pos p.den in
    let here : Meets q.op (row_at q p) = (meets-decides q.op (row_at q p)).0 i in
    let both : Meets (join q.op u) (row_at q p +ℤ d *ℤ (r.constant -ℤ q.constant)) = meets_add q.op u (row_at q p) (d *ℤ (r.constant -ℤ q.constant)) here (meets_scale u d (r.constant -ℤ q.constant) (above_pos p.den h) m) in
    let there : Meets r.op (sum +ℤ r.constant *ℤ d) = weaker (sum +ℤ r.constant *ℤ d) (subst (Meets (join q.op u)) (other_constant sum q.constant r.constant d) both) in
    (meets-decides r.op (row_at r p)).1 (subst (λ cs. Meets r.op (sum_at cs p +ℤ r.constant *ℤ d)) e there)

-- so with the ops by name
by_ops : (q r : LinearConstraint) (o v u : RowOp) → q.op ≡ o → r.op ≡ v → q.coefs ≡ r.coefs → Meets u (r.constant -ℤ q.constant) → ((z : ℤ) → Meets (join o u) z → Meets v z) → Implies q r
by_ops q r o v u e f same m weaker = shifted q r u same m (λ z h. subst (λ v. Meets v z) (sym f) (weaker z (subst (λ o. Meets (join o u) z) e h)))

at_most : (a b : ℤ) → int_le b a ≡ true → Meets AtMost (b -ℤ a)
at_most a b e = grind (arith, ints)

below : (a b : ℤ) → int_lt b a ≡ true → Meets Below (b -ℤ a)
below a b e = grind (arith, ints)

-- the tests on constants and ops suffice
stronger_by : (o u : RowOp) (q r : LinearConstraint) → q.op ≡ o → r.op ≡ u → q.coefs ≡ r.coefs → at_least_with o q.constant u r.constant ≡ true → Implies q r
stronger_by Zero Zero q r e f same h = by_ops q r Zero Zero Zero e f same (level_turned q.constant r.constant ((Decides-int_eq q.constant r.constant).0 h)) (λ z m. m)
stronger_by Zero AtMost q r e f same h = by_ops q r Zero AtMost AtMost e f same (at_most q.constant r.constant h) (λ z m. m)
stronger_by Zero Below q r e f same h = by_ops q r Zero Below Below e f same (below q.constant r.constant h) (λ z m. m)
stronger_by AtMost Zero q r e f same h = absurd (true≢false (sym h))
stronger_by AtMost AtMost q r e f same h = by_ops q r AtMost AtMost AtMost e f same (at_most q.constant r.constant h) (λ z m. m)
stronger_by AtMost Below q r e f same h = by_ops q r AtMost Below Below e f same (below q.constant r.constant h) (λ z m. m)
stronger_by Below Zero q r e f same h = absurd (true≢false (sym h))
stronger_by Below AtMost q r e f same h = by_ops q r Below AtMost AtMost e f same (at_most q.constant r.constant h) below_at_most
stronger_by Below Below q r e f same h = by_ops q r Below Below AtMost e f same (at_most q.constant r.constant h) (λ z m. m)

pub stronger : (q r : LinearConstraint) → q.coefs ≡ r.coefs → at_least q r ≡ true → Implies q r
stronger q r same h = stronger_by q.op r.op q r refl refl same h
