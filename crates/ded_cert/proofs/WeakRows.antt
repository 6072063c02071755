-- A combination of two rows by `<=` is one again, unless it has no slot.
use Rattle.std.proofs.Common.{◌≡◌, ◌≢◌, true, List, [], ◌∷◌, refl, sym, ap, ap₂, ◌∙◌, true≢false}
use Rattle.std.specs.Prelude.{ℤ, pos}
use lib.IntN.{neg_ℤ}
use Rattle.ded_model.specs.declared.slot.Slot.{Slot}
use Rattle.ded_model.specs.declared.row.RowOp.{RowOp}
use Rattle.ded_model.specs.declared.row.RowOp.TheVariants.{Zero, AtMost, Below}
use Rattle.ded_model.specs.Constraint.{LinearConstraint}
use Rattle.ded_model.specs.Coefs.{coef_at}
use Rattle.ded_model.specs.Normal.{normal_with, normal_row}
use Rattle.ded_row.specs.Mixing.{factor, join_op, mixed_row, mix_of}
use Rattle.ded_cert.specs.Tracing.{is_weak_with, is_weak_row}

-- by the coefficients
normal_weak_with : (m : ℤ) (cs : List (Slot × ℤ)) → is_weak_row (normal_with (record { coefs = cs; constant = m; op = AtMost }) cs) ≡ true
normal_weak_with m [] = refl
normal_weak_with m (c ∷ cs) = refl

-- the normal row of a row by `<=`
pub normal_weak : (m : ℤ) (cs : List (Slot × ℤ)) → is_weak_row (normal_row (record { coefs = cs; constant = m; op = AtMost })) ≡ true
unfolding normal_row
normal_weak m cs = normal_weak_with m cs

-- a row with a slot is one by `<=`
pub weak_op : (r : LinearConstraint) (s : Slot) → coef_at r.coefs s ≢ pos 0 → is_weak_row r ≡ true → r.op ≡ AtMost
weak_op r s n h = go r.coefs r.op n h
  where
    go : (cs : List (Slot × ℤ)) (op : RowOp) → coef_at cs s ≢ pos 0 → is_weak_with cs op ≡ true → op ≡ AtMost
    go [] op n h = absurd (n refl)
    go (c ∷ cs) Zero n h = absurd (true≢false (sym h))
    go (c ∷ cs) AtMost n h = refl
    go (c ∷ cs) Below n h = absurd (true≢false (sym h))

pub mix_weak : (s : Slot) (q r : LinearConstraint) → coef_at q.coefs s ≢ pos 0 → coef_at r.coefs s ≢ pos 0 → is_weak_row q ≡ true → is_weak_row r ≡ true → is_weak_row (mix_of s q r) ≡ true
mix_weak s q r m n h k =
    let x = mixed_row s (factor (coef_at q.coefs s) (coef_at r.coefs s)) q (factor (neg_ℤ (coef_at r.coefs s)) (coef_at q.coefs s)) r in
    ap (λ o. is_weak_row (normal_row (record { coefs = x.coefs; constant = x.constant; op = o }))) (ap₂ join_op (weak_op q s m h) (weak_op r s n k))
    ∙ normal_weak x.constant x.coefs
