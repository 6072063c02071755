-- The rows that eliminations work on.
use Rattle.std.specs.Prelude.{Bool, true, false}
use Rattle.ded_model.specs.declared.slot.Sort.{Sort}
use Rattle.ded_model.specs.declared.slot.Sort.TheVariants.{Rat, Text}
use Rattle.ded_model.specs.Constraint.{LinearConstraint}
use Rattle.ded_model.specs.Coefs.{AreCoefs}
use Rattle.ded_model.specs.Normal.{IsNormalRow}

-- rational slots in order with coefficients that aren't 0, in normal form
pub record IsLinearAtom (r : LinearConstraint) : Type 0 where
  pub coefs : AreCoefs r.coefs
  pub row : IsNormalRow r

-- whether the sort is that of rationals
abbrev pub is_rational : Sort → Bool
is_rational Rat = true
is_rational Text = false
