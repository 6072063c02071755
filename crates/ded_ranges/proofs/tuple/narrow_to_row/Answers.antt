use Rattle.std.proofs.Common.{◌≡◌, ◌∙◌, ◌∷◌, [], true, subst, sym, get_or, SFits}
use Rattle.std.specs.Prelude.{ℤ, pos}
use Rattle.std.specs.Int.{w128}
use Rattle.std.proofs.lemmas.Int.{to_z-of_z, fits_signed_from_abs}
use Rattle.ded_model.specs.declared.slot.Slot.{Slot}
use Rattle.ded_model.specs.declared.slot.Sort.TheVariants.{Rat}
use Rattle.ded_model.specs.Coefs.{AreCoefs}
use Rattle.ded_model.specs.Constraint.{LinearConstraint}
use Rattle.ded_model.specs.Row.{row_holds}
use Rattle.ded_ranges.specs.Windows.{column_value}
use Rattle.ded_ranges.proofs.Columns.{row_one, one_short}
use Rattle.ded_ranges.proofs.Terms.{only}
use Rattle.ded_ranges.proofs.tuple.narrow_to_row.Goals as goal

pub returns-then-coefs-eq1 : goal.returns-then-coefs-eq1
returns-then-coefs-eq1 c =
    let cs = c.list-coefs.result.now in
    let t : Slot × ℤ = get_or cs 0 (record { number = 0; sort = Rat }, pos 0) in
    let one : cs ≡ t ∷ [] = only cs (record { number = 0; sort = Rat }, pos 0) c.if-coefs-eq1.true in
    let are : AreCoefs cs = subst AreCoefs (sym c.list-coefs.ensures.value) c.list-coefs.ensures.coefs in
    let k : SFits w128 c.row.inside.constant = fits_signed_from_abs w128 c.row.inside.constant c.row.invariant in
    let a : SFits w128 t.1 = fits_signed_from_abs w128 t.1 (one_short cs t one are) in
    let own = simp to_z-of_z at c.narrow_to_term.ensures.lies in
    λ p l h.
    let holds = subst (λ (r : LinearConstraint). row_holds r p ≡ true) (sym c.row.view_is) h in
    own (column_value p) p.den l (row_one (record { coefs = c.row.inside.coefs; constant = c.row.inside.constant; op = c.row.inside.op }) t p c.list-coefs.ensures.coefs (sym c.list-coefs.ensures.value ∙ one) holds)
