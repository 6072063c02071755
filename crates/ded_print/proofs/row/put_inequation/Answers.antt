-- The terms and the constant.
use Rattle.std.proofs.Common.{◌∙◌, ap, subst}
use Rattle.std.specs.Prelude.{pos, int_lt, true}
use Rattle.std.specs.Int.{w128}
use Rattle.std.proofs.lemmas.Int.{to_z-of_z, fits_signed_from_abs}
use Rattle.ded_model.specs.Coefs.{AreCoefs}
use Rattle.ded_print.specs.Tuples.{signed}
use Rattle.ded_print.proofs.Terms.{inequation, no_sum}
use Rattle.ded_print.proofs.row.put_inequation.Goals as goal

pub returns : goal.returns
returns g c =
    let names = g.N.SlotNames.names c.args.names.now in
    let divided = c.in-Some.ensures.cases.0 in
    let first = c.in-Some.field-0-0.now in
    let kept = subst AreCoefs divided c.requires.coefs in
    let read = to_z-of_z w128 first.1 (fits_signed_from_abs w128 first.1 kept.1) in
    let term = to_z-of_z w128 c.turned_if-2.result (fits_signed_from_abs w128 c.turned_if-2.result c.turned_if-2.ensures.short) in
    let constant = to_z-of_z w128 c.turned_if-3.result (fits_signed_from_abs w128 c.turned_if-3.result c.turned_if-3.ensures.short) in
    let last = to_z-of_z w128 c.turned_if-4.result (fits_signed_from_abs w128 c.turned_if-4.result c.turned_if-4.ensures.short) in
    inequation _ _ _ _ _ names first c.in-Some.later.now c.args.coefs.now c.args.constant _ _ _
    divided
    (ap (λ z. int_lt z (pos 0)) read)
    (term ∙ c.turned_if-2.ensures.value ∙ ap (signed _) read)
    (last ∙ c.turned_if-4.ensures.value ∙ ap (signed true) (constant ∙ c.turned_if-3.ensures.value ∙ ap (signed _) (to_z-of_z w128 c.args.constant c.ranges.constant)))
    c.put_term.ensures
    c.put_later_terms.ensures
    c.put-2.ensures
    c.put_integer-2.ensures

pub returns-in_default : goal.returns-in_default
returns-in_default g c =
    let last = to_z-of_z w128 c.turned_if.result (fits_signed_from_abs w128 c.turned_if.result c.turned_if.ensures.short) in
    no_sum _ _ _ (g.N.SlotNames.names c.args.names.now) c.args.coefs.now c.args.constant _ c.in_default.ensures.cases
    (last ∙ c.turned_if.ensures.value ∙ ap (signed true) (to_z-of_z w128 c.args.constant c.ranges.constant))
    c.put.ensures c.put_integer.ensures
