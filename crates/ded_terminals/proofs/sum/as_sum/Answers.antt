use Rattle.std.proofs.Common.{◌≡◌, ◌∙◌, subst, sym, arith, rules}
use Rattle.std.specs.Prelude.{ℤ, pos}
use Rattle.std.specs.Int.{w128}
use Rattle.std.proofs.lemmas.Int.{to_z-of_z, fits_signed_from_abs, ints}
use mir.Val.{to_z, of_z}
use Rattle.ded_model.specs.Sum.{IsSum}
use Rattle.ded_terminals.proofs.Totals.{is_sum}
use Rattle.ded_terminals.specs.Views.{seen_totals}
use Rattle.ded_terminals.proofs.sum.as_sum.Goals as goal

pub invariant_of-result : goal.invariant_of-result
invariant_of-result c =
    let same : to_z w128 (of_z w128 c.args.totals.constant) ≡ c.args.totals.constant = to_z-of_z w128 c.args.totals.constant (fits_signed_from_abs w128 c.args.totals.constant (omega (arith, c.requires.bounded.1))) in
    let from : c.from.result ≡ pos c.args.over = search rules in
    let over : to_z w128 (of_z w128 c.from.result) ≡ c.from.result = to_z-of_z w128 c.from.result (fits_signed_from_abs w128 c.from.result (omega (arith, ints, from, c.ranges.over.fits))) in
    subst (λ (m : ℤ). IsSum (record { parts = c.args.totals.parts.items; constant = to_z w128 (of_z w128 c.args.totals.constant); over = m })) (sym (over ∙ from))
    (subst (λ (z : ℤ). IsSum (record { parts = c.args.totals.parts.items; constant = z; over = pos c.args.over })) (sym same) (is_sum c.args.over (seen_totals c.args.totals) c.requires.over c.ranges.over.fits c.requires.bounded))
