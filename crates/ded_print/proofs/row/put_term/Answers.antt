-- A term whose coefficient's magnitude isn't 1.
use Rattle.std.proofs.Common.{◌∙◌, ap}
use Rattle.std.specs.Prelude.{unsigned_abs}
use Rattle.std.specs.Int.{w128}
use Rattle.std.proofs.lemmas.Int.{to_z-of_z}
use Rattle.ded_print.proofs.Gathering.{puts_both}
use Rattle.ded_print.proofs.Terms.{long_term}
use Rattle.ded_print.proofs.row.put_term.Goals as goal

pub returns : goal.returns
returns g c =
    let is = c.unsigned_abs-magnitude.ensures.value ∙ ap unsigned_abs (to_z-of_z w128 c.args.a c.ranges.a) in
    long_term _ _ (g.N.SlotNames.names c.args.names.now) c.args.slot c.args.a c.unsigned_abs-magnitude.result is c.if-magnitude-eq1.false
    (puts_both _ _ _ _ _ c.put_magnitude.ensures (puts_both _ _ _ _ _ c.put.ensures c.put_name-2.ensures))
