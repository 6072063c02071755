use Rattle.std.proofs.Common.{rules, ◌≡◌, ◌∙◌, true, length}
use Rattle.ded_weighing.specs.Weighing.{signs_fit}
use Rattle.ded_weighing.specs.Columns.{lent, HasAllSlots}
use Rattle.ded_weighing.proofs.Vanishing.{refutes_is, as_many}
use Rattle.ded_weighing.proofs.weighing.refutes.Goals as goal

pub returns-in-Some-clause-is : goal.returns-in-Some-clause-is
returns-in-Some-clause-is c =
    let many : length c.args.multipliers.now ≡ length c.args.rows.now = search rules in
    let signs : signs_fit c.args.multipliers.now (lent c.args.rows.now) ≡ true = search rules in
    let slots : HasAllSlots c.deref.result.now (lent c.args.rows.now) = search rules in
    c.in-Some.ensures ∙ refutes_is c.deref.result.now c.args.multipliers.now (lent c.args.rows.now) c.requires slots (as_many c.args.multipliers.now c.args.rows.now many) signs
