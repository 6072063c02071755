use Rattle.std.proofs.Common.{sym, ◌∙◌}
use Rattle.ded_elimination.proofs.Conjunctions.{In-at}
use Rattle.ded_cert.proofs.refuting.find_refuting.Goals as goal

pub returns-then-is_refuting : goal.returns-then-is_refuting
returns-then-is_refuting c = (In-at c.args.rows.now c.loop-row.row-index c.row-item.result c.loop-row-test.true c.row-item.is, sym c.is_refuting.ensures ∙ c.if-is_refuting.true)
