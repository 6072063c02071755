use Rattle.std.proofs.Common.{subst}
use Rattle.std.proofs.lemmas.List.{take_all}
use Rattle.ded_model.specs.Lines.{tuples_lines}
use Rattle.ded_database.specs.Lost.{AreApartLines}
use Rattle.ded_database.proofs.RowLines.{apart_tuple}
use Rattle.ded_database.proofs.lines.have_any.Goals as goal

pub loop-tuple-init : goal.loop-tuple-init
loop-tuple-init c = λ l i. absurd i

pub loop-tuple-preserved : goal.loop-tuple-preserved
loop-tuple-preserved c =
    apart_tuple c.args.tuples.now c.loop-tuple.tuple-index c.tuple-item.result c.args.lines.now c.loop-tuple-test.true c.tuple-item.is (c.in_ok-has_any.ensures c.if-branch.false) c.loop-tuple.invariant

pub returns : goal.returns
returns c = λ e. subst (λ ts. AreApartLines (tuples_lines ts) c.args.lines.now) (take_all c.loop-tuple.tuple-index c.args.tuples.now c.loop-tuple-test.false) c.loop-tuple.invariant
