use Rattle.std.proofs.Common.{[], subst}
use Rattle.std.proofs.lemmas.List.{take_all}
use Rattle.ded_model.specs.Lines.{IsSubset, tuples_lines}
use Rattle.ded_database.proofs.Rowless.{rowless_tuple}
use Rattle.ded_database.proofs.shortening.has_rows.Goals as goal

pub loop-tuple-preserved : goal.loop-tuple-preserved
loop-tuple-preserved c = rowless_tuple c.args.tuples.now c.loop-tuple.tuple-index c.tuple-item.result c.loop-tuple-test.true c.tuple-item.is (c.has_row.ensures c.if-has_row.false) c.loop-tuple.invariant

pub returns : goal.returns
returns c = λ is. subst (λ ts. IsSubset (tuples_lines ts) []) (take_all c.loop-tuple.tuple-index c.args.tuples.now c.loop-tuple-test.false) c.loop-tuple.invariant
