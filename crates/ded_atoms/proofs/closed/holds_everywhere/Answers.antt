use Rattle.std.proofs.Common.{◌+◌, take, sym, ◌∙◌}
use Rattle.ded_model.proofs.TupleLists.{none_hold}
use Rattle.ded_genrel.proofs.Items.{done_to}
use Rattle.ded_atoms.proofs.Slotless.{closed_at, none_more, known_holds}
use Rattle.ded_atoms.proofs.closed.holds_everywhere.Goals as goal

pub loop-tuple-init : goal.loop-tuple-init
loop-tuple-init c = none_hold

pub holds-requires : goal.holds-requires
holds-requires c = closed_at c.args.tuples.now c.tuple-item.result (c.loop-tuple.tuple-index, c.loop-tuple-test.true, sym c.tuple-item.is) c.requires.closed

pub returns-then-holds : goal.returns-then-holds
returns-then-holds c = λ p. known_holds c.args.tuples.now c.tuple-item.result p (c.loop-tuple.tuple-index, c.loop-tuple-test.true, sym c.tuple-item.is) (c.holds.ensures p ∙ c.if-holds.true)

pub loop-tuple-preserved : goal.loop-tuple-preserved
loop-tuple-preserved c = λ p.
    none_more (take c.loop-tuple.tuple-index c.args.tuples.now) (take (c.loop-tuple.tuple-index + 1) c.args.tuples.now) c.tuple-item.result p
    (done_to c.args.tuples.now c.loop-tuple.tuple-index c.tuple-item.result c.loop-tuple-test.true c.tuple-item.is) (c.loop-tuple.invariant p) (c.holds.ensures p ∙ c.if-holds.false)
