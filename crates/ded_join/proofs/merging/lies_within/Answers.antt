use Rattle.ded_genrel.proofs.Items.{done_to}
use Rattle.ded_join.proofs.Alike.{within_more}
use Rattle.ded_join.proofs.merging.lies_within.Goals as goal

pub loop-atom-preserved : goal.loop-atom-preserved
loop-atom-preserved g c =
    within_more g.T.Theory.holds c.args.conj.now c.args.other.now c.loop-atom.atom-index c.atom-item.result
    (done_to c.args.other.now c.loop-atom.atom-index c.atom-item.result c.loop-atom-test.true c.atom-item.is) c.loop-atom.invariant (c.imply.ensures c.if-not-imply.false)
