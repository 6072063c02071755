use Rattle.ded_genrel.proofs.Rounding.{box_more}
use Rattle.ded_genrel.proofs.boxes.box_round.Goals as goal

pub loop-slot-preserved : goal.loop-slot-preserved
loop-slot-preserved g c =
    box_more g.T.Theory.holds g.T.Theory.mentions g.T.Theory.lines c.args.atoms.now c.args.slots.now c.loop-slot.slot-index _ c.loop-slot.spans.items c.push.new.self.items c.interval.result c.in_ok-bounds.field-0 c.loop-slot-test.true c.interval.ensures c.in_ok-push.ensures.items
    c.in_ok-bounds.ensures.span c.loop-slot.invariant
