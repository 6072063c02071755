use Rattle.std.proofs.Common.{◌++◌, ap, rules}
use Rattle.std.proofs.lemmas.List.{get_or_default}
use Rattle.ded_algebra.specs.Columns.{column_pairs}
use Rattle.ded_algebra.proofs.Pairs.{pairs_more, pairs_done}
use Rattle.ded_algebra.proofs.pairing.column_pairs.Goals as goal

pub loop-slot-init : goal.loop-slot-init
loop-slot-init c = ap (λ xs. xs ++ column_pairs 0 c.args.slots.now) c.in_ok-pairs.ensures.items

pub loop-slot-preserved : goal.loop-slot-preserved
loop-slot-preserved c =
    pairs_more c.args.slots.now c.loop-slot.slot-index c.loop-slot.number c.in_ok-number.number c.loop-slot.pairs.items c.push.new.self.items (column_pairs 0 c.args.slots.now) _ c.loop-slot-test.true (get_or_default c.args.slots.now c.loop-slot.slot-index _ _ c.loop-slot-test.true) c.in_ok-push.ensures.items (search rules) c.loop-slot.invariant

pub returns : goal.returns
returns c = pairs_done c.args.slots.now c.loop-slot.slot-index c.loop-slot.number c.loop-slot.pairs.items (column_pairs 0 c.args.slots.now) c.loop-slot-test.false c.loop-slot.invariant
