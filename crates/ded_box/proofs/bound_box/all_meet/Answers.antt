use Rattle.ded_box.proofs.Places.{other_lengths}
use Rattle.ded_box.proofs.bound_box.all_meet.Goals as goal

pub returns-then-a-b : goal.returns-then-a-b
returns-then-a-b c = other_lengths c.args.a.now c.args.b.now c.if-a-b.true
