use Rattle.ded_relation.proofs.Coded.{all_pushed}
use Rattle.ded_relation.proofs.texts.push_behind.Goals as goal

pub returns : goal.returns
returns c = λ yes_. all_pushed c.args.code c.args.set.now c.args.found.now.items c.loop-key.found.items c.loop-key.key-iterator c.in-None.ensures.steps.0 c.loop-key.invariant
