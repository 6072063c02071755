use Rattle.ded_theory.proofs.TwoKinds.{first_joined, second_joined}
use Rattle.ded_theory.proofs.both.joined.Goals as goal

pub loop-atom-preserved : goal.loop-atom-preserved
loop-atom-preserved g c = second_joined c.loop-atom.atoms.items c.push.new.self.items c.in-Some.atom _ _ c.in_ok-push.ensures.items c.loop-atom.invariant

pub loop-atom-2-preserved : goal.loop-atom-2-preserved
loop-atom-2-preserved g c = first_joined c.loop-atom-2.atoms.items c.push-in-loop-atom-2.new.self.items c.in-Some-atom.atom _ _ c.in_ok-push-2.ensures.items c.loop-atom-2.invariant
