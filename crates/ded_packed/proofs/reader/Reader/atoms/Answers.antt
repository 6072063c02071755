use Rattle.ded_packed.proofs.Taking.{atom_pushed}
use Rattle.ded_packed.proofs.reader.Reader.atoms.Goals as goal

pub loop-preserved : goal.loop-preserved
loop-preserved c =
    atom_pushed c.args.self.now c.args.count c.loop.counter c.loop.atoms.items c.loop.self c.loop-test.true c.loop.invariant c.in_ok-atom.field-0 c.in_ok-atom.ensures.value
    c.push.new.self.items c.atom.new.self c.in_ok-push.ensures.items c.in_ok-atom.ensures.left
