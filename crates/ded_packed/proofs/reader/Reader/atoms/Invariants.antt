use Rattle.ded_packed.specs.Taking.{AtomsTaken}
use Rattle.ded_packed.proofs.reader.Reader.atoms.Given as goal

abbrev pub invariant-loop : goal.invariant-loop
invariant-loop l = AtomsTaken l.initial.self l.count l.counter l.atoms.items l.self
