use Rattle.ded_packed.specs.Taking.{CoefsTaken}
use Rattle.ded_packed.proofs.reader.Reader.coefs.Given as goal

abbrev pub invariant-loop : goal.invariant-loop
invariant-loop l = CoefsTaken l.initial.self l.count l.counter l.coefs l.self
