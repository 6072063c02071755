use Rattle.std.proofs.Common.{◌≡◌, drop}
use Rattle.ded_relation.specs.Texts.{text_in}
use Rattle.ded_relation.proofs.fixed.text_in.Given as goal

abbrev pub invariant-loop-i : goal.invariant-loop-i
invariant-loop-i l = text_in l.place (drop l.i l.atoms) ≡ text_in l.place l.atoms
