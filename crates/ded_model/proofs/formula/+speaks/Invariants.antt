use Rattle.std.proofs.Common.{◌≡◌, drop}
use Rattle.ded_model.specs.Form.{forms, atom_speaks_of}
use Rattle.ded_model.specs.Logic.{some_atom_of}
use Rattle.ded_model.proofs.formula.+speaks.Given as goal

abbrev pub invariant-some_speaks_of-loop-part : goal.invariant-some_speaks_of-loop-part
invariant-some_speaks_of-loop-part l =
    some_atom_of (atom_speaks_of l.name) (forms l.part-items) ≡ some_atom_of (atom_speaks_of l.name) (forms (drop l.part-index l.part-items))
