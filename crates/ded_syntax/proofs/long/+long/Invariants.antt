use Rattle.std.proofs.Common.{◌≡◌, drop}
use Rattle.ded_model.specs.Form.{forms}
use Rattle.ded_model.specs.Logic.{some_atom_of}
use Rattle.ded_syntax.specs.Marks.{is_unfit_atom}
use Rattle.ded_syntax.proofs.long.+long.Given as goal

abbrev pub invariant-some_long_atom-loop-formula : goal.invariant-some_long_atom-loop-formula
invariant-some_long_atom-loop-formula l =
    some_atom_of is_unfit_atom (forms l.formula-items) ≡ some_atom_of is_unfit_atom (forms (drop l.formula-index l.formula-items))
