use Rattle.std.proofs.Common.{◌≡◌, drop}
use Rattle.ded_model.specs.Form.{forms}
use Rattle.ded_model.specs.Logic.{some_below_of}
use Rattle.ded_sorts.specs.Scopes.{scope_form}
use Rattle.ded_sorts.proofs.atoms.+atoms.Given as goal

abbrev pub invariant-some_atom_of-loop-formula : goal.invariant-some_atom_of-loop-formula
invariant-some_atom_of-loop-formula g l =
    some_below_of (g.T.AtomTest.passes l.test) (scope_form l.scope) (forms l.formula-items) ≡ some_below_of (g.T.AtomTest.passes l.test) (scope_form l.scope) (forms (drop l.formula-index l.formula-items))
