use Rattle.std.proofs.Common.{◌≡◌, drop}
use Rattle.ded_model.specs.Known.{arguments_differ}
use Rattle.ded_sorts.specs.Scopes.{scope_form}
use Rattle.ded_sorts.proofs.sorts.do_arguments_differ.Given as goal

abbrev pub invariant-loop-i : goal.invariant-loop-i
invariant-loop-i l =
    arguments_differ (scope_form l.scope) l.columns l.operands ≡ arguments_differ (scope_form l.scope) (drop l.i l.columns) (drop l.i l.operands)
