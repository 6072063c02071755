use Rattle.ded_model.specs.Command.{command_form}
use Rattle.ded_model.specs.Entries.{known}
use Rattle.ded_model.specs.Known.{is_arity_atom, scope_of}
use Rattle.ded_sorts.specs.Causes.{formula_in}
use Rattle.ded_sorts.specs.Facts.{heading_with}
use Rattle.ded_sorts.proofs.Unscoped.{passes_with-unscoped}
use Rattle.ded_sorts.proofs.columns.has_other_arity.Goals as goal

pub returns : goal.returns
returns g c =
    let catalogue = g.N.Names.catalogue c.args.names.now in
    let command = command_form c.args.command.now in
    rw (← passes_with-unscoped (is_arity_atom (known catalogue)) (scope_of (heading_with c.columns_of.result.now command)) (formula_in command)) c.some_in_command.ensures
