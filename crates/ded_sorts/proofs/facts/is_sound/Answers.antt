use Rattle.std.proofs.Common.{◌≡◌, false, sym, ap, ◌∙◌, subst}
use Rattle.std.proofs.lemmas.Bool.{not-true}
use Rattle.ded_model.specs.Command.{command_form}
use Rattle.ded_model.specs.Entries.{known}
use Rattle.ded_model.specs.Known.{scope_of}
use Rattle.ded_model.specs.Logic.{some_below}
use Rattle.ded_sorts.specs.Causes.{passes_with, formula_in}
use Rattle.ded_sorts.specs.Facts.{heading_with, is_faulty_atom}
use Rattle.ded_sorts.proofs.Soundness.{heading_there, sound}
use Rattle.ded_sorts.proofs.facts.is_sound.Goals as goal

pub returns : goal.returns
returns g c h =
    let catalogue = g.N.Names.catalogue c.args.names.now in
    let command = command_form c.args.command.now in
    sound catalogue command
    (subst (λ columns. passes_with (formula_in command) (some_below (is_faulty_atom (known catalogue)) (scope_of columns)) ≡ false)
    (ap (λ columns. heading_with columns command) c.requires ∙ heading_there catalogue command)
    (sym c.in_ok-some_in_command.ensures ∙ not-true c.in_ok-some_in_command.field-0 h))
