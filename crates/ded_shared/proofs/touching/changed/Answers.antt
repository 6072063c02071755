use Rattle.std.proofs.Common.{◌≡◌, sym, ap, ◌∙◌}
use Rattle.std.proofs.lemmas.Result.{IfOk-weaker}
use Rattle.ded_model.specs.Command.{command_form, view}
use Rattle.ded_model.specs.Form.{form}
use Rattle.ded_catalog.specs.State.{catalogue_of}
use Rattle.ded_shared.specs.Gathering.{changed_by}
use Rattle.ded_shared.proofs.CommandNames.{view_changed}
use Rattle.ded_shared.proofs.touching.changed.Goals as goal

pub returns-in_ok-spoken_names-in-View : goal.returns-in_ok-spoken_names-in-View
returns-in_ok-spoken_names-in-View c =
    let m = c.in-View.name in
    let f = form c.in-View.formula in
    let spoken = c.in_ok-spoken_names-in-View.field-0.items in
    let is : command_form c.args.command.now ≡ view m c.in-View.field-1 f = ap command_form c.in-View.is in
    IfOk-weaker c.with_name.result _ _
    (λ ns h n. view_changed m f spoken ns.items c.in_ok-spoken_names-in-View.ensures h n ∙ ap (λ x. changed_by (catalogue_of c.args.catalogue.now) x n) (sym is))
    c.with_name.ensures
