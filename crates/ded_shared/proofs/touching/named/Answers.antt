use Rattle.std.proofs.Common.{◌≡◌, ◌||◌, sym, ap, ◌∙◌, subst}
use Rattle.std.proofs.lemmas.Result.{IfOk-weaker}
use Rattle.ded_model.specs.Command.{command_form, insert, view}
use Rattle.ded_model.specs.Form.{form, forms, atom_speaks_of}
use Rattle.ded_model.specs.Logic.{some_atom_of}
use Rattle.ded_shared.specs.Gathering.{AreNamed}
use Rattle.ded_shared.specs.State.{is_among}
use Rattle.ded_shared.proofs.CommandNames.{named_insert, named_view}
use Rattle.ded_shared.proofs.touching.named.Goals as goal

pub returns-in_ok-one-in-Insert : goal.returns-in_ok-one-in-Insert
returns-in_ok-one-in-Insert c =
    let m = c.in-Insert.name in
    let fs = forms c.in-Insert.formulas.items in
    let start = c.in_ok-one-in-Insert.field-0.items in
    let is : command_form c.args.command.now ≡ insert m fs = ap command_form c.in-Insert.is in
    IfOk-weaker c.with_spoken.result _ _
    (λ ns h. subst (λ x. AreNamed x ns.items) (sym is)
    (named_insert m fs start ns.items c.in_ok-one-in-Insert.ensures (λ n. h n ∙ ap (λ gs. is_among start n || some_atom_of (atom_speaks_of n) (forms gs)) c.deref.ensures.value)))
    c.with_spoken.ensures

pub returns-in_ok-spoken_names-in-View : goal.returns-in_ok-spoken_names-in-View
returns-in_ok-spoken_names-in-View c =
    let m = c.in-View.name in
    let f = form c.in-View.formula in
    let spoken = c.in_ok-spoken_names-in-View.field-0.items in
    let is : command_form c.args.command.now ≡ view m c.in-View.field-1 f = ap command_form c.in-View.is in
    IfOk-weaker c.with_name.result _ _
    (λ ns h. subst (λ x. AreNamed x ns.items) (sym is) (named_view m c.in-View.field-1 f spoken ns.items c.in_ok-spoken_names-in-View.ensures h))
    c.with_name.ensures
