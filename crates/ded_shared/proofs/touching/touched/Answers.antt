use Rattle.std.proofs.Common.{subst}
use Rattle.ded_model.specs.Command.{command_form}
use Rattle.ded_catalog.specs.State.{catalogue_of}
use Rattle.ded_shared.specs.Gathering.{TouchesAll}
use Rattle.ded_shared.proofs.ClosedNames.{all_below, touched_names}
use Rattle.ded_shared.proofs.touching.touched.Goals as goal

pub touch_all-requires-clause-below : goal.touch_all-requires-clause-below
touch_all-requires-clause-below c = all_below (catalogue_of c.args.catalogue.now) c.formed.ensures c.deref.result.now

pub returns : goal.returns
returns c =
    let cat = catalogue_of c.args.catalogue.now in
    let start = c.new-names.result.items in
    let end = c.touch_all.new.names.items in
    touched_names cat (command_form c.args.command.now) c.in_ok-named.named.items start end c.new-names.ensures.items c.in_ok-named.ensures
    (subst (λ l. TouchesAll cat l start end) c.deref.ensures.value c.in_ok-touch_all.ensures)
