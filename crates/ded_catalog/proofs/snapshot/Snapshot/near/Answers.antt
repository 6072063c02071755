use Rattle.std.proofs.Common.{arith, ◌≡◌, ◌+◌, ◌≤◌, length, None, Some, sym, ap, ◌∙◌, subst}
use Rattle.std.specs.Prelude.{IfSome}
use Rattle.std.specs.Option.{option_map}
use Rattle.ded_model.specs.Catalogue.{tuples_of}
use Rattle.ded_model.specs.Entries.{entry_of, relation_in}
use Rattle.ded_ranges.specs.Windows.{AreLent}
use Rattle.ded_packed.specs.Lent.{lent}
use Rattle.ded_catalog.specs.State.{catalogue_of}
use Rattle.ded_catalog.specs.Changing.{changed, inserted_in, deleted_in, without_number, with_last}
use Rattle.ded_catalog.specs.Forms.{change_form}
use Rattle.ded_relation.specs.Nearby.{numbered, AreFound}
use Rattle.ded_catalog.specs.Snapshots.{snapshot_of}
use Rattle.ded_catalog.proofs.LentTuples.{lent_some, lent_none, lent_counted, steps_more}
use Rattle.ded_catalog.proofs.snapshot.Snapshot.near.Goals as goal

pub returns-in_default-clause-found : goal.returns-in_default-clause-found
unfolding snapshot_of
returns-in_default-clause-found g c =
    let w = c.args.window.now in
    let n = c.args.name.now in
    let old = catalogue_of c.self.inside.catalogue.now in
    subst (λ s. AreLent w None (option_map tuples_of (relation_in (entry_of (snapshot_of s).entries n)))) c.self.view_is
    (lent_none w old (change_form c.self.inside.change) n (subst (λ o. AreFound w (option_map (λ v. numbered v.items) o) (relation_in (entry_of old.entries n))) c.in_default.is c.in_ok-found.ensures.found))

pub returns-clause-found : goal.returns-clause-found
unfolding snapshot_of
returns-clause-found g c =
    let w = c.args.window.now in
    let n = c.args.name.now in
    let old = catalogue_of c.self.inside.catalogue.now in
    let x = change_form c.self.inside.change in
    let us = numbered c.in-Some.found.items in
    let is : lent c.in_ok-with_inserted.field-0.items ≡ with_last (tuples_of (without_number (deleted_in x n) us)) (inserted_in x n) =
    c.in_ok-with_inserted.ensures ∙ (λ i. with_last (c.in_ok-left.ensures i) (c.inserted.ensures i)) ∙ ap (λ o. with_last (tuples_of (without_number o us)) (inserted_in x n)) c.deleted.ensures in
    subst (λ s. AreLent w (Some (lent c.in_ok-with_inserted.field-0.items)) (option_map tuples_of (relation_in (entry_of (snapshot_of s).entries n)))) c.self.view_is
    (subst (λ ts. AreLent w (Some ts) (option_map tuples_of (relation_in (entry_of (changed old x).entries n)))) (sym is)
    (lent_some w old x n us (subst (λ o. AreFound w (option_map (λ v. numbered v.items) o) (relation_in (entry_of old.entries n))) c.in-Some.is c.in_ok-found.ensures.found)))

pub returns-clause-read : goal.returns-clause-read
returns-clause-read g c =
    let x = change_form c.self.inside.change in
    let n = c.args.name.now in
    let us = c.in-Some.found.items in
    let is : lent c.in_ok-with_inserted.field-0.items ≡ with_last (tuples_of (without_number (deleted_in x n) (numbered us))) (inserted_in x n) =
    c.in_ok-with_inserted.ensures ∙ (λ i. with_last (c.in_ok-left.ensures i) (c.inserted.ensures i)) ∙ ap (λ o. with_last (tuples_of (without_number o (numbered us))) (inserted_in x n)) c.deleted.ensures in
    lent_counted (deleted_in x n) (inserted_in x n) us c.in_ok-with_inserted.field-0.items c.args.steps.now c.look_up.new.steps c.tick.new.self is
    (subst (λ o. IfSome o (λ ts. c.args.steps.now + length ts.items ≤ c.look_up.new.steps)) c.in-Some.is c.in_ok-found.ensures.read) c.tick.ensures

pub returns-in_err-found-clause-steps : goal.returns-in_err-found-clause-steps
returns-in_err-found-clause-steps g c =
    steps_more c.args.window.now c.self.inside.catalogue.now (change_form c.self.inside.change) c.args.self.now c.args.name.now c.args.steps.now c.look_up.new.steps c.look_up.new.steps c.self.view_is c.look_up.ensures.steps (omega arith)

pub returns-in_default-clause-steps : goal.returns-in_default-clause-steps
returns-in_default-clause-steps g c =
    steps_more c.args.window.now c.self.inside.catalogue.now (change_form c.self.inside.change) c.args.self.now c.args.name.now c.args.steps.now c.look_up.new.steps c.look_up.new.steps c.self.view_is c.look_up.ensures.steps (omega arith)

pub returns-in_err-left-clause-steps : goal.returns-in_err-left-clause-steps
returns-in_err-left-clause-steps g c =
    steps_more c.args.window.now c.self.inside.catalogue.now (change_form c.self.inside.change) c.args.self.now c.args.name.now c.args.steps.now c.look_up.new.steps c.look_up.new.steps c.self.view_is c.look_up.ensures.steps (omega arith)

pub returns-in_err-with_inserted-clause-steps : goal.returns-in_err-with_inserted-clause-steps
returns-in_err-with_inserted-clause-steps g c =
    steps_more c.args.window.now c.self.inside.catalogue.now (change_form c.self.inside.change) c.args.self.now c.args.name.now c.args.steps.now c.look_up.new.steps c.tick.new.self c.self.view_is c.look_up.ensures.steps (omega (arith, c.tick.ensures))

pub returns-clause-steps : goal.returns-clause-steps
returns-clause-steps g c =
    steps_more c.args.window.now c.self.inside.catalogue.now (change_form c.self.inside.change) c.args.self.now c.args.name.now c.args.steps.now c.look_up.new.steps c.tick.new.self c.self.view_is c.look_up.ensures.steps (omega (arith, c.tick.ensures))
