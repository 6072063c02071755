use Rattle.std.proofs.Common.{◌≡◌, ◌++◌, ◌∷◌, [], true, is_some, Err, sym, ap, ◌∙◌, subst}
use Rattle.std.specs.Prelude.{OnOk, OnErr}
use Rattle.std.specs.List.{AllByRecursion}
use Rattle.std.proofs.lemmas.Result.{on_ok_weaker}
use Rattle.ded_model.specs.Catalogue.{Catalogue}
use Rattle.ded_model.specs.Entries.{entry_of, view_in}
use Rattle.ded_model.specs.Measure.{measures}
use Rattle.ded_catalog.specs.State.{catalogue_of}
use Rattle.ded_sorts.proofs.KnownEntries.{view_there}
use Rattle.ded_genrel.proofs.Items.{all_weaker}
use Rattle.ded_algebra.specs.Given.{has_name}
use Rattle.ded_query.specs.Gathering.{IsGivenOf}
use Rattle.ded_database.specs.Held.{IsHeld}
use Rattle.ded_database.proofs.Listing.{clash_untight, listed_there, listed_more, listed_none, names_added}
use Rattle.ded_database.proofs.keeping.hold.Goals as goal

pub returns-then-has-clause-listed : goal.returns-then-has-clause-listed
returns-then-has-clause-listed g c =
    listed_there (catalogue_of c.args.catalogue.now) c.args.name.now c.args.held.now (sym c.has.ensures ∙ c.if-has.true)

pub view_tuples-requires-clause-view : goal.view_tuples-requires-clause-view
view_tuples-requires-clause-view g c =
    subst (λ (k : Catalogue). is_some (view_in (entry_of k.entries c.args.name.now)) ≡ true) (sym c.present-snapshot.ensures)
    (view_there (catalogue_of c.args.catalogue.now) c.args.name.now c.formed.ensures c.requires.view)

pub view_tuples-requires-clause-held : goal.view_tuples-requires-clause-held
view_tuples-requires-clause-held g c =
    subst (λ (k : Catalogue). AllByRecursion (IsGivenOf k) c.args.held.now) (sym c.present-snapshot.ensures)
    (all_weaker (IsHeld (catalogue_of c.args.catalogue.now)) (IsGivenOf (catalogue_of c.args.catalogue.now)) c.args.held.now (λ r k. k.given) c.requires.held)

pub add-requires : goal.add-requires
add-requires g c =
    let n = c.args.name.now in
    record { new = ap (λ m. has_name m c.view_tuples.new.held) c.in_ok-held_view-in-Ok.ensures.0.name ∙ ap (has_name n) c.view_tuples.ensures.held ∙ sym c.has.ensures ∙ c.if-has.false }

pub returns-in_ok-held_view-in-Ok-clause-names : goal.returns-in_ok-held_view-in-Ok-clause-names
returns-in_ok-held_view-in-Ok-clause-names g c =
    names_added (catalogue_of c.args.catalogue.now) c.args.name.now c.args.held.now c.add.result c.in_ok-held_view-in-Ok.field-0 c.add.new.self c.in_ok-held_view-in-Ok.ensures.0.name
    (subst (λ rs. OnOk c.add.result (c.add.new.self ≡ rs ++ c.in_ok-held_view-in-Ok.field-0 ∷ [])) c.view_tuples.ensures.held c.add.ensures.ok) (subst (λ rs. OnErr c.add.result (c.add.new.self ≡ rs)) c.view_tuples.ensures.held c.add.ensures.err)

pub returns-in_ok-held_view-in-Ok-clause-listed : goal.returns-in_ok-held_view-in-Ok-clause-listed
returns-in_ok-held_view-in-Ok-clause-listed g c =
    let n = c.args.name.now in
    let r = c.in_ok-held_view-in-Ok.field-0 in
    on_ok_weaker c.add.result
    (λ e. listed_more (catalogue_of c.args.catalogue.now) n c.args.held.now r c.add.new.self (sym c.has.ensures ∙ c.if-has.false) c.in_ok-held_view-in-Ok.ensures.0.name
    (e ∙ ap (λ rs. rs ++ r ∷ []) c.view_tuples.ensures.held)) c.add.ensures.ok

pub returns-in-Err-Wide-clause-listed : goal.returns-in-Err-Wide-clause-listed
returns-in-Err-Wide-clause-listed g c =
    let cat = catalogue_of c.args.catalogue.now in
    let n = c.args.name.now in
    listed_none cat n c.args.held.now c.view_tuples.new.held c.view_tuples.ensures.held
    (clash_untight cat c.formed.ensures n c.requires.view (subst (λ (k : Catalogue). (measures k n).clash ≡ true) c.present-snapshot.ensures (c.in-Err-Wide.ensures.wide (ap Err c.in-Err-Wide.field-0-is))))
