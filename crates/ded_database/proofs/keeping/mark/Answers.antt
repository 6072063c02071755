use Rattle.std.proofs.Common.{◌≡◌, ◌||◌, false, sym, ap, ◌∙◌, subst, bytes_eq}
use Rattle.ded_catalog.specs.State.{catalogue_of}
use Rattle.ded_database.specs.Held.{is_marked, AreMarkedApart}
use Rattle.ded_sorts.proofs.KnownEntries.{view_there}
use Rattle.ded_database.proofs.Marking.{marked_with, apart_with}
use Rattle.ded_database.proofs.keeping.mark.Goals as goal

pub mark_of-requires : goal.mark_of-requires
mark_of-requires c = record { view = view_there (catalogue_of c.args.catalogue.now) c.args.name.now c.formed.ensures c.requires.view }

pub returns-clause-apart : goal.returns-clause-apart
returns-clause-apart c =
    let ms = c.args.marks.now.items in
    let m = c.in_ok-mark.mark in
    let unmarked : is_marked ms m.name ≡ false = ap (is_marked ms) c.in_ok-mark.ensures.name ∙ sym (ap (λ rs. is_marked rs c.args.name.now) c.deref.ensures.value) ∙ sym c.has_mark.ensures ∙ c.if-has_mark.false in
    subst AreMarkedApart (sym c.in_ok-insert.ensures.items) (apart_with ms c.first_above-place.result m unmarked c.requires.apart)

pub returns-clause-marked : goal.returns-clause-marked
returns-clause-marked c = λ v.
    let ms = c.args.marks.now.items in
    let m = c.in_ok-mark.mark in
    ap (λ rs. is_marked rs v) c.in_ok-insert.ensures.items ∙ marked_with ms c.first_above-place.result m v ∙ ap (λ n. bytes_eq v n || is_marked ms v) c.in_ok-mark.ensures.name
