use Rattle.std.proofs.Common.{List, None, subst}
use Rattle.ded_model.specs.Catalogue.{Catalogue}
use Rattle.ded_catalog.specs.State.{catalogue_of}
use Rattle.ded_catalog.specs.Snapshots.{snapshot_of}
use Rattle.ded_database.specs.Held.{is_marked, IsUpheld}
use Rattle.ded_database.specs.State.{State, catalogue_at, is_kept}
use Rattle.ded_database.specs.declared.mark.Mark.{Mark}
use Rattle.ded_database.specs.Upkeep.{IsReady, KeepsUp}
use Rattle.ded_database.proofs.Ready.{upheld_after}
use Rattle.ded_database.proofs.Told.{told_delete}
use Rattle.ded_database.proofs.database.Database.delete.Goals as goal

pub bring_up_to_date-requires-clause-told : goal.bring_up_to_date-requires-clause-told
bring_up_to_date-requires-clause-told g c =
    told_delete (λ t. t.now) (catalogue_of c.self.inside.catalogue) (snapshot_of c.without_tuple-snapshot.result) c.args.name.now c.args.number c.told_tuple.result c.told_tuple.ensures c.formed-2.ensures
    c.without_tuple-snapshot.ensures

pub invariant_of-self-in-Ok : goal.invariant_of-self-in-Ok
invariant_of-self-in-Ok g c =
    let b = catalogue_of c.self.inside.catalogue in
    let d = snapshot_of c.without_tuple-snapshot.result in
    let n = c.args.name.now in
    let x = c.without_tuple-snapshot.ensures in
    subst (λ (e : Catalogue). IsUpheld e c.self.inside.marks.items c.bring_up_to_date.new.held)
    (c.one_change.ensures.delete b d (catalogue_of c.delete.new.self) n c.args.number c.formed.ensures x c.in-Ok.ensures.ok)
    (upheld_after b d n None c.self.inside.marks.items c.self.inside.held c.bring_up_to_date.new.held c.in_ok-count.count
    (λ m k. c.lasting_marks.ensures b d n x.columns x.inserts x.inserts _ _ m c.formed.ensures x.changes k) c.self.invariant
    (subst (λ (ms : List Mark). IsReady b d n None ms c.self.inside.held c.bring_up_to_date.new.held c.in_ok-count.count) c.deref.ensures.value c.in_ok-count.ensures.ok))

pub returns-in-Ok-clause-kept : goal.returns-in-Ok-clause-kept
returns-in-Ok-clause-kept g c =
    let b = catalogue_of c.self.inside.catalogue in
    let d = snapshot_of c.without_tuple-snapshot.result in
    let n = c.args.name.now in
    let after = catalogue_of c.delete.new.self in
    subst (λ (s : State). KeepsUp (catalogue_at s) after n (is_kept s) s.held c.bring_up_to_date.new.held) c.self.view_is
    (subst (λ (e : Catalogue). KeepsUp b e n (is_marked c.self.inside.marks.items) c.self.inside.held c.bring_up_to_date.new.held)
    (c.one_change.ensures.delete b d after n c.args.number c.formed.ensures c.without_tuple-snapshot.ensures c.in-Ok.ensures.ok)
    (subst (λ (ms : List Mark). IsReady b d n None ms c.self.inside.held c.bring_up_to_date.new.held c.in_ok-count.count) c.deref.ensures.value c.in_ok-count.ensures.ok).kept)
