use Rattle.std.proofs.Common.{List, Some, refl, subst}
use Rattle.ded_model.specs.Catalogue.{Catalogue}
use Rattle.ded_catalog.specs.State.{catalogue_of}
use Rattle.ded_catalog.specs.Snapshots.{snapshot_of}
use Rattle.ded_database.specs.Held.{is_marked, IsUpheld}
use Rattle.ded_database.specs.State.{State, catalogue_at, is_kept}
use Rattle.ded_database.specs.declared.mark.Mark.{Mark}
use Rattle.ded_database.specs.Upkeep.{IsReady, KeepsUp, OnlyAdds}
use Rattle.ded_database.proofs.Ready.{upheld_after}
use Rattle.ded_database.proofs.database.Database.insert.Goals as goal

pub invariant_of-self-in-Ok-insert : goal.invariant_of-self-in-Ok-insert
invariant_of-self-in-Ok-insert g c =
    let b = catalogue_of c.self.inside.catalogue in
    let d = snapshot_of c.with_tuple-snapshot.result in
    let n = c.args.name.now in
    let x = c.with_tuple-snapshot.ensures in
    subst (λ (e : Catalogue). IsUpheld e c.self.inside.marks.items c.bring_up_to_date.new.held)
    (c.one_change.ensures.insert b d (catalogue_of c.insert.new.self) n c.args.tuple _ c.in-Ok-insert.number c.formed.ensures x c.in-Ok-insert.ensures.ok).0
    (upheld_after b d n (Some c.args.tuple) c.self.inside.marks.items c.self.inside.held c.bring_up_to_date.new.held c.in-Ok.count
    (λ m k. c.lasting_marks.ensures b d n x.columns x.inserts _ x.present _ m c.formed.ensures x.changes k) c.self.invariant
    (subst (λ (ms : List Mark). IsReady b d n (Some c.args.tuple) ms c.self.inside.held c.bring_up_to_date.new.held c.in-Ok.count) c.deref.ensures.value c.in-Ok.ensures.ok))

pub returns-in-Ok-insert-clause-kept : goal.returns-in-Ok-insert-clause-kept
returns-in-Ok-insert-clause-kept g c =
    let b = catalogue_of c.self.inside.catalogue in
    let d = snapshot_of c.with_tuple-snapshot.result in
    let n = c.args.name.now in
    let after = catalogue_of c.insert.new.self in
    subst (λ (s : State). KeepsUp (catalogue_at s) after n (is_kept s) s.held c.bring_up_to_date.new.held) c.self.view_is
    (subst (λ (e : Catalogue). KeepsUp b e n (is_marked c.self.inside.marks.items) c.self.inside.held c.bring_up_to_date.new.held)
    (c.one_change.ensures.insert b d after n c.args.tuple _ c.in-Ok-insert.number c.formed.ensures c.with_tuple-snapshot.ensures c.in-Ok-insert.ensures.ok).0
    (subst (λ (ms : List Mark). IsReady b d n (Some c.args.tuple) ms c.self.inside.held c.bring_up_to_date.new.held c.in-Ok.count) c.deref.ensures.value c.in-Ok.ensures.ok).kept)

pub returns-in-Ok-insert-clause-adds : goal.returns-in-Ok-insert-clause-adds
returns-in-Ok-insert-clause-adds g c =
    subst (λ (s : State). OnlyAdds (catalogue_at s) c.args.name.now s.held c.bring_up_to_date.new.held) c.self.view_is (c.in-Ok.ensures.ok.adds refl)
