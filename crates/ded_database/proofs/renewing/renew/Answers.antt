use Rattle.std.proofs.Common.{◌++◌, ◌∷◌, [], Err, ap, ◌∙◌, subst}
use Rattle.std.proofs.lemmas.Result.{on_ok_weaker}
use Rattle.ded_query.specs.Gathering.{IsViewOf}
use Rattle.ded_database.specs.Changes.{before, after, inserted_tuple}
use Rattle.ded_database.specs.Held.{IsHeld, held_under}
use Rattle.ded_database.specs.Upkeep.{IsLonger}
use Rattle.ded_database.proofs.Renewal.{renewed_made, renewed_wide}
use Rattle.ded_database.proofs.ListsStaying.{has_others}
use Rattle.ded_database.proofs.Under.{found_tuples, found_so}
use Rattle.ded_database.proofs.Views.{mark_clash}
use Rattle.ded_database.proofs.renewing.renew.Goals as goal

pub new_list-requires-clause-list : goal.new_list-requires-clause-list
new_list-requires-clause-list g c =
    let b = before c.args.change.now in
    let v = c.args.mark.now.name in
    found_tuples (IsHeld b) (IsViewOf b v) v c.args.stale.now c.take-list.result (λ r e k. subst (λ m. IsViewOf b m r.tuples) e k.view) c.take-list.ensures.taken c.requires.stale

pub returns-in_ok-held_view-in-Ok-clause-ok : goal.returns-in_ok-held_view-in-Ok-clause-ok
returns-in_ok-held_view-in-Ok-clause-ok g c =
    let b = before c.args.change.now in
    let d = after c.args.change.now in
    let n = c.args.change.now.name.now in
    let m = c.args.mark.now in
    let t = inserted_tuple c.args.change.now in
    let r = c.in_ok-held_view-in-Ok.field-0 in
    on_ok_weaker c.add.result
    (λ e. renewed_made b d n m.name t (held_under c.args.stale.now m.name) c.args.held.now c.requires.held c.requires.new r c.in-Ok.tuples c.add.new.self (e ∙ ap (λ hs. hs ++ r ∷ []) c.in-Ok.ensures.held) c.in_ok-held_view-in-Ok.ensures c.in-Ok.ensures.is
    (λ us s o h. found_so (λ ls. IsLonger ls c.in-Ok.tuples) m.name c.args.stale.now c.take-list.result us c.take-list.ensures.taken h (c.in-Ok.ensures.longer s (c.conjunctive_views.ensures b m n c.requires.mark o)))) c.add.ensures.ok

pub returns-in-Err-Wide-clause-ok : goal.returns-in-Err-Wide-clause-ok
returns-in-Err-Wide-clause-ok g c =
    let b = before c.args.change.now in
    let d = after c.args.change.now in
    let n = c.args.change.now.name.now in
    let m = c.args.mark.now in
    let t = inserted_tuple c.args.change.now in
    renewed_wide b d n m.name t (held_under c.args.stale.now m.name) c.args.held.now c.requires.held c.requires.new c.new_list.new.held c.new_list.ensures.held
    (mark_clash b d n (has_others b d n t c.requires.change) m c.requires.mark (c.in-Err-Wide.ensures.wide (ap Err c.in-Err-Wide.field-0-is)))
