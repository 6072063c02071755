use Rattle.std.proofs.Common.{take, sym, ap, ◌∙◌, subst}
use Rattle.ded_database.specs.Changes.{before, after, inserted_tuple}
use Rattle.ded_database.specs.Held.{IsUpheld}
use Rattle.ded_database.proofs.Ready.{on_err_always, upheld_left, held_after, ready}
use Rattle.ded_database.proofs.ListsStaying.{has_others}
use Rattle.ded_database.proofs.Views.{changes_relation}
use Rattle.ded_database.proofs.upkeep.bring_up_to_date.Goals as goal
use Rattle.ded_query.proofs.Gathered.{front_kept}

pub take_stale-requires-clause-relation : goal.take_stale-requires-clause-relation
take_stale-requires-clause-relation g c =
    let b = before c.args.change.now in
    let n = c.args.change.now.name.now in
    changes_relation b (after c.args.change.now) n (has_others b (after c.args.change.now) n (inserted_tuple c.args.change.now) c.requires.change)

pub returns-in_err-take_stale-clause-err : goal.returns-in_err-take_stale-clause-err
returns-in_err-take_stale-clause-err g c =
    on_err_always _ c.from_residual.result
    (upheld_left (before c.args.change.now) c.args.change.now.name.now c.args.marks.now c.args.held.now c.requires.upheld c.take_stale.new.held c.take_stale.ensures.left)

pub renew_all-requires-clause-held : goal.renew_all-requires-clause-held
renew_all-requires-clause-held g c =
    let b = before c.args.change.now in
    let n = c.args.change.now.name.now in
    held_after b n c.args.marks.now c.args.held.now c.requires.upheld c.take_stale.new.held c.take_stale.new.stale c.in_ok-take_stale.ensures.ok (after c.args.change.now)
    (has_others b (after c.args.change.now) n (inserted_tuple c.args.change.now) c.requires.change)

pub returns-in-Ok-clause-ok : goal.returns-in-Ok-clause-ok
returns-in-Ok-clause-ok g c =
    ready (before c.args.change.now) c.args.change.now.name.now c.args.marks.now c.args.held.now c.requires.upheld c.take_stale.new.held c.take_stale.new.stale c.in_ok-take_stale.ensures.ok
    (after c.args.change.now) (inserted_tuple c.args.change.now) c.renew_all.new.stale c.renew_all.new.held c.count-count.result c.count-count.ensures c.in-Ok.ensures.ok

pub returns-clause-err : goal.returns-clause-err
returns-clause-err g c =
    let b = before c.args.change.now in
    let n = c.args.change.now.name.now in
    subst (IsUpheld b c.args.marks.now) (sym (c.keep_first.ensures ∙ ap (λ i. take i c.renew_all.new.held) c.count-count.ensures ∙ front_kept c.take_stale.new.held c.renew_all.new.held c.renew_all.ensures.front))
    (upheld_left b n c.args.marks.now c.args.held.now c.requires.upheld c.take_stale.new.held c.take_stale.ensures.left)
