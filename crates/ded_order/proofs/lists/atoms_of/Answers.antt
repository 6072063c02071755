use Rattle.std.proofs.Common.{[], ◌∷◌, ◌++◌, ap, ◌∙◌, sym}
use Rattle.std.proofs.lemmas.Iterator.Adapters.{YieldsList-from_vec}
use Rattle.std.proofs.lemmas.Iterator.Consumers.{YieldsList-turn, YieldsList-end}
use Rattle.std.proofs.lemmas.List.{map-id}
use Rattle.ded_num.proofs.Tests.{all-at}
use Rattle.ded_order.specs.OrderRows.{IsOrderAtom}
use Rattle.ded_order.proofs.lists.atoms_of.Goals as goal

pub of-requires : goal.of-requires
of-requires c =
    let gives = c.into_iter-row-iterator.ensures.into_iter_gives in
    let turn = YieldsList-turn (YieldsList-from_vec c.args.rows.items gives.0 (gives.1 ∙ c.args.rows.ok.0)) c.loop-row.yielded c.loop-row.row-iterator c.loop-row.yielded_by c.next.result c.next.new.self c.in-Some.row c.in-Some.is c.next.ensures.steps in
    let one = all-at IsOrderAtom c.args.rows.items _ c.in-Some.row turn.0 turn.1 c.requires.order in
    (one.linear.row, one.order)

pub loop-row-preserved : goal.loop-row-preserved
loop-row-preserved c = c.in_ok-push.ensures.items ∙ ap (λ xs. xs ++ c.of.result ∷ []) c.loop-row.invariant ∙ ap (λ x. c.loop-row.yielded ++ x ∷ []) c.of.ensures.value

pub returns : goal.returns
returns c =
    let gives = c.into_iter-row-iterator.ensures.into_iter_gives in
    let all = YieldsList-end (YieldsList-from_vec c.args.rows.items gives.0 (gives.1 ∙ c.args.rows.ok.0)) c.loop-row.yielded c.loop-row.row-iterator c.loop-row.yielded_by c.next.result c.next.new.self c.in-None.is c.next.ensures.steps in
    c.loop-row.invariant ∙ sym (map-id c.loop-row.yielded) ∙ all.0
