use Rattle.std.proofs.Common.{rules, ◌<◌, length}
use Rattle.std.proofs.lemmas.Result.{IfOk-weaker}
use Rattle.ded_linear.proofs.Prunes.{apart_by_two}
use Rattle.ded_linear.proofs.implication.are_two_apart.Goals as goal

pub returns-in-Some : goal.returns-in-Some
returns-in-Some c =
    let first : c.in-Some.two.first < length c.args.kept.now.rows.items = search rules in
    let second : c.in-Some.two.second < length c.args.kept.now.rows.items = search rules in
    IfOk-weaker c.are_three_apart.result _ _ (λ b k e behind. apart_by_two c.args.kept.now.rows.items behind c.in-Some.two.first c.in-Some.two.second c.index.result.now c.index-in-Some.result.now c.args.row.now first second c.index.ensures c.index-in-Some.ensures (k e)) c.are_three_apart.ensures
