use Rattle.std.proofs.lemmas.Result.{IfOk-weaker}
use Rattle.ded_linear.proofs.Prunes.{implied}
use Rattle.ded_linear.proofs.implication.imply.Goals as goal

pub returns-in-One : goal.returns-in-One
returns-in-One c =
    IfOk-weaker c.are_apart.result _ _ (λ b k e. implied c.args.kept.now.rows.items c.args.behind.now c.args.row.now c.in-One.beyond c.in_ok-beyond.field-0 c.in-One.is c.in_ok-beyond.ensures.exact (k e)) c.are_apart.ensures
