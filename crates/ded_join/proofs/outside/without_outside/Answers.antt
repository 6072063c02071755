use Rattle.std.specs.List.{AllByRecursion}
use Rattle.std.proofs.lemmas.Result.{IfOk-weaker}
use Rattle.ded_model.specs.Cell.{conj_holds, HoldsSomewhere}
use Rattle.ded_join.proofs.WithoutOutside.{without_outside_is, pieces_for_each}
use Rattle.ded_join.proofs.outside.without_outside.Goals as goal

pub returns-clause-is : goal.returns-clause-is
returns-clause-is g c =
    IfOk-weaker c.minus.result _ _ (λ r k. without_outside_is g.T.Theory.holds g.T.Theory.mentions g.T.Theory.lines c.args.a.now c.args.b.now c.in_ok-outside.outside r c.in_ok-outside.ensures.is k) c.minus.ensures.is

pub returns-clause-cells : goal.returns-clause-cells
returns-clause-cells g c =
    let h = g.T.Theory.holds in
    IfOk-weaker c.minus.result _ _ (λ r k. pieces_for_each g.T.Theory.mentions g.T.Theory.lines g.T.Theory.cell c.args.a.now c.args.b.now c.in_ok-outside.outside c.in_ok-outside.ensures.made (λ ps. AllByRecursion (λ d. HoldsSomewhere (conj_holds h d)) ps) r k) c.minus.ensures.cells
