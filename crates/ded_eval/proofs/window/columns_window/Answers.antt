use Rattle.std.proofs.Common.{sym, ◌∙◌}
use Rattle.ded_model.specs.Cell.{conj_holds}
use Rattle.ded_eval.proofs.Placed.{atom_holds-at}
use Rattle.ded_eval.proofs.window.columns_window.Goals as goal

pub loop-atom-preserved : goal.loop-atom-preserved
loop-atom-preserved g c =
    c.in_ok-ask.ensures (conj_holds g.T.Theory.holds c.args.window.now)
    (λ p i. sym (c.lent.ensures.holds p) ∙ atom_holds-at g.T.Theory.holds g.T.Theory.mentions c.args.window.now c.loop-atom.atom-index c.atom-item.result p c.loop-atom-test.true c.atom-item.is i) c.loop-atom.invariant
