use Rattle.std.proofs.Common.{◌∙◌, sym}
use Rattle.ded_eval.proofs.Attained.{alike_drop, alike_end}
use Rattle.ded_eval.proofs.attaining.are_over.Goals as goal

pub loop-atom-init : goal.loop-atom-init
loop-atom-init g c = λ k. k

pub loop-atom-preserved : goal.loop-atom-preserved
loop-atom-preserved g c = λ k. c.loop-atom.invariant
    (alike_drop g.T.Theory.holds c.args.slots.now c.args.atoms.now c.loop-atom.atom-index c.atom-item.result c.loop-atom-test.true c.atom-item.is
    (λ p q i j same. c.lent.ensures.holds p ∙ c.is_over.ensures c.if-not-is_over.false p q i j same ∙ sym (c.lent.ensures.holds q)) k)

pub returns : goal.returns
returns g c = λ e. c.loop-atom.invariant (alike_end g.T.Theory.holds c.args.slots.now c.args.atoms.now c.loop-atom.atom-index c.loop-atom-test.false)
