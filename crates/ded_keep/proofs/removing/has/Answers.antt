use Rattle.std.proofs.Common.{◌≡◌, true, sym, subst}
use Rattle.ded_model.specs.Row.{tuple_holds}
use Rattle.ded_keep.proofs.Covered.{hold-at}
use Rattle.ded_keep.proofs.removing.has.Goals as goal

pub returns-then-eq : goal.returns-then-eq
returns-then-eq c = λ e p h.
    hold-at c.args.list.now c.loop-other.other-index c.other-item.result c.loop-other-test.true c.other-item.is p
    (subst (λ x. tuple_holds x p ≡ true) (sym (c.equal_tuples.ensures.tuples c.other-item.result c.args.tuple.now (sym c.if-eq.ensures))) h)
