use Rattle.std.proofs.Common.{◌≡◌, true, subst}
use Rattle.ded_model.specs.Cell.{conj_holds}
use Rattle.ded_genrel.specs.Lists.{conjs_hold}
use Rattle.ded_genrel.proofs.Items.{conjs-any-at}
use Rattle.ded_join.proofs.condensing.lies_in_one.Goals as goal

pub returns-then-lies_within : goal.returns-then-lies_within
returns-then-lies_within g c = λ _ p i e.
    subst (λ cs. conjs_hold g.T.Theory.holds cs p ≡ true) c.list-other-items.ensures.list
    (conjs-any-at (λ c. conj_holds g.T.Theory.holds c p) c.list-other-items.result.now c.loop-other.other-index c.other-item.result c.loop-other-test.true c.other-item.is
    (subst (λ xs. conj_holds g.T.Theory.holds xs p ≡ true) c.deref.ensures.value (c.lies_within.ensures c.if-lies_within.true p i e)))
