use Rattle.std.proofs.Common.{true, ◌≡◌, subst}
use Rattle.ded_genrel.specs.Lists.{conjs_hold}
use Rattle.ded_eval.proofs.Shown.{everything_at, none_of}
use Rattle.ded_eval.proofs.finding.has_everything.Goals as goal

pub returns-then-is_empty : goal.returns-then-is_empty
returns-then-is_empty g c = λ e p.
    subst (λ xs. conjs_hold g.T.Theory.holds xs p ≡ true) c.list-conj-items.ensures.list
    (everything_at g.T.Theory.holds c.list-conj-items.result.now c.loop-conj.conj-index c.conj-item.result c.loop-conj-test.true c.conj-item.is
    (none_of c.conj-item.result.items c.conj-item.result.len c.is_empty.result c.conj-item.result.ok.0 c.is_empty.ensures c.if-is_empty.true) p)
