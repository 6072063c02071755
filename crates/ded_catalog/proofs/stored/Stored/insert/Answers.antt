use Rattle.std.proofs.Common.{refl}
use Rattle.ded_relation.proofs.Results.{if_ok, if_err}
use Rattle.ded_catalog.proofs.stored.Stored.insert.Goals as goal

pub returns-clause-ok : goal.returns-clause-ok
returns-clause-ok c =
    if_ok c.push.result _ _ _ (λ k p r. record { old = c.in-Relation.relation; new = c.push.new.self; was = c.in-Relation.is; is = refl; so = (p, r) }) c.push.ensures.ok c.push.ensures.room

pub returns-clause-err : goal.returns-clause-err
returns-clause-err c =
    if_err c.push.result _ _ _ (λ k p r. record { old = c.in-Relation.relation; new = c.push.new.self; was = c.in-Relation.is; is = refl; so = (p, r) }) c.push.ensures.err c.push.ensures.cause
