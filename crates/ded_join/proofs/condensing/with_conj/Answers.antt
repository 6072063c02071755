use Rattle.std.proofs.Common.{subst}
use Rattle.ded_join.specs.Merged.{IsWithinList, AreLeft}
use Rattle.ded_join.proofs.Alike.{list_within, left_with}
use Rattle.ded_join.proofs.condensing.with_conj.Goals as goal

pub returns-then-lies_in_one : goal.returns-then-lies_in_one
returns-then-lies_in_one g c =
    list_within g.T.Theory.holds g.T.Theory.mentions g.T.Theory.lines c.args.list c.args.conj.items
    (subst (λ xs. IsWithinList g.T.Theory.holds xs c.args.list) c.deref.ensures.value (c.lies_in_one.ensures c.if-lies_in_one.true))

pub returns : goal.returns
returns g c =
    left_with g.T.Theory.holds g.T.Theory.mentions g.T.Theory.lines c.args.conj.items c.args.list c.in_ok-left.left c.push.new.self c.in_ok-push.ensures.pushed
    (subst (λ xs. AreLeft g.T.Theory.holds g.T.Theory.mentions g.T.Theory.lines xs c.args.list c.in_ok-left.left) c.deref-2.ensures.value c.in_ok-left.ensures)
