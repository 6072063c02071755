-- All pairs that are near are a meet.
use Rattle.std.proofs.Common.{subst}
use Rattle.std.proofs.lemmas.Result.{IfOk-weaker}
use Rattle.ded_join.specs.Picks.{IsIndexOver}
use Rattle.ded_join.proofs.Kept.{no_whole}
use Rattle.ded_join.proofs.Taken.{all_are, all_near, all_count}
use Rattle.ded_join.proofs.joining.join_over.Goals as goal

pub returns-in-Some-clause-is : goal.returns-in-Some-clause-is
returns-in-Some-clause-is g c =
    IfOk-weaker c.near_by.result _ _ (λ r k. all_are g.T.Theory.holds g.T.Theory.mentions g.T.Theory.lines c.args.slots.now c.args.a.now c.args.b.now r c.args.met.now c.near_by.new.met k) c.near_by.ensures

pub returns-in-Some-clause-near : goal.returns-in-Some-clause-near
returns-in-Some-clause-near g c =
    IfOk-weaker c.near_by.result _ _ (λ r k _ _. all_near g.T.Theory.holds g.T.Theory.mentions g.T.Theory.lines c.args.slots.now c.args.a.now c.args.b.now r c.args.met.now c.near_by.new.met k) c.near_by.ensures

pub returns-in-Some-clause-whole : goal.returns-in-Some-clause-whole
returns-in-Some-clause-whole g c =
    let over = subst (IsIndexOver g.T.Theory.holds g.T.Theory.mentions g.T.Theory.lines c.args.slots.now c.args.b.now) c.in-Some.is c.requires.index in
    IfOk-weaker c.near_by.result _ _ (λ r k. no_whole c.args.slots.now c.args.a.now c.args.b.now r over.0 over.1) c.near_by.ensures

pub returns-in-Some-clause-met : goal.returns-in-Some-clause-met
returns-in-Some-clause-met g c =
    IfOk-weaker c.near_by.result _ _ (λ r k. all_count g.T.Theory.holds g.T.Theory.mentions g.T.Theory.lines c.args.slots.now c.args.a.now c.args.b.now r c.args.met.now c.near_by.new.met k) c.near_by.ensures

-- there is no index only where all pairs are taken
pub returns-in_ok-pairs-in-None-clause-near : goal.returns-in_ok-pairs-in-None-clause-near
returns-in_ok-pairs-in-None-clause-near g c some few =
    absurd (subst (IsIndexOver g.T.Theory.holds g.T.Theory.mentions g.T.Theory.lines c.args.slots.now c.args.b.now) c.in-None.is c.requires.index some few)
