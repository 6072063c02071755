use Rattle.std.proofs.Common.{subst}
use Rattle.std.proofs.lemmas.Result.{IfOk-weaker}
use Rattle.ded_join.specs.Picks.{IsIndexOver}
use Rattle.ded_join.proofs.Kept.{all_kept, kept_is, kept_near, kept_hold}
use Rattle.ded_join.proofs.Taken.{inhabited_are}
use Rattle.ded_join.proofs.inhabited.inhabited_over.Goals as goal

-- what is kept of the pairs that are near
pub returns-in-Some-clause-met : goal.returns-in-Some-clause-met
returns-in-Some-clause-met g c =
    let over = subst (IsIndexOver g.T.Theory.holds g.T.Theory.mentions g.T.Theory.lines c.args.slots.now c.args.b.now) c.in-Some.is c.requires.index in
    IfOk-weaker c.near_by.result _ _ (λ r k. inhabited_are g.T.Theory.holds g.T.Theory.mentions g.T.Theory.lines c.args.slots.now c.args.a.now c.args.b.now r c.args.met.now c.near_by.new.met over.0 over.1 k) c.near_by.ensures

pub returns-in-Some-clause-is : goal.returns-in-Some-clause-is
returns-in-Some-clause-is g c =
    IfOk-weaker c.near_by.result _ _ (λ r k. kept_is g.T.Theory.holds g.T.Theory.mentions g.T.Theory.lines c.args.slots.now c.args.a.now c.args.b.now r c.args.met.now c.near_by.new.met k) (returns-in-Some-clause-met g c)

pub returns-in-Some-clause-near : goal.returns-in-Some-clause-near
returns-in-Some-clause-near g c =
    IfOk-weaker c.near_by.result _ _ (λ r k. kept_near g.T.Theory.holds g.T.Theory.mentions g.T.Theory.lines c.args.slots.now c.args.a.now c.args.b.now r c.args.met.now c.near_by.new.met k) (returns-in-Some-clause-met g c)

pub returns-in-Some-clause-inhabited : goal.returns-in-Some-clause-inhabited
returns-in-Some-clause-inhabited g c =
    IfOk-weaker c.near_by.result _ _ (λ r k. kept_hold g.T.Theory.holds g.T.Theory.mentions g.T.Theory.lines c.args.slots.now c.args.a.now c.args.b.now r c.args.met.now c.near_by.new.met k) (returns-in-Some-clause-met g c)

-- what is kept of all pairs
pub returns-in-None-clause-met : goal.returns-in-None-clause-met
returns-in-None-clause-met g c =
    let over = subst (IsIndexOver g.T.Theory.holds g.T.Theory.mentions g.T.Theory.lines c.args.slots.now c.args.b.now) c.in-None.is c.requires.index in
    IfOk-weaker c.meet_inhabited.result _ _ (λ r k. all_kept g.T.Theory.holds g.T.Theory.mentions g.T.Theory.lines c.args.slots.now c.args.a.now c.args.b.now r c.args.met.now c.meet_inhabited.new.met over k.0 k.1) c.meet_inhabited.ensures

pub returns-in-None-clause-is : goal.returns-in-None-clause-is
returns-in-None-clause-is g c =
    IfOk-weaker c.meet_inhabited.result _ _ (λ r k. kept_is g.T.Theory.holds g.T.Theory.mentions g.T.Theory.lines c.args.slots.now c.args.a.now c.args.b.now r c.args.met.now c.meet_inhabited.new.met k) (returns-in-None-clause-met g c)

pub returns-in-None-clause-near : goal.returns-in-None-clause-near
returns-in-None-clause-near g c =
    IfOk-weaker c.meet_inhabited.result _ _ (λ r k. kept_near g.T.Theory.holds g.T.Theory.mentions g.T.Theory.lines c.args.slots.now c.args.a.now c.args.b.now r c.args.met.now c.meet_inhabited.new.met k) (returns-in-None-clause-met g c)

pub returns-in-None-clause-inhabited : goal.returns-in-None-clause-inhabited
returns-in-None-clause-inhabited g c =
    IfOk-weaker c.meet_inhabited.result _ _ (λ r k. kept_hold g.T.Theory.holds g.T.Theory.mentions g.T.Theory.lines c.args.slots.now c.args.a.now c.args.b.now r c.args.met.now c.meet_inhabited.new.met k) (returns-in-None-clause-met g c)
