use Rattle.std.proofs.Common.{sym, ◌∙◌, subst}
use Rattle.ded_query.specs.Gathering.{IsFront}
use Rattle.ded_query.proofs.NearViews.{added_one, added_there, front_added_all}
use Rattle.ded_query.proofs.near.add_all.Goals as goal

pub loop-relation-preserved-in-Continue-1 : goal.loop-relation-preserved-in-Continue-1
loop-relation-preserved-in-Continue-1 c =
    added_one c.args.given.now c.loop-relation.yielded c.loop-relation.given c.add.new.self c.in-Some.relation c.loop-relation.invariant (sym c.has.ensures ∙ c.if-not-has.true) c.in_ok-add.ensures.ok

pub loop-relation-preserved : goal.loop-relation-preserved
loop-relation-preserved c = added_there c.args.given.now c.loop-relation.yielded c.loop-relation.given c.in-Some.relation c.loop-relation.invariant (sym c.has.ensures ∙ c.if-not-has.false)

pub returns-clause-front : goal.returns-clause-front
returns-clause-front c = front_added_all c.args.given.now c.loop-relation.yielded c.loop-relation.given c.loop-relation.invariant

pub returns-in_err-add-clause-front : goal.returns-in_err-add-clause-front
returns-in_err-add-clause-front c = subst (IsFront c.args.given.now) (sym c.in_err-add.ensures.err) (front_added_all c.args.given.now c.loop-relation.yielded c.loop-relation.given c.loop-relation.invariant)
