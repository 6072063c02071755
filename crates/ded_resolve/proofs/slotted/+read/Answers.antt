use Rattle.std.proofs.Common.{rules, ◌≡◌, ap₂, ◌∙◌, subst, [], drop, map}
use Rattle.std.proofs.Math.ListN.{drop_of_length-le}
use Rattle.ded_model.specs.declared.formula.Formula.TheFolds.{fold-roll-Formula, fold_out-Formula}
use Rattle.ded_model.specs.declared.formula.Formula.TheViews.{the_lemmas}
use Rattle.ded_model.specs.Point.{name}
use Rattle.ded_model.specs.Logic.{atom, implies, exists, forall}
use Rattle.ded_model.specs.Form.{form, forms, member}
use Rattle.ded_model.specs.Goal.{goal_form}
use Rattle.ded_model.specs.Slotted.{goals_below}
use Rattle.ded_resolve.proofs.Reading.{Gathering, right_as, exists_as, forall_as, member_as, gathering_step, gathering_goals}
use Rattle.ded_resolve.proofs.slotted.+read.Goals as goal

pub read-places-requires : goal.read-places-requires
read-places-requires t c =
    let formed : form c.args.formula.now ≡ atom (member c.in-Member.name c.in-Member.operands) = search (rules, the_lemmas, fold-roll-Formula, fold_out-Formula) in
    member_as c.args.scope.now c.args.next.now _ c.in-Member.name c.in-Member.operands formed c.requires

pub read-read-requires-in-Implies-2 : goal.read-read-requires-in-Implies-2
read-read-requires-in-Implies-2 t c =
    let formed : form c.args.formula.now ≡ implies (form c.deref-in-Implies.result.now) (form c.deref-in-Implies-2.result.now) = search (rules, the_lemmas, fold-roll-Formula, fold_out-Formula) in
    (search (rules, the_lemmas), right_as c.args.scope.now _ c.args.next.now _ (form c.args.formula.now) (form c.deref-in-Implies.result.now) _ formed c.in_ok-left-in-Implies.ensures.scope c.in_ok-left-in-Implies.ensures.next c.requires)

pub read-read-requires-in-Exists : goal.read-read-requires-in-Exists
read-read-requires-in-Exists t c =
    let formed : form c.args.formula.now ≡ exists c.in-Exists.column.sort (name c.in-Exists.column.name) (form c.deref-in-Exists.result.now) = search (rules, the_lemmas, fold-roll-Formula, fold_out-Formula) in
    (search (rules, the_lemmas), exists_as c.args.scope.now _ c.args.next.now _ (form c.args.formula.now) _ c.in-Exists.column.sort (name c.in-Exists.column.name) formed c.in_ok-slot-in-Exists.ensures.scope c.in_ok-slot-in-Exists.ensures.next c.requires)

pub read-read-requires-in-Forall : goal.read-read-requires-in-Forall
read-read-requires-in-Forall t c =
    let formed : form c.args.formula.now ≡ forall c.in-Forall.column.sort (name c.in-Forall.column.name) (form c.deref-in-Forall.result.now) = search (rules, the_lemmas, fold-roll-Formula, fold_out-Formula) in
    (search (rules, the_lemmas), forall_as c.args.scope.now _ c.args.next.now _ (form c.args.formula.now) _ c.in-Forall.column.sort (name c.in-Forall.column.name) formed c.in_ok-slot-in-Forall.ensures.scope c.in_ok-slot-in-Forall.ensures.next c.requires)

pub read_all-loop-part-preserved : goal.read_all-loop-part-preserved
read_all-loop-part-preserved t c = record {
  scope = c.in_ok-read.ensures.scope ∙ c.loop-part.invariant.scope;
  done = gathering_step c.loop-part.scope c.read.new.scope c.args.next.now c.deref-part-items.result.now c.loop-part.next c.read.new.next c.loop-part.part-index c.part-item.result c.loop-part.goals.items _ _
      c.loop-part-test.true c.part-item.is c.in_ok-read.ensures.scope c.in_ok-read.ensures.goal c.in_ok-read.ensures.next c.in_ok-push.ensures.items c.loop-part.invariant.done;
}

pub read_all-returns-clause-goals : goal.read_all-returns-clause-goals
read_all-returns-clause-goals t c =
    let fs = c.deref-part-items.result.now in
    let end : drop c.loop-part.part-index fs ≡ [] = drop_of_length-le fs c.loop-part-test.false in
    gathering_goals c.loop-part.scope c.args.next.now (forms fs) c.loop-part.next (map goal_form c.loop-part.goals.items)
    (subst (λ l. Gathering c.loop-part.scope c.args.next.now (forms fs) c.loop-part.next (forms l) (map goal_form c.loop-part.goals.items)) end c.loop-part.invariant.done)
    ∙ ap₂ (λ s l. goals_below s c.args.next.now (forms l)) c.loop-part.invariant.scope c.deref-part-items.ensures.value
