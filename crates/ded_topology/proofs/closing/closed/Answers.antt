use Rattle.std.proofs.Common.{◌≡◌, [], Err, sym, ap, subst}
use Rattle.std.specs.List.{AllByRecursion}
use Rattle.std.proofs.lemmas.Result.{err_from_is_err_and}
use Rattle.ded_model.specs.declared.memory.Refused.TheVariants.{Wide}
use Rattle.ded_model.specs.Lines.{row_lines}
use Rattle.ded_model.specs.Normal.{IsNormalTheme}
use Rattle.ded_model.specs.Row.{row_mentions, theme_mentions}
use Rattle.ded_theory.specs.Both.{by_kind, IsByKind}
use Rattle.ded_elimination.specs.LinearAtoms.{IsLinearAtom}
use Rattle.ded_theory.specs.Conjunctions.{IsWide}
use Rattle.ded_genrel.specs.Lists.{SomeConj}
use Rattle.ded_genrel.proofs.Items.{normal-at}
use Rattle.ded_topology.proofs.Closed.{some_at}
use Rattle.ded_topology.proofs.closing.closed.Goals as goal

pub push_closed-requires : goal.push_closed-requires
push_closed-requires c =
    subst (AllByRecursion (IsByKind IsLinearAtom IsNormalTheme)) (sym c.deref.ensures.value)
    (normal-at (IsByKind IsLinearAtom IsNormalTheme) c.list-conj-items.result.now c.loop-conj.conj-index c.conj-item.result c.loop-conj-test.true c.conj-item.is c.list-conj-items.ensures.normal)

pub returns-in_err-push_closed-clause-wide : goal.returns-in_err-push_closed-clause-wide
returns-in_err-push_closed-clause-wide c = λ e.
    let p = err_from_is_err_and c.from_residual.result c.from_residual.ensures.1 in
    let is : c.in_err-push_closed.field-0.0 ≡ Wide = cc (p.1, p.2, e) in
    subst (SomeConj (IsWide (by_kind row_mentions theme_mentions) (by_kind row_lines (λ a. [])))) c.list-conj-items.ensures.list
    (some_at (IsWide (by_kind row_mentions theme_mentions) (by_kind row_lines (λ a. []))) c.list-conj-items.result.now c.loop-conj.conj-index c.conj-item.result c.loop-conj-test.true c.conj-item.is
    (subst (IsWide (by_kind row_mentions theme_mentions) (by_kind row_lines (λ a. []))) c.deref.ensures.value (c.in_err-push_closed.ensures.wide (ap Err is))))
