use Rattle.std.proofs.Common.{◌∙◌, subst}
use Rattle.std.proofs.lemmas.Result.{IfOk-weaker}
use Rattle.ded_model.specs.Normal.{IsNormalTuple}
use Rattle.ded_model.specs.Sublists.{IsSublist}
use Rattle.ded_model.proofs.Sublists.{sublist_all}
use Rattle.ded_atoms.specs.Kept.{IsReducedTuple, IsReducedOrder, AreReducedParts}
use Rattle.ded_atoms.proofs.TupleParts.{parts_slots, parts_lines, sublist_parts}
use Rattle.ded_atoms.proofs.Reducing.{parts_distinct}
use Rattle.ded_atoms.proofs.reduction.reduced.Goals as goal
use Rattle.ded_atoms.proofs.reduction.reduced.Goals.{Then-all_have_own_slots}

own_parts : (c : Then-all_have_own_slots) → AreReducedParts c.in_ok-first.first c.in_ok-first.first
own_parts c = subst (λ ts. AreReducedParts ts ts) (c.deref.ensures.value ∙ c.first.view_is) (c.all_have_own_slots.ensures c.if-all_have_own_slots.true)

pub returns-then-all_have_own_slots-clause-kept : goal.returns-then-all_have_own_slots-clause-kept
returns-then-all_have_own_slots-clause-kept c = sublist_parts c.in_ok-first.first c.args.tuples c.in_ok-first.ensures.kept

pub returns-then-all_have_own_slots-clause-normal : goal.returns-then-all_have_own_slots-clause-normal
returns-then-all_have_own_slots-clause-normal c = (own_parts c).normal

pub returns-then-all_have_own_slots-clause-reduced : goal.returns-then-all_have_own_slots-clause-reduced
returns-then-all_have_own_slots-clause-reduced c = (own_parts c).reduced

pub returns-then-all_have_own_slots-clause-orders : goal.returns-then-all_have_own_slots-clause-orders
returns-then-all_have_own_slots-clause-orders c = (own_parts c).orders

pub returns-clause-kept : goal.returns-clause-kept
returns-clause-kept c =
    IfOk-weaker c.distinct_tuples-2.result (λ ts. IsSublist ts c.in_ok-each_reduced.field-0) _
    (λ ts z. parts_distinct c.args.tuples c.in_ok-first.first c.in_ok-each_reduced.field-0 ts c.in_ok-first.ensures.kept c.in_ok-each_reduced.ensures.parts z) c.distinct_tuples-2.ensures.kept

pub returns-clause-slots : goal.returns-clause-slots
returns-clause-slots c =
    IfOk-weaker c.distinct_tuples-2.result (λ ts. IsSublist ts c.in_ok-each_reduced.field-0) _
    (λ ts z. parts_slots ts c.args.tuples (parts_distinct c.args.tuples c.in_ok-first.first c.in_ok-each_reduced.field-0 ts c.in_ok-first.ensures.kept c.in_ok-each_reduced.ensures.parts z)) c.distinct_tuples-2.ensures.kept

pub returns-clause-lines : goal.returns-clause-lines
returns-clause-lines c =
    IfOk-weaker c.distinct_tuples-2.result (λ ts. IsSublist ts c.in_ok-each_reduced.field-0) _
    (λ ts z. parts_lines ts c.args.tuples (parts_distinct c.args.tuples c.in_ok-first.first c.in_ok-each_reduced.field-0 ts c.in_ok-first.ensures.kept c.in_ok-each_reduced.ensures.parts z)) c.distinct_tuples-2.ensures.kept

pub returns-clause-normal : goal.returns-clause-normal
returns-clause-normal c =
    IfOk-weaker c.distinct_tuples-2.result (λ ts. IsSublist ts c.in_ok-each_reduced.field-0) _
    (λ ts z. sublist_all _ IsNormalTuple ts c.in_ok-each_reduced.field-0 z c.in_ok-each_reduced.ensures.normal) c.distinct_tuples-2.ensures.kept

pub returns-clause-reduced : goal.returns-clause-reduced
returns-clause-reduced c =
    IfOk-weaker c.distinct_tuples-2.result (λ ts. IsSublist ts c.in_ok-each_reduced.field-0) _
    (λ ts z. sublist_all _ IsReducedTuple ts c.in_ok-each_reduced.field-0 z c.in_ok-each_reduced.ensures.reduced) c.distinct_tuples-2.ensures.kept

pub returns-clause-orders : goal.returns-clause-orders
returns-clause-orders c =
    IfOk-weaker c.distinct_tuples-2.result (λ ts. IsSublist ts c.in_ok-each_reduced.field-0) _
    (λ ts z. sublist_all _ IsReducedOrder ts c.in_ok-each_reduced.field-0 z c.in_ok-each_reduced.ensures.orders) c.distinct_tuples-2.ensures.kept
