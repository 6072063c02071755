use Rattle.std.proofs.Common.{subst, rules}
use Rattle.std.specs.Prelude.{IfOk}
use Rattle.std.proofs.lemmas.Result.{IfOk-weaker}
use Rattle.ded_atoms.specs.Kept.{IsSiftedPart, IsReducedPart}
use Rattle.ded_atoms.proofs.OrderTuples.{sifted_then, left_slots, left_lines}
use Rattle.ded_atoms.proofs.reduction.reduce_answer.Goals as goal
use Rattle.ded_atoms.proofs.reduction.reduce_answer.Goals.{After-sifted_again}

of_rows : (c : After-sifted_again) → IfOk c.sifted_again.result (λ r. IsReducedPart c.args.tuple.now r)
of_rows c =
    IfOk-weaker c.sifted_again.result (λ r. IsReducedPart c.in-Some-2.left r) _
    (λ r k. sifted_then c.args.tuple.now c.in-Some-2.left r (subst (IsSiftedPart c.args.tuple.now) c.in-Some-2.is c.in_ok-left.ensures) k) c.sifted_again.ensures

pub returns-in-Some-clause-part : goal.returns-in-Some-clause-part
returns-in-Some-clause-part c = let part : IfOk c.sifted_orders.result (λ r. IsReducedPart c.args.tuple.now r) = search rules in part

pub returns-in-Some-clause-slots : goal.returns-in-Some-clause-slots
returns-in-Some-clause-slots c =
    let part : IfOk c.sifted_orders.result (λ r. IsReducedPart c.args.tuple.now r) = search rules in
    IfOk-weaker c.sifted_orders.result (λ r. IsReducedPart c.args.tuple.now r) _ (λ r k. left_slots c.args.tuple.now r k) part

pub returns-in-Some-clause-lines : goal.returns-in-Some-clause-lines
returns-in-Some-clause-lines c =
    let part : IfOk c.sifted_orders.result (λ r. IsReducedPart c.args.tuple.now r) = search rules in
    IfOk-weaker c.sifted_orders.result (λ r. IsReducedPart c.args.tuple.now r) _ (λ r k. left_lines c.args.tuple.now r k) part

pub returns-in-Some-2-clause-part : goal.returns-in-Some-2-clause-part
returns-in-Some-2-clause-part c = of_rows c

pub returns-in-Some-2-clause-slots : goal.returns-in-Some-2-clause-slots
returns-in-Some-2-clause-slots c = IfOk-weaker c.sifted_again.result (λ r. IsReducedPart c.args.tuple.now r) _ (λ r k. left_slots c.args.tuple.now r k) (of_rows c)

pub returns-in-Some-2-clause-lines : goal.returns-in-Some-2-clause-lines
returns-in-Some-2-clause-lines c = IfOk-weaker c.sifted_again.result (λ r. IsReducedPart c.args.tuple.now r) _ (λ r k. left_lines c.args.tuple.now r k) (of_rows c)
