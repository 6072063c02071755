use mathlib.Core.Path.{ap, sym}
use mathlib.Core.Bool.{true≢false}
use Rattle.std.proofs.Common.{int_eq}
use Rattle.std.specs.Cmp.{first_so, second_so, signed_Decides}
use Rattle.ded_model.specs.declared.tuple.BothAtom.TheVariants.{First, Second}
use Rattle.ded_model.proofs.Sameness.{lists_same}
use Rattle.ded_model.proofs.laws.sameness.equal_tuples.Goals as goal

pub returns-clause-rows : goal.returns-clause-rows
returns-clause-rows c r q h =
    let coefs = lists_same (λ x y g i. (c.equal_parts.ensures.slots x.0 y.0 (first_so _ (int_eq x.1 y.1) g) i, (signed_Decides x.1 y.1).0 (second_so _ (int_eq x.1 y.1) g) i)) r.coefs q.coefs (first_so _ _ h) in
    let constant = (signed_Decides r.constant q.constant).0 (first_so _ _ (second_so _ _ h)) in
    let op = c.equal_parts.ensures.ops r.op q.op (second_so (int_eq r.constant q.constant) _ (second_so _ _ h)) in
    λ i. record { coefs = coefs i; constant = constant i; op = op i }

pub returns-clause-atoms : goal.returns-clause-atoms
returns-clause-atoms c (First r) (First q) h = ap First (returns-clause-rows c r q h)
returns-clause-atoms c (First r) (Second b) h = absurd (true≢false (sym h))
returns-clause-atoms c (Second a) (First q) h = absurd (true≢false (sym h))
returns-clause-atoms c (Second a) (Second b) h = ap Second (c.equal_parts.ensures.text_atoms a b h)

pub returns-clause-tuples : goal.returns-clause-tuples
returns-clause-tuples c = lists_same (returns-clause-atoms c)
