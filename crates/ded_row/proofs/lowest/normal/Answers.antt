use Rattle.std.proofs.Common.{◌≡◌, ◌==◌, true, false, List, length, ap, sym, subst, ◌∙◌, SFits, rules, to_z, of_z}
use Rattle.std.specs.Prelude.{ℤ, int_div}
use Rattle.std.specs.Int.{w128}
use Rattle.std.proofs.lemmas.Int.{to_z-of_z, fits_signed_from_abs}
use Rattle.ded_num.specs.Length.{IsShort}
use Rattle.ded_model.specs.declared.slot.Slot.{Slot}
use Rattle.ded_model.specs.declared.row.RowOp.{RowOp}
use Rattle.ded_model.specs.Constraint.{LinearConstraint}
use Rattle.ded_model.specs.Row.{sign_meets}
use Rattle.ded_model.specs.Normal.{DivideWhole, IsNormalRow, normal_row, divisor_of}
use Rattle.ded_model.proofs.Divisors.{divisor-whole}
use Rattle.ded_row.proofs.Forms.{begins, normal_row-normal, divided_row, truth_row_is, divisor-nonzero}
use Rattle.ded_row.proofs.lowest.normal.Goals as goal
use Rattle.ded_row.proofs.lowest.normal.Goals.{After-truth_row, After-quotient}

-- a short number as the code has it
back : (m : ℤ) → IsShort m → to_z w128 (of_z w128 m) ≡ m
back m h = to_z-of_z w128 m (fits_signed_from_abs w128 m h)

-- the divisor as the code has it
by_is : (op : RowOp) (m k : ℤ) (cs ds : List (Slot × ℤ)) → SFits w128 k → IsShort m → k ≡ divisor_of op (to_z w128 (of_z w128 m)) cs → cs ≡ ds → to_z w128 (of_z w128 k) ≡ divisor_of op m ds
by_is op m k cs ds fits short e f = to_z-of_z w128 k fits ∙ e ∙ rw (back m short, f)

-- ---- a row without coefficients

value_then : (c : After-truth_row) → c.truth_row.result ≡ normal_row c.args.row
value_then c =
    let r : LinearConstraint = record { coefs = c.row.inside.coefs; constant = c.row.inside.constant; op = c.row.inside.op } in
    let none : (length r.coefs == 0) ≡ true = ap (λ (cs : List (Slot × ℤ)). length cs == 0) (sym c.list.ensures.value) ∙ sym c.if-is_empty.ensures in
    let test : c.meets_zero.result ≡ sign_meets r.op r.constant = c.meets_zero.ensures ∙ ap (sign_meets r.op) (back r.constant c.row.invariant) in
    c.truth_row.ensures ∙ truth_row_is r c.meets_zero.result none test ∙ ap normal_row c.row.view_is

pub returns-then-is_empty-clause-value : goal.returns-then-is_empty-clause-value
returns-then-is_empty-clause-value c = value_then c

pub returns-then-is_empty-clause-normal : goal.returns-then-is_empty-clause-normal
returns-then-is_empty-clause-normal c =
    let r : LinearConstraint = record { coefs = c.row.inside.coefs; constant = c.row.inside.constant; op = c.row.inside.op } in
    subst IsNormalRow (ap normal_row c.row.view_is ∙ sym (value_then c)) (normal_row-normal r (begins r.coefs c.list.ensures.coefs))

-- ---- a row with coefficients

pub divide-requires-clause-nonzero : goal.divide-requires-clause-nonzero
divide-requires-clause-nonzero c =
    let fits : SFits w128 c.divisor-by.result = search rules in
    let is = by_is c.row.inside.op c.row.inside.constant c.divisor-by.result c.list-2.result.now c.row.inside.coefs fits c.row.invariant c.divisor-by.ensures c.list-2.ensures.value in
    λ e. divisor-nonzero c.row.inside.op c.row.inside.constant c.row.inside.coefs c.list.ensures.coefs (sym is ∙ e)

pub divide-requires-clause-whole : goal.divide-requires-clause-whole
divide-requires-clause-whole c =
    let fits : SFits w128 c.divisor-by.result = search rules in
    let is = by_is c.row.inside.op c.row.inside.constant c.divisor-by.result c.list-2.result.now c.row.inside.coefs fits c.row.invariant c.divisor-by.ensures c.list-2.ensures.value in
    subst (λ k. DivideWhole k c.row.inside.coefs) (sym is) (divisor-whole c.row.inside.op c.row.inside.constant c.row.inside.coefs)

pub quotient-requires-clause-nonzero : goal.quotient-requires-clause-nonzero
quotient-requires-clause-nonzero c =
    let fits : SFits w128 c.divisor-by.result = search rules in
    let is = by_is c.row.inside.op c.row.inside.constant c.divisor-by.result c.list-2.result.now c.row.inside.coefs fits c.row.invariant c.divisor-by.ensures c.list-2.ensures.value in
    λ e. divisor-nonzero c.row.inside.op c.row.inside.constant c.row.inside.coefs c.list.ensures.coefs (sym is ∙ e)

-- the divided row is the normal one
value_else : (c : After-quotient) → ◌≡◌ {A = LinearConstraint} (record { coefs = c.divide.new.self; constant = to_z w128 (of_z w128 c.quotient.result); op = c.row.inside.op }) (normal_row c.args.row)
value_else c =
    let r : LinearConstraint = record { coefs = c.row.inside.coefs; constant = c.row.inside.constant; op = c.row.inside.op } in
    let fits : SFits w128 c.divisor-by.result = search rules in
    let fits_q : SFits w128 c.quotient.result = search rules in
    let is = by_is r.op r.constant c.divisor-by.result c.list-2.result.now r.coefs fits c.row.invariant c.divisor-by.ensures c.list-2.ensures.value in
    let some : (length r.coefs == 0) ≡ false = ap (λ (cs : List (Slot × ℤ)). length cs == 0) (sym c.list.ensures.value) ∙ sym c.if-is_empty.ensures in
    let q : to_z w128 (of_z w128 c.quotient.result) ≡ int_div r.constant (to_z w128 (of_z w128 c.divisor-by.result)) =
    to_z-of_z w128 c.quotient.result fits_q ∙ c.quotient.ensures ∙ ap (λ z. int_div z (to_z w128 (of_z w128 c.divisor-by.result))) (back r.constant c.row.invariant) in
    divided_row r c.divide.new.self (to_z w128 (of_z w128 c.divisor-by.result)) _ some is c.divide.ensures q ∙ ap normal_row c.row.view_is

pub returns-clause-value : goal.returns-clause-value
returns-clause-value c = value_else c

pub returns-clause-normal : goal.returns-clause-normal
returns-clause-normal c =
    let r : LinearConstraint = record { coefs = c.row.inside.coefs; constant = c.row.inside.constant; op = c.row.inside.op } in
    subst IsNormalRow (ap normal_row c.row.view_is ∙ sym (value_else c)) (normal_row-normal r (begins r.coefs c.list.ensures.coefs))
