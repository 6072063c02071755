use Rattle.std.proofs.Common.{SFits, ◌≡◌, ◌∙◌, rules, sym, ap, ap₂}
use Rattle.std.specs.Prelude.{◌*ℤ◌, ◌*◌, unsigned_abs}
use Rattle.std.specs.Ordering.{int_cmp, nat_cmp, ordering_then, is_ne}
use Rattle.std.specs.Int.{w128}
use Rattle.std.proofs.lemmas.Int.{to_z-of_z}
use Rattle.ded_num.proofs.Fractions.{int_cmp-divided, then-decided, then-equal}
use Rattle.ded_num.proofs.fraction.cmp_by_parts.Goals as goal
use Rattle.ded_num.proofs.fraction.cmp_by_parts.Goals.{After-cmp}

-- what the whole parts and the rests say
found : (c : After-cmp) → ordering_then c.cmp.result (nat_cmp (c.whole_and_rest-whole1.result.1 * unsigned_abs c.args.d2) (c.whole_and_rest-whole2.result.1 * unsigned_abs c.args.d1)) ≡ int_cmp (c.args.n1 *ℤ c.args.d2) (c.args.n2 *ℤ c.args.d1)
found c =
    let n1 : SFits w128 c.args.n1 = c.ranges.n1 in
    let d1 : SFits w128 c.args.d1 = c.ranges.d1 in
    let n2 : SFits w128 c.args.n2 = c.ranges.n2 in
    let d2 : SFits w128 c.args.d2 = c.ranges.d2 in
    let whole1 : SFits w128 c.whole_and_rest-whole1.result.0 = search rules in
    let whole2 : SFits w128 c.whole_and_rest-whole2.result.0 = search rules in
    let by_whole = simp to_z-of_z at c.cmp.ensures in
    let one = c.whole_and_rest-whole1.ensures in
    let two = c.whole_and_rest-whole2.ensures in
    let of_fractions = int_cmp-divided c.args.n1 c.args.d1 c.args.n2 c.args.d2 _ _ _ _ (simp to_z-of_z at one.value) (simp to_z-of_z at one.proper) (simp to_z-of_z at two.value) (simp to_z-of_z at two.proper) in
    rw by_whole of_fractions

pub returns-in-Equal : goal.returns-in-Equal
returns-in-Equal c =
    let d1 : SFits w128 c.args.d1 = c.ranges.d1 in
    let d2 : SFits w128 c.args.d2 = c.ranges.d2 in
    let of_d1 = simp to_z-of_z at c.unsigned_abs.ensures.value in
    let of_d2 = simp to_z-of_z at c.unsigned_abs-in-Equal.ensures.value in
    c.cmp_natural.ensures
    ∙ ap₂ (λ m n. nat_cmp (c.whole_and_rest-whole1.result.1 * m) (c.whole_and_rest-whole2.result.1 * n)) of_d2 of_d1
    ∙ then-equal c.cmp.result _ (sym (ap is_ne c.in-Equal.is)) ∙ found (goal.at.returns-in-Equal c).After-cmp

pub returns-in_default : goal.returns-in_default
returns-in_default c = then-decided c.cmp.result _ c.in_default.not-Equal ∙ found (goal.at.returns-in_default c).After-cmp
