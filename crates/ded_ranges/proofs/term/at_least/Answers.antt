use Rattle.std.proofs.Common.{rules, ◌≡◌, true, SFits}
use Rattle.std.specs.Prelude.{ℤ, ℕ, pos, neg_ℤ, ◌+ℤ◌, ◌*ℤ◌, ◌≤ℤ◌}
use Rattle.std.specs.Int.{w128}
use Rattle.std.proofs.lemmas.Int.{to_z-of_z}
use Rattle.ded_ranges.specs.declared.reach.Range.{Range}
use Rattle.ded_ranges.specs.Boxes.{overlap, least_with}
use Rattle.ded_ranges.specs.Limits.{at_most_zero}
use Rattle.ded_ranges.specs.Reaches.{IsIn}
use Rattle.ded_ranges.proofs.Around.{negatives_around}
use Rattle.ded_ranges.proofs.Terms.{negatives_at_most}
use Rattle.ded_ranges.proofs.term.at_least.Goals as goal

pub returns-in-Some-Some-clause-values : goal.returns-in-Some-Some-clause-values
returns-in-Some-Some-clause-values c =
    let a : c.in-Some-Some.a ≡ neg_ℤ c.args.a = search rules in
    let k : c.in-Some-Some.constant ≡ neg_ℤ c.args.constant = search rules in
    let fits_a : SFits w128 c.in-Some-Some.a = search rules in
    let fits_k : SFits w128 c.in-Some-Some.constant = search rules in
    let own : (num : ℤ) (den : ℕ) → (c.in-Some-Some.a *ℤ num +ℤ c.in-Some-Some.constant *ℤ pos den) ≤ℤ pos 0 → IsIn c.at_most.result num den = simp to_z-of_z at c.at_most.ensures.values in
    λ n d h. own n d (negatives_at_most c.args.a c.args.constant c.in-Some-Some.a c.in-Some-Some.constant n (pos d) a k h)

pub returns-in-Some-Some-clause-around : goal.returns-in-Some-Some-clause-around
returns-in-Some-Some-clause-around c =
    let a : c.in-Some-Some.a ≡ neg_ℤ c.args.a = search rules in
    let k : c.in-Some-Some.constant ≡ neg_ℤ c.args.constant = search rules in
    let fits_a : SFits w128 c.in-Some-Some.a = search rules in
    let fits_k : SFits w128 c.in-Some-Some.constant = search rules in
    let own : (r : Range) → at_most_zero (least_with c.in-Some-Some.a c.in-Some-Some.constant r) ≡ true → overlap c.at_most.result r ≡ true = simp to_z-of_z at c.at_most.ensures.around in
    λ r h. own r (negatives_around c.args.a c.args.constant c.in-Some-Some.a c.in-Some-Some.constant r a k h)
