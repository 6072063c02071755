use Rattle.std.proofs.Common.{rules, ◌∙◌, ap, SFits}
use Rattle.std.specs.Int.{w128}
use Rattle.std.proofs.lemmas.Int.{to_z-of_z}
use Rattle.ded_ranges.specs.Limits.{beyond}
use Rattle.ded_ranges.proofs.Numbers.{product_short, product_long}
use Rattle.ded_ranges.proofs.number.product.Goals as goal

pub returns-in-Some : goal.returns-in-Some
returns-in-Some c =
    let a : SFits w128 c.args.a = c.ranges.a in
    let b : SFits w128 c.args.b = c.ranges.b in
    let p : SFits w128 c.in-Some.product = search rules in
    let r : SFits w128 c.directed.result = search rules in
    rw (to_z-of_z w128 c.directed.result r) (product_short c.args.flipped c.args.a c.args.b c.in-Some.product c.directed.result c.short_product.result (simp to_z-of_z at c.short_product.ensures) c.in-Some.is (simp to_z-of_z at c.directed.ensures))

pub returns-in-None : goal.returns-in-None
returns-in-None c =
    let a : SFits w128 c.args.a = c.ranges.a in
    let b : SFits w128 c.args.b = c.ranges.b in
    c.beyond.ensures ∙ ap (λ s. beyond s c.args.flipped) (simp to_z-of_z at c.is_same_sign.ensures) ∙ product_long c.args.flipped c.args.a c.args.b c.short_product.result (simp to_z-of_z at c.short_product.ensures) c.in-None.is
