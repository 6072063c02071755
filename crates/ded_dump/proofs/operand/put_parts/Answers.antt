-- The first name, the others, and the constant.
use Rattle.std.specs.Int.{w128}
use Rattle.std.proofs.lemmas.Int.{to_z-of_z}
use Rattle.ded_dump.proofs.Puts.{sum_put}
use Rattle.ded_dump.proofs.operand.put_parts.Goals as goal

pub returns : goal.returns
returns c =
    sum_put c.put_later_constant.result c.args.text.now c.put_first.new.text c.put_later_products.new.text c.put_later_constant.new.text c.args.parts.now c.in-Some.first.now c.in-Some.later.now c.args.over _ c.args.constant _
    c.in-Some.ensures.cases.0 (to_z-of_z w128 c.args.over c.ranges.over) (to_z-of_z w128 c.args.constant c.ranges.constant)
    c.in_ok-put_first.ensures c.in_ok-put_later_products.ensures c.put_later_constant.ensures
