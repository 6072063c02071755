use Rattle.std.proofs.Common.{SFits, ap, ◌∙◌, arith}
use Rattle.std.specs.Prelude.{unsigned_abs}
use Rattle.std.specs.Int.{w128}
use Rattle.std.proofs.lemmas.Int.{ints, to_z-of_z}
use Rattle.ded_packed.proofs.Numbers.{place_below, place_above}
use Rattle.ded_packed.proofs.stack.place_of_whole.Goals as goal

pub returns-then-number-lt0 : goal.returns-then-number-lt0
returns-then-number-lt0 c =
    let fits : SFits w128 c.args.number = c.ranges.number in
    place_below c.args.number c.unsigned_abs-twice.result (omega (arith, ints, c.if-number-lt0.true)) (c.unsigned_abs-twice.ensures.value ∙ ap unsigned_abs (to_z-of_z w128 c.args.number fits))

pub returns-else-number-lt0 : goal.returns-else-number-lt0
returns-else-number-lt0 c =
    let fits : SFits w128 c.args.number = c.ranges.number in
    place_above c.args.number c.unsigned_abs-twice.result (omega (arith, ints, c.if-number-lt0.false)) (c.unsigned_abs-twice.ensures.value ∙ ap unsigned_abs (to_z-of_z w128 c.args.number fits))
