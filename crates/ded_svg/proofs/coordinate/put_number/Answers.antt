-- The text that the library gives is put.
use Rattle.std.proofs.Common.{◌∙◌, ◌<◌, ◌^◌, arith}
use Rattle.ded_print.proofs.Decimals.{decimal_is}
use Rattle.ded_svg.proofs.coordinate.put_number.Goals as goal

pub returns : goal.returns
returns c =
    let small : c.args.number < 10 ^ 64 = omega (arith, c.ranges.number) in
    rw (c.as_bytes.ensures.value ∙ c.format.ensures.text ∙ decimal_is c.args.number small) at c.put.ensures
