-- The text that the library gives is put.
use Rattle.std.proofs.Common.{◌∙◌, ap}
use Rattle.std.specs.Int.{w128}
use Rattle.std.specs.Fmt.{signed_decimal}
use Rattle.std.proofs.lemmas.Int.{to_z-of_z}
use Rattle.ded_print.proofs.Decimals.{signed_is}
use Rattle.ded_print.proofs.number.put_integer.Goals as goal

pub returns : goal.returns
returns g c =
    let text = c.as_bytes.ensures.value ∙ c.format.ensures.text ∙ ap signed_decimal (to_z-of_z w128 c.args.number c.ranges.number) ∙ signed_is c.args.number c.ranges.number in
    rw text at c.put.ensures
