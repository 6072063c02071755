-- The first multiple is less than a step above the number.
use Rattle.ded_ticks.proofs.Steps.{product_read}
use Rattle.ded_ticks.proofs.step.first_multiple.Goals as goal

pub product-requires : goal.product-requires
product-requires c =
    product_read c.args.low c.args.step c.ceiling.result c.requires.low c.requires.step c.requires.positive (record { sfits = c.ceiling.type_inv }) c.ceiling.ensures
