use Rattle.std.proofs.Common.{◌∙◌, ap₂, sym}
use Rattle.ded_index.specs.Orders.{fraction_order}
use Rattle.ded_index.proofs.Orders.{sound_fraction_is}
use Rattle.ded_index.proofs.entry.fraction_order.Goals as goal

pub returns : goal.returns
returns c = c.compare.ensures.value ∙ sym (ap₂ fraction_order (sound_fraction_is c.args.f c.compare.ensures.first) (sound_fraction_is c.args.g c.compare.ensures.second))
