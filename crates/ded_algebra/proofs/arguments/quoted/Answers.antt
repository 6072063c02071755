use Rattle.std.proofs.Common.{sym, subst}
use Rattle.ded_model.specs.Point.{AllBytes}
use Rattle.ded_model.proofs.Given.{all_bytes}
use Rattle.ded_algebra.proofs.arguments.quoted.Goals as goal

pub returns-clause-bytes : goal.returns-clause-bytes
returns-clause-bytes c = subst AllBytes (sym c.in_ok-from_slice.ensures.items) (all_bytes c.args.bytes.now c.type_inv.bytes)
