use Rattle.std.proofs.Common.{rules}
use Rattle.ded_cert.proofs.ShortSums.{each_short}
use Rattle.ded_cert.proofs.seeking.by_numbers.Goals as goal

pub invariant_of-result : goal.invariant_of-result
invariant_of-result c = each_short c.args.numbers.items (search rules)
