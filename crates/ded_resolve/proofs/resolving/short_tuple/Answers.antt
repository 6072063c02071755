-- The tuple is that of the comparisons, which has short numbers.
use Rattle.std.proofs.Common.{map}
use Rattle.ded_model.specs.Form.{form}
use Rattle.ded_resolve.proofs.ShortTuples.{short_result}
use Rattle.ded_resolve.proofs.resolving.short_tuple.Goals as goal

pub returns-clause-short : goal.returns-clause-short
returns-clause-short c = short_result c.tuple.result c.args.heading.now (map form c.args.comparisons.now) c.tuple.ensures.value c.requires.ready
