use Rattle.ded_topology.proofs.Normals.{part_reduced}
use Rattle.ded_topology.proofs.tuples.normal_tuples.Goals as goal

pub returns : goal.returns
returns c = part_reduced c.args.list c.in_ok-tuples.field-0 c.reduced.result c.in_ok-tuples.ensures c.reduced.ensures.holds c.reduced.ensures.slots c.reduced.ensures.lines c.reduced.ensures.normal
