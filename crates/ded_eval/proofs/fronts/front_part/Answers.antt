use Rattle.ded_algebra.specs.Evaluation.{IsScannable}
use Rattle.ded_eval.proofs.Parts.{part_atoms}
use Rattle.ded_eval.proofs.fronts.front_part.Goals as goal

pub near_count-requires : goal.near_count-requires
near_count-requires g c =
    part_atoms (IsScannable g.T.OfTuples.reads (g.R.Relations.catalogue c.args.relations.now)) c.args.parts.now.items c.in-Some.first c.index.result.now c.in-Some.ensures.0 c.index.ensures c.requires

pub near_count-requires-2 : goal.near_count-requires-2
near_count-requires-2 g c =
    part_atoms (IsScannable g.T.OfTuples.reads (g.R.Relations.catalogue c.args.relations.now)) c.args.parts.now.items c.in-Some.second c.index-2.result.now c.in-Some.ensures.1 c.index-2.ensures c.requires
