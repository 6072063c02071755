use Rattle.std.proofs.Common.{rules}
use Rattle.std.specs.Prelude.{nat_le}
use Rattle.std.proofs.lemmas.List.Sorted.{IsPartitionedBy-leb, IsPartitionPoint-from_clause}
use Rattle.ded_complement.proofs.SameText.{rank_of}
use Rattle.ded_complement.proofs.keys.count_up_to.Goals as goal

pub returns-clause-point : goal.returns-clause-point
returns-clause-point g c =
    IsPartitionPoint-from_clause (λ e. nat_le (rank_of c.args.text.now e) 1) c.args.keyed.now c.partition_point.result c.partition_point.ensures.partitioned (IsPartitionedBy-leb (rank_of c.args.text.now) c.args.keyed.now 1 c.requires) (λ a r f h. search rules)
