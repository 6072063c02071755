use Rattle.std.proofs.Common.{rules}
use Rattle.std.specs.Prelude.{nat_lt}
use Rattle.std.proofs.lemmas.List.Sorted.{IsPartitionedBy-ltb, IsPartitionPoint-from_clause}
use Rattle.ded_join.proofs.OtherTexts.{rank_of}
use Rattle.ded_join.proofs.texts.count_before.Goals as goal

pub returns-clause-point : goal.returns-clause-point
returns-clause-point c =
    IsPartitionPoint-from_clause (λ e. nat_lt (rank_of c.args.text.now e) 1) c.args.placed.now c.partition_point.result c.partition_point.ensures.partitioned (IsPartitionedBy-ltb (rank_of c.args.text.now) c.args.placed.now 1 c.requires) (λ a r f h. search rules)
