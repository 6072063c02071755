use Rattle.std.proofs.Common.{drop}
use Rattle.ded_catalog.proofs.Gathering.{IsUnderWay}
use Rattle.ded_catalog.proofs.mentions.+gathering.Given as goal

abbrev pub invariant-gather_each-loop-part : goal.invariant-gather_each-loop-part
invariant-gather_each-loop-part l =
    IsUnderWay l.part-items (drop l.part-index l.part-items) l.initial.names.keys l.names.keys
