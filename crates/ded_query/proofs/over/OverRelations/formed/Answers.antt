use Rattle.std.specs.Option.{option_map}
use Rattle.ded_catalog.specs.Snapshots.{snapshot_of}
use Rattle.ded_query.proofs.Standing.{over_given}
use Rattle.ded_query.proofs.over.OverRelations.formed.Goals as goal

pub returns : goal.returns
returns c =
    let o = c.args.self.now in
    over_given (snapshot_of o.snapshot.now) (option_map (λ n. n.now) o.hidden) o.given.now c.formed.ensures c.formed-2.ensures
