use Rattle.std.proofs.Common.{◌≤◌}
use Rattle.std.specs.List.{AllByRecursion}
use Rattle.std.proofs.lemmas.Result.{on_ok_weaker}
use Rattle.ded_model.specs.Entries.{known}
use Rattle.ded_model.specs.Known.{level_with}
use Rattle.ded_model.specs.Made.{base}
use Rattle.ded_catalog.specs.Snapshots.{snapshot_of}
use Rattle.ded_query.proofs.Answered.{names_low}
use Rattle.ded_query.proofs.BelowTried.{below_none}
use Rattle.ded_query.proofs.answering.give_names.Goals as goal

pub give_all-requires-clause-levels : goal.give_all-requires-clause-levels
give_all-requires-clause-levels g c = names_low (snapshot_of c.args.snapshot.now) c.args.names.now c.formed.ensures

pub give_all-requires-clause-below : goal.give_all-requires-clause-below
give_all-requires-clause-below g c =
    let cat = snapshot_of c.args.snapshot.now in
    below_none cat c.args.held.now c.new-tried.result (λ m. AllByRecursion (λ n. level_with (known cat (base n)) ≤ m) c.args.names.now) 16 c.new-tried.ensures (names_low cat c.args.names.now c.formed.ensures)

pub returns-clause-gathered : goal.returns-clause-gathered
returns-clause-gathered g c = on_ok_weaker c.give_all.result (λ k. k.gathered) c.give_all.ensures.gathered
