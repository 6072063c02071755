use Rattle.std.proofs.Common.{[], ap, ◌∙◌}
use Rattle.indexmap.specs.IndexSet.{insert_all}
use Rattle.ded_model.specs.contracts.equality.tuples.TupleEq.TheImpl.Laws.{laws-law}
use Rattle.ded_atoms.proofs.Reducing.{distinct_listed}
use Rattle.ded_atoms.proofs.TupleParts.{sublist_parts, parts_slots, parts_lines}
use Rattle.ded_atoms.proofs.repeated.distinct_tuples.Goals as goal

pub returns : goal.returns
returns c =
    let ts = c.in_ok-list.list.items in
    let part = distinct_listed _ laws-law c.equal_tuples.ensures.tuples c.args.tuples ts (c.in_ok-list.ensures.kept ∙ ap (insert_all _ []) c.tuples.view_is) c.in_ok-list.ensures.once in
    let parts = sublist_parts ts c.args.tuples part.kept in
    record {
      holds = part.holds;
      kept = part.kept;
      once = part.once;
      slots = parts_slots ts c.args.tuples parts;
      lines = parts_lines ts c.args.tuples parts;
    }
