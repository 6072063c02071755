use Rattle.std.proofs.lemmas.Bool.{and_parts, and_from}
use Rattle.ded_journal.proofs.laws.reopen_closed.Goals as goal

pub returns-in-Ok-open_list : goal.returns-in-Ok-open_list
returns-in-Ok-open_list g c honest =
    let found = c.in-Ok-open_list.ensures honest in
    let later = and_parts _ _ found.honest in
    let moved = c.in-Ok.ensures.moved (and_from _ _ (c.crash.ensures.clean later.0) (c.crash-2.ensures.clean later.1)) in
    (found.finds c.args.journal.committed (moved.left _ (c.crash.ensures.left, c.crash-2.ensures.left)).both).0
