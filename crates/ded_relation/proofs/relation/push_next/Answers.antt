use Rattle.std.proofs.Common.{◌+◌, ◌<◌, ◌++◌, ◌∷◌, [], List, ap, ◌∙◌, arith}
use Rattle.ded_model.specs.Row.{Atom}
use Rattle.ded_relation.proofs.Indexed.{free_above}
use Rattle.ded_relation.proofs.Indexing.{index_pushed, index_undone, index_taken_back}
use Rattle.ded_relation.proofs.Numbers.{put_last}
use Rattle.ded_relation.proofs.relation.push_next.Goals as goal

pub returns-in_err-insert-clause-index : goal.returns-in_err-insert-clause-index
returns-in_err-insert-clause-index c =
    let above : c.args.last < c.args.last + 1 = omega arith in
    index_undone c.args.heading.now c.args.index.now c.insert.new.self (c.args.last + 1) c.args.tuples.now.entries (free_above c.args.last (c.args.last + 1) c.args.tuples.now.entries above c.requires.numbers) c.requires.index c.in_err-insert.ensures.undone

pub returns-in-Ok-clause-pushed : goal.returns-in-Ok-clause-pushed
returns-in-Ok-clause-pushed c = c.in-Ok.ensures.entries ∙ put_last c.args.last (c.args.last + 1) c.in_ok-packed.packed c.args.tuples.now.entries (omega arith) c.requires.numbers
    ∙ ap (λ (t : List Atom). c.args.tuples.now.entries ++ (c.args.last + 1, t) ∷ []) c.in_ok-packed.ensures

pub returns-in-Ok-clause-index : goal.returns-in-Ok-clause-index
returns-in-Ok-clause-index c =
    let above : c.args.last < c.args.last + 1 = omega arith in
    index_pushed c.args.heading.now c.args.index.now c.insert.new.self (c.args.last + 1) c.args.tuple.now c.args.tuples.now.entries c.insert-2.new.self.entries (free_above c.args.last (c.args.last + 1) c.args.tuples.now.entries above c.requires.numbers) c.requires.index c.in_ok-insert.ensures.indexed (returns-in-Ok-clause-pushed c)

pub returns-clause-index : goal.returns-clause-index
returns-clause-index c =
    let above : c.args.last < c.args.last + 1 = omega arith in
    index_taken_back c.args.heading.now c.args.index.now c.insert.new.self c.remove.new.self (c.args.last + 1) c.args.tuple.now c.args.tuples.now.entries c.insert-2.new.self.entries (free_above c.args.last (c.args.last + 1) c.args.tuples.now.entries above c.requires.numbers) c.in-Err.ensures.err c.requires.index c.in_ok-insert.ensures.indexed c.remove.ensures
