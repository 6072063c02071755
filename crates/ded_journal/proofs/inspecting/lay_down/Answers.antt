use Rattle.std.proofs.lemmas.Result.{err_from_is_err_and}
use Rattle.sqlite_trees.specs.View.{IsClean}
use Rattle.ded_journal.proofs.Found.{table_excused}
use Rattle.std.proofs.Common.{arith}
use Rattle.ded_journal.proofs.inspecting.lay_down.Goals as goal

pub returns-in_err-create-clause-cause : goal.returns-in_err-create-clause-cause
returns-in_err-create-clause-cause g c clean =
    let p = err_from_is_err_and c.from_residual.result c.from_residual.ensures.1 in
    let old = g.S.Store.view c.args.store.now in
    let was : IsClean old = omega (arith, c.create.ensures.quiet.clean) in
    rw (p.1, p.2) (table_excused old _ c.in_err-create.field-0.0 (c.requires.fresh was).sound (c.requires.nothing was).unlisted (c.in_err-create.ensures.cause clean))
