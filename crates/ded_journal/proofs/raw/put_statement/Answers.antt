use Rattle.std.proofs.Common.{arith, inl}
use Rattle.std.proofs.lemmas.Result.{IfErr-weaker}
use Rattle.sqlite_exec.proofs.WriteLemmas.{cause_weaker}
use Rattle.ded_journal.proofs.Kept.{too_long_from}
use Rattle.ded_journal.proofs.raw.put_statement.Goals as goal

pub returns-clause-cause : goal.returns-clause-cause
returns-clause-cause g c clean =
    IfErr-weaker c.put.result _ _ (λ e. cause_weaker (g.S.Store.view c.args.store.now) _ _ _ e (λ refused. inl (too_long_from c.args.number c.args.text.now _ (c.requires.reals (omega (arith, c.put.ensures.quiet.clean))) (rw c.in_ok-lay.ensures at refused)))) (c.put.ensures.cause clean)
