use Rattle.ded_runs.proofs.OneRun.{Keeping, one_steps, one_run}
use Rattle.ded_runs.proofs.laws.one_run.Goals as goal
use Rattle.ded_runs.proofs.laws.one_run.Goals.{After-tuple_lengths}

keeping : After-tuple_lengths → Keeping
keeping g = record {
  lengths = record { lines = g.short_lines.ensures.short; rows = g.tuple_lengths.ensures.rows };
  formed = g.formed_catalogues.ensures.step;
  names = g.plain_names.ensures.step;
  read = g.read_catalogues.ensures.step;
}

pub returns-clause-run : goal.returns-clause-run
returns-clause-run g = one_run (keeping g)

pub returns-clause-steps : goal.returns-clause-steps
returns-clause-steps g = λ limit script before c run l ss replies others d e.
    one_steps (keeping g) l c ss replies others d e (record {
      formed = g.formed_catalogues.ensures.run limit script before c run;
      names = g.plain_names.ensures.run limit script before c run;
      read = g.read_catalogues.ensures.run limit script before c run;
    })
