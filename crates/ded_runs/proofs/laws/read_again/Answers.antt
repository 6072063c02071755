use Rattle.ded_runs.proofs.Inserts.{few_after}
use Rattle.ded_runs.proofs.Steps.{again_whole, again_read}
use Rattle.ded_runs.proofs.laws.read_again.Goals as goal

pub returns-clause-run_whole : goal.returns-clause-run_whole
returns-clause-run_whole g = λ limit script replies c run language n m es piece h.
    again_whole language c n m es piece (g.formed_catalogues.ensures.run limit script replies c run) (few_after g.formed_catalogues.ensures.step limit script replies c run) h

pub returns-clause-run_read : goal.returns-clause-run_read
returns-clause-run_read g = λ limit script replies c run language other n m es piece h.
    again_read language c n m es piece (g.formed_catalogues.ensures.run limit script replies c run) (few_after g.formed_catalogues.ensures.step limit script replies c run) h other

pub returns-clause-whole : goal.returns-clause-whole
returns-clause-whole g = again_whole

pub returns-clause-read : goal.returns-clause-read
returns-clause-read g = λ language other c n m es piece formed few h. again_read language c n m es piece formed few h other
