use Rattle.ded_runs.proofs.Ordering.{short_views}
use Rattle.ded_runs.proofs.Reading.{read_step, read_steps, read_run}
use Rattle.ded_runs.proofs.laws.read_catalogues.Goals as goal

pub returns-clause-step : goal.returns-clause-step
returns-clause-step c = read_step c.read_words.ensures.inserts

pub returns-clause-steps : goal.returns-clause-steps
returns-clause-steps c = read_steps c.read_words.ensures.inserts

pub returns-clause-run : goal.returns-clause-run
returns-clause-run c = read_run c.read_words.ensures.inserts

pub returns-clause-short : goal.returns-clause-short
returns-clause-short g = λ c. short_views c.entries
