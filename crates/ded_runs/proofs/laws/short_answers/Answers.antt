use Rattle.ded_runs.proofs.Ordering.{short_views}
use Rattle.ded_runs.proofs.ReadBack.{answer_of}
use Rattle.ded_runs.proofs.ShortAnswers.{short_answers, short_stored}
use Rattle.ded_runs.proofs.laws.short_answers.Goals as goal

pub returns-clause-plain : goal.returns-clause-plain
returns-clause-plain c = λ language k d s h ts step. (answer_of language k d s h ts step).plain

pub returns-clause-step : goal.returns-clause-step
returns-clause-step c = λ language k d s h ts w views.
    short_answers (record { lines = c.short_lines.ensures.short; rows = c.tuple_lengths.ensures.rows }) k w views language s h ts d

pub returns-clause-run : goal.returns-clause-run
returns-clause-run c = λ limit script replies k run language s h ts d.
    short_answers (record { lines = c.short_lines.ensures.short; rows = c.tuple_lengths.ensures.rows }) k (c.formed_catalogues.ensures.run limit script replies k run)
    (short_views k.entries (c.read_catalogues.ensures.run limit script replies k run)) language s h ts d

pub returns-clause-stored : goal.returns-clause-stored
returns-clause-stored c = λ language k d s h ts w. short_stored k w language s h ts d

pub returns-clause-run_stored : goal.returns-clause-run_stored
returns-clause-run_stored c = λ limit script replies k run language s h ts d. short_stored k (c.formed_catalogues.ensures.run limit script replies k run) language s h ts d
