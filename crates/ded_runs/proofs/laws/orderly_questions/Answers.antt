use Rattle.ded_runs.proofs.Ordering.{orderly_narrow, orderly_answers}
use Rattle.ded_runs.proofs.laws.orderly_questions.Goals as goal

pub returns-clause-narrow : goal.returns-clause-narrow
returns-clause-narrow c = λ limit script replies k run language s d.
    orderly_narrow (record { tight = c.orderly_formulas.ensures.tight; short = c.short_reach.ensures }) k (c.formed_catalogues.ensures.run limit script replies k run) (c.read_catalogues.ensures.run limit script replies k run) language s d

pub returns-clause-answers : goal.returns-clause-answers
returns-clause-answers c = λ limit script replies k run language s h ts d.
    orderly_answers (record { tight = c.orderly_formulas.ensures.tight; short = c.short_reach.ensures }) k (c.formed_catalogues.ensures.run limit script replies k run) (c.read_catalogues.ensures.run limit script replies k run) language s h ts d
