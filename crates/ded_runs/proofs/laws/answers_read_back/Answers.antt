use Rattle.ded_runs.proofs.ReadBack.{read_back, read_only}
use Rattle.ded_runs.proofs.laws.answers_read_back.Goals as goal

pub returns-clause-run_spelled : goal.returns-clause-run_spelled
returns-clause-run_spelled c = λ limit script replies k run language s h ts d step.
    read_back language k d s h ts step (c.short_answers.ensures.run limit script replies k run language s h ts d step)

pub returns-clause-run_only : goal.returns-clause-run_only
returns-clause-run_only c = λ limit script replies k run language s h ts us d step.
    read_only language k d s h ts us step (c.short_answers.ensures.run limit script replies k run language s h ts d step)

pub returns-clause-spelled : goal.returns-clause-spelled
returns-clause-spelled c = read_back

pub returns-clause-only : goal.returns-clause-only
returns-clause-only c = read_only
