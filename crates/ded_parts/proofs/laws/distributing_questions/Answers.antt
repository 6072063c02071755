use Rattle.ded_parts.proofs.DealtQuestions.{truths, implications}
use Rattle.ded_parts.proofs.DealtViews.{answers}
use Rattle.ded_parts.proofs.laws.distributing_questions.Goals as goal

pub returns-clause-answers : goal.returns-clause-answers
returns-clause-answers c = answers

pub returns-clause-truths : goal.returns-clause-truths
returns-clause-truths c = truths

pub returns-clause-implications : goal.returns-clause-implications
returns-clause-implications c = implications
