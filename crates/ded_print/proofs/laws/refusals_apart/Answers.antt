use Rattle.ded_print.proofs.RefusalsApart.{no_answer, no_apart, no_plan, no_nowhere, no_rational, no_box}
use Rattle.ded_print.proofs.laws.refusals_apart.Goals as goal

pub returns-clause-answers : goal.returns-clause-answers
returns-clause-answers c = no_answer

pub returns-clause-plans : goal.returns-clause-plans
returns-clause-plans c = no_plan

pub returns-clause-certificates : goal.returns-clause-certificates
returns-clause-certificates c = no_apart

pub returns-clause-nowhere : goal.returns-clause-nowhere
returns-clause-nowhere c = no_nowhere

pub returns-clause-no_rational : goal.returns-clause-no_rational
returns-clause-no_rational c = no_rational

pub returns-clause-boxes : goal.returns-clause-boxes
returns-clause-boxes c = no_box
