use Rattle.ded_width.proofs.FormulaReaches.{formula_within, formula_tight, formula_plan_tight}
use Rattle.ded_width.proofs.laws.formulas.Goals as goal

pub returns-clause-within : goal.returns-clause-within
returns-clause-within c = formula_within

pub returns-clause-tight : goal.returns-clause-tight
returns-clause-tight c = formula_tight

pub returns-clause-plans : goal.returns-clause-plans
returns-clause-plans c = formula_plan_tight
