use Rattle.ded_shared.proofs.TextsApart.{first_plain, step_plain}
use Rattle.ded_shared.proofs.laws.plain_names.Goals as goal

pub returns-clause-first : goal.returns-clause-first
returns-clause-first c = first_plain

pub returns-clause-step : goal.returns-clause-step
returns-clause-step c = λ s t x reply names p. step_plain s names x reply t p
