use Rattle.ded_runs.proofs.Truths.{asks_truth, asked_truth}
use Rattle.ded_runs.proofs.laws.truths.Goals as goal

pub returns-clause-asks : goal.returns-clause-asks
returns-clause-asks g = λ language c d piece b p none. asks_truth language c d piece b p none

pub returns-clause-asked : goal.returns-clause-asked
returns-clause-asked g = λ language c d piece b f depth p s. asked_truth language c d piece b p f depth s
