use Rattle.ded_runs.proofs.Knowing.{known_same}
use Rattle.ded_runs.proofs.Remaking.{remade_means, remade_measured}
use Rattle.ded_runs.proofs.Views.{alike_catalogue}
use Rattle.ded_runs.proofs.laws.remade_catalogues.Goals as goal

pub returns-clause-known : goal.returns-clause-known
returns-clause-known c = λ d. known_same c.read_formulas.ensures.level d.entries

pub returns-clause-meaning : goal.returns-clause-meaning
returns-clause-meaning c = λ d r w. remade_means d (alike_catalogue (record { holds = c.alike_formulas.ensures.holds; b = c.alike_formulas.ensures.b; rank = c.alike_formulas.ensures.rank }) d w r)

pub returns-clause-b : goal.returns-clause-b
returns-clause-b c = λ d r w n. (remade_measured d (alike_catalogue (record { holds = c.alike_formulas.ensures.holds; b = c.alike_formulas.ensures.b; rank = c.alike_formulas.ensures.rank }) d w r) n).b

pub returns-clause-rank : goal.returns-clause-rank
returns-clause-rank c = λ d r w n. (remade_measured d (alike_catalogue (record { holds = c.alike_formulas.ensures.holds; b = c.alike_formulas.ensures.b; rank = c.alike_formulas.ensures.rank }) d w r) n).rank
