use Rattle.ded_runs.proofs.Inserts.{few_after}
use Rattle.ded_runs.proofs.Steps.{again_yes, again_only, long_refused, long_only}
use Rattle.ded_runs.proofs.laws.verified_again.Goals as goal

pub returns-clause-run_yes : goal.returns-clause-run_yes
returns-clause-run_yes g = λ limit script replies c run language other n m es piece h short.
    again_yes language c n m es piece (g.formed_catalogues.ensures.run limit script replies c run) (few_after g.formed_catalogues.ensures.step limit script replies c run) h other short

pub returns-clause-run_only : goal.returns-clause-run_only
returns-clause-run_only g = λ limit script replies c run language other n m es piece h short reply d.
    again_only language c n m es piece (g.formed_catalogues.ensures.run limit script replies c run) (few_after g.formed_catalogues.ensures.step limit script replies c run) h other short d reply

pub returns-clause-yes : goal.returns-clause-yes
returns-clause-yes g = λ language other c n m es piece formed few h short. again_yes language c n m es piece formed few h other short

pub returns-clause-only : goal.returns-clause-only
returns-clause-only g = λ language other c d n m es piece reply formed few h short. again_only language c n m es piece formed few h other short d reply

pub returns-clause-long : goal.returns-clause-long
returns-clause-long g = long_refused

pub returns-clause-only_long : goal.returns-clause-only_long
returns-clause-only_long g = λ other c d piece reply long. long_only other c piece long d reply
