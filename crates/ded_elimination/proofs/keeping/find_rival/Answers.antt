use Rattle.std.proofs.Common.{subst}
use Rattle.ded_elimination.specs.Keeping.{IsRival}
use Rattle.ded_elimination.proofs.keeping.find_rival.Goals as goal

pub returns-in-Some : goal.returns-in-Some
returns-in-Some c = subst (λ rows. IsRival rows c.args.row.now c.rival_at-in-Some.result) c.as_slice-rows.ensures.value c.rival_at-in-Some.ensures
