use Rattle.std.proofs.Common.{sym, subst}
use Rattle.std.proofs.lemmas.Result.{IfOk-weaker}
use Rattle.ded_database.specs.Lost.{AreApartLines}
use Rattle.ded_database.proofs.RowLines.{lines_alone}
use Rattle.ded_database.proofs.lines.is_of_any.Goals as goal

pub returns-in-First : goal.returns-in-First
returns-in-First c = IfOk-weaker c.is_one_of.result _ _ (λ b k e. subst (λ ls. AreApartLines ls c.args.lines.now) (sym (lines_alone c.args.atom.now c.in-First.row c.in-First.is)) (k e)) c.is_one_of.ensures.apart
