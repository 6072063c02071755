use Rattle.ded_session.proofs.OneCatalogue.{one_after}
use Rattle.ded_session.proofs.Telling.{catalogue_told}
use Rattle.ded_session.proofs.laws.one_catalogue.Goals as goal

pub returns-clause-accepted : goal.returns-clause-accepted
returns-clause-accepted c = one_after

pub returns-clause-told : goal.returns-clause-told
returns-clause-told c = λ l d e f s reply other xs ys formed names p q begins. catalogue_told l d e f s reply other xs ys names p q begins formed
