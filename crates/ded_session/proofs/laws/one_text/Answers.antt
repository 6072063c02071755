use Rattle.ded_session.proofs.Telling.{one_text}
use Rattle.ded_session.proofs.laws.one_text.Goals as goal

pub returns : goal.returns
returns c = one_text
