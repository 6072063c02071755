use Rattle.ded_session.proofs.PlainSpelling.{spelled_names}
use Rattle.ded_session.proofs.laws.spelled_names.Goals as goal

pub returns : goal.returns
returns c = spelled_names
