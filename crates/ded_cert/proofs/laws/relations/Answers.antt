use Rattle.ded_cert.proofs.Relations.{certified_apart, meeting_meets, verified_apart}
use Rattle.ded_cert.proofs.laws.relations.Goals as goal

pub returns-clause-certified : goal.returns-clause-certified
returns-clause-certified c = certified_apart

pub returns-clause-verified : goal.returns-clause-verified
returns-clause-verified c = verified_apart

pub returns-clause-meet : goal.returns-clause-meet
returns-clause-meet c = meeting_meets
