use Rattle.ded_cert.proofs.Shown.{tuples_nowhere}
use Rattle.ded_cert.proofs.laws.certificates.Goals as goal

pub returns : goal.returns
returns c = tuples_nowhere
