use Rattle.ded_cert.proofs.ShortSums.{short_checks}
use Rattle.ded_cert.proofs.laws.short_certificates.Goals as goal

pub returns : goal.returns
returns c = short_checks
