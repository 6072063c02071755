use Rattle.ded_cert.proofs.OwnEntries.{all_verified, never_long}
use Rattle.ded_cert.proofs.laws.verified_certificates.Goals as goal

pub returns-clause-verified : goal.returns-clause-verified
returns-clause-verified c = all_verified

pub returns-clause-short : goal.returns-clause-short
returns-clause-short c = never_long
