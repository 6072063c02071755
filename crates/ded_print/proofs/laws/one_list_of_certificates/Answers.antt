use Rattle.ded_print.proofs.CertificatesTold.{no_meeting, one_list}
use Rattle.ded_print.proofs.laws.one_list_of_certificates.Goals as goal

pub returns-clause-texts : goal.returns-clause-texts
returns-clause-texts c = one_list

pub returns-clause-meetings : goal.returns-clause-meetings
returns-clause-meetings c = no_meeting
