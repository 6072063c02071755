use Rattle.ded_syntax.proofs.Headers.{header_read, header_decided}
use Rattle.ded_syntax.proofs.OpeningAlike.{opening_spelled, no_header, refused_back}
use Rattle.ded_syntax.proofs.laws.opening_language.Goals as goal

pub returns-clause-spelled : goal.returns-clause-spelled
returns-clause-spelled c = opening_spelled

pub returns-clause-other : goal.returns-clause-other
returns-clause-other c = no_header

pub returns-clause-refused : goal.returns-clause-refused
returns-clause-refused c = refused_back

pub returns-clause-read : goal.returns-clause-read
returns-clause-read c = header_read

pub returns-clause-decided : goal.returns-clause-decided
returns-clause-decided c = header_decided
