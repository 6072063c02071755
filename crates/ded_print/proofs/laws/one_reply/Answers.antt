use Rattle.ded_print.proofs.Telling.{first_reply}
use Rattle.ded_print.proofs.laws.one_reply.Goals as goal

pub returns : goal.returns
returns c = first_reply
