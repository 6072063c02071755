use Rattle.ded_session.proofs.Pairs.{plain_reply, two_replies}
use Rattle.ded_session.proofs.laws.two_replies.Goals as goal

pub returns-clause-plain : goal.returns-clause-plain
returns-clause-plain c = plain_reply

pub returns-clause-pair : goal.returns-clause-pair
returns-clause-pair c = two_replies
