use Rattle.ded_shared.proofs.Replying.{reply_over}
use Rattle.ded_shared.proofs.laws.same_replies.Goals as goal

pub returns : goal.returns
returns g = λ c d e bytes reply among w v a p i. reply_over c d w v among a bytes e reply i p
