use Rattle.std.proofs.Common.{length}
use Rattle.ded_packed.proofs.reader.Reader.+natural.Given as goal

abbrev pub decreases-natural : goal.decreases-natural
decreases-natural l = length l.self.now
