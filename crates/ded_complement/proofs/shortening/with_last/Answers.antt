use Rattle.std.proofs.Common.{[], ◌∷◌, ◌++◌}
use Rattle.ded_complement.proofs.Implied.{alike_same}
use Rattle.ded_complement.proofs.shortening.with_last.Goals as goal

pub returns-then-len-lt-SHORTENED_FROM-clause-alike : goal.returns-then-len-lt-SHORTENED_FROM-clause-alike
returns-then-len-lt-SHORTENED_FROM-clause-alike g c = alike_same g.T.Theory.holds (c.args.rest.items ++ c.args.last ∷ []) c.push.new.self.items c.in_ok-push.ensures.items
