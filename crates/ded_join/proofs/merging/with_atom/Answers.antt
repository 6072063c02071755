use Rattle.std.proofs.Common.{[], ◌∷◌, ◌++◌, subst}
use Rattle.ded_complement.proofs.Implied.{alike_same}
use Rattle.ded_join.specs.Merged.{IsWithin}
use Rattle.ded_join.proofs.Alike.{alike_implied}
use Rattle.ded_join.proofs.merging.with_atom.Goals as goal

pub returns-then-imply-clause-alike : goal.returns-then-imply-clause-alike
returns-then-imply-clause-alike g c =
    alike_implied g.T.Theory.holds c.args.kept.items c.args.atom
    (subst (λ xs. IsWithin g.T.Theory.holds xs (c.args.atom ∷ [])) c.deref.ensures.value (c.imply.ensures c.if-imply.true))

pub returns-clause-alike : goal.returns-clause-alike
returns-clause-alike g c = alike_same g.T.Theory.holds (c.args.kept.items ++ c.args.atom ∷ []) c.push.new.self.items c.in_ok-push.ensures.items
