use Rattle.std.proofs.Common.{refl, sym}
use Rattle.ded_catalog.proofs.WithoutUsers.{raised}
use Rattle.ded_catalog.proofs.entries.raise_in.Goals as goal

pub returns-in-Some-clause-raised : goal.returns-in-Some-clause-raised
returns-in-Some-clause-raised c =
    raised c.args.name.now c.args.linked.now.entries c.in-Some.entry.now _ (sym c.in-Some.ensures.value) refl refl
