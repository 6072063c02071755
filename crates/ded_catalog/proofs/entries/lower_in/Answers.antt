use Rattle.std.proofs.Common.{◌<◌, refl, sym}
use Rattle.ded_catalog.proofs.WithoutUsers.{lowered, users_found, one_less}
use Rattle.ded_catalog.proofs.entries.lower_in.Goals as goal

pub returns-in-Some-clause-lowered : goal.returns-in-Some-clause-lowered
returns-in-Some-clause-lowered c =
    let e = c.in-Some.entry.now in
    lowered c.args.name.now c.args.linked.now.entries e _ (sym c.in-Some.ensures.value) refl
    (one_less e.users (users_found c.args.name.now c.args.linked.now.entries e (λ k. 0 < k) c.in-Some.ensures.value c.requires))
