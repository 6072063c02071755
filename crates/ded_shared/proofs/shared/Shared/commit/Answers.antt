use Rattle.std.proofs.Common.{◌≡◌, ◌-◌, Some, None, get_or, drop, sym, ap, ◌∙◌}
use Rattle.ded_shared.specs.Conflicts.{IsLeastInBoth}
use Rattle.ded_shared.specs.Parts.{Parts}
use Rattle.ded_shared.proofs.Changing.{read_at}
use Rattle.ded_shared.proofs.Ending.{commit_conflict, least_here}
use Rattle.ded_shared.proofs.shared.Shared.commit.Goals as goal

pub returns-clause-answered : goal.returns-clause-answered
returns-clause-answered c =
    let at : get_or c.self.inside.transactions.items (c.args.session - 1) None ≡ Some c.in-Some.transaction =
    read_at c.self.inside.transactions.items c.args.session c.place_of.result c.index.result.now c.index.ensures c.place_of.ensures c.requires.low c.requires.high c.self.invariant.places ∙ c.in-Some.is in
    let least : IsLeastInBoth c.in-Some.transaction.touched.items (drop c.in-Some.transaction.since c.args.self.now.log) c.in-Ok.name =
    least_here c.in-Some.transaction.touched.items c.args.self.now.log c.deref.result.now c.deref-2.result.now c.in-Some.transaction.since c.in-Ok.name c.in-Some-conflict.name.now
    c.deref.ensures.value (c.deref-2.ensures.value ∙ ap (λ (z : Parts). z.log) c.self.view_is) c.in-Ok.ensures c.in-Some-conflict.ensures in
    commit_conflict c.args.self.now c.args.session c.in-Some.transaction (ap (λ (z : Parts). get_or z.transactions (c.args.session - 1) None) (sym c.self.view_is) ∙ at) c.in-Ok.name least c.put.new.self
    c.put.ensures.table c.put.ensures.transactions c.put.ensures.log
