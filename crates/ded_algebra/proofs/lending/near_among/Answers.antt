use Rattle.std.proofs.Common.{arith, ℕ, ◌+◌, ◌≤◌, ◌≡◌, List, length, sym, ◌∙◌, subst}
use Rattle.std.proofs.lemmas.List.{length-map}
use Rattle.std.proofs.lemmas.Result.{IfOk-weaker}
use Rattle.ded_ranges.specs.Windows.{IsMissed}
use Rattle.ded_packed.specs.Lent.{tuple_of, lent}
use Rattle.ded_algebra.proofs.Owed.{sublist_fewer}
use Rattle.ded_algebra.proofs.lending.near_among.Goals as goal

pub returns-clause-read : goal.returns-clause-read
returns-clause-read g c = IfOk-weaker c.near.result _ _ (λ found n.
    let fewer : length found.items ≤ length c.args.tuples.now = subst (λ k. k ≤ length c.args.tuples.now) (length-map found.items tuple_of) (sublist_fewer (IsMissed c.args.window.now) (lent found.items) c.args.tuples.now n) in
    omega (arith, fewer, c.count_all.ensures)) c.near.ensures
