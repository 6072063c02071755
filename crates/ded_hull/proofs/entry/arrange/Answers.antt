use Rattle.std.proofs.Common.{rules, ◌≡◌, ◌∙◌, ap}
use Rattle.std.specs.Ordering.{is_lt}
use Rattle.std.proofs.lemmas.Fn.{always_returns_same}
use Rattle.ded_hull.specs.Segments.{middle_order}
use Rattle.ded_hull.proofs.Middles.{is_before, entries_ranked, in_order}
use Rattle.ded_hull.proofs.entry.arrange.Goals as goal

pub returns-then-level-eq0-clause-order : goal.returns-then-level-eq0-clause-order
unfolding is_before
returns-then-level-eq0-clause-order c = λ s o.
    let place = c.widest-place.result in
    let first : place ≡ 0 = c.widest-place.ensures s in
    in_order c.sort_unstable_by.new.self (c.sort_unstable_by.ensures.sorted is_before entries_ranked (always_returns_same _ _ _ (λ a r f h.
    let told : r ≡ middle_order place a.0.now a.1.0.now = search rules in
    (ap is_lt told ∙ ap (λ p. is_lt (middle_order p a.0.now a.1.0.now)) first, search rules))))
