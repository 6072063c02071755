use Rattle.std.specs.Prelude.{List}
use Rattle.std.proofs.Common.{rules, ◌≡◌, ◌∙◌, Some, inl, inr, ◌++◌, ap, sym, subst}
use Rattle.std.specs.List.{slice_get}
use Rattle.ded_ranges.specs.declared.reach.Range.{Range}
use Rattle.ded_ranges.specs.Reaches.{IsWithin, hull}
use Rattle.ded_hull.specs.Entries.{Covers}
use Rattle.ded_hull.proofs.Rooted.{over_first, over_both, over_none}
use Rattle.ded_hull.proofs.Halved.{joined_first, joined_none}
use Rattle.ded_hull.proofs.tree.hull_over.Goals as goal
use Rattle.ded_hull.proofs.tree.hull_over.Goals.{in_default-via-in-Some+in_default, in_default-via-in_default}

pub returns-in_ok-hull-in-Some-Some-clause-covers : goal.returns-in_ok-hull-in-Some-Some-clause-covers
returns-in_ok-hull-in-Some-Some-clause-covers c = λ xs ys k l.
    let a = c.in-Some-Some.first.now in
    let b = c.in-Some-Some.second.now in
    let h = c.widen.new.self in
    let first : Some a ≡ slice_get c.args.first.now 0 = search rules in
    let second : Some b ≡ slice_get c.args.second.now 0 = search rules in
    let own : IsWithin a.hull h = subst (λ (r : List Range). IsWithin r h) c.in_ok-hull-in-Some-Some.ensures c.widen.ensures.own in
    over_both a.hull b.hull xs ys h own c.widen.ensures.other (over_first c.args.first.now a xs first k) (over_first c.args.second.now b ys second l)

pub returns-in_ok-hull-in-Some-Some-clause-value : goal.returns-in_ok-hull-in-Some-Some-clause-value
returns-in_ok-hull-in-Some-Some-clause-value c =
    let a = c.in-Some-Some.first.now in
    let b = c.in-Some-Some.second.now in
    let first : Some a ≡ slice_get c.args.first.now 0 = search rules in
    let second : Some b ≡ slice_get c.args.second.now 0 = search rules in
    joined_first c.args.first.now c.args.second.now a b c.widen.new.self first second (c.widen.ensures.value ∙ ap (λ r. hull r b.hull) c.in_ok-hull-in-Some-Some.ensures)

pub returns-in_default-clause-covers : goal.returns-in_default-clause-covers
returns-in_default-clause-covers c = λ xs ys k l. subst (λ (h : List Range). Covers h (xs ++ ys)) (sym c.new.ensures) (over_none (xs ++ ys))

pub returns-in_default-clause-value : goal.returns-in_default-clause-value
returns-in_default-clause-value c = joined_none c.args.first.now c.args.second.now c.new.result (elim c.in_default.branch [ in_default-via-in-Some+in_default w ↦ inr (search rules) | in_default-via-in_default w ↦ inl (search rules) ])
