use Rattle.std.proofs.Common.{ℕ, ◌<◌, ◌≤◌, ◌-◌, length, ◌∙◌, ap, subst, arith}
use Rattle.std.proofs.lemmas.List.Edits.{length-swap}
use Rattle.ded_polygon.specs.Vertices.{IsEdge}
use Rattle.ded_polygon.specs.Lists.{spot_in}
use Rattle.ded_polygon.proofs.Ordered.{some_next, all_after_swap, lead_after_swap, all_joined}
use Rattle.ded_polygon.proofs.arranging.arrange.Goals as goal

pub returns-in_default-clause-joined : goal.returns-in_default-clause-joined
returns-in_default-clause-joined c = λ enclosed.
    let ss = c.args.sides.now in
    let place = c.loop-place.place in
    let i = c.loop-place.invariant in
    absurd
    (some_next ss c.loop-place.corners.items place enclosed i.all c.loop-place.auto.place (omega (arith, i.length_is, c.loop-place-test.true)) i.lead
    (subst (λ ps. (k : ℕ) → place ≤ k → k < length ps → IsEdge ss (spot_in ps (place - 1)) (spot_in ps k) → ⊥) c.deref.ensures.value c.in_default.ensures))

pub loop-place-preserved : goal.loop-place-preserved
loop-place-preserved c =
    let ss = c.args.sides.now in
    let place = c.loop-place.place in
    let ps = c.loop-place.corners.items in
    let next = c.in-Some.next in
    let i = c.loop-place.invariant in
    let below : next < length ps = subst (λ ps. next < length ps) c.deref.ensures.value c.in-Some.ensures.1 in
    let at : place < length ps = omega (arith, c.in-Some.ensures.0) in
    record {
      all = all_after_swap ss ps c.swap.new.self.items place next at below c.swap.ensures.items i.all;
      lead = lead_after_swap ss ps c.swap.new.self.items place next c.loop-place.auto.place c.in-Some.ensures.0 below c.swap.ensures.items i.lead
          (subst (λ ps. IsEdge ss (spot_in ps (place - 1)) (spot_in ps next)) c.deref.ensures.value c.in-Some.ensures.2);
      length_is = ap length c.swap.ensures.items ∙ length-swap ps place next ∙ i.length_is;
    }

pub returns-clause-joined : goal.returns-clause-joined
returns-clause-joined c = λ enclosed.
    let i = c.loop-place.invariant in
    all_joined c.args.sides.now c.loop-place.corners.items c.loop-place.place enclosed i.all (omega (arith, i.length_is, c.loop-place-test.false)) i.lead
