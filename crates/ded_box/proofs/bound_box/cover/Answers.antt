use Rattle.std.proofs.Common.{◌≡◌, ◌∙◌, ap, ap₂, subst, sym, length, true, false}
use Rattle.std.proofs.lemmas.Result.{IfOk-weaker}
use Rattle.ded_box.specs.Boxes.{AreIntervals, IsCover, hulls, has_values}
use Rattle.ded_box.proofs.Covers.{cover_of_full, cover_of_first, cover_of_second, hulls-length, hulls-intervals}
use Rattle.ded_box.proofs.bound_box.cover.Goals as goal
use Rattle.ded_box.proofs.bound_box.cover.Goals.{In_ok-hulls}

pub returns-then-not-are_full-clause-cover : goal.returns-then-not-are_full-clause-cover
returns-then-not-are_full-clause-cover c =
    let none : has_values c.args.a.now ≡ false = ap has_values (sym c.spans-first.ensures.spans) ∙ sym c.if-not-are_full.ensures in
    let is : IsCover c.args.a.now c.args.b.now c.args.b.now = cover_of_second c.args.a.now c.args.b.now c.spans-first.ensures.intervals none in
    IfOk-weaker c.copy.result (λ x. x ≡ c.args.b.now) (IsCover c.args.a.now c.args.b.now) (λ x e. subst (IsCover c.args.a.now c.args.b.now) (sym e) is) c.copy.ensures

pub returns-then-not-are_full-2-clause-cover : goal.returns-then-not-are_full-2-clause-cover
returns-then-not-are_full-2-clause-cover c =
    let none : has_values c.args.b.now ≡ false = ap has_values (sym c.spans-second.ensures.spans) ∙ sym c.if-not-are_full-2.ensures in
    let is : IsCover c.args.a.now c.args.b.now c.args.a.now = cover_of_first c.args.a.now c.args.b.now c.spans-second.ensures.intervals none in
    IfOk-weaker c.copy-then-not-are_full-2.result (λ x. x ≡ c.args.a.now) (IsCover c.args.a.now c.args.b.now) (λ x e. subst (IsCover c.args.a.now c.args.b.now) (sym e) is) c.copy-then-not-are_full-2.ensures

-- the list is that of the boxes' intervals
done : (c : In_ok-hulls) → c.in_ok-hulls.field-0.items ≡ hulls c.args.a.now c.args.b.now
done c = c.in_ok-hulls.ensures ∙ ap₂ hulls c.spans-first.ensures.spans c.spans-second.ensures.spans

pub invariant_of-result : goal.invariant_of-result
invariant_of-result c = subst AreIntervals (sym (done c)) (hulls-intervals c.args.a.now c.args.b.now c.spans-first.ensures.intervals c.spans-second.ensures.intervals)

pub returns-clause-cover : goal.returns-clause-cover
returns-clause-cover c =
    let first : has_values c.args.a.now ≡ true = ap has_values (sym c.spans-first.ensures.spans) ∙ sym c.if-not-are_full.ensures in
    let second : has_values c.args.b.now ≡ true = ap has_values (sym c.spans-second.ensures.spans) ∙ sym c.if-not-are_full-2.ensures in
    subst (IsCover c.args.a.now c.args.b.now) (sym (done c)) (cover_of_full c.args.a.now c.args.b.now c.requires c.spans-first.ensures.intervals c.spans-second.ensures.intervals first second)

pub returns-clause-length : goal.returns-clause-length
returns-clause-length c = ap length (done c) ∙ hulls-length c.args.a.now c.args.b.now c.requires
