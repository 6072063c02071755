use Rattle.std.proofs.Common.{◌≡◌, sym, ◌∙◌, subst, arith}
use Rattle.ded_num.specs.Length.{IsWithin}
use Rattle.ded_resolve.proofs.Summing.{Summing, next_rational, next_within, next_kept, next_summing, summing_all, summing_end, parts_small, in_code, short_in_code}
use Rattle.ded_resolve.proofs.sums.slot_coefs.Goals as goal

pub put-requires-clause-rational : goal.put-requires-clause-rational
put-requires-clause-rational c =
    next_rational c.args.scope.now c.as_slice-parts.result.now c.args.parts.now c.loop-at.at c.index-parts-at.result c.index-parts-at.is (c.as_slice-parts.ensures.value ∙ c.parts.view_is) (omega arith) c.loop-at.invariant.place
    c.slot.result c.slot.ensures c.requires.summable

pub put-requires-clause-short : goal.put-requires-clause-short
put-requires-clause-short c =
    let p = c.index-parts-at.result in
    let xs = c.as_slice-parts.result.now in
    short_in_code p.1
    (next_within c.args.scope.now xs c.args.parts.now c.loop-at.at p c.index-parts-at.is (c.as_slice-parts.ensures.value ∙ c.parts.view_is) (omega arith) c.loop-at.invariant.place c.requires.short)

pub loop-at-preserved : goal.loop-at-preserved
loop-at-preserved c =
    let p = c.index-parts-at.result in
    let xs = c.as_slice-parts.result.now in
    let is = c.as_slice-parts.ensures.value ∙ c.parts.view_is in
    let small = next_within c.args.scope.now xs c.args.parts.now c.loop-at.at p c.index-parts-at.is is (omega arith) c.loop-at.invariant.place c.requires.short in
    let number = in_code p.1 small in
    record {
      place = omega (arith, c.loop-at.invariant.place);
      kept = next_kept c.args.scope.now xs c.args.parts.now c.loop-at.at p c.index-parts-at.is is (omega arith) c.loop-at.invariant.place
          _ _ c.loop-at.coefs _ c.slot.ensures number c.requires.summable c.requires.short c.loop-at.invariant.kept c.in_ok-put.ensures.ok;
      done = next_summing c.args.scope.now xs c.args.parts.now c.loop-at.at p c.index-parts-at.is is (omega arith) c.loop-at.invariant.place
          _ _ c.loop-at.coefs _ c.slot.ensures number c.requires.summable c.loop-at.invariant.done c.in_ok-put.ensures.ok;
    }

pub returns-clause-value : goal.returns-clause-value
returns-clause-value c =
    let e : c.as_slice-parts.result.now ≡ c.args.parts.now = c.as_slice-parts.ensures.value ∙ c.parts.view_is in
    let end : Summing c.args.scope.now c.args.parts.now c.loop-at.coefs = summing_end c.args.scope.now _ _ c.loop-at.at c.loop-at.coefs e (omega arith) c.loop-at.invariant.done in
    summing_all c.args.scope.now c.args.parts.now c.loop-at.coefs c.requires.summable c.loop-at.invariant.kept end

pub returns-clause-small : goal.returns-clause-small
returns-clause-small c = λ s.
    let e : c.as_slice-parts.result.now ≡ c.args.parts.now = c.as_slice-parts.ensures.value ∙ c.parts.view_is in
    let end : Summing c.args.scope.now c.args.parts.now c.loop-at.coefs = summing_end c.args.scope.now _ _ c.loop-at.at c.loop-at.coefs e (omega arith) c.loop-at.invariant.done in
    subst (IsWithin 112) (sym (end s)) (parts_small c.args.scope.now c.args.parts.now c.requires.summable c.requires.short s)
