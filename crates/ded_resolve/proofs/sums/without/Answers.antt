use Rattle.std.proofs.Common.{◌≡◌, sym, ap, ◌∙◌, subst, drop, [], rules}
use Rattle.std.proofs.Math.ListN.{drop_of_length-le}
use Rattle.std.specs.Prelude.{pos}
use lib.IntN.{neg_ℤ}
use Rattle.ded_model.specs.Coefs.{AreCoefs, mixed, nonzero}
use Rattle.ded_resolve.specs.Scope.{AreSmall}
use Rattle.ded_resolve.proofs.Differences.{Differing, differing_none, differing_all, step_fits, step_short_in_code, step_rational, step_differing, step_kept}
use Rattle.ded_resolve.proofs.sums.without.Goals as goal

pub overflow_sub-rest : goal.overflow_sub-rest
overflow_sub-rest c =
    let ys = c.list-slot-items.result.now in
    let e = c.list-slot-items.ensures.value in
    step_fits c.args.left ys c.loop-slot.coefs c.loop-slot.slot-index c.at.result (subst AreCoefs (sym e) c.list-slot-items.ensures.coefs) c.loop-slot-test.true c.requires.left (subst AreSmall (sym e) c.requires.right)
    c.loop-slot.invariant.done c.at.ensures.short c.at.ensures.value

pub put-requires-clause-rational : goal.put-requires-clause-rational
put-requires-clause-rational c =
    let ys = c.list-slot-items.result.now in
    let e = c.list-slot-items.ensures.value in
    step_rational c.args.left ys c.loop-slot.coefs c.loop-slot.slot-index c.at.result (subst AreCoefs (sym e) c.list-slot-items.ensures.coefs) c.loop-slot-test.true c.requires.left (subst AreSmall (sym e) c.requires.right)
    c.loop-slot.invariant.done c.at.ensures.short c.at.ensures.value

pub put-requires-clause-short : goal.put-requires-clause-short
put-requires-clause-short c =
    let ys = c.list-slot-items.result.now in
    let e = c.list-slot-items.ensures.value in
    step_short_in_code c.args.left ys c.loop-slot.coefs c.loop-slot.slot-index c.at.result (subst AreCoefs (sym e) c.list-slot-items.ensures.coefs) c.loop-slot-test.true c.requires.left (subst AreSmall (sym e) c.requires.right)
    c.loop-slot.invariant.done c.at.ensures.short c.at.ensures.value

pub loop-slot-preserved : goal.loop-slot-preserved
loop-slot-preserved c =
    let ys = c.list-slot-items.result.now in
    let e = c.list-slot-items.ensures.value in
    let k = subst AreCoefs (sym e) c.list-slot-items.ensures.coefs in
    let s = subst AreSmall (sym e) c.requires.right in
    record {
      kept = step_kept c.args.left ys c.loop-slot.coefs c.loop-slot.slot-index c.at.result k c.loop-slot-test.true c.requires.left s
          c.loop-slot.invariant.done c.at.ensures.short c.at.ensures.value _ c.loop-slot.invariant.kept c.in_ok-put.ensures.ok;
      done = step_differing c.args.left ys c.loop-slot.coefs c.loop-slot.slot-index c.at.result k c.loop-slot-test.true c.requires.left s
          c.loop-slot.invariant.done c.at.ensures.short c.at.ensures.value _ c.in_ok-put.ensures.ok;
    }

pub returns : goal.returns
returns c =
    let ys = c.list-slot-items.result.now in
    let e = c.list-slot-items.ensures.value in
    let end : drop c.loop-slot.slot-index ys ≡ [] = drop_of_length-le ys c.loop-slot-test.false in
    differing_all c.args.left ys c.loop-slot.coefs (search rules) (subst AreCoefs (sym e) c.list-slot-items.ensures.coefs) c.loop-slot.invariant.kept (subst (λ l. Differing c.args.left ys l c.loop-slot.coefs) end c.loop-slot.invariant.done)
    ∙ ap (λ l. nonzero (mixed (pos 1) c.args.left (neg_ℤ (pos 1)) l)) e

pub loop-slot-init : goal.loop-slot-init
loop-slot-init c = record { kept = search rules; done = differing_none c.args.left c.list-slot-items.result.now }
