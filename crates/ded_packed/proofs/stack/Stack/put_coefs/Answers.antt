use Rattle.std.proofs.Common.{◌≡◌, ◌<◌, ◌+◌, ◌-◌, length, arith, subst}
use Rattle.std.specs.Prelude.{pos}
use Rattle.ded_model.specs.declared.slot.Sort.TheVariants.{Rat}
use Rattle.ded_packed.specs.Putting.{CoefsPut}
use Rattle.ded_packed.proofs.Putting.{coef_at_place, one_more_coef}
use Rattle.ded_packed.proofs.stack.Stack.put_coefs.Goals as goal

pub put_coef-requires : goal.put_coef-requires
put_coef-requires c =
    let cs = c.args.coefs.now in
    let inside : c.loop-at.at - 1 < length cs = omega (arith, c.loop-at.invariant.bound, c.loop-at-test.true) in
    (coef_at_place cs (c.loop-at.at - 1) (record { number = 0; sort = Rat }, pos 0) inside c.requires).1

pub loop-at-preserved : goal.loop-at-preserved
loop-at-preserved c =
    let cs = c.args.coefs.now in
    let inside : c.loop-at.at - 1 < length cs = omega (arith, c.loop-at.invariant.bound, c.loop-at-test.true) in
    let next : c.loop-at.at ≡ c.loop-at.at - 1 + 1 = omega (arith, c.loop-at-test.true) in
    record {
      bound = omega (arith, c.loop-at.invariant.bound);
      put = one_more_coef cs (c.loop-at.at - 1) (record { number = 0; sort = Rat }, pos 0) c.args.self.now c.loop-at.self c.put_coef.new.self inside c.requires
          (subst (λ k. CoefsPut cs k c.args.self.now c.loop-at.self) next c.loop-at.invariant.put) c.in_ok-put_coef.ensures;
    }
