use Rattle.std.proofs.lemmas.Result.{err_from_is_err_and}
use Rattle.ded_model.specs.declared.memory.Refused.TheVariants.{Wide}
use Rattle.std.proofs.Common.{◌≡◌, sym, ap, subst, Err, take, get_or}
use Rattle.ded_model.specs.declared.slot.Sort.TheVariants.{Rat}
use Rattle.ded_cert.specs.Projecting.{IsStep, IsProjected}
use Rattle.ded_cert.proofs.Projections.{next_projected, next_long}
use Rattle.ded_cert.proofs.projecting.without_slots.Goals as goal

pub returns-in_err-rows-clause-wide : goal.returns-in_err-rows-clause-wide
returns-in_err-rows-clause-wide c = λ e.
    let p = err_from_is_err_and c.from_residual.result c.from_residual.ensures.1 in
    let is : c.in_err-rows.field-0.0 ≡ Wide = cc (p.1, p.2, e) in
    next_long c.args.rows.items c.args.slots.now c.loop-slot.slot-index (record { number = 0; sort = Rat }) c.deref.result.now c.loop-slot-test.true (subst (IsProjected c.args.rows.items (take c.loop-slot.slot-index c.args.slots.now)) (sym c.deref.ensures.value) c.loop-slot.invariant.projected) (c.in_err-rows.ensures.wide (ap Err is))

pub loop-slot-preserved : goal.loop-slot-preserved
loop-slot-preserved c = record {
  projected = next_projected c.args.rows.items c.args.slots.now c.loop-slot.slot-index (record { number = 0; sort = Rat }) c.loop-slot.rows.items c.loop-slot-test.true c.loop-slot.invariant.projected c.in_ok-rows.rows.items c.requires.rational (subst (λ rs. IsStep rs (get_or c.args.slots.now c.loop-slot.slot-index (record { number = 0; sort = Rat })) c.in_ok-rows.rows.items) c.deref.ensures.value c.in_ok-rows.ensures.step);
  normal = c.in_ok-rows.ensures.normal;
  weak = c.in_ok-rows.ensures.weak;
}
