use Rattle.std.proofs.Common.{◌≡◌, ap, sym, subst, SFits, Err}
use Rattle.std.specs.Int.{w128}
use Rattle.std.proofs.lemmas.Int.{to_z-of_z}
use Rattle.std.proofs.lemmas.Result.{err_from_is_err_and}
use Rattle.ded_model.specs.declared.memory.Refused.TheVariants.{Wide}
use Rattle.ded_row.proofs.Walks.{Walking, walking_skip, walking_add, walking_wide}
use Rattle.ded_row.proofs.mixing.combined_coefs.Goals as goal

pub returns-in_err-push_sum-clause-wide : goal.returns-in_err-push_sum-clause-wide
returns-in_err-push_sum-clause-wide c = λ e.
    let fk : SFits w128 c.args.k = c.ranges.k in
    let fm : SFits w128 c.args.m = c.ranges.m in
    let n = c.next_slot-next.result in
    let p = err_from_is_err_and c.from_residual.result c.from_residual.ensures.1 in
    let is : c.in_err-push_sum.field-0.0 ≡ Wide = cc (p.1, p.2, e) in
    let long = walking_wide c.args.slot _ c.args.xs.now _ c.args.ys.now _ _ c.loop-i.out c.loop-i.invariant.walking n.slot n.a n.b _ _ c.next_slot-next.ensures.first (sym c.if-not-is_same.ensures) (c.in_err-push_sum.ensures.wide (ap Err is)) in
    simp to_z-of_z at long

pub loop-i-preserved-in_ok-push_sum : goal.loop-i-preserved-in_ok-push_sum
loop-i-preserved-in_ok-push_sum c =
    let n = c.next_slot-next.result in
    record {
      place_i = c.next_slot-next.ensures.place_i.1;
      place_j = c.next_slot-next.ensures.place_j.1;
      walking = subst (Walking c.args.slot _ c.args.xs.now _ c.args.ys.now _ _) (sym c.in_ok-push_sum.ensures.ok)
          (walking_add c.args.slot _ c.args.xs.now _ c.args.ys.now _ _ c.loop-i.out c.loop-i.invariant.walking n.slot n.a n.b _ _ c.next_slot-next.ensures.first (sym c.if-not-is_same.ensures) c.in_ok-push_sum.ensures.short);
    }

pub loop-i-preserved : goal.loop-i-preserved
loop-i-preserved c =
    let n = c.next_slot-next.result in
    record {
      place_i = c.next_slot-next.ensures.place_i.1;
      place_j = c.next_slot-next.ensures.place_j.1;
      walking = walking_skip c.args.slot _ c.args.xs.now _ c.args.ys.now _ _ c.loop-i.out c.loop-i.invariant.walking n.slot n.a n.b _ _ c.next_slot-next.ensures.first (sym c.if-not-is_same.ensures);
    }
