use Rattle.std.proofs.Common.{◌≡◌, arith, length, take, drop}
use Rattle.std.proofs.lemmas.List.{length-take-le}
use Rattle.std.proofs.lemmas.Result.{IfOk-weaker}
use Rattle.ded_keep.proofs.Covered.{covered_front, covered_back}
use Rattle.ded_keep.proofs.behind.is_covered.Goals as goal

pub slice_bounds-is_among-end : goal.slice_bounds-is_among-end
slice_bounds-is_among-end g c = let e : length (take 64 c.args.list.now) ≡ 64 = length-take-le 64 c.args.list.now (omega (arith, c.if-list.false)) in omega (arith, e, c.if-list.false)

pub returns-then-branch : goal.returns-then-branch
returns-then-branch g c = λ e. covered_front c.args.tuple.now c.args.list.now 64 (c.in_ok-is_among.ensures c.if-branch.true)

pub returns : goal.returns
returns g c = IfOk-weaker c.is_among-3.result _ _ (λ b k e. covered_back c.args.tuple.now c.args.list.now _ (covered_front c.args.tuple.now (drop _ c.args.list.now) _ (k e))) c.is_among-3.ensures
