use Rattle.std.proofs.Common.{◌≡◌, ◌*◌, ◌%◌, ap₂, arith, ◌∙◌, ◌⊎◌, inl, inr}
use Rattle.std.specs.Ordering.{nat_cmp}
use Rattle.ded_num.proofs.Fractions.{nat_cmp-by_whole, nat_cmp-by_rests, nat_cmp-at_zero}
use Rattle.ded_num.proofs.fraction.cmp_natural.Goals as goal

pub returns-then-is_ne : goal.returns-then-is_ne
returns-then-is_ne c =
    let l = c.loop-by_whole in
    nat_cmp-by_whole l.n1 l.d1 l.n2 l.d2 c.cmp-by_whole.result l.invariant.positive_1 l.invariant.positive_2 c.cmp-by_whole.ensures c.if-is_ne.ensures ∙ l.invariant.order

pub returns-then-rest1-eq0 : goal.returns-then-rest1-eq0
returns-then-rest1-eq0 c =
    let l = c.loop-by_whole in
    let of_rests = nat_cmp-by_rests l.n1 l.d1 l.n2 l.d2 c.cmp-by_whole.result l.invariant.positive_1 l.invariant.positive_2 c.cmp-by_whole.ensures c.if-is_ne.ensures in
    let one_is_0 : (l.n1 % l.d1 ≡ 0) ⊎ (l.n2 % l.d2 ≡ 0) = elim c.then-rest1-eq0.either [ inl e ↦ inl e | inr e ↦ inr e.1 ] in
    c.cmp.ensures ∙ nat_cmp-at_zero l.d1 _ l.d2 _ l.invariant.positive_1 l.invariant.positive_2 one_is_0 ∙ of_rests ∙ l.invariant.order

pub loop-by_whole-preserved : goal.loop-by_whole-preserved
loop-by_whole-preserved c =
    let l = c.loop-by_whole in
    let of_rests = nat_cmp-by_rests l.n1 l.d1 l.n2 l.d2 c.cmp-by_whole.result l.invariant.positive_1 l.invariant.positive_2 c.cmp-by_whole.ensures c.if-is_ne.ensures in
    let left : l.d2 * (l.n1 % l.d1) ≡ l.n1 % l.d1 * l.d2 = omega arith in
    let right : l.d1 * (l.n2 % l.d2) ≡ l.n2 % l.d2 * l.d1 = omega arith in
    record {
      order = ap₂ nat_cmp left right ∙ of_rests ∙ l.invariant.order;
      positive_1 = omega (arith, c.if-rest2-eq0.false);
      positive_2 = omega (arith, c.if-rest1-eq0.false);
    }
