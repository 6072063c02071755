use Rattle.std.proofs.Common.{rules, SFits, ◌-◌, ◌≡◌, ◌+◌, ◌++◌, ◌∷◌, [], ◌∙◌, arith, subst, sym}
use Rattle.std.specs.Int.{w128}
use Rattle.std.proofs.lemmas.Int.{to_z-of_z}
use Rattle.std.specs.List.{AllByRecursion}
use Rattle.ded_num.specs.Length.{IsShort}
use Rattle.ded_num.proofs.Tests.{all_more}
use Rattle.ded_cert.specs.Tracing.{multipliers}
use Rattle.ded_cert.proofs.Multiplied.{multipliers_next}
use Rattle.ded_cert.proofs.refuting.multipliers_of.Goals as goal
use Rattle.ded_cert.proofs.refuting.multipliers_of.Goals.{In_ok-push}

items : (c : In_ok-push) → c.push.new.self.items ≡ c.loop.list.items ++ c.difference.result ∷ []
items c =
    let d : SFits w128 c.difference.result = search rules in
    simp to_z-of_z at c.in_ok-push.ensures.items

pub loop-preserved : goal.loop-preserved
loop-preserved c = record {
  number = omega (arith, c.loop.invariant.number);
  same = subst (λ xs. xs ++ multipliers c.args.row.now (c.loop.number + 2) (c.args.count - (c.loop.counter + 1)) ≡ multipliers c.args.row.now c.args.first_tag c.args.count) (sym (items c))
      (multipliers_next c.args.row.now c.loop.number c.args.count c.loop.counter c.loop.list.items c.difference.result (search rules) c.difference.ensures.value ∙ c.loop.invariant.same);
  short = subst (AllByRecursion IsShort) (sym (items c)) (all_more IsShort c.loop.list.items c.difference.result c.loop.invariant.short c.difference.ensures.short);
}

pub invariant_of-result : goal.invariant_of-result
invariant_of-result c = c.loop.invariant.short
