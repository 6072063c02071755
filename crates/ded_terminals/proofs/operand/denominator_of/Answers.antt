use Rattle.std.proofs.Common.{◌≡◌, ◌++◌, List, ℕ, Bool, true, false, sym, ap, ap₂, subst, ◌∙◌}
use Rattle.std.specs.Prelude.{◌^◌, if◌then◌else◌}
use Rattle.ded_terminals.specs.Literals.{Literal, are_long_over, capped_from}
use Rattle.ded_terminals.specs.Operands.{literals}
use Rattle.ded_terminals.specs.Views.{seen_side, AreSmall}
use Rattle.ded_terminals.proofs.Denominators.{capped_behind, small_mark, small_over}
use Rattle.ded_terminals.proofs.operand.denominator_of.Goals as goal

-- what is found over both lists of parts is found over both sides
over_is : (o k : ℕ) (fs ss ls rs : List Literal) → k ≡ capped_from 1 fs → o ≡ capped_from k ss → fs ≡ ls → ss ≡ rs → o ≡ capped_from 1 (ls ++ rs)
over_is o k fs ss ls rs first second f s =
    second ∙ ap (λ (m : ℕ). capped_from m ss) first ∙ sym (capped_behind 1 fs ss) ∙ ap₂ (λ (xs ys : List Literal). capped_from 1 (xs ++ ys)) f s

long_is : (o : ℕ) (fs ss ls rs : List Literal) (b : Bool) → o ≡ capped_from 1 (ls ++ rs) → fs ≡ ls → ss ≡ rs → are_long_over o (fs ++ ss) ≡ b → are_long_over (capped_from 1 (ls ++ rs)) (ls ++ rs) ≡ b
long_is o fs ss ls rs b e f s h = sym (ap₂ are_long_over e (ap₂ (λ (xs ys : List Literal). xs ++ ys) f s)) ∙ h

pub returns-then-are_long_over-clause-value : goal.returns-then-are_long_over-clause-value
returns-then-are_long_over-clause-value c =
    let over = over_is c.lcm_with-over.result c.lcm_with.result _ _ _ _ c.lcm_with.ensures.value c.lcm_with-over.ensures.value c.parts_of-first.ensures.literals c.parts_of-second.ensures.literals in
    let long = long_is c.lcm_with-over.result _ _ _ _ true over c.parts_of-first.ensures.literals c.parts_of-second.ensures.literals (sym c.are_long_over.ensures ∙ c.if-are_long_over.true) in
    sym (ap (λ (b : Bool). if b then 2 ^ 63 else capped_from 1 (literals (seen_side c.args.left.now) ++ literals (seen_side c.args.right.now))) long)

pub returns-then-are_long_over-clause-small : goal.returns-then-are_long_over-clause-small
returns-then-are_long_over-clause-small c = (small_mark (literals (seen_side c.args.left.now)), small_mark (literals (seen_side c.args.right.now)))

pub returns-else-are_long_over-clause-value : goal.returns-else-are_long_over-clause-value
returns-else-are_long_over-clause-value c =
    let over = over_is c.lcm_with-over.result c.lcm_with.result _ _ _ _ c.lcm_with.ensures.value c.lcm_with-over.ensures.value c.parts_of-first.ensures.literals c.parts_of-second.ensures.literals in
    let short = long_is c.lcm_with-over.result _ _ _ _ false over c.parts_of-first.ensures.literals c.parts_of-second.ensures.literals (sym c.are_long_over.ensures ∙ c.if-are_long_over.false) in
    over ∙ sym (ap (λ (b : Bool). if b then 2 ^ 63 else capped_from 1 (literals (seen_side c.args.left.now) ++ literals (seen_side c.args.right.now))) short)

pub returns-else-are_long_over-clause-small : goal.returns-else-are_long_over-clause-small
returns-else-are_long_over-clause-small c =
    let over = over_is c.lcm_with-over.result c.lcm_with.result _ _ _ _ c.lcm_with.ensures.value c.lcm_with-over.ensures.value c.parts_of-first.ensures.literals c.parts_of-second.ensures.literals in
    let short = long_is c.lcm_with-over.result _ _ _ _ false over c.parts_of-first.ensures.literals c.parts_of-second.ensures.literals (sym c.are_long_over.ensures ∙ c.if-are_long_over.false) in
    subst (λ (m : ℕ). AreSmall m (literals (seen_side c.args.left.now)) × AreSmall m (literals (seen_side c.args.right.now))) (sym over) (small_over _ (literals (seen_side c.args.left.now)) (literals (seen_side c.args.right.now)) short)
