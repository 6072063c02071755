use Rattle.std.proofs.Common.{◌≡◌, List, sym, subst}
use Rattle.ded_model.specs.Constraint.{LinearConstraint}
use Rattle.ded_linear.specs.Prunings.{IsPruned}
use Rattle.ded_linear.proofs.Prunes.{pruned_none, pruned_then, part_normal}
use Rattle.ded_linear.proofs.pruning.pruned.Goals as goal

pub returns-then-len-lt-PRUNED_FROM-clause-part : goal.returns-then-len-lt-PRUNED_FROM-clause-part
returns-then-len-lt-PRUNED_FROM-clause-part c = let none = pruned_none c.args.rows.items in none.part

-- the first pass, from the rows that it is given to those that it leaves
passed : (rows given left : List LinearConstraint) (items : List LinearConstraint) → given ≡ rows → items ≡ left → IsPruned left given → IsPruned items rows
passed rows given left items e f s = subst (λ xs. IsPruned xs rows) (sym f) (subst (IsPruned left) e s)

pub needed-requires : goal.needed-requires
needed-requires c =
    let s = passed c.args.rows.items c.deref.result.now c.in_ok-fewer.fewer.items c.deref-2.result.now c.deref.ensures.value c.deref-2.ensures.value c.in_ok-fewer.ensures in
    record { normal = part_normal c.deref-2.result.now c.args.rows.items s.part c.requires.normal }

pub returns-clause-part : goal.returns-clause-part
returns-clause-part c =
    let s = passed c.args.rows.items c.deref.result.now c.in_ok-fewer.fewer.items c.deref-2.result.now c.deref.ensures.value c.deref-2.ensures.value c.in_ok-fewer.ensures in
    let all = pruned_then c.in_ok-kept.kept.rows.items c.deref-2.result.now c.args.rows.items c.in_ok-kept.ensures s in
    all.part
