use Rattle.std.proofs.Common.{rules, ◌≡◌, ◌∙◌, length, drop, ap, sym, subst}
use Rattle.std.proofs.lemmas.List.{take_at}
use Rattle.std.specs.List.Sorted.{IsPermutation}
use Rattle.std.proofs.lemmas.List.Sorted.{length_permutation}
use Rattle.ded_hull.specs.Trees.{IsTree, IsBalanced}
use Rattle.ded_hull.proofs.Halved.{balanced}
use Rattle.ded_hull.proofs.tree.Tree.build.Goals as goal

pub invariant_of-result : goal.invariant_of-result
invariant_of-result c =
    let es = c.args.entries.now in
    let new = c.build.new.entries in
    let ns = c.in_ok-nodes.nodes.items in
    let moved : IsPermutation es.items new = subst (λ xs. IsPermutation xs new) c.as_mut_slice.ensures.value c.build.ensures.entries in
    let count : es.len ≡ length es.items = search rules in
    let same : c.replace.result.items ≡ new = ap (λ v. v.items) c.replace.ensures.value ∙ take_at new (drop (length new) es.items) es.len (length_permutation es.items new moved ∙ sym count) in
    (subst (IsTree ns) (sym same) c.in_ok-nodes.ensures.tree, subst (IsBalanced ns) (sym same) (balanced c.as_mut_slice.result.now new ns c.build.ensures.entries c.in_ok-nodes.ensures.halved))
