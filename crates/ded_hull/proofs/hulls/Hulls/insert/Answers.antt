use Rattle.std.proofs.Common.{arith, ◌≡◌, ◌∙◌, ◌+◌, ◌<◌, List, ◌∷◌, [], ◌++◌, length, length-append, ap, subst}
use Rattle.std.specs.List.Sorted.{IsPermutation}
use Rattle.std.proofs.lemmas.List.Sorted.{IsPermutation-trans, IsPermutation-cons}
use Rattle.ded_hull.specs.declared.entry.ReachEntry.{ReachEntry}
use Rattle.ded_hull.specs.Entries.{Hulls}
use Rattle.ded_hull.specs.Trees.{all_of}
use Rattle.ded_hull.proofs.Merged.{added_last}
use Rattle.ded_hull.proofs.hulls.Hulls.insert.Goals as goal

pub returns-clause-inserted : goal.returns-clause-inserted
returns-clause-inserted c =
    let e : ReachEntry = record { id = c.args.id; reach = c.args.reach } in
    let added = added_last (all_of c.settle.new.trees.items) c.settle.new.tail.items c.push.new.self.items e c.in_ok-push.ensures.items in
    subst (λ v. IsPermutation (e ∷ v) (all_of c.settle.new.trees.items ++ c.push.new.self.items)) (ap (λ (h : Hulls). h.entries) c.self.view_is) (IsPermutation-trans _ _ _ (IsPermutation-cons e _ _ c.settle.ensures.entries) added)

pub returns-clause-settled : goal.returns-clause-settled
returns-clause-settled c =
    let room : length c.settle.new.tail.items < 32 = c.in_ok-settle.ensures.room in
    let more : length c.push.new.self.items ≡ length c.settle.new.tail.items + 1 = ap (λ (es : List ReachEntry). length es) c.in_ok-push.ensures.items ∙ length-append c.settle.new.tail.items (record { id = c.args.id; reach = c.args.reach } ∷ []) in
    omega (arith, room, more)
