use Rattle.std.proofs.Common.{◌∷◌, ◌++◌, subst}
use Rattle.std.specs.List.Sorted.{IsPermutation}
use Rattle.std.proofs.lemmas.List.Sorted.{IsPermutation-trans, IsPermutation-append_left}
use Rattle.ded_index.specs.Entries.{Box}
use Rattle.ded_index.specs.Trees.{entries_of}
use Rattle.ded_index.proofs.index.BoxIndex.insert.Goals as goal

pub returns-clause-inserted : goal.returns-clause-inserted
returns-clause-inserted c =
    let all = IsPermutation-trans _ _ _ c.in_ok-add.ensures.added (IsPermutation-append_left c.add.new.apart.items _ _ c.arrange.ensures.entries) in
    subst (λ v. IsPermutation (record { id = c.args.id; bounds = c.args.bounds.now } ∷ v) (entries_of c.arrange.new.nodes.items ++ c.add.new.apart.items)) c.self.view_is
    (subst (λ (b : Box). IsPermutation (record { id = c.args.id; bounds = b } ∷ (entries_of c.self.inside.tree.items ++ c.self.inside.apart.items)) (entries_of c.arrange.new.nodes.items ++ c.add.new.apart.items)) c.in_ok-copy.ensures all)
