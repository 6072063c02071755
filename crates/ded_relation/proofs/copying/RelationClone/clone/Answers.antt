use Rattle.ded_relation.specs.Relations.{IsIndexOf}
use Rattle.ded_model.specs.declared.name.Column.{Column}
use Rattle.std.proofs.Common.{List, sym, subst}
use Rattle.ded_relation.proofs.Indexing.{index_copied}
use Rattle.ded_relation.proofs.copying.RelationClone.clone.Goals as goal

pub invariant_of-result : goal.invariant_of-result
invariant_of-result c =
    subst (λ (cs : List Column). IsIndexOf cs c.in_ok-copy-2.field-0 c.in_ok-copy_tuples.field-0.entries) (sym c.in_ok-copy.ensures)
    (index_copied c.self.inside.heading c.self.inside.index c.in_ok-copy-2.field-0 c.self.inside.tuples.entries c.in_ok-copy_tuples.field-0.entries c.in_ok-copy_tuples.ensures c.in_ok-copy-2.ensures c.self.invariant)
