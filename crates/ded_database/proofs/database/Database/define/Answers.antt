use Rattle.std.proofs.Common.{[]}
use Rattle.ded_model.specs.Catalogue.{relation}
use Rattle.ded_catalog.specs.State.{catalogue_of}
use Rattle.ded_database.proofs.Staying.{upheld_defined}
use Rattle.ded_database.proofs.database.Database.define.Goals as goal

pub invariant_of-self : goal.invariant_of-self
invariant_of-self c =
    upheld_defined (catalogue_of c.self.inside.catalogue) (catalogue_of c.define-defined.new.self) c.formed.ensures c.formed-2.ensures c.define-defined.result (relation c.args.name c.args.heading 0 []) c.self.inside.marks.items c.self.inside.held
    c.define-defined.ensures.ok c.define-defined.ensures.err c.self.invariant
