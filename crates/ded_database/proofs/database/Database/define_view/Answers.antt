use Rattle.ded_model.specs.Catalogue.{view}
use Rattle.ded_model.specs.Form.{form}
use Rattle.ded_catalog.specs.State.{catalogue_of}
use Rattle.ded_database.proofs.Staying.{upheld_defined}
use Rattle.ded_database.proofs.database.Database.define_view.Goals as goal

pub invariant_of-self : goal.invariant_of-self
invariant_of-self c =
    upheld_defined (catalogue_of c.self.inside.catalogue) (catalogue_of c.define_view-defined.new.self) c.formed.ensures c.formed-2.ensures c.define_view-defined.result (view c.args.name c.args.heading (form c.args.formula)) c.self.inside.marks.items c.self.inside.held
    c.define_view-defined.ensures.ok c.define_view-defined.ensures.err c.self.invariant
