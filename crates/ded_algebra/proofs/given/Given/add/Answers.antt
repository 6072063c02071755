use Rattle.std.proofs.Common.{ap, ◌∙◌}
use Rattle.std.specs.Result.{is_ok}
use Rattle.ded_algebra.specs.Given.{has_name}
use Rattle.ded_algebra.proofs.Names.{apart_after}
use Rattle.ded_algebra.proofs.given.Given.add.Goals as goal

pub invariant_of-self-2 : goal.invariant_of-self-2
invariant_of-self-2 c = apart_after c.self.inside.relations.items c.push.new.self.items c.args.relation (is_ok c.push.result) c.push.ensures.items (ap (has_name c.args.relation.name) c.self.view_is ∙ c.requires.new) c.self.invariant
