use Rattle.std.proofs.Common.{sym, ap, ◌∙◌}
use Rattle.ded_algebra.specs.Given.{has_name}
use Rattle.ded_database.proofs.Under.{under_name}
use Rattle.ded_database.proofs.taking.take_one.Goals as goal

pub add-requires : goal.add-requires
add-requires c = record { new = ap (λ n. has_name n c.args.stale.now) (under_name c.args.name.now c.args.held.now c.in-Some.list (sym c.in-Some.ensures.taken)) ∙ c.requires.new }
