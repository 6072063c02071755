use Rattle.std.proofs.Common.{◌∙◌, sym, ap, subst}
use Rattle.std.specs.List.{AllByRecursion}
use Rattle.ded_elimination.specs.LinearAtoms.{IsLinearAtom}
use Rattle.ded_weighing.specs.Columns.{lent}
use Rattle.ded_cert.proofs.Chosen.{chosen_linear}
use Rattle.ded_cert.proofs.choosing.hold_nowhere.Goals as goal

pub refute-requires : goal.refute-requires
refute-requires c = record {
  normal = subst (AllByRecursion IsLinearAtom) (sym (c.deref-2.ensures.value ∙ c.in_ok-copied.ensures ∙ ap lent c.deref.ensures.value ∙ c.in_ok-few.ensures)) (chosen_linear c.args.flags.now (lent c.args.rows.now) c.requires.normal);
}
